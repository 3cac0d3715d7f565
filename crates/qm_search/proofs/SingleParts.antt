-- Parts of one value each cover their range.
use Rattle.std.proofs.Common.{◌≡◌, List, [], ◌∷◌, ◌++◌, map, arith, sym, ap, subst, ◌∙◌, ℤ, pos, ◌+ℤ◌, ◌≤ℤ◌, ◌<ℤ◌, refl}
use Rattle.std.proofs.lemmas.Int.{ints}
use Rattle.std.proofs.lemmas.List.{map-append}
use Rattle.qm_model.specs.declared.range.Range.{Range}
use Rattle.qm_model.specs.Boxes.{Cover, FollowOn}
use Rattle.qm_model.specs.Ranges.{single}
use Rattle.qm_search.specs.PartSteps.{AreSingles, IsPast}

singles_push : (low next : ℤ) (rs : List Range) → AreSingles low next rs → AreSingles low (next +ℤ pos 1) (rs ++ single next ∷ [])
singles_push low next [] e = (ap single (sym e), ap (λ n. n +ℤ pos 1) e)
singles_push low next (r ∷ rs) h = (h.0, singles_push (low +ℤ pos 1) next rs h.1)

-- one part more
pub push_singles : {A : Type 0} (range_of : A → Range) (low next : ℤ) (parts : List A) (part : A) → range_of part ≡ single next → AreSingles low next (map range_of parts)
    → AreSingles low (next +ℤ pos 1) (map range_of (parts ++ part ∷ []))
push_singles range_of low next parts part e h =
    subst (AreSingles low (next +ℤ pos 1)) (sym (map-append range_of parts (part ∷ []) ∙ ap (λ r. map range_of parts ++ r ∷ []) e)) (singles_push low next (map range_of parts) h)

-- parts that go on behind others
pub append_singles : {A : Type 0} (range_of : A → Range) (low middle next : ℤ) (parts others : List A) → AreSingles low middle (map range_of parts) → AreSingles middle next (map range_of others)
    → AreSingles low next (map range_of (parts ++ others))
append_singles range_of low middle next [] others e h = subst (λ n. AreSingles n next (map range_of others)) (sym e) h
append_singles range_of low middle next (part ∷ parts) others g h = (g.0, append_singles range_of (low +ℤ pos 1) middle next parts others g.1 h)

singles_follow : (low high : ℤ) (rs : List Range) → AreSingles low (high +ℤ pos 1) rs → FollowOn low high rs
singles_follow low high [] e = e
singles_follow low high (r ∷ rs) h =
    let rest : FollowOn (low +ℤ pos 1) high rs = singles_follow (low +ℤ pos 1) high rs h.1 in
    subst (λ (s : Range). (s.low ≡ low) × (low ≤ℤ s.high) × FollowOn (s.high +ℤ pos 1) high rs) (sym h.0) (refl, omega (arith, ints), rest)

pub singles_below : (low next : ℤ) (rs : List Range) → AreSingles low next rs → low ≤ℤ next
singles_below low next [] e = omega (arith, ints, e)
singles_below low next (r ∷ rs) h = omega (arith, ints, singles_below (low +ℤ pos 1) next rs h.1)

pub singles_cover : (covered : Range) (next : ℤ) (rs : List Range) → AreSingles covered.low next rs → IsPast covered next → Cover covered rs
singles_cover covered next [] e past = omega (arith, ints, e, past.above)
singles_cover covered next (r ∷ rs) h past =
    let some : covered.low <ℤ next = omega (arith, ints, singles_below (covered.low +ℤ pos 1) next rs h.1) in
    let last : next ≡ covered.high +ℤ pos 1 = omega (arith, ints, past.above, past.near some) in
    singles_follow covered.low covered.high (r ∷ rs) (subst (λ n. AreSingles covered.low n (r ∷ rs)) last h)
