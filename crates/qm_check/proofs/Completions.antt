-- Values for the universal ones of some variables, one after the other.
use Rattle.std.proofs.Common.{◌≡◌, ℕ, ◌+◌, ◌<◌, ◌≤◌, Bool, true, false, List, [], ◌∷◌, ◌++◌, length, drop, get_or, filter, refl, sym, ap, ◌∙◌, arith, ℤ, pos}
use Rattle.std.specs.Prelude.{◌&&◌, ◌==◌, int_le}
use Rattle.std.proofs.lemmas.List.{append_assoc, append-nil, drop_all, drop_more, drop-drop}
use Rattle.qm_model.specs.declared.range.Range.{Range}
use Rattle.qm_model.specs.declared.variable.Var.{Var}
use Rattle.qm_model.specs.Legal.{begin_within}
use Rattle.qm_model.specs.Plays.{is_universal, spread}
use Rattle.qm_model.specs.Ranges.{is_in, range_at, single}
use Rattle.qm_model.proofs.UncertaintyRows.{spread-here, spread-other}
use Rattle.qm_trees.specs.Picks.{fit, fixed}
use Rattle.qm_check.specs.Completing.{begin_universal}

pub none_left : (us : List ℤ) → length us ≡ 0 → us ≡ []
none_left [] e = refl
none_left (u ∷ us) e = absurd (omega (arith, e))

-- ---- values that fit

fit_existential : (x : Var) (xs : List Var) (r : Range) (bx : List Range) (us : List ℤ) → is_universal x ≡ false → fit (x ∷ xs) (r ∷ bx) us ≡ fit xs bx us
fit_existential x xs r bx [] e = rw e refl
fit_existential x xs r bx (u ∷ us) e = rw e refl

module _ (xs : List Var) (bx : List Range) (i : ℕ) (x : Var) (h : i < length xs) (k : i < length bx) (is : x ≡ get_or xs i x) where
  opened : (us : List ℤ) → fit (drop i xs) (drop i bx) us ≡ fit (x ∷ drop (i + 1) xs) (range_at bx i ∷ drop (i + 1) bx) us
  opened us =
      ap (λ ys. fit ys (drop i bx) us) (drop_more xs i x h ∙ ap (λ y. y ∷ drop (i + 1) xs) (sym is))
      ∙ ap (λ rs. fit (x ∷ drop (i + 1) xs) rs us) (drop_more bx i (single (pos 0)) k)

  pub fit_skips : (us : List ℤ) → is_universal x ≡ false → fit (drop i xs) (drop i bx) us ≡ fit (drop (i + 1) xs) (drop (i + 1) bx) us
  fit_skips us e = opened us ∙ fit_existential x (drop (i + 1) xs) (range_at bx i) (drop (i + 1) bx) us e

  pub fit_takes : (us others : List ℤ) (u : ℤ) → is_universal x ≡ true → us ≡ u ∷ others → is_in (range_at bx i) u ≡ true
      → fit (drop i xs) (drop i bx) us ≡ fit (drop (i + 1) xs) (drop (i + 1) bx) others
  fit_takes us others u e more within = opened us ∙ rw (more, e, within) refl

  pub fit_refuses : (us others : List ℤ) (u : ℤ) → is_universal x ≡ true → us ≡ u ∷ others → is_in (range_at bx i) u ≡ false → fit (drop i xs) (drop i bx) us ≡ false
  fit_refuses us others u e more outside = opened us ∙ rw (more, e, outside) refl

  pub fit_lacks : (us : List ℤ) → is_universal x ≡ true → us ≡ [] → fit (drop i xs) (drop i bx) us ≡ false
  fit_lacks us e none = opened us ∙ rw (none, e) refl

-- ---- ranges that are fixed

fixed_none : (xs : List Var) (bx : List Range) → fixed xs bx [] ≡ bx
fixed_none [] bx = refl
fixed_none (x ∷ xs) [] = refl
fixed_none (x ∷ xs) (r ∷ bx) = refl

fixed_stays : (ys : List Var) (r : Range) (bx : List Range) (us : List ℤ) → begin_universal ys ≡ false → fixed ys (r ∷ bx) us ≡ r ∷ fixed (drop 1 ys) bx us
fixed_stays [] r bx us e = refl
fixed_stays (y ∷ ys) r bx [] e = ap (λ rs. r ∷ rs) (sym (fixed_none ys bx))
fixed_stays (y ∷ ys) r bx (u ∷ us) e = rw e refl

fixed_lacks : (ys : List Var) (r : Range) (bx : List Range) → fixed ys (r ∷ bx) [] ≡ r ∷ fixed (drop 1 ys) bx []
fixed_lacks ys r bx = fixed_none ys (r ∷ bx) ∙ ap (λ rs. r ∷ rs) (sym (fixed_none (drop 1 ys) bx))

fixed_takes : (ys : List Var) (r : Range) (bx : List Range) (u : ℤ) (us : List ℤ) → begin_universal ys ≡ true → fixed ys (r ∷ bx) (u ∷ us) ≡ single u ∷ fixed (drop 1 ys) bx us
fixed_takes [] r bx u us e = cc
fixed_takes (y ∷ ys) r bx u us e = rw e refl

-- no ranges are left
pub fixed_ends : (ys : List Var) (bx : List Range) (i : ℕ) (us : List ℤ) (acc : List Range) → length bx ≤ i → acc ++ fixed ys (drop i bx) us ≡ acc
fixed_ends ys bx i us acc h = ap (λ rs. acc ++ fixed ys rs us) (drop_all i bx h) ∙ ap (λ rs. acc ++ rs) (none ys) ∙ append-nil acc
  where
    none : (zs : List Var) → fixed zs [] us ≡ []
    none [] = refl
    none (z ∷ zs) = refl

module _ (xs : List Var) (bx acc pushed : List Range) (i : ℕ) (d : Range) (k : i < length bx) (us : List ℤ) where
  abbrev r : Range
  r = get_or bx i d

  behind_one : drop (i + 1) xs ≡ drop 1 (drop i xs)
  behind_one = ap (λ n. drop n xs) (omega arith) ∙ sym (drop-drop 1 i xs)

  begun : fixed (drop i xs) (drop i bx) us ≡ fixed (drop i xs) (r ∷ drop (i + 1) bx) us
  begun = ap (λ rs. fixed (drop i xs) rs us) (drop_more bx i d k)

  pushed_on : (s : Range) (vs : List ℤ) → pushed ≡ acc ++ s ∷ [] → fixed (drop i xs) (r ∷ drop (i + 1) bx) us ≡ s ∷ fixed (drop 1 (drop i xs)) (drop (i + 1) bx) vs
      → pushed ++ fixed (drop (i + 1) xs) (drop (i + 1) bx) vs ≡ acc ++ fixed (drop i xs) (drop i bx) us
  pushed_on s vs p e =
      ap (λ ys. pushed ++ fixed ys (drop (i + 1) bx) vs) behind_one
      ∙ ap (λ ps. ps ++ fixed (drop 1 (drop i xs)) (drop (i + 1) bx) vs) p
      ∙ append_assoc acc (s ∷ []) (fixed (drop 1 (drop i xs)) (drop (i + 1) bx) vs)
      ∙ ap (λ rs. acc ++ rs) (sym (begun ∙ e))

  pub fixed_on_stays : begin_universal (drop i xs) ≡ false → pushed ≡ acc ++ r ∷ [] → pushed ++ fixed (drop (i + 1) xs) (drop (i + 1) bx) us ≡ acc ++ fixed (drop i xs) (drop i bx) us
  fixed_on_stays e p = pushed_on r us p (fixed_stays (drop i xs) r (drop (i + 1) bx) us e)

  pub fixed_on_lacks : us ≡ [] → pushed ≡ acc ++ r ∷ [] → pushed ++ fixed (drop (i + 1) xs) (drop (i + 1) bx) us ≡ acc ++ fixed (drop i xs) (drop i bx) us
  fixed_on_lacks none p = pushed_on r us p (rw none (fixed_lacks (drop i xs) r (drop (i + 1) bx)))

  pub fixed_on_takes : (u : ℤ) (others : List ℤ) → us ≡ u ∷ others → begin_universal (drop i xs) ≡ true → pushed ≡ acc ++ single u ∷ []
      → pushed ++ fixed (drop (i + 1) xs) (drop (i + 1) bx) others ≡ acc ++ fixed (drop i xs) (drop i bx) us
  fixed_on_takes u others more e p = pushed_on (single u) others p (rw more (fixed_takes (drop i xs) r (drop (i + 1) bx) u others e))

-- ---- universal plays

module _ (xs : List Var) (i : ℕ) (x : Var) (h : i < length xs) (is : x ≡ get_or xs i x) where
  next_var : drop i xs ≡ x ∷ drop (i + 1) xs
  next_var = drop_more xs i x h ∙ ap (λ y. y ∷ drop (i + 1) xs) (sym is)

  begin : (us : List ℤ) → begin_within (filter is_universal (drop i xs)) us ≡ begin_within (filter is_universal (x ∷ drop (i + 1) xs)) us
  begin us = ap (λ ys. begin_within (filter is_universal ys) us) next_var

  pub begin_skips : (us : List ℤ) → is_universal x ≡ false → begin_within (filter is_universal (drop i xs)) us ≡ begin_within (filter is_universal (drop (i + 1) xs)) us
  begin_skips us e = begin us ∙ rw e refl

  pub begin_takes : (us others : List ℤ) (u : ℤ) → is_universal x ≡ true → us ≡ u ∷ others → (int_le x.low u && int_le u x.high) ≡ true
      → begin_within (filter is_universal (drop i xs)) us ≡ begin_within (filter is_universal (drop (i + 1) xs)) others
  begin_takes us others u e more within = begin us ∙ rw (more, e) (both (int_le x.low u) (int_le u x.high) (begin_within (filter is_universal (drop (i + 1) xs)) others) within)
    where
      both : (a b c : Bool) → (a && b) ≡ true → (a && b && c) ≡ c
      both true true c w = refl
      both true false c w = cc
      both false b c w = cc

  pub begin_refuses : (us others : List ℤ) (u : ℤ) → is_universal x ≡ true → us ≡ u ∷ others → (int_le x.low u && int_le u x.high) ≡ false
      → begin_within (filter is_universal (drop i xs)) us ≡ false
  begin_refuses us others u e more outside = begin us ∙ rw (more, e) (both (int_le x.low u) (int_le u x.high) (begin_within (filter is_universal (drop (i + 1) xs)) others) outside)
    where
      both : (a b c : Bool) → (a && b) ≡ false → (a && b && c) ≡ false
      both true true c w = cc
      both true false c w = refl
      both false b c w = refl

  pub begin_ends : (us : List ℤ) → us ≡ [] → begin_within (filter is_universal (drop i xs)) us ≡ true
  begin_ends us none = rw none refl

  module _ (acc pushed us : List ℤ) where
    spread_on : (v : ℤ) (vs : List ℤ) → pushed ≡ acc ++ v ∷ [] → spread (x ∷ drop (i + 1) xs) us ≡ v ∷ spread (drop (i + 1) xs) vs
        → pushed ++ spread (drop (i + 1) xs) vs ≡ acc ++ spread (drop i xs) us
    spread_on v vs p e =
        ap (λ ps. ps ++ spread (drop (i + 1) xs) vs) p ∙ append_assoc acc (v ∷ []) (spread (drop (i + 1) xs) vs)
        ∙ ap (λ rs. acc ++ rs) (sym (ap (λ ys. spread ys us) next_var ∙ e))

    pub spread_stays : is_universal x ≡ false → pushed ≡ acc ++ pos 0 ∷ [] → pushed ++ spread (drop (i + 1) xs) us ≡ acc ++ spread (drop i xs) us
    spread_stays e p = spread_on (pos 0) us p (spread-other x (drop (i + 1) xs) us e)

    pub spread_lacks : us ≡ [] → pushed ≡ acc ++ pos 0 ∷ [] → pushed ++ spread (drop (i + 1) xs) us ≡ acc ++ spread (drop i xs) us
    spread_lacks none p = spread_on (pos 0) us p (rw none refl)

    pub spread_takes : (u : ℤ) (others : List ℤ) → is_universal x ≡ true → us ≡ u ∷ others → pushed ≡ acc ++ u ∷ [] → pushed ++ spread (drop (i + 1) xs) others ≡ acc ++ spread (drop i xs) us
    spread_takes u others e more p = spread_on u others p (rw more (spread-here x (drop (i + 1) xs) u others e))

-- once all variables are passed, the values are within bounds where none is left
pub begin_all : (xs : List Var) (i : ℕ) (us : List ℤ) → length xs ≤ i → (length us == 0) ≡ begin_within (filter is_universal (drop i xs)) us
begin_all xs i us h = none us ∙ sym (ap (λ ys. begin_within (filter is_universal ys) us) (drop_all i xs h))
  where
    none : (vs : List ℤ) → (length vs == 0) ≡ begin_within [] vs
    none [] = refl
    none (v ∷ vs) = grind arith
