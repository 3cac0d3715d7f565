-- What is expected within bounds.
use Rattle.std.proofs.Common.{◌≡◌, ◌||◌, ℕ, Bool, false, true, List, [], ◌∷◌, Some, None, inl, inr, refl, sym, subst}
use Rattle.qm_math.specs.Fraction.{Fraction}
use Rattle.qm_lex.specs.declared.place.Place.{Place}
use Rattle.qm_parse.specs.declared.ast.AstBound.{AstBound}
use Rattle.qm_parse.specs.declared.ast.Relation.TheVariants.{Less}
use Rattle.qm_parse.specs.declared.fault.What.{What}
use Rattle.qm_parse.specs.declared.fault.What.TheVariants as what
use Rattle.qm_parse.specs.declared.stage.Seen.{Seen}
use Rattle.qm_parse.specs.declared.stage.Stage.TheVariants as stage
use Rattle.qm_parse.specs.declared.word.Symbol.{Symbol}
use Rattle.qm_parse.specs.declared.word.Word.{Word}
use Rattle.qm_parse.specs.declared.word.Word.TheVariants.{Name, Number, Sign, Related, Keyword as Reserved, Infinite, Free}
use Rattle.qm_parse.specs.Drafts.{signed_by, turned}
use Rattle.qm_parse.specs.Parts.{◌then◌, BoundBody, BoundEnds, Either, NameAt, Part, Says, Value, ValueFirst, is_odd}
use Rattle.qm_parse.specs.Reading.{leaves}
use Rattle.qm_parse.specs.Stages.{bound_begun, may_end, may_share_line, moved, step}
use Rattle.qm_parse.specs.Wants.{Any, AnySigns, BoundWants}
use Rattle.qm_parse.proofs.WrittenSteps.{state, symbol}
use Rattle.qm_parse.proofs.WrittenValues.{turned_twice}
use Rattle.qm_parse.proofs.WantedFronts.{BoundEndFront, BoundNameFront, BoundNamedFront, BoundRelationFront, BoundSignedFront, BoundTurnedFront, BoundValueFront, BoundsFront, FrontOf, If}
use Rattle.qm_parse.proofs.WantedSections.{followed_front}

-- ---- values

signed_value : (minus : Bool) (symbols between rest : List Symbol) → Says (Sign minus) symbols between → Any Value between rest → Any Value symbols rest
signed_value minus symbols between rest first (Some value, (signs, (c, each, (q, equal, number)))) =
    (Some (signed_by (is_odd (minus ∷ signs)) q), (minus ∷ signs, (c, (between, first, each), (q, refl, number))))
signed_value minus symbols between rest first (None, (signs, (c, each, infinite))) = (None, (minus ∷ signs, (c, (between, first, each), infinite)))

number_value : (value : Fraction) (at : Place) (line : Bool) (symbols : List Symbol) → Any Value (symbol (Number (Some value)) at line ∷ symbols) symbols
number_value value at line symbols =
    (Some (signed_by false value), ([], (symbol (Number (Some value)) at line ∷ symbols, refl, (value, refl, (refl, refl)))))

infinite_value : (at : Place) (line : Bool) (symbols : List Symbol) → Any Value (symbol Infinite at line ∷ symbols) symbols
infinite_value at line symbols = (None, ([], (symbol Infinite at line ∷ symbols, refl, (refl, refl))))

-- a value that has begun, and what stands behind it
abbrev ValuedFront : What → Part → Part
ValuedFront e Next = Either (If (e ≡ what.Number) AnySigns) (Any Value then Next)

signed_valued : (e : What) (Next : Part) (minus : Bool) (symbols between rest : List Symbol) → Says (Sign minus) symbols between → ValuedFront e Next between rest → ValuedFront e Next symbols rest
signed_valued e Next minus symbols between rest first (inl (is, (signs, each))) = inl (is, (minus ∷ signs, (between, first, each)))
signed_valued e Next minus symbols between rest first (inr (b, value, behind)) = inr (b, signed_value minus symbols between b first value, behind)

-- ---- step by step

-- behind a relation
pub related : (word : Word) (at : Place) (line : Bool) (seen : Seen) (e : What) (symbols rest : List Symbol) → leaves word ≡ false
    → FrontOf (moved (state stage.BoundRelation seen) word (step stage.BoundRelation word)) e symbols rest → BoundRelationFront e (symbol word at line ∷ symbols) rest
unfolding moved step may_end leaves
related (Sign minus) at line seen e symbols rest stays p = signed_valued e (BoundEndFront e) minus (symbol (Sign minus) at line ∷ symbols) symbols rest (refl, refl) p
related (Number (Some value)) at line seen e symbols rest stays p = inr (symbols, number_value value at line symbols, p)
related (Number None) at line seen e symbols rest stays p = absurd cc
related Infinite at line seen e symbols rest stays p = inr (symbols, infinite_value at line symbols, p)
related word at line seen e symbols rest stays p = absurd p

-- behind signs that begin a bound
pub behind_signs : (word : Word) (at : Place) (line : Bool) (seen : Seen) (e : What) (symbols rest : List Symbol) → leaves word ≡ false
    → FrontOf (moved (state stage.BoundSigned seen) word (step stage.BoundSigned word)) e symbols rest → BoundSignedFront e (symbol word at line ∷ symbols) rest
unfolding moved step may_end leaves
behind_signs (Sign minus) at line seen e symbols rest stays p = signed_valued e (BoundValueFront e) minus (symbol (Sign minus) at line ∷ symbols) symbols rest (refl, refl) p
behind_signs (Number (Some value)) at line seen e symbols rest stays p = inr (symbols, number_value value at line symbols, p)
behind_signs (Number None) at line seen e symbols rest stays p = absurd cc
behind_signs Infinite at line seen e symbols rest stays p = inr (symbols, infinite_value at line symbols, p)
behind_signs word at line seen e symbols rest stays p = absurd p

-- behind a value that begins a bound
pub behind_value : (word : Word) (at : Place) (line : Bool) (seen : Seen) (e : What) (symbols rest : List Symbol)
    → FrontOf (moved (state stage.BoundValue seen) word (step stage.BoundValue word)) e symbols rest → BoundValueFront e (symbol word at line ∷ symbols) rest
unfolding moved step may_end
behind_value (Related relation) at line seen e symbols rest p = inr (symbols, (relation, (refl, refl)), p)
behind_value word at line seen e symbols rest p = absurd p

pub behind_turned : (word : Word) (at : Place) (line : Bool) (seen : Seen) (e : What) (symbols rest : List Symbol)
    → FrontOf (moved (state stage.BoundTurned seen) word (step stage.BoundTurned word)) e symbols rest → BoundTurnedFront e (symbol word at line ∷ symbols) rest
unfolding moved step may_end
behind_turned (Name n labels) at line seen e symbols rest p = inr (symbols, (n, at, ((labels, refl), refl, refl)), p)
behind_turned word at line seen e symbols rest p = absurd p

-- behind a name that begins a bound
pub behind_name : (word : Word) (at : Place) (line : Bool) (seen : Seen) (e : What) (symbols rest : List Symbol)
    → FrontOf (moved (state stage.BoundName seen) word (step stage.BoundName word)) e symbols rest → BoundNameFront e (symbol word at line ∷ symbols) rest
unfolding moved step may_end
behind_name (Related relation) at line seen e symbols rest p = inr (inr (symbols, (relation, (refl, refl)), p))
behind_name Free at line seen e symbols rest p = inr (inl (symbols, (refl, refl), p))
behind_name word at line seen e symbols rest p = absurd p

-- ---- a bound, from where it begins

no_bounds : (e : What) (symbols rest : List Symbol) → BoundWants e symbols rest → BoundsFront e symbols rest
no_bounds e symbols rest wants = (symbols, ([], refl), inl wants)

bound_ended : (e : What) (bounds : List AstBound) (symbols between rest : List Symbol) → BoundBody bounds symbols between → BoundEndFront e between rest → BoundsFront e symbols rest
bound_ended e bounds symbols between rest body (inl (is, unless)) =
    no_bounds e symbols rest (subst (λ w. BoundWants w symbols rest) (sym is) (between, (bounds, body), unless))
bound_ended e bounds symbols between rest body (inr (c, ends, (d, (others, written), more))) =
    (d, (bounds ∷ others, (c, (between, body, ends), written)), more)

-- a name, and what stands behind it
name_opened : (e : What) (n : ℕ) (at : Place) (symbols between rest : List Symbol) → NameAt n at symbols between → BoundNameFront e between rest → BoundsFront e symbols rest
name_opened e n at symbols between rest name (inl (is, nothing)) =
    no_bounds e symbols rest (subst (λ w. BoundWants w symbols rest) (sym is) (inl (n, at, subst (λ xs. NameAt n at symbols xs) nothing name)))
name_opened e n at symbols between rest name (inr (inl (b, free, ended))) =
    let bound : AstBound = record { name = n; relation = Less; value = None; at = at } in
    bound_ended e (bound ∷ []) symbols b rest (inl (bound, refl, inr (inl (refl, refl, (between, name, free))))) ended
name_opened e n at symbols between rest name (inr (inr (b, (relation, says), inl (is, signs)))) =
    no_bounds e symbols rest (subst (λ w. BoundWants w symbols rest) (sym is) (inr (inl (between, (n, at, name), (b, (relation, says), signs)))))
name_opened e n at symbols between rest name (inr (inr (b, (relation, says), inr (c, (value, written), ended)))) =
    let bound : AstBound = record { name = n; relation = relation; value = value; at = at } in
    bound_ended e (bound ∷ []) symbols c rest (inl (bound, refl, inl (between, name, (b, says, written)))) ended

-- a value, a relation and a name, and what stands behind them
turned_opened : (e : What) (bound : AstBound) (symbols between rest : List Symbol) → ValueFirst bound symbols between → BoundNamedFront e between rest → BoundsFront e symbols rest
turned_opened e bound symbols between rest first (inl ended) = bound_ended e (bound ∷ []) symbols between rest (inl (bound, refl, inr (inr first))) ended
turned_opened e bound symbols between rest first (inr (f, (relation, says), inl (is, signs))) =
    no_bounds e symbols rest (subst (λ w. BoundWants w symbols rest) (sym is) (inr (inr (between, (bound, first), (f, (relation, says), signs)))))
turned_opened e bound symbols between rest first (inr (f, (relation, says), inr (g, (value, written), ended))) =
    let further : AstBound = record { name = bound.name; relation = relation; value = value; at = bound.at } in
    bound_ended e (bound ∷ further ∷ []) symbols g rest (inr (bound, further, refl, (between, first, (refl, refl, (f, says, written))))) ended

-- a value, and what stands behind it
value_opened : (e : What) (symbols between rest : List Symbol) → Any Value symbols between → BoundValueFront e between rest → BoundsFront e symbols rest
value_opened e symbols between rest (value, written) (inl (is, nothing)) =
    no_bounds e symbols rest (subst (λ w. BoundWants w symbols rest) (sym is) (inr (value, subst (λ xs. Value value symbols xs) nothing written)))
value_opened e symbols between rest (value, written) (inr (c, (relation, says), inl (is, nothing))) =
    no_bounds e symbols rest
    (subst (λ w. BoundWants w symbols rest) (sym is) (between, (value, written), (relation, subst (λ xs. Says (Related relation) between xs) nothing says)))
value_opened e symbols between rest (value, written) (inr (c, (relation, says), inr (d, (n, at, name), named))) =
    let bound : AstBound = record { name = n; relation = turned relation; value = value; at = at } in
    turned_opened e bound symbols d rest (between, written, (c, subst (λ r. Says (Related r) between c) (turned_twice relation) says, name)) named

signs_opened : (e : What) (minus : Bool) (symbols between rest : List Symbol) → Says (Sign minus) symbols between → BoundSignedFront e between rest → BoundsFront e symbols rest
signs_opened e minus symbols between rest first (inl (is, signs)) =
    no_bounds e symbols rest (subst (λ w. BoundWants w symbols rest) (sym is) (inl (between, (minus, first), signs)))
signs_opened e minus symbols between rest first (inr (b, value, behind)) = value_opened e symbols b rest (signed_value minus symbols between b first value) behind

-- a bound, or what follows bounds
pub begun : (word : Word) (at : Place) (line : Bool) (seen : Seen) (e : What) (symbols rest : List Symbol) → leaves word ≡ false
    → FrontOf (moved (state stage.BoundsBegin seen) word (step stage.BoundsBegin word)) e symbols rest → BoundsFront e (symbol word at line ∷ symbols) rest
unfolding moved step bound_begun may_end leaves
begun (Name n labels) at line seen e symbols rest stays p = name_opened e n at (symbol (Name n labels) at line ∷ symbols) symbols rest ((labels, refl), refl, refl) p
begun (Sign minus) at line seen e symbols rest stays p = signs_opened e minus (symbol (Sign minus) at line ∷ symbols) symbols rest (refl, refl) p
begun (Number (Some value)) at line seen e symbols rest stays p = value_opened e (symbol (Number (Some value)) at line ∷ symbols) symbols rest (number_value value at line symbols) p
begun (Number None) at line seen e symbols rest stays p = absurd cc
begun Infinite at line seen e symbols rest stays p = value_opened e (symbol Infinite at line ∷ symbols) symbols rest (infinite_value at line symbols) p
begun word at line seen e symbols rest stays p = (symbol word at line ∷ symbols, ([], refl), inr (followed_front word at line seen e symbols rest p))

end_step : (word : Word) (seen : Seen) (e : What) (symbols rest : List Symbol) → FrontOf (moved (state stage.BoundEnd seen) word (step stage.BoundEnd word)) e symbols rest
    → FrontOf (moved (state stage.BoundsBegin seen) word (step stage.BoundsBegin word)) e symbols rest
unfolding moved step bound_begun may_end
end_step (Name n labels) seen e symbols rest p = p
end_step word seen e symbols rest p = p

pub bound_ends : (word : Word) (at : Place) (line : Bool) (symbols : List Symbol) → (line || may_share_line stage.BoundEnd word) ≡ true → BoundEnds (symbol word at line ∷ symbols) (symbol word at line ∷ symbols)
unfolding may_share_line
bound_ends word at true symbols fits = (inl refl, refl)
bound_ends (Reserved k) at false symbols fits = (inr (k, refl), refl)
bound_ends word at false symbols fits = absurd cc

-- behind a bound
pub behind_bound : (word : Word) (at : Place) (line : Bool) (seen : Seen) (e : What) (symbols rest : List Symbol) → leaves word ≡ false → (line || may_share_line stage.BoundEnd word) ≡ true
    → FrontOf (moved (state stage.BoundEnd seen) word (step stage.BoundEnd word)) e symbols rest → BoundEndFront e (symbol word at line ∷ symbols) rest
behind_bound word at line seen e symbols rest stays fits p =
    inr (symbol word at line ∷ symbols, bound_ends word at line symbols fits, begun word at line seen e symbols rest stays (end_step word seen e symbols rest p))

-- behind a bound that may have a second relation
pub behind_named : (word : Word) (at : Place) (line : Bool) (seen : Seen) (e : What) (symbols rest : List Symbol) → leaves word ≡ false → (line || may_share_line stage.BoundNamed word) ≡ true
    → FrontOf (moved (state stage.BoundNamed seen) word (step stage.BoundNamed word)) e symbols rest → BoundNamedFront e (symbol word at line ∷ symbols) rest
unfolding moved step bound_begun may_end may_share_line
behind_named (Related relation) at line seen e symbols rest stays fits p = inr (symbols, (relation, (refl, refl)), p)
behind_named word at line seen e symbols rest stays fits p = inl (behind_bound word at line seen e symbols rest stays fits p)
