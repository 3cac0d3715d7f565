-- What may come next in a certificate, and what follows a line.
use Rattle.std.specs.Prelude.{ℕ, zero, suc, ◌+◌, List, [], ◌∷◌, codes}
use Rattle.qm_certfile.specs.Lines.{Line}
use Rattle.qm_certfile.specs.Styles.{Style}
use Rattle.qm_certfile.specs.CertificateLines.{alone, version_line}
use Rattle.qm_certread.specs.Nodes.{Node, Fixed, Infeasible, NoPlay, Optimal, Choose, Answer, Split, Over, Pick, Part}

pub data Due : Type 0 where
  -- the first line, which says how the game ends
  Claimed : Due
  -- the values of a universal play
  Played : Due
  -- this line
  Said : Line → Due
  -- a policy where so many variables are set
  Policy : ℕ → Due
  -- the same, or `illegal` and an empty tree
  Below : ℕ → Due
  -- an empty tree that may split the variables from this position on
  Empty : ℕ → Due
  -- a refutation where so many variables are set
  Refute : ℕ → Due
  -- a range and so many more, each with this under it
  Ranges : ℕ → Due → Due

-- so many ranges, each with this under it
abbrev pub ranges : ℕ → Due → List Due
ranges zero due = []
ranges (suc n) due = Ranges n due ∷ []

abbrev pub empty_line : Line
empty_line = alone (codes "empty")

abbrev pub infeasible_line : Line
infeasible_line = alone (codes "infeasible")

abbrev pub policy_line : Line
policy_line = alone (codes "policy")

abbrev pub refute_line : Line
refute_line = alone (codes "refute")

abbrev pub illegal_line : Line
illegal_line = alone (codes "illegal")

abbrev pub end_line : Line
end_line = alone (codes "end")

-- a refutation of the whole game, and the end
abbrev pub refuted : List Due
refuted = Said refute_line ∷ Refute 0 ∷ Said end_line ∷ []

-- what follows a line that says this at its place; nothing, where it can't be said there
abbrev pub after : Style → Due → Node → List Due
after style Claimed (Optimal value) = Said (version_line style) ∷ Played ∷ Said policy_line ∷ Policy 0 ∷ refuted
after style Claimed Infeasible = Said (version_line style) ∷ Played ∷ refuted
after style Claimed NoPlay = Said (version_line style) ∷ Said illegal_line ∷ Empty 0 ∷ Said end_line ∷ []
after style (Policy depth) (Choose value) = Policy (depth + 1) ∷ []
after style (Policy depth) (Answer count) = ranges count (Below (depth + 1))
after style (Below depth) (Choose value) = Policy (depth + 1) ∷ []
after style (Below depth) (Answer count) = ranges count (Below (depth + 1))
after style (Below depth) (Fixed line) = Empty 0 ∷ []
after style (Empty position) (Split var count) = ranges count (Empty (var + 1))
after style (Refute depth) (Over count) = ranges count (Refute (depth + 1))
after style (Refute depth) (Pick value completion) = Refute (depth + 1) ∷ []
after style (Ranges n due) (Part range) = due ∷ ranges n due
after style due node = []
