-- The words that the program is called with, and what they ask for.
use Rattle.std.specs.Prelude.{◌≡◌, ◌≢◌, ◌⊎◌, ◌≤◌, ℕ, List, [], ◌∷◌, codes}
use Rattle.std.specs.Fmt.{decimal}
use Rattle.qm_top.specs.declared.command.Command.{Command}
use Rattle.qm_top.specs.declared.command.Command.TheVariants.{Check, Gen, GenSolve, Solve}

-- a budget that may be asked for
abbrev pub IsBudget : ℕ → Type 0
IsBudget nodes = (1 ≤ nodes) × (nodes ≤ 50000000)

-- the words behind FILE: none, for the usual budget; or `--nodes N`, with N in decimal
abbrev pub AsksNodes : ℕ → List (List ℕ) → Type 0
AsksNodes nodes words = ((words ≡ []) × (nodes ≡ 1000000)) ⊎ ((words ≡ codes "--nodes" ∷ decimal nodes ∷ []) × IsBudget nodes)

-- `gen NUMBER SIZE`, both in decimal and within their bounds, and these words behind them
abbrev pub AsksGen : ℕ → ℕ → List (List ℕ) → List (List ℕ) → Type 0
AsksGen number size behind words = (number ≤ 2147483647) × (1 ≤ size) × (size ≤ 100) × (words ≡ codes "gen" ∷ decimal number ∷ decimal size ∷ behind)

-- `solve FILE` or `solve FILE --nodes N`, where FILE isn't empty; `check FILE CERT`, where neither is; `gen NUMBER SIZE`;
-- `gen NUMBER SIZE --solve`
abbrev pub Asks : Command → List (List ℕ) → Type 0
Asks (Solve nodes) words = (file : List ℕ) × (behind : List (List ℕ)) × (file ≢ []) × (words ≡ codes "solve" ∷ file ∷ behind) × AsksNodes nodes behind
Asks Check words = (file : List ℕ) × (certificate : List ℕ) × (file ≢ []) × (certificate ≢ []) × (words ≡ codes "check" ∷ file ∷ certificate ∷ [])
Asks (Gen number size) words = AsksGen number size [] words
Asks (GenSolve number size) words = AsksGen number size (codes "--solve" ∷ []) words
