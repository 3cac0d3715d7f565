use Rattle.qm_trees.proofs.PolicyReaches.{right_reaches, right_wins}
use Rattle.qm_trees.proofs.policy_laws.right_policies_win.Goals as goal

pub returns : goal.returns
returns c = record {
  reaches = λ P v policy us sound right play. right_reaches P sound v policy us right play;
  wins = λ P v policy sound right. right_wins P sound v policy right;
}
