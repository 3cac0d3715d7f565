use Rattle.qm_certfile.proofs.ToldEndings.{answered, told_ending}
use Rattle.qm_certfile.proofs.endings.a_passing_certificate_tells_the_ending.Goals as goal

pub returns : goal.returns
returns c = record {
  ending = λ P certificate sound passes. told_ending P certificate sound passes;
  answers = λ P certificate us sound passes play. answered P certificate us sound passes play;
}
