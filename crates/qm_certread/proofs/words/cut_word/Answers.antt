use Rattle.qm_certread.proofs.WordCuts.{word_cut}
use Rattle.qm_certread.proofs.words.cut_word.Goals as goal

pub returns-clause-words : goal.returns-clause-words
returns-clause-words c = word_cut c.args.line.now c.memchr.result c.unwrap_or.result c.split_at.result.0.now c.split_at.result.1.now c.memchr.ensures c.unwrap_or.ensures c.split_at.ensures.front c.split_at.ensures.back
