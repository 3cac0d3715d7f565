use Rattle.std.proofs.Common.{refl}
use Rattle.bench_large.proofs.PlainGames.{plain-sound}
use Rattle.bench_large.proofs.games.game.Goals as goal

pub new-requires : goal.new-requires
new-requires c =
    plain-sound c.args.universals _
    (record {
      some_universals = c.requires.universals;
      many_vars = c.in_ok-variables.ensures.many;
      plain_vars = c.in_ok-variables.ensures.plain;
      universal_vars = c.in_ok-variables.ensures.universal;
      wholes = refl;
      few_rows = rw c.in_ok-rows.ensures.many c.requires.count;
      plain_rows = c.in_ok-rows.ensures.plain;
      few_urows = c.requires.few;
      plain_urows = c.requires.urows;
      terms = c.none.ensures;
      constant = refl;
      scale = refl;
    })
