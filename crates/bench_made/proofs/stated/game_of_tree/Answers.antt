use Rattle.bench_made.proofs.stated.game_of_tree.Goals as goal

pub normal-requires : goal.normal-requires
normal-requires c = record { in_order = c.trees_of_texts_are_in_order.ensures c.args.text.now c.args.tokens.now c.args.ast.now c.requires.short c.requires.tokens c.requires.ast }
