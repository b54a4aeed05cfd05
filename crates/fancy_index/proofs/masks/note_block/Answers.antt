use Rattle.std.proofs.Common.{rules, w64, to_z, sym, ap, ◌∙◌}
use Rattle.fancy_index.proofs.Words.{to_z-of_z, SFits}
use Rattle.fancy_index.proofs.masks.note_block.Goals as goal

pub note_adjacent-requires-clause-adjacent : goal.note_adjacent-requires-clause-adjacent
note_adjacent-requires-clause-adjacent c =
    let fits : SFits w64 c.args.bools.run.step = search rules in
    sym (to_z-of_z w64 c.args.bools.run.step fits) ∙ ap (to_z w64) c.if-bools-eq1.true
