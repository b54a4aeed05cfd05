use Rattle.std.proofs.Common.{sym, ◌∙◌}
use Rattle.fancy_index.proofs.Words.{length-map, length-offsets, number_from, offsets}
use Rattle.fancy_index.proofs.positions.put_all.Goals as goal

pub put_table-requires-clause-many : goal.put_table-requires-clause-many
put_table-requires-clause-many g c =
    let array = c.args.named.array in
    c.requires.many ∙ sym (length-offsets array.layout.now) ∙ sym (length-map (offsets array.layout.now) (number_from array.descr.now array.block.now))
