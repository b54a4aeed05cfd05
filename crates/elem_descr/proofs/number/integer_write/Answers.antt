use Rattle.std.proofs.Common.{FitsSigned}
use Rattle.elem_descr.proofs.Words.{w128, to_z-of_z, little_bytes, big_bytes, written_whole}
use Rattle.elem_descr.proofs.number.integer_write.Goals as goal

pub returns-in-Little : goal.returns-in-Little
returns-in-Little c =
    let fits : FitsSigned w128 c.args.value = c.ranges.value in
    rw c.in-Little.is (written_whole c.args.size c.args.value little_bytes _ _ c.requires.few fits c.requires.whole (simp to_z-of_z at c.write_int128.ensures))

pub returns-in-Big : goal.returns-in-Big
returns-in-Big c =
    let fits : FitsSigned w128 c.args.value = c.ranges.value in
    rw c.in-Big.is (written_whole c.args.size c.args.value big_bytes _ _ c.requires.few fits c.requires.whole (simp to_z-of_z at c.write_int128-in-Big.ensures))
