use Rattle.std.proofs.Common.{◌++◌, codes, flat_map, take}
use Rattle.array_print.proofs.Words.{escaped}
use Rattle.array_print.specs.inside.Pushed.{Held}
use Rattle.array_print.proofs.values.push_byte_string.Given as goal

-- the texts of the bytes so far follow the mark
abbrev pub invariant-loop-byte : goal.invariant-loop-byte
invariant-loop-byte g l = Held (codes "b'" ++ flat_map escaped (take l.byte-index l.byte-items)) (g.W.Write.contents l.fn.writer) (g.W.Write.contents l.writer) l.fn.out l.out
