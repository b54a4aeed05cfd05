use Rattle.std.proofs.Common.{◌++◌, codes, take}
use Rattle.shape_strides.proofs.Words.{decimal, flat_map, HasWritten, IsPlainFormatter}
use Rattle.shape_strides.proofs.shape.ShapeDisplay.fmt.Given as goal

abbrev pub invariant-loop-len : goal.invariant-loop-len
invariant-loop-len g l =
    IsPlainFormatter l.initial.f → HasWritten g.W.Write.write_str_gives l.initial.f (flat_map (λ m. codes ", " ++ decimal m) (take l.len-index l.rest)) l.f
