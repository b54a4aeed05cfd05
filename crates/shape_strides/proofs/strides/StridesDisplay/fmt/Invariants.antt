use Rattle.std.proofs.Common.{◌++◌, codes, take}
use Rattle.shape_strides.proofs.Words.{flat_map, signed_decimal, HasWritten, IsPlainFormatter}
use Rattle.shape_strides.proofs.strides.StridesDisplay.fmt.Given as goal

abbrev pub invariant-loop-stride : goal.invariant-loop-stride
invariant-loop-stride g l =
    IsPlainFormatter l.initial.f → HasWritten g.W.Write.write_str_gives l.initial.f (flat_map (λ m. codes ", " ++ signed_decimal m) (take l.stride-index l.rest)) l.f
