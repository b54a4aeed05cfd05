use Rattle.std.proofs.Common.{ap, length, arith}
use Rattle.broadcasting.proofs.Words.{few-axes}
use Rattle.broadcasting.proofs.stretching.stretched_strides.Goals as goal

pub overflow_sub-more : goal.overflow_sub-more
overflow_sub-more c = omega (arith, few-axes c.args.layout.now.shape c.args.target.now c.requires, ap length c.as_slice-lengths.ensures.value, c.rank.ensures.value)

pub kept_stride-requires-clause-stride : goal.kept_stride-requires-clause-stride
kept_stride-requires-clause-stride c = omega (arith, ap length c.as_slice-lengths.ensures.value, ap length c.as_slice-strides.ensures, c.args.layout.now.one_stride_an_axis)
