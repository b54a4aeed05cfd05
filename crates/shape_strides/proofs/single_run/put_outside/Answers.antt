use Rattle.std.proofs.Common.{arith}
use Rattle.shape_strides.proofs.StartLaws.{put-bounds}
use Rattle.shape_strides.proofs.single_run.put_outside.Goals as goal

pub leads_over-requires : goal.leads_over-requires
leads_over-requires c =
    (put-bounds c.args.axis c.in-Some.inner c.args.axes.now.items c.pop.new.self.items c.in-Some.ensures.items c.requires.some c.requires.items).0

pub overflow_mul-axis : goal.overflow_mul-axis
overflow_mul-axis c =
    let bounds = put-bounds c.args.axis c.in-Some.inner c.args.axes.now.items c.pop.new.self.items c.in-Some.ensures.items c.requires.some c.requires.items in
    record { fits = omega arith }
