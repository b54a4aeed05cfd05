use Rattle.std.proofs.Common.{Ok, ap, sym}
use Rattle.view_ops.proofs.Words.{axes_of}
use Rattle.view_ops.proofs.axis_lists.axes_of.Goals as goal

pub returns-in_ok-reversed_axes-in-None : goal.returns-in_ok-reversed_axes-in-None
unfolding axes_of
returns-in_ok-reversed_axes-in-None c = rw c.in-None.is (ap Ok (sym c.in_ok-reversed_axes-in-None.ensures))
