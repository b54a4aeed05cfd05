use Rattle.std.proofs.Common.{sym, subst}
use Rattle.elementwise.proofs.Words.{IsShrunk}
use Rattle.elementwise.proofs.ShrunkLaws.{is_shrunk}
use Rattle.elementwise.proofs.fast.layouts.without_repeats.Goals as goal

pub returns-clause-first : goal.returns-clause-first
returns-clause-first c =
    subst (λ once. IsShrunk c.in_ok-first.first c.args.left.now once c.args.shape.now) (sym c.in_ok-first.ensures.shape)
    (is_shrunk c.args.left.now c.in_ok-wide.wide c.in_ok-first.first c.in_ok-shape.shape c.args.shape.now c.in_ok-wide.ensures c.in_ok-first.ensures.shape c.in_ok-first.ensures.stretch)

pub returns-clause-second : goal.returns-clause-second
returns-clause-second c =
    subst (λ once. IsShrunk c.in_ok-second.second c.args.right.now once c.args.shape.now) (sym c.in_ok-first.ensures.shape)
    (is_shrunk c.args.right.now c.in_ok-other.other c.in_ok-second.second c.in_ok-shape.shape c.args.shape.now c.in_ok-other.ensures c.in_ok-second.ensures.shape c.in_ok-second.ensures.stretch)
