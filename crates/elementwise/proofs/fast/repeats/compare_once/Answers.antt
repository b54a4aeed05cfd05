use Rattle.std.proofs.Common.{◌∙◌, length}
use Rattle.elementwise.proofs.Words.{ScalarDescr, BoolScalar, item_size, can_stretch, can-itself, compared_item}
use Rattle.elementwise.proofs.ShrunkLaws.{pairs_spread}
use Rattle.elementwise.proofs.MadeLaws.{made-as}
use Rattle.elementwise.proofs.fast.repeats.compare_once.Goals as goal

pub invariant_of-once : goal.invariant_of-once
invariant_of-once c = let x = c.args.both.left in record { inside = c.in_ok-small.ensures.first.inside (length x.block.now) (item_size x.descr.now) x.inside }

pub invariant_of-once-2 : goal.invariant_of-once-2
invariant_of-once-2 c = let y = c.args.both.right in record { inside = c.in_ok-small.ensures.second.inside (length y.block.now) (item_size y.descr.now) y.inside }

pub invariant_of-once-3 : goal.invariant_of-once-3
invariant_of-once-3 c =
    let s = c.in_ok-small in
    let itself = can-itself s.small.0.shape in
    record { first = (λ i. can_stretch (s.ensures.first.shape_is i) s.small.0.shape) ∙ itself; second = (λ i. can_stretch (s.ensures.second.shape_is i) s.small.0.shape) ∙ itself }

pub spread-requires-clause-bools : goal.spread-requires-clause-bools
spread-requires-clause-bools c = c.in_ok-made.ensures.descr_is

pub spread-requires-clause-stretches : goal.spread-requires-clause-stretches
spread-requires-clause-stretches c = (λ i. can_stretch (c.in_ok-made.ensures.shape_is i) c.args.both.shape.now) ∙ c.in_ok-small.ensures.first.can

pub returns : goal.returns
returns c =
    let s = c.in_ok-small in
    let x = c.args.both.left in
    let y = c.args.both.right in
    made-as (ScalarDescr BoolScalar) c.args.both.shape.now _ _ c.spread.result
    (pairs_spread (compared_item c.args.comparison) (ScalarDescr BoolScalar) x.descr.now y.descr.now x.block.now y.block.now x.layout.now y.layout.now s.small.0 s.small.1 s.small.0.shape c.args.both.shape.now c.in_ok-made.made
    s.ensures.first s.ensures.second c.in_ok-made.ensures)
    c.spread.ensures
