use Rattle.std.proofs.Common.{map, ap, ◌∙◌, length, arith}
use Rattle.elementwise.proofs.Words.{ScalarDescr, BoolScalar, item_size, item_from, count, can_stretch, stretched_items}
use Rattle.elementwise.proofs.StretchedLaws.{inside}
use Rattle.elementwise.proofs.ShrunkLaws.{bools_again}
use Rattle.elementwise.proofs.MadeLaws.{made-in}
use Rattle.elementwise.proofs.fast.repeats.spread.Goals as goal

pub stretched_to-requires : goal.stretched_to-requires
stretched_to-requires c = (λ i. can_stretch (c.items-items-2.ensures.layout i).shape c.args.shape.now) ∙ c.requires.stretches

pub invariant_of-bools : goal.invariant_of-bools
invariant_of-bools c = let x = c.items-items-2.result in record { inside = inside (length x.block.now) (item_size x.descr.now) c.in_ok-wide.ensures x.inside }

pub cast_numbers-requires-clause-from : goal.cast_numbers-requires-clause-from
cast_numbers-requires-clause-from c = c.items-items-2.ensures.descr ∙ c.requires.bools

pub cast_numbers-requires-clause-few : goal.cast_numbers-requires-clause-few
cast_numbers-requires-clause-few c = omega (arith, ap count c.in_ok-wide.ensures.shape, c.items-items.ensures.value, c.items-items.ensures.limit)

pub returns : goal.returns
returns c =
    let x = c.items-items-2.result in
    let e = c.items-items-2.ensures in
    let wide = c.in_ok-wide.ensures in
    made-in (ScalarDescr BoolScalar) c.in_ok-wide.wide.shape c.args.shape.now _ _ c.cast_numbers.result wide.shape
    (bools_again x.descr.now x.block.now _ (e.descr ∙ c.requires.bools)
    ∙ ap (map (item_from x.descr.now x.block.now)) wide.places
    ∙ λ i. stretched_items (e.descr i) (e.block i) (e.layout i) c.args.shape.now)
    c.cast_numbers.ensures
