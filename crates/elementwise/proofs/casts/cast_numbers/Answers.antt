use Rattle.std.proofs.Common.{sym}
use Rattle.elementwise.proofs.Words.{offsets, ScalarDescr}
use Rattle.elementwise.proofs.CastingLaws.{values_cast}
use Rattle.elementwise.proofs.LeafLaws.{cast_number}
use Rattle.elementwise.proofs.MadeLaws.{made-as}
use Rattle.elementwise.proofs.casts.cast_numbers.Goals as goal

pub returns : goal.returns
returns c =
    let x = c.args.from in
    let to = c.args.to.now in
    made-as (ScalarDescr to) x.layout.now.shape _ _ c.made.result (values_cast c.args.scalar.now to x.descr.now x.block.now (offsets x.layout.now) _ c.requires.from (λ x y. sym (cast_number to x c.requires.to))) c.made.ensures
