use Rattle.std.proofs.Common.{◌∙◌}
use Rattle.fancy_index.proofs.Words.{IfOk-weaker, can_stretch}
use Rattle.fancy_index.proofs.SizeLaws.{places-given}
use Rattle.fancy_index.proofs.shift_columns.stretched_places.Goals as goal

pub stretched_to-requires : goal.stretched_to-requires
stretched_to-requires c = (λ i. can_stretch ((c.in_ok-places.ensures.shape ∙ c.in_ok-own.ensures) i) (c.in_ok-shape.ensures i)) ∙ c.requires.can

pub returns-clause-shape : goal.returns-clause-shape
returns-clause-shape c = IfOk-weaker c.stretched_to.result _ _ (λ l view. view.shape ∙ c.in_ok-shape.ensures) c.stretched_to.ensures

pub returns-clause-places : goal.returns-clause-places
returns-clause-places c =
    IfOk-weaker c.stretched_to.result _ _ (λ l view. places-given c.in_ok-places.places l c.in_ok-own.own c.args.lengths.now c.in_ok-shape.shape c.args.target.now c.in_ok-places.ensures.shape c.in_ok-own.ensures c.in_ok-shape.ensures c.in_ok-places.ensures.offsets view)
    c.stretched_to.ensures
