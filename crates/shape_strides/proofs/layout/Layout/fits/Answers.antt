use Rattle.shape_strides.specs.LayoutLaws.{offsets_within}
use Rattle.shape_strides.proofs.layout.Layout.fits.Goals as goal

pub returns-clause-offsets : goal.returns-clause-offsets
returns-clause-offsets c = λ test. offsets_within c.args.self.now c.args.len c.args.item (c.lie_within.ensures.0 test)
