use Rattle.std.proofs.Common.{◌∙◌}
use Rattle.broadcasting.proofs.StretchLaws.{made_numbers}
use Rattle.broadcasting.proofs.ShrinkLaws.{shrunk-length, shrunk-lies, shrunk-stretch}
use Rattle.broadcasting.proofs.shrinking.shrink.Goals as goal

pub new-requires : goal.new-requires
new-requires c = shrunk-length c.args.layout.now c.in_ok-shape.shape c.in_ok-strides.strides c.args.shape.now (c.in_ok-strides.ensures ∙ c.as_slice.ensures) c.in_ok-shape.ensures c.requires

pub unwrap-requires : goal.unwrap-requires
unwrap-requires c = c.new.ensures.found.1 (rw (c.in_ok-shape.ensures, c.in_ok-strides.ensures, c.as_slice.ensures) (shrunk-lies c.args.layout.now c.args.shape.now c.requires))

pub returns-clause-stretch : goal.returns-clause-stretch
returns-clause-stretch c =
    let numbers = made_numbers c.new.result c.unwrap.result c.in_ok-shape.shape c.args.shape.now c.in_ok-strides.strides c.args.layout.now.offset c.unwrap.ensures c.in_ok-shape.ensures c.new.ensures.shape c.new.ensures.strides c.new.ensures.offset in
    shrunk-stretch c.args.layout.now c.unwrap.result c.args.shape.now c.in_ok-strides.strides c.requires (c.in_ok-strides.ensures ∙ c.as_slice.ensures) numbers
