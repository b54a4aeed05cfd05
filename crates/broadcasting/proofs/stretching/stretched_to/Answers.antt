use Rattle.std.proofs.Common.{◌∙◌, ap, sym, length}
use Rattle.broadcasting.proofs.StretchLaws.{stretched-length, stretched-lies, stretched-view, made_numbers}
use Rattle.broadcasting.proofs.stretching.stretched_to.Goals as goal

pub new-requires : goal.new-requires
new-requires c = stretched-length c.args.layout.now c.args.target.now c.in_ok-strides.strides c.in_ok-strides.ensures ∙ sym (ap length c.in_ok-shape.ensures)

pub unwrap-requires : goal.unwrap-requires
unwrap-requires c = c.new.ensures.found.1 (rw c.in_ok-shape.ensures (stretched-lies c.args.layout.now c.args.target.now c.in_ok-strides.strides c.in_ok-strides.ensures))

pub returns : goal.returns
returns c =
    let numbers = made_numbers c.new.result c.unwrap.result c.in_ok-shape.shape c.args.target.now c.in_ok-strides.strides c.args.layout.now.offset c.unwrap.ensures c.in_ok-shape.ensures c.new.ensures.shape c.new.ensures.strides c.new.ensures.offset in
    stretched-view c.args.layout.now c.unwrap.result c.args.target.now c.in_ok-strides.strides c.in_ok-strides.ensures numbers
