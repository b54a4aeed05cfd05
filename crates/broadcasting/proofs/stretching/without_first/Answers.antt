use Rattle.std.proofs.Common.{ap, subst, sym, drop, ◌∙◌}
use Rattle.broadcasting.proofs.Words.{IsShape, slice-rest}
use Rattle.broadcasting.proofs.StretchLaws.{made_numbers, numbers-view}
use Rattle.broadcasting.proofs.FewerLaws.{IsShape-rest, rest-made, rest-moved, rest-length, rest-lies}
use Rattle.broadcasting.proofs.stretching.without_first.Goals as goal

pub from_lengths-requires : goal.from_lengths-requires
from_lengths-requires c =
    let seen = c.as_slice.ensures in
    subst IsShape (sym (slice-rest c.args.count c.as_slice.result.now ∙ ap (drop c.args.count) seen.value))
    (IsShape-rest c.args.count c.args.layout.now.shape c.requires.single (record { axes = seen.rank; lengths = seen.lengths; items = seen.items }))

pub new-requires : goal.new-requires
new-requires c =
    let made = rest-made c.requires.count c.requires.single c.as_slice.ensures.value c.in_ok-shape.ensures c.as_slice-2.ensures c.in_ok-strides.ensures in
    rest-length c.args.layout.now c.args.count c.in_ok-shape.shape c.in_ok-strides.strides made

pub unwrap-requires : goal.unwrap-requires
unwrap-requires c =
    let made = rest-made c.requires.count c.requires.single c.as_slice.ensures.value c.in_ok-shape.ensures c.as_slice-2.ensures c.in_ok-strides.ensures in
    c.new.ensures.found.1 (rest-lies c.args.layout.now c.args.count c.in_ok-shape.shape c.in_ok-strides.strides made)

pub returns : goal.returns
returns c =
    let made = rest-made c.requires.count c.requires.single c.as_slice.ensures.value c.in_ok-shape.ensures c.as_slice-2.ensures c.in_ok-strides.ensures in
    let numbers = made_numbers c.new.result c.unwrap.result c.in_ok-shape.shape _ c.in_ok-strides.strides c.args.layout.now.offset c.unwrap.ensures made.shape_is c.new.ensures.shape c.new.ensures.strides c.new.ensures.offset in
    numbers-view c.args.layout.now c.unwrap.result _ c.in_ok-strides.strides c.args.layout.now.offset _ (rest-moved c.args.layout.now c.args.count c.in_ok-shape.shape c.in_ok-strides.strides made) numbers
