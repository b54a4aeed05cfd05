use Rattle.std.proofs.Common.{refl, sym, ap, length, ◌∙◌, ◌<◌, ◌≡◌, arith}
use Rattle.reshape_rule.proofs.Words.{false≢true, count, offsets, no_offsets, length-offsets, length-printed}
use Rattle.reshape_rule.proofs.ScaleLaws.{decided-by_places}
use Rattle.reshape_rule.proofs.ReshapeLaws.{HasUnitStrides, affine-lies, affine-offsets, offsets-affine, reshape-of}
use Rattle.reshape_rule.proofs.without_copy.no_copy.Goals as goal

pub returns-then-items-eq0-clause-reshape : goal.returns-then-items-eq0-clause-reshape
returns-then-items-eq0-clause-reshape c =
    let old = c.args.layout.now in
    let new = c.in_ok-c_order.field-0 in
    let none : count old.shape ≡ 0 = omega (arith, c.items.ensures.value, c.requires) in
    reshape-of old new c.args.shape.now c.in_ok-c_order.ensures.shape (no_offsets new old (ap count c.in_ok-c_order.ensures.shape ∙ c.requires ∙ none) none)

pub returns-then-items-eq0-clause-exact : goal.returns-then-items-eq0-clause-exact
returns-then-items-eq0-clause-exact c =
    let old = c.args.layout.now in
    let new = c.in_ok-c_order.field-0 in
    let none : count old.shape ≡ 0 = omega (arith, c.items.ensures.value, c.requires) in
    (λ _. offsets-affine old new c.args.shape.now c.in_ok-c_order.ensures.shape (no_offsets new old (ap count c.in_ok-c_order.ensures.shape ∙ c.requires ∙ none) none), λ _. refl)

pub new-requires : goal.new-requires
new-requires c =
    ap length c.in_ok-strides.ensures ∙ length-printed c.args.shape.now (offsets c.args.layout.now) ∙ sym (ap length c.in_ok-try_copy.ensures)

pub returns-in_default-clause-exact : goal.returns-in_default-clause-exact
returns-in_default-clause-exact c =
    let old = c.args.layout.now in
    let some : 0 < count c.args.shape.now = omega (arith, c.items.ensures.value) in
    (λ yes. absurd (false≢true yes), λ affine. c.in_default.ensures.found.1 (rw (c.in_ok-try_copy.ensures, c.in_ok-strides.ensures) (affine-lies old c.args.shape.now some c.requires affine)))

pub returns-then-not-branch-clause-exact : goal.returns-then-not-branch-clause-exact
returns-then-not-branch-clause-exact c =
    let old = c.args.layout.now in
    let new = c.in-Some.reshaped in
    let some : 0 < count c.args.shape.now = omega (arith, c.items.ensures.value) in
    let some' : 0 < count c.in_ok-try_copy.field-0 = omega (arith, some, ap count c.in_ok-try_copy.ensures) in
    let has : HasUnitStrides old new c.args.shape.now = record {
      shape_is = c.in-Some.ensures.shape ∙ c.in_ok-try_copy.ensures;
      strides_are = c.in-Some.ensures.strides some' ∙ c.in_ok-strides.ensures;
      offset_is = c.in-Some.ensures.offset some';
    } in
    (λ yes. absurd (false≢true yes), λ affine. sym c.if-not-branch.true ∙ c.in_ok-have_same_offsets.ensures.1 (affine-offsets old new c.args.shape.now some c.requires has affine))

pub returns-clause-reshape : goal.returns-clause-reshape
returns-clause-reshape c =
    reshape-of c.args.layout.now c.in-Some.reshaped c.args.shape.now (c.in-Some.ensures.shape ∙ c.in_ok-try_copy.ensures) (c.in_ok-have_same_offsets.ensures.0 c.if-not-branch.false)

pub returns-clause-exact : goal.returns-clause-exact
returns-clause-exact c =
    (λ _. offsets-affine c.args.layout.now c.in-Some.reshaped c.args.shape.now (c.in-Some.ensures.shape ∙ c.in_ok-try_copy.ensures) (c.in_ok-have_same_offsets.ensures.0 c.if-not-branch.false), λ _. refl)

pub returns-then-items-eq0-clause-decided : goal.returns-then-items-eq0-clause-decided
returns-then-items-eq0-clause-decided c item start places some laid =
    decided-by_places item start places (offsets c.args.layout.now) c.args.shape.now _ some (length-offsets c.args.layout.now ∙ sym c.requires) laid (returns-then-items-eq0-clause-exact c)

pub returns-in_default-clause-decided : goal.returns-in_default-clause-decided
returns-in_default-clause-decided c item start places some laid =
    decided-by_places item start places (offsets c.args.layout.now) c.args.shape.now _ some (length-offsets c.args.layout.now ∙ sym c.requires) laid (returns-in_default-clause-exact c)

pub returns-then-not-branch-clause-decided : goal.returns-then-not-branch-clause-decided
returns-then-not-branch-clause-decided c item start places some laid =
    decided-by_places item start places (offsets c.args.layout.now) c.args.shape.now _ some (length-offsets c.args.layout.now ∙ sym c.requires) laid (returns-then-not-branch-clause-exact c)

pub returns-clause-decided : goal.returns-clause-decided
returns-clause-decided c item start places some laid =
    decided-by_places item start places (offsets c.args.layout.now) c.args.shape.now _ some (length-offsets c.args.layout.now ∙ sym c.requires) laid (returns-clause-exact c)
