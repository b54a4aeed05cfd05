use Rattle.std.proofs.Common.{Ok, map, ap, ◌∙◌, refl, arith}
use Rattle.fancy_index.proofs.Words.{IndexOutOfRange, shape_of, all_axes, shown_part, all_named}
use Rattle.fancy_index.proofs.AnswerLaws.{shape-made, gives_named, gives_none, gives_some, points-ready}
use Rattle.fancy_index.proofs.PartLaws.{passed}
use Rattle.fancy_index.proofs.planning.plan_of_parts.Goals as goal

pub returns-in_ok-plan_of_none-in-Ok : goal.returns-in_ok-plan_of_none-in-Ok
returns-in_ok-plan_of_none-in-Ok c =
    let plan = c.in_ok-plan_of_none-in-Ok in
    let parts = c.args.parts.now in
    let made = c.in-Ok.ensures in
    gives_named c.args.layout.now parts (Ok plan.field-0) (passed (all_named parts) IndexOutOfRange c.in_ok-check_numbers-in-Ok.ensures)
    (gives_none c.args.layout.now (map shown_part parts) c.in-Ok.points.items c.in-Ok.points.items c.in-Ok.shape plan.field-0 made.points refl made.shape (omega (arith, c.items.ensures.value, c.if-items-gt0.false)) plan.ensures.shape plan.ensures.offsets)

pub plan_of_some-requires-clause-ready : goal.plan_of_some-requires-clause-ready
plan_of_some-requires-clause-ready c =
    points-ready c.args.layout.now.shape c.in-Ok.points.items c.as_slice.result.now c.args.parts.now c.requires c.as_slice-lengths.ensures.rank c.in-Ok.ensures.points c.as_slice.ensures

pub plan_of_some-requires-clause-shape : goal.plan_of_some-requires-clause-shape
plan_of_some-requires-clause-shape c =
    let parts = map shown_part c.args.parts.now in
    shape-made parts c.as_slice.result.now c.in-Ok.shape (ap (λ p. shape_of (all_axes p parts)) c.as_slice.ensures ∙ c.in-Ok.ensures.shape)

pub returns-then-items-gt0 : goal.returns-then-items-gt0
returns-then-items-gt0 c =
    let parts = map shown_part c.args.parts.now in
    let shape = ap (λ p. shape_of (all_axes p parts)) c.as_slice.ensures ∙ c.in-Ok.ensures.shape in
    gives_some c.args.layout.now c.args.parts.now c.in-Ok.points.items c.as_slice.result.now c.in-Ok.shape c.plan_of_some.result c.in-Ok.ensures.points c.as_slice.ensures shape c.plan_of_some.ensures.ok c.plan_of_some.ensures.within
