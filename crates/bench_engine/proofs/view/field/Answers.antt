use Rattle.std.proofs.Common.{refl, sym, ap, ◌∙◌}
use Rattle.bench_engine.proofs.Words.{field_of}
use Rattle.elem_descr.specs.declared.descr.Field.{Field}
use Rattle.bench_engine.proofs.Parts.{field-part}
use Rattle.bench_engine.proofs.view.field.Goals as goal

pub then-requires : goal.then-requires
then-requires c = c.requires.2.deeper c.in-Some.k c.in-Some.ensures.below

pub returns : goal.returns
returns c s array shows =
    let r = c.args.array.now in
    let there = ap (field_of r.descr.now) (sym c.as_slice.ensures) ∙ sym c.in-Some.ensures.value in
    let given = rw c.as_slice-2.ensures at c.in_ok-layout.ensures in
    field-part s array r c.args.field.now _ _ _ c.in_ok-layout.layout c.in-Some.k shows there c.in-Some.ensures.below c.then.ensures refl (ap (λ (f : Field). f.descr) c.field-2.ensures.value) given
