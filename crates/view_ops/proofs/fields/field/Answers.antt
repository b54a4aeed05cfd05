use Rattle.std.proofs.Common.{sym, ap, arith}
use Rattle.view_ops.proofs.Words.{ints, dot, max_bytes, count, field_of, item_size, rank-lt}
use Rattle.view_ops.proofs.FieldLaws.{offset-within, gives_field}
use Rattle.view_ops.proofs.fields.field.Goals as goal

pub overflow_add-moved : goal.overflow_add-moved
overflow_add-moved c =
    let low = offset-within c.args.layout.now max_bytes (item_size c.args.descr.now) c.requires (omega (arith, c.items.ensures.value, c.if-items-eq0.false, ap (λ l. count l.shape) c.in_ok-moved.ensures)) in
    record { fits = omega (arith, low, ap (λ l. l.offset) c.in_ok-moved.ensures, c.field-field.ensures.within) }

pub returns-then-items-eq0 : goal.returns-then-items-eq0
returns-then-items-eq0 c =
    let there = field_of c.args.descr.now c.args.name.now in
    gives_field c.args.layout.now c.in_ok-moved.moved c.args.descr.now there c.in-Some.k c.field-field.result.now (sym c.in-Some.ensures.value) c.field-field.ensures.value c.field-field.ensures.within
    (record { shape = ap (λ l. l.shape) c.in_ok-moved.ensures; addresses = λ index in'. absurd (omega (arith, rank-lt c.args.layout.now.shape index in', c.items.ensures.value, c.if-items-eq0.true, ap (λ l. count l.shape) c.in_ok-moved.ensures)) })

pub returns : goal.returns
returns c =
    let there = field_of c.args.descr.now c.args.name.now in
    gives_field c.args.layout.now _ c.args.descr.now there c.in-Some.k c.field-field.result.now (sym c.in-Some.ensures.value) c.field-field.ensures.value c.field-field.ensures.within
    (record { shape = ap (λ l. l.shape) c.in_ok-moved.ensures; addresses = λ index in'. omega (arith, ints, ap (λ l. dot l.strides index) c.in_ok-moved.ensures, ap (λ l. l.offset) c.in_ok-moved.ensures) })
