use Rattle.std.proofs.Common.{◌≡◌, List, length, take, get_or, ap, sym, ◌∙◌, arith}
use Rattle.elem_descr.proofs.Words.{get_or_default, Field, leaves_of, leaves_in, fields, field_at, no_field}
use Rattle.elem_descr.proofs.FieldLaws.{leaves_in_fields, leaves_of_fields, leaves_of_one, leaves_at_one, leaves_in-take}
use Rattle.elem_descr.proofs.descr.Descr.leaves_of.Goals as goal

pub leaf_sum-before-requires : goal.leaf_sum-before-requires
leaf_sum-before-requires c =
    let seen = ap (λ (fs : List Field). leaves_in (take c.args.field fs)) c.fields-fields.ensures.value in
    omega (arith, seen, leaves_in-take (fields c.args.self.now) c.args.field, leaves_in_fields c.args.self.now, c.fields-fields.ensures.few)

pub returns-clause-within : goal.returns-clause-within
returns-clause-within c =
    let field = c.index-fields-field.result in
    let is : field ≡ get_or (fields c.args.self.now) c.args.field field = rw c.fields-fields.ensures.value at c.index-fields-field.is in
    let one = leaves_of_one (fields c.args.self.now) c.args.field field c.requires is in
    let before = ap (λ (fs : List Field). leaves_in (take c.args.field fs)) c.fields-fields.ensures.value in
    let there = ap (λ (f : Field). length (leaves_of f.descr)) c.index-fields-field.is in
    omega (arith, one, before, there, c.leaf_sum-before.ensures, c.leaf_count.ensures.value, leaves_in_fields c.args.self.now)

pub returns-clause-leaves : goal.returns-clause-leaves
returns-clause-leaves c =
    let self = c.args.self.now in
    let field = c.index-fields-field.result in
    let is : field ≡ get_or (fields self) c.args.field field = rw c.fields-fields.ensures.value at c.index-fields-field.is in
    let one = leaves_at_one (fields self) c.args.field field c.requires is in
    let here : field_at self c.args.field ≡ field = get_or_default (fields self) c.args.field no_field field c.requires ∙ sym is in
    let before : c.leaf_sum-before.result ≡ leaves_in (take c.args.field (fields self)) = c.leaf_sum-before.ensures ∙ ap (λ (fs : List Field). leaves_in (take c.args.field fs)) c.fields-fields.ensures.value in
    let count : c.leaf_count.result ≡ length (leaves_of field.descr) = c.leaf_count.ensures.value ∙ sym (ap (λ (f : Field). length (leaves_of f.descr)) c.index-fields-field.is) in
    rw (here, before, count, leaves_of_fields self c.args.field c.requires) one
