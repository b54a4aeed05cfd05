use Rattle.std.proofs.Common.{replicate, sym, ap, ◌∙◌}
use Rattle.literal_items.proofs.Words.{RecordDescr, AreInOrder, item_size, encode_item, decode_item, leaves_from, leaves_in_order, can_hold, can_be_item, values_of}
use Rattle.literal_items.proofs.Fields.{seen_values, put_all, put_each, record_cast}
use Rattle.literal_items.proofs.literal_item.write_cast.Goals as goal

pub write_fields-requires-clause-castable : goal.write_fields-requires-clause-castable
write_fields-requires-clause-castable c =
    ap (can_hold c.in-Record-Record.structure.fields) (seen_values c.as_slice.result.now c.in-Record-Record.values c.as_slice.ensures)
    ∙ sym (ap (can_be_item (RecordDescr c.in-Record-Record.structure)) c.in-Record-Record.is-1)
    ∙ sym (ap (λ descr. can_be_item descr c.args.literal.now) c.in-Record-Record.is-0)
    ∙ c.requires.castable

pub returns-in-Record-Scalar : goal.returns-in-Record-Scalar
returns-in-Record-Scalar c =
    let structure = c.in-Record-Scalar.structure in
    let zeros = c.fill.ensures.after (λ y same. same) ∙ ap (λ n. replicate n 0) c.requires.whole in
    let order : AreInOrder 0 (leaves_from 0 structure.fields) structure.size = rw c.leaves.ensures.value at c.leaves.ensures.in_order in
    let put = c.write_leaves.ensures ∙ put_all c.fill.new.self structure c.args.literal.now c.in-Record-Scalar.value c.leaves.result.now c.in-Record-Scalar.is-1 c.leaves.ensures.value in
    let cast = record_cast c.args.descr.now structure c.args.literal.now c.fill.new.self c.write_leaves.new.item c.in-Record-Scalar.is-0 c.requires.castable order zeros put in
    record { encoded = cast.0; reads_back = cast.1 }

pub returns-in-Record-Record : goal.returns-in-Record-Record
returns-in-Record-Record c =
    let structure = c.in-Record-Record.structure in
    let zeros = c.fill-in-Record-Record.ensures.after (λ y same. same) ∙ ap (λ n. replicate n 0) c.requires.whole in
    let put = c.write_fields.ensures.written ∙ put_each c.fill-in-Record-Record.new.self structure c.args.literal.now c.in-Record-Record.values c.as_slice.result.now c.in-Record-Record.is-1 c.as_slice.ensures in
    let cast = record_cast c.args.descr.now structure c.args.literal.now c.fill-in-Record-Record.new.self c.write_fields.new.item c.in-Record-Record.is-0 c.requires.castable (leaves_in_order structure c.write_fields.ensures.legal) zeros put in
    record { encoded = cast.0; reads_back = cast.1 }
