use Rattle.std.proofs.Common.{◌≡◌, zero, suc, refl, ◌+◌, ◌<◌, ◌++◌, ℕ, List, [], ◌∷◌, get_or, length, drop, sym, subst, ap, ◌∙◌, arith, rules}
use Rattle.array_print.proofs.Words.{SendsPart, drop-drop, get_or_default, IfOk-weaker, Descr, Field, Structure, total, fields_of, listed, leaf_count, leaves_of, weight, rest_at, weight-one, leaf_count-before, length-leaves_from, RecordDescr, field_texts, structure_text, in_parentheses, first_text, texts_at}
use Rattle.elem_descr.specs.DescriptorLaws.{seen_fields}
use Rattle.array_print.proofs.LeafLaws.{field_texts-before, length-field_texts}
use Rattle.array_print.proofs.PushLaws.{failed, held-more, held-same, part-after, pushes-same}
use Rattle.array_print.proofs.RecordLaws.{cut, cut-before, cut-within, sent-more, whole-record}
use Rattle.array_print.proofs.printer.+fields.Goals as goal

-- a field's text, and the text of what it is
field-text : (descr : Descr) (structure : Structure) (fields : List Field) (texts : List (List ℕ)) → descr ≡ RecordDescr structure → fields ≡ fields_of structure.fields → in_parentheses (field_texts (listed fields) texts) ≡ structure_text descr texts
field-text descr structure fields texts is fields-are =
    ap (λ fs. in_parentheses (field_texts fs texts)) (seen_fields fields structure.fields fields-are) ∙ sym (ap (λ d. structure_text d texts) is)

pub push_field-push_record-requires : goal.push_field-push_record-requires
push_field-push_record-requires g t c κs lives =
    let fields = seen_fields c.fields.result.now c.in-Record.inner.fields c.fields.ensures.value in
    let all = ap total fields in
    let one = ap weight c.in-Record.is in
    let leaves = ap leaf_count fields in
    let there = ap (λ d. length (leaves_of d)) c.in-Record.is in
    (omega (arith, c.decreases, all, one), (lives, (omega (arith, leaves, there, length-leaves_from 0 c.in-Record.inner.fields, c.requires.leaves), (c.requires.few, c.requires.item))))

-- the first text that is left
first-left : (texts : List (List ℕ)) (k : ℕ) → get_or texts k [] ≡ first_text (drop k texts)
first-left [] zero = refl
first-left [] (suc k) = refl
first-left (text ∷ texts) zero = refl
first-left (text ∷ texts) (suc k) = first-left texts k

pub push_field-returns-in_err-push_leaf-in-Scalar-clause-text : goal.push_field-returns-in_err-push_leaf-in-Scalar-clause-text
push_field-returns-in_err-push_leaf-in-Scalar-clause-text g t c =
    let texts = texts_at c.args.item.now.items.descr.now c.args.item.now.items.widths.now c.args.item.now.items.block.now c.args.item.now.offset in
    let text = first-left texts c.args.k ∙ sym (ap (λ d. structure_text d (drop c.args.k texts)) c.in-Scalar.is) in
    record {
      ok = search rules;
      err = failed _ (subst (λ t. SendsPart (g.W.Write.contents c.args.writer.now) (g.W.Write.contents c.push_leaf.new.writer) (c.args.out.now.text.items ++ t)) text c.in_err-push_leaf-in-Scalar.ensures.err);
      room = omega arith;
    }

pub push_field-returns-in-Record-clause-text : goal.push_field-returns-in-Record-clause-text
push_field-returns-in-Record-clause-text g t c =
    let texts = drop c.args.k (texts_at c.args.item.now.items.descr.now c.args.item.now.items.widths.now c.args.item.now.items.block.now c.args.item.now.offset) in
    pushes-same (field-text c.args.descr.now c.in-Record.inner c.fields.result.now texts c.in-Record.is c.fields.ensures.value) c.push_record.ensures.text

pub push_field-returns-in-Record-clause-next : goal.push_field-returns-in-Record-clause-next
push_field-returns-in-Record-clause-next g t c =
    let fields = seen_fields c.fields.result.now c.in-Record.inner.fields c.fields.ensures.value in
    let leaves = ap leaf_count fields in
    let there = ap (λ d. length (leaves_of d)) c.in-Record.is in
    IfOk-weaker c.push_record.result _ _ (λ next is. omega (arith, is, leaves, there, length-leaves_from 0 c.in-Record.inner.fields)) c.push_record.ensures.next

-- the leaves of the remaining fields
left : (fields : List Field) (field : Field) (i : ℕ) → i < length fields → field ≡ get_or fields i field → leaf_count (listed (drop i fields)) ≡ length (leaves_of field.descr) + leaf_count (listed (drop (i + 1) fields))
left fields field i below is = ap (λ fs. leaf_count (listed fs)) (rest_at fields field i below is) ∙ leaf_count-before field.name field.at field.descr (listed (drop (i + 1) fields))

pub push_record-push_field-requires : goal.push_record-push_field-requires
push_record-push_field-requires g t c κs lives =
    let one = weight-one c.args.fields.now c.loop-i.i c.index-fields-i.result c.loop-i-test.true c.index-fields-i.is in
    let here = left c.args.fields.now c.index-fields-i.result c.loop-i.i c.loop-i-test.true c.index-fields-i.is in
    (omega (arith, c.decreases, one), (lives, (omega (arith, here, c.loop-i.invariant.count, c.requires.leaves), (c.requires.few, c.requires.item))))

-- the text of the next field, and those after it
unread-more : (fields : List Field) (field : Field) (i leaf : ℕ) (texts leaves : List (List ℕ)) → i < length fields → field ≡ get_or fields i field → drop i texts ≡ field_texts (listed (drop i fields)) (drop leaf leaves) → drop i texts ≡ structure_text field.descr (drop leaf leaves) ∷ field_texts (listed (drop (i + 1) fields)) (drop (leaf + length (leaves_of field.descr)) leaves)
unread-more fields field i leaf texts leaves below is unread =
    unread
    ∙ ap (λ fs. field_texts (listed fs) (drop leaf leaves)) (rest_at fields field i below is)
    ∙ field_texts-before field.name field.at field.descr (listed (drop (i + 1) fields)) (drop leaf leaves)
    ∙ ap (λ later. structure_text field.descr (drop leaf leaves) ∷ field_texts (listed (drop (i + 1) fields)) later) (drop-drop (length (leaves_of field.descr)) leaf leaves)

parted : (texts later : List (List ℕ)) (i : ℕ) (text : List ℕ) → i < length texts → drop i texts ≡ text ∷ later → (get_or texts i [] ≡ text) × (drop (i + 1) texts ≡ later)
parted texts later i text below is =
    let all = sym (rest_at texts (get_or texts i []) i below (get_or_default texts i [] _ below)) ∙ is in
    (ap first_text all, ap (drop 1) all)

pub push_record-returns-in_err-push_byte-clause-text : goal.push_record-returns-in_err-push_byte-clause-text
push_record-returns-in_err-push_byte-clause-text g t c =
    let leaves = texts_at c.args.item.now.items.descr.now c.args.item.now.items.widths.now c.args.item.now.items.block.now c.args.item.now.offset in
    let texts = field_texts (listed c.args.fields.now) (drop c.args.k leaves) in
    record { ok = search rules; err = failed _ (cut texts _ _ c.args.out.now.text.items 0 (omega arith) c.in_err-push_byte.ensures.err); room = omega arith }

pub push_record-returns-in_err-push-clause-text : goal.push_record-returns-in_err-push-clause-text
push_record-returns-in_err-push-clause-text g t c =
    let leaves = texts_at c.args.item.now.items.descr.now c.args.item.now.items.widths.now c.args.item.now.items.block.now c.args.item.now.offset in
    let texts = field_texts (listed c.args.fields.now) (drop c.args.k leaves) in
    let field = c.index-fields-i.result in
    let below : c.loop-i.i < length texts = omega (arith, c.loop-i-test.true, length-field_texts c.args.fields.now (drop c.args.k leaves)) in
    let led = subst (λ t. SendsPart (g.W.Write.contents c.loop-i.writer) (g.W.Write.contents c.push.new.writer) (c.loop-i.out.text.items ++ t)) c.comma.ensures c.in_err-push.ensures.err in
    record { ok = search rules; err = failed _ (cut-before texts c.loop-i.i below c.loop-i.invariant.sent _ led); room = omega arith }

pub push_record-returns-in_err-leaf-clause-text : goal.push_record-returns-in_err-leaf-clause-text
push_record-returns-in_err-leaf-clause-text g t c =
    let leaves = texts_at c.args.item.now.items.descr.now c.args.item.now.items.widths.now c.args.item.now.items.block.now c.args.item.now.offset in
    let texts = field_texts (listed c.args.fields.now) (drop c.args.k leaves) in
    let field = c.index-fields-i.result in
    let below : c.loop-i.i < length texts = omega (arith, c.loop-i-test.true, length-field_texts c.args.fields.now (drop c.args.k leaves)) in
    let parts = parted texts _ c.loop-i.i _ below (unread-more c.args.fields.now field c.loop-i.i c.loop-i.leaf texts leaves c.loop-i-test.true c.index-fields-i.is c.loop-i.invariant.unread) in
    let led = held-same c.comma.ensures c.in_ok-push.ensures.ok in
    record { ok = search rules; err = failed _ (cut-within texts c.loop-i.i below c.loop-i.invariant.sent _ led parts.0 _ c.in_err-leaf.ensures.text.err); room = omega arith }

pub push_record-loop-i-preserved : goal.push_record-loop-i-preserved
push_record-loop-i-preserved g t c =
    let leaves = texts_at c.args.item.now.items.descr.now c.args.item.now.items.widths.now c.args.item.now.items.block.now c.args.item.now.offset in
    let texts = field_texts (listed c.args.fields.now) (drop c.args.k leaves) in
    let field = c.index-fields-i.result in
    let below : c.loop-i.i < length texts = omega (arith, c.loop-i-test.true, length-field_texts c.args.fields.now (drop c.args.k leaves)) in
    let here = left c.args.fields.now field c.loop-i.i c.loop-i-test.true c.index-fields-i.is in
    let parts = parted texts _ c.loop-i.i _ below (unread-more c.args.fields.now field c.loop-i.i c.loop-i.leaf texts leaves c.loop-i-test.true c.index-fields-i.is c.loop-i.invariant.unread) in
    let next = c.in_ok-leaf.ensures.next in
    let led = held-same c.comma.ensures c.in_ok-push.ensures.ok in
    record {
      sent = sent-more texts c.loop-i.i below c.loop-i.invariant.sent _ led parts.0 c.in_ok-leaf.ensures.text.ok;
      unread = parts.1 ∙ ap (λ n. field_texts (listed (drop (c.loop-i.i + 1) c.args.fields.now)) (drop n leaves)) (sym next);
      count = omega (arith, here, next, c.loop-i.invariant.count);
    }

pub push_record-returns-in_err-push_record_end-clause-text : goal.push_record-returns-in_err-push_record_end-clause-text
push_record-returns-in_err-push_record_end-clause-text g t c =
    let leaves = texts_at c.args.item.now.items.descr.now c.args.item.now.items.widths.now c.args.item.now.items.block.now c.args.item.now.offset in
    let texts = field_texts (listed c.args.fields.now) (drop c.args.k leaves) in
    let many = length-field_texts c.args.fields.now (drop c.args.k leaves) in
    let whole = whole-record texts c.loop-i.i (length c.args.fields.now) (omega (arith, many, c.loop-i-test.false, c.loop-i.auto.i-end)) (omega (arith, many)) in
    record {
      ok = search rules;
      err = failed _ (subst (λ t. SendsPart (g.W.Write.contents c.args.writer.now) (g.W.Write.contents c.push_record_end.new.writer) (c.args.out.now.text.items ++ t)) whole (part-after c.loop-i.invariant.sent _ _ c.in_err-push_record_end.ensures.err));
      room = omega arith;
    }

pub push_record-returns-clause-text : goal.push_record-returns-clause-text
push_record-returns-clause-text g t c =
    let leaves = texts_at c.args.item.now.items.descr.now c.args.item.now.items.widths.now c.args.item.now.items.block.now c.args.item.now.offset in
    let texts = field_texts (listed c.args.fields.now) (drop c.args.k leaves) in
    let many = length-field_texts c.args.fields.now (drop c.args.k leaves) in
    let whole = whole-record texts c.loop-i.i (length c.args.fields.now) (omega (arith, many, c.loop-i-test.false, c.loop-i.auto.i-end)) (omega (arith, many)) in
    record { ok = held-same whole (held-more c.loop-i.invariant.sent c.in_ok-push_record_end.ensures.ok); err = search rules; room = omega arith }
