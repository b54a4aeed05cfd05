use Rattle.std.proofs.Common.{◌≡◌, ◌∙◌, ⊎_elim, inl, inr, ap, refl, sym, true, false, Ok, arith, rules}
use Rattle.npy_format.proofs.Words.{err_from_is_err_and, RecordDescr, is_legal_name, ◌>>=◌, is_empty, Partial, tokens, symbol_token_at, type_in, field_in, record_in, value_in}
use Rattle.npy_format.proofs.GrammarLaws.{literal_leaves}
use Rattle.npy_format.proofs.PlaceLaws.{front_of}
use Rattle.npy_format.proofs.StandLaws.{symbol_open, symbol_closed, string_stands, list_stands, no_type, pad_is}
use Rattle.npy_format.proofs.HeaderLaws.{entry_shorter, or_refused}
use Rattle.npy_format.proofs.RecordListLaws.{fields_begin, fields_closed, fields_read, fields_next, fields_refused, gives_same, gives_answer, gives_value, list_type, parts_in, entry_means, entry_pad, entry_field, field_added}
use Rattle.npy_format.proofs.record_list.+record.Goals as goal

pub add_entry-returns-in_default-clause-gives : goal.add_entry-returns-in_default-clause-gives
add_entry-returns-in_default-clause-gives t c = λ v s. inr (entry_means (record_in c.args.builder.now.levels) c.args.builder.now v ∙ ap (parts_in (record_in c.args.builder.now.levels) c.args.builder.now) (c.in_default.ensures v s))

pub add_entry-returns-then-is_empty-clause-gives : goal.add_entry-returns-then-is_empty-clause-gives
add_entry-returns-then-is_empty-clause-gives t c = λ v s.
    let parts = c.in-Some.ensures v s in
    let none : is_empty c.in-Some.name.now ≡ true = search rules in
    gives_answer _ _ _ _ (entry_pad (record_in c.args.builder.now.levels) c.args.builder.now v c.in-Some.name.now parts.0 parts.1 none ∙ sym (pad_is c.args.builder.now (front_of (tokens c.in-Some.kind.now) parts.0 parts.2))) c.add_pad.ensures.answers

pub add_entry-returns-clause-gives : goal.add_entry-returns-clause-gives
add_entry-returns-clause-gives t c = λ v s.
    let parts = c.in-Some.ensures v s in
    let some : is_empty c.in-Some.name.now ≡ false = search rules in
    gives_same _ _ _ _ (entry_field (record_in c.args.builder.now.levels) c.args.builder.now v c.in-Some.name.now parts.0 parts.1 some) (c.add_field.ensures.gives parts.0 parts.2)

pub add_field-returns-then-not-is_legal_name-clause-gives : goal.add_field-returns-then-not-is_legal_name-clause-gives
unfolding field_in
add_field-returns-then-not-is_legal_name-clause-gives t c = λ v s.
    let no_name : is_legal_name c.args.name.now ≡ false = search rules in
    inr (rw no_name refl)

pub add_field-returns-in_err-descr-clause-gives : goal.add_field-returns-in_err-descr-clause-gives
unfolding field_in
add_field-returns-in_err-descr-clause-gives t c = λ v s.
    let legal : is_legal_name c.args.name.now ≡ true = search rules in
    let p = err_from_is_err_and c.from_residual.result c.from_residual.ensures.1 in
    let refused = rw (c.levels.ensures.value, c.leaves.ensures.value) at (c.in_err-descr.ensures.gives v s) in
    rw (p.1, p.2, legal) (or_refused _ (type_in (record_in c.args.builder.now.levels c.args.builder.now.leaves) v) _ refused)

pub add_field-returns-in_err-check_name-clause-gives : goal.add_field-returns-in_err-check_name-clause-gives
unfolding field_in
add_field-returns-in_err-check_name-clause-gives t c = λ v s.
    let legal : is_legal_name c.args.name.now ≡ true = search rules in
    let p = err_from_is_err_and c.from_residual-in_err-check_name.result c.from_residual-in_err-check_name.ensures.1 in
    let means = rw (c.levels.ensures.value, c.leaves.ensures.value) at (c.in_ok-descr.ensures.gives v s) in
    rw (p.1, p.2) (inr (rw (legal, means, c.in_err-check_name.ensures.answers) refl))

pub add_field-returns-clause-gives : goal.add_field-returns-clause-gives
add_field-returns-clause-gives t c = λ v s.
    let legal : is_legal_name c.args.name.now ≡ true = search rules in
    let means = rw (c.levels.ensures.value, c.leaves.ensures.value) at (c.in_ok-descr.ensures.gives v s) in
    let added = rw c.in_ok-name.ensures at c.add.ensures.gives in
    gives_same _ _ _ _ (field_added (record_in c.args.builder.now.levels) c.args.builder.now c.args.name.now v c.in_ok-descr.descr legal means c.in_ok-check_name.ensures.answers) added

pub field_type-returns-in-Some-clause-gives : goal.field_type-returns-in-Some-clause-gives
field_type-returns-in-Some-clause-gives t c = λ v s. gives_value _ _ (ap (type_in (record_in c.args.levels c.args.leaves)) (string_stands (c.in-Some.kind.now, tokens c.in-Some.field-0-1.now) c.in-Some.ensures (front_of (tokens c.args.kind.now) v s)) ∙ sym c.scalar.ensures.value)

pub field_type-returns-in_default-symbol-clause-gives : goal.field_type-returns-in_default-symbol-clause-gives
field_type-returns-in_default-symbol-clause-gives t c = λ v s. inr ((no_type c.in_default.ensures c.in_default-symbol.ensures (front_of (tokens c.args.kind.now) v s)).0 (record_in c.args.levels c.args.leaves))

pub field_type-returns-in_err-whole-clause-gives : goal.field_type-returns-in_err-whole-clause-gives
field_type-returns-in_err-whole-clause-gives t c = λ v s.
    let row = list_stands (tokens c.in-Some-symbol.entries.now) c.in-Some-symbol.ensures (front_of (tokens c.args.kind.now) v s) in
    let p = err_from_is_err_and c.from_residual.result c.from_residual.ensures.1 in
    rw (p.1, p.2) (⊎_elim inl (λ e. inr (list_type (record_in c.args.levels c.args.leaves) v row.0 row.1 ∙ ap (λ r. r >>= λ whole. Ok (RecordDescr whole)) e)) (c.in_err-whole.ensures.gives row.0 row.2))

pub field_type-returns-clause-gives : goal.field_type-returns-clause-gives
field_type-returns-clause-gives t c = λ v s.
    let row = list_stands (tokens c.in-Some-symbol.entries.now) c.in-Some-symbol.ensures (front_of (tokens c.args.kind.now) v s) in
    list_type (record_in c.args.levels c.args.leaves) v row.0 row.1 ∙ ap (λ r. r >>= λ whole. Ok (RecordDescr whole)) (c.in_ok-whole.ensures.gives row.0 row.2)

pub record-returns-then-levels-eq0-clause-gives : goal.record-returns-then-levels-eq0-clause-gives
unfolding record_in
record-returns-then-levels-eq0-clause-gives t c = λ values s. inr (rw c.if-levels-eq0.true refl)

pub record-loop-rest-init : goal.record-loop-rest-init
record-loop-rest-init t c =
    let levels = ap (λ (p : Partial). p.levels) c.new-builder.ensures in
    record {
      read = λ values s. rw c.new-builder.ensures (fields_begin c.args.levels c.args.leaves values (tokens c.args.entries.now) (omega arith) s);
      levels = omega (arith, levels, c.if-levels-eq0.false);
    }

pub record-returns-in_err-add_entry-clause-gives : goal.record-returns-in_err-add_entry-clause-gives
record-returns-in_err-add_entry-clause-gives t c = λ values s.
    let p = err_from_is_err_and c.from_residual.result c.from_residual.ensures.1 in
    rw (p.1, p.2) (fields_refused c.args.levels c.args.leaves values c.loop-rest.builder (tokens c.loop-rest.rest.now) (c.loop-rest.invariant.read values s) (symbol_open c.symbol.result (symbol_token_at 93 (tokens c.loop-rest.rest.now)) c.loop-rest-test.ensures c.symbol.ensures) c.loop-rest.invariant.levels _ c.in_err-add_entry.ensures.gives)

pub record-returns-in_err-rest-clause-gives : goal.record-returns-in_err-rest-clause-gives
record-returns-in_err-rest-clause-gives t c = λ values s. absurd (fields_read c.args.levels c.args.leaves values c.loop-rest.builder (tokens c.loop-rest.rest.now) (c.loop-rest.invariant.read values s) (symbol_open c.symbol.result (symbol_token_at 93 (tokens c.loop-rest.rest.now)) c.loop-rest-test.ensures c.symbol.ensures) _ c.in_err-rest.ensures)

pub record-loop-rest-smaller : goal.record-loop-rest-smaller
record-loop-rest-smaller t c = entry_shorter value_in (tokens c.loop-rest.rest.now) (tokens c.in_ok-rest.rest.now) (literal_leaves 15) c.in_ok-rest.ensures

pub record-loop-rest-preserved : goal.record-loop-rest-preserved
record-loop-rest-preserved t c = record {
  read = λ values s. fields_next c.args.levels c.args.leaves values c.loop-rest.builder (tokens c.loop-rest.rest.now) (c.loop-rest.invariant.read values s) (symbol_open c.symbol.result (symbol_token_at 93 (tokens c.loop-rest.rest.now)) c.loop-rest-test.ensures c.symbol.ensures) c.loop-rest.invariant.levels _ c.in_ok-add_entry.ensures.gives (tokens c.in_ok-rest.rest.now) c.in_ok-rest.ensures;
  levels = omega (arith, c.loop-rest.invariant.levels, c.add_entry.ensures.levels);
}

pub record-returns-clause-gives : goal.record-returns-clause-gives
record-returns-clause-gives t c = λ values s.
    let end = symbol_closed c.symbol.result (symbol_token_at 93 (tokens c.loop-rest.rest.now)) c.loop-rest-test.ensures c.symbol.ensures in
    gives_same _ _ _ _ (fields_closed c.args.levels c.args.leaves values c.loop-rest.builder (tokens c.loop-rest.rest.now) (c.loop-rest.invariant.read values s) end.0 end.1) c.close.ensures.gives
