-- What a turn reads is what the rule of the list reads there.
use Rattle.std.proofs.Common.{refl, inl, sym, ◌∙◌}
use Rattle.script_lang.proofs.Words.{err_from_is_err_and, literal_within}
use Rattle.script_lang.proofs.Shorter.{literal_within_shorter, comma_behind}
use Rattle.script_lang.proofs.Lists.{failed_entry, entries_closed, entries_no_entry, entries_last, entries_no_mark, entries_next}
use Rattle.script_lang.proofs.Records.{record_empty, record_read}
use Rattle.script_lang.proofs.grammar.literals.+nesting.Goals as goal

pub record-returns-then-is_empty : goal.record-returns-then-is_empty
record-returns-then-is_empty t c =
    inl (refl, record_empty (literal_within c.args.depth) _ _ _ c.in_ok-values.ensures (sym c.is_empty.ensures ∙ c.if-is_empty.true))

pub record-returns : goal.record-returns
record-returns t c = record_read (literal_within c.args.depth) _ _ _ c.in_ok-values.ensures (sym c.is_empty.ensures ∙ c.if-is_empty.false)

pub values-returns-in-Some : goal.values-returns-in-Some
values-returns-in-Some t c =
    entries_closed (literal_within c.args.depth) (literal_within_shorter c.args.depth) 41 _ _ _ c.loop-end.invariant _ c.in-Some.ensures

pub values-returns-in_err-entry : goal.values-returns-in_err-entry
values-returns-in_err-entry t c =
    let error = err_from_is_err_and c.from_residual.result c.from_residual.ensures.1 in
    rw (error.1, error.2) (failed_entry _ (literal_within c.args.depth c.loop-end.rest.now) _ c.in_err-entry.ensures (entries_no_entry (literal_within c.args.depth) (literal_within_shorter c.args.depth) 41 _ _ _ c.loop-end.invariant c.in_default.ensures))

pub values-returns-in-Some-symbol : goal.values-returns-in-Some-symbol
values-returns-in-Some-symbol t c =
    rw c.in_ok-push.ensures.ok (entries_last (literal_within c.args.depth) (literal_within_shorter c.args.depth) 41 _ _ _ c.loop-end.invariant _ _ _ c.in_default.ensures c.in_ok-entry.ensures c.in-Some-symbol.ensures)

pub values-returns-in_default-symbol-2 : goal.values-returns-in_default-symbol-2
values-returns-in_default-symbol-2 t c =
    inl (refl, entries_no_mark (literal_within c.args.depth) (literal_within_shorter c.args.depth) 41 _ _ _ c.loop-end.invariant _ _ c.in_default.ensures c.in_ok-entry.ensures c.in_default-symbol.ensures c.in_default-symbol-2.ensures)

pub values-loop-end-preserved : goal.values-loop-end-preserved
values-loop-end-preserved t c =
    rw c.in_ok-push.ensures.ok (entries_next (literal_within c.args.depth) (literal_within_shorter c.args.depth) 41 _ _ _ c.loop-end.invariant _ _ _ c.in_default.ensures c.in_ok-entry.ensures c.in_default-symbol.ensures c.in-Some-symbol-2.ensures)

pub values-loop-end-smaller : goal.values-loop-end-smaller
values-loop-end-smaller t c = comma_behind (literal_within c.args.depth) (literal_within_shorter c.args.depth) _ _ _ _ c.in_ok-entry.ensures c.in-Some-symbol-2.ensures
