-- What a turn reads is what the rule of the row reads there.
use Rattle.script_lang.proofs.Words.{literal_at, line_end_at, err_from_is_err_and}
use Rattle.script_lang.proofs.Shorter.{literal_shorter, entry_behind}
use Rattle.script_lang.proofs.Lists.{row_ends, row_no_entry, row_next, ends_here, goes_on_here, failed_entry}
use Rattle.script_lang.proofs.grammar.literals.literals.Goals as goal

pub returns-then-is_at_end : goal.returns-then-is_at_end
returns-then-is_at_end c = row_ends literal_at literal_shorter line_end_at _ _ _ c.loop-alloc.invariant _ (ends_here c.loop-alloc.rest.now c.is_at_end.result c.is_at_end.ensures c.if-is_at_end.true)

pub returns-in_err-entry : goal.returns-in_err-entry
returns-in_err-entry c =
    let error = err_from_is_err_and c.from_residual.result c.from_residual.ensures.1 in
    rw (error.1, error.2) (failed_entry _ (literal_at c.loop-alloc.rest.now) _ c.in_err-entry.ensures (row_no_entry literal_at literal_shorter line_end_at _ _ _ c.loop-alloc.invariant (goes_on_here c.loop-alloc.rest.now c.is_at_end.result c.is_at_end.ensures c.if-is_at_end.false)))

pub loop-alloc-preserved : goal.loop-alloc-preserved
loop-alloc-preserved c =
    rw c.in_ok-push.ensures.ok (row_next literal_at literal_shorter line_end_at _ _ _ c.loop-alloc.invariant _ _ (goes_on_here c.loop-alloc.rest.now c.is_at_end.result c.is_at_end.ensures c.if-is_at_end.false) c.in_ok-entry.ensures)

pub loop-alloc-smaller : goal.loop-alloc-smaller
loop-alloc-smaller c = entry_behind literal_at literal_shorter _ _ _ c.in_ok-entry.ensures
