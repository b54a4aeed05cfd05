-- What a turn reads is what the rule of the list reads there.
use Rattle.std.proofs.Common.{refl, inl}
use Rattle.script_lang.proofs.Shorter.{comma_behind}
use Rattle.script_lang.proofs.Lists.{entries_closed, entries_no_entry, entries_last, entries_no_mark, entries_next}
use Rattle.script_lang.proofs.grammar.numbers.shape.Goals as goal

pub returns-in-Some : goal.returns-in-Some
returns-in-Some g c = entries_closed g.T.Entry.entry_at c.requires 41 _ _ _ c.loop-end.invariant _ c.in-Some.ensures

pub returns-in_default-next : goal.returns-in_default-next
returns-in_default-next g c = inl (refl, entries_no_entry g.T.Entry.entry_at c.requires 41 _ _ _ c.loop-end.invariant c.in_default.ensures c.in_default-next.ensures)

pub returns-in-Some-symbol : goal.returns-in-Some-symbol
returns-in-Some-symbol g c =
    rw c.in_ok-push.ensures.ok (entries_last g.T.Entry.entry_at c.requires 41 _ _ _ c.loop-end.invariant _ _ _ c.in_default.ensures c.in-Some-next.ensures c.in-Some-symbol.ensures)

pub returns-in_default-symbol-2 : goal.returns-in_default-symbol-2
returns-in_default-symbol-2 g c =
    inl (refl, entries_no_mark g.T.Entry.entry_at c.requires 41 _ _ _ c.loop-end.invariant _ _ c.in_default.ensures c.in-Some-next.ensures c.in_default-symbol.ensures c.in_default-symbol-2.ensures)

pub loop-end-preserved : goal.loop-end-preserved
loop-end-preserved g c =
    rw c.in_ok-push.ensures.ok (entries_next g.T.Entry.entry_at c.requires 41 _ _ _ c.loop-end.invariant _ _ _ c.in_default.ensures c.in-Some-next.ensures c.in_default-symbol.ensures c.in-Some-symbol-2.ensures)

pub loop-end-smaller : goal.loop-end-smaller
loop-end-smaller g c = comma_behind g.T.Entry.entry_at c.requires _ _ _ _ c.in-Some-next.ensures c.in-Some-symbol-2.ensures
