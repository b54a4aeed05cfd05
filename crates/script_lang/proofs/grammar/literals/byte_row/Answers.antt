-- What a turn reads is what the rule of the row reads there.
use Rattle.std.proofs.Common.{refl, inl}
use Rattle.script_lang.proofs.Words.{byte_at, text_byte_at}
use Rattle.script_lang.proofs.Shorter.{text_byte_shorter, entry_behind}
use Rattle.script_lang.proofs.Lists.{row_ends, row_no_entry, row_next}
use Rattle.script_lang.proofs.grammar.literals.byte_row.Goals as goal

pub returns-in-Some : goal.returns-in-Some
returns-in-Some c = row_ends text_byte_at text_byte_shorter (byte_at 39) _ _ _ c.loop-end.invariant _ c.in-Some.ensures

pub returns-in_default-text_byte : goal.returns-in_default-text_byte
returns-in_default-text_byte c = inl (refl, row_no_entry text_byte_at text_byte_shorter (byte_at 39) _ _ _ c.loop-end.invariant c.in_default.ensures c.in_default-text_byte.ensures)

pub loop-end-preserved : goal.loop-end-preserved
loop-end-preserved c =
    rw c.in_ok-push.ensures.ok (row_next text_byte_at text_byte_shorter (byte_at 39) _ _ _ c.loop-end.invariant _ _ c.in_default.ensures c.in-Some-text_byte.ensures)

pub loop-end-smaller : goal.loop-end-smaller
loop-end-smaller c = entry_behind text_byte_at text_byte_shorter _ _ _ c.in-Some-text_byte.ensures
