use Rattle.std.proofs.Common.{◌≡◌, ◌≤◌, ◌+◌, drop, false}
use Rattle.script_lang.proofs.Words.{option_map, record_len}
use Rattle.script_lang.proofs.grammar.descriptors.record_len.Given as goal

-- the bytes so far are counted, and each of them opens at most one brace
abbrev pub invariant-loop-i : goal.invariant-loop-i
invariant-loop-i l = record {
  counted : record_len false 1 l.bytes ≡ option_map (λ n. n + l.i) (record_len l.is_named l.depth (drop l.i l.bytes));
  few : l.depth ≤ l.i + 1;
}
