use Rattle.std.proofs.Common.{◌≡◌, ◌≤◌, ◌<◌, ℕ, is_some, true}
use Rattle.name_store.proofs.Words.{slot_at}
use Rattle.name_store.proofs.slots.first_free.Given as goal

-- each slot that was passed is occupied
abbrev pub invariant-loop-number : goal.invariant-loop-number
invariant-loop-number l = (number : ℕ) → l.from ≤ number → number < l.number → is_some (slot_at l.cells number) ≡ true
