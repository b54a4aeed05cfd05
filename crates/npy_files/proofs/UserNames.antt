-- What a user sees when a file is written under a hidden name, and then put in place.
use Rattle.std.proofs.Common.{◌≡◌, ◌≢◌, ℕ, List, Some, Result, IsTrue, IsErrOf, OnOk, inl, sym, ◌∙◌, subst}
use Rattle.npy_files.proofs.Words.{true≢false, get, Files, Same, SameBut, History, Leaves, Replaces, unmoved, weaker, is_user_name, hidden_name, OldOrNew, StoreFault, Memory}

-- no user's file has a hidden name
pub apart : (name other : List ℕ) → IsTrue (is_user_name other) → other ≢ hidden_name name
apart name other user same = let no : IsTrue (is_user_name (hidden_name name)) = subst (λ n. IsTrue (is_user_name n)) same user in absurd (true≢false (sym no))

pub old_or_new : (hidden name bytes : List ℕ) → hidden ≡ hidden_name name → (x y : Files) → Replaces hidden name (Some bytes) x y → OldOrNew name bytes x y
old_or_new hidden name bytes is x y replaced = record {
  others = λ other user far. replaced.others other (λ same. apart name other user (same ∙ is)) far;
  whole = λ user. replaced.whole;
}

-- What a write leaves on the disk: after `Ok` this name has these bytes, and if memory ran out it has what it had.
pub record IsPut (name bytes : List ℕ) (result : Result (Unit {0}) StoreFault) (old new : Files) : Type 0 where
  pub files : OldOrNew name bytes old new
  pub done : OnOk result (get new name ≡ Some bytes)
  pub memory : IsErrOf result Memory → get new name ≡ get old name

pub is_put : (hidden name bytes : List ℕ) (result : Result (Unit {0}) StoreFault) (old new : Files) → hidden ≡ hidden_name name → IsTrue (is_user_name name)
    → Replaces hidden name (Some bytes) old new → OnOk result (get new name ≡ Some bytes) → (IsErrOf result Memory → SameBut hidden old new) → IsPut name bytes result old new
is_put hidden name bytes result old new is user replaced done memory = record {
  files = old_or_new hidden name bytes is old new replaced;
  done = done;
  memory = λ failed. memory failed name (λ same. apart name name user (same ∙ is));
}

pub put_leaves : (hidden name bytes : List ℕ) (a b : History) → hidden ≡ hidden_name name → Leaves (Replaces hidden name (Some bytes)) a b → Leaves (OldOrNew name bytes) a b
put_leaves hidden name bytes a b is = weaker (Replaces hidden name (Some bytes)) (OldOrNew name bytes) a b (old_or_new hidden name bytes is)

-- without a call, nothing changes
pub nothing_leaves : (name bytes : List ℕ) (history : History) → Leaves (OldOrNew name bytes) history history
nothing_leaves name bytes history = weaker Same (OldOrNew name bytes) history history (λ x y same. record { others = λ other user far. same other; whole = λ user. inl (same name) }) (unmoved history)
