-- The files that a user sees in a folder.
use Rattle.std.proofs.Common.{◌≡◌, ◌≢◌, ◌≤◌, ⊎_elim, inl, inr, arith, length, ℕ, Bool, true, false, List, Option, Some, None, Ok, Err, Result, IsTrue, cond, refl, sym, ap, ◌∙◌, subst}
use Rattle.npy_files.proofs.Words.{nat_list_cmp_total, empty, get, insert, get-retain_keys, get-insert, same_map, true≢false, Files, SameBut, StoreFault, Device, TooLong, Memory, is_user_name, StoreState, IsRead, IsKept, IsWritten, user_files, folder_shelf, HasCause, FaultHasCause, last_count}
use Rattle.npy_files.proofs.StoreLaws.{exact, by_name, tied_same, ties}
use Rattle.npy_files.proofs.UserNames.{IsPut}

get-user_files : (files : Files) (name : List ℕ) → get (user_files files) name ≡ cond (is_user_name name) (get files name) None
get-user_files files name = get-retain_keys files is_user_name name (λ other same. ap is_user_name (sym (exact name other same)))

pub user_file : (files : Files) (name : List ℕ) → IsTrue (is_user_name name) → get (user_files files) name ≡ get files name
user_file files name user = get-user_files files name ∙ ap (λ b. cond b (get files name) None) user

pub no_user_file : (files : Files) (name : List ℕ) → is_user_name name ≡ false → get (user_files files) name ≡ None
no_user_file files name other = get-user_files files name ∙ ap (λ b. cond b (get files name) None) other

pub user_reads : {V : Type 0} (view : V → List ℕ) (files : Files) (name : List ℕ) (limit : ℕ) (result : Result (Option V) StoreFault) → IsTrue (is_user_name name)
    → IsRead view limit (get files name) result → IsRead view limit (get (user_files files) name) result
user_reads view files name limit result user read = subst (λ there. IsRead view limit there result) (sym (user_file files name user)) read

-- a name that does not change on the disk does not change for the user
kept : (old new : Files) (name : List ℕ) → (IsTrue (is_user_name name) → get new name ≡ get old name) → get (user_files new) name ≡ get (user_files old) name
kept old new name same =
    elim (is_user_name name) as (λ b. is_user_name name ≡ b → get (user_files new) name ≡ get (user_files old) name) [
      | true ↦ λ user. user_file new name user ∙ same user ∙ sym (user_file old name user)
      | false ↦ λ no. no_user_file new name no ∙ sym (no_user_file old name no)
    ] refl

replaced : (name bytes : List ℕ) (old new : Files) → IsTrue (is_user_name name) → IsPut name bytes (Ok tt) old new → user_files new ≡ insert (user_files old) name bytes
replaced name bytes old new user put =
    same_map nat_list_cmp_total exact _ _ (λ other.
    at other ∙ sym (get-insert nat_list_cmp_total (user_files old) name bytes other))
  where
    at : (other : List ℕ) → get (user_files new) other ≡ cond (by_name other name) (Some bytes) (get (user_files old) other)
    at other =
        elim (by_name other name) as (λ b. by_name other name ≡ b → get (user_files new) other ≡ cond b (Some bytes) (get (user_files old) other)) [
          | true ↦ λ is. ap (get (user_files new)) (tied_same other name is) ∙ user_file new name user ∙ put.done
          | false ↦ λ no. kept old new other (λ seen. put.files.others other seen (λ same. true≢false (sym (ties other name same) ∙ no)))
        ] refl

-- the store of a folder whose disk is honest
abbrev pub plain_shelf : Files → ℕ → ℕ → Bool → StoreState
plain_shelf files faults limit honest = record { files = user_files files; failures = faults; limit = limit; honest = honest }

failed : (name bytes : List ℕ) (old new : Files) (faults limit : ℕ) (honest : Bool) (fault : StoreFault) → IsTrue (is_user_name name)
    → (fault ≡ TooLong → ⊥) → IsPut name bytes (Err fault) old new → IsWritten (plain_shelf old faults limit honest) name bytes (Err fault) (user_files new)
failed name bytes old new faults limit honest Device user short put = λ other far. kept old new other (λ seen. put.files.others other seen far)
failed name bytes old new faults limit honest TooLong user short put = absurd (short refl)
failed name bytes old new faults limit honest Memory user short put = same_map nat_list_cmp_total exact _ _ (λ other. kept old new other (λ seen.
    elim (by_name other name) as (λ b. by_name other name ≡ b → get new other ≡ get old other) [
      | true ↦ λ is. let same = tied_same other name is in ap (get new) same ∙ put.memory refl ∙ ap (get old) (sym same)
      | false ↦ λ no. put.files.others other seen (λ same. true≢false (sym (ties other name same) ∙ no))
    ] refl))

pub user_writes : (name bytes : List ℕ) (old new : Files) (faults limit : ℕ) (honest : Bool) (result : Result (Unit {0}) StoreFault) → IsTrue (is_user_name name)
    → (result ≡ Err TooLong → ⊥) → length bytes ≤ limit → IsPut name bytes result old new → IsWritten (plain_shelf old faults limit honest) name bytes result (user_files new)
user_writes name bytes old new faults limit honest (Ok done) user short within put = (replaced name bytes old new user put, within)
user_writes name bytes old new faults limit honest (Err fault) user short within put = failed name bytes old new faults limit honest fault user (λ is. short (ap Err is)) put

-- a write to the files of an honest disk is a write to the store
pub told_written : (honest : Bool) (old new : Files) (faults limit : ℕ) (name bytes : List ℕ) (result : Result (Unit {0}) StoreFault) → honest ≡ true
    → IsWritten (plain_shelf old faults limit honest) name bytes result (user_files new) → IsWritten (folder_shelf old faults limit honest) name bytes result (cond honest (user_files new) empty)
told_written true old new faults limit name bytes result honest written = written
told_written false old new faults limit name bytes result honest written = absurd (true≢false (sym honest))

pub told_read : {V : Type 0} (view : V → List ℕ) (honest : Bool) (files : Files) (name : List ℕ) (limit : ℕ) (result : Result (Option V) StoreFault) → honest ≡ true
    → IsRead view limit (get (user_files files) name) result → IsRead view limit (get (cond honest (user_files files) empty) name) result
told_read view true files name limit result honest read = read
told_read view false files name limit result honest read = absurd (true≢false (sym honest))

-- files that do not change
pub told_same : (honest : Bool) (old new : Files) → (IsTrue honest → new ≡ old) → cond honest (user_files new) empty ≡ cond honest (user_files old) empty
told_same true old new same = ap user_files (same refl)
told_same false old new same = refl

-- a write to one name leaves all other names as they were
insert-others : (files : Files) (name bytes other : List ℕ) → other ≢ name → get (insert files name bytes) other ≡ get files other
insert-others files name bytes other far =
    get-insert nat_list_cmp_total files name bytes other
    ∙ (elim (by_name other name) as (λ b. by_name other name ≡ b → cond b (Some bytes) (get files other) ≡ get files other) [
      | true ↦ λ is. absurd (far (tied_same other name is))
      | false ↦ λ no. refl
    ] refl)

-- files with one more, or with other bytes in one
pub insert-kept : (files : Files) (name bytes : List ℕ) (new : Files) → new ≡ insert files name bytes → SameBut name files new
insert-kept files name bytes new is = λ other far. ap (λ f. get f other) is ∙ insert-others files name bytes other far

written-kept : (shelf : StoreState) (name bytes : List ℕ) (result : Result (Unit {0}) StoreFault) (files : Files) → IsWritten shelf name bytes result files → IsKept name result shelf.files files
written-kept shelf name bytes (Ok done) files written = insert-kept shelf.files name bytes files written.0
written-kept shelf name bytes (Err Device) files written = written
written-kept shelf name bytes (Err TooLong) files written = written.0
written-kept shelf name bytes (Err Memory) files written = written

-- if nothing is known about the files, nothing changes
nothing-kept : (name : List ℕ) (result : Result (Unit {0}) StoreFault) → IsKept {X = Unit {0}} name result empty empty
nothing-kept name (Ok done) = λ other far. refl
nothing-kept name (Err Device) = λ other far. refl
nothing-kept name (Err TooLong) = refl
nothing-kept name (Err Memory) = refl

pub told_kept : (honest : Bool) (old new : Files) (faults limit : ℕ) (name bytes : List ℕ) (result : Result (Unit {0}) StoreFault)
    → (IsTrue honest → IsWritten (plain_shelf old faults limit honest) name bytes result (user_files new)) → IsKept name result (cond honest (user_files old) empty) (cond honest (user_files new) empty)
told_kept true old new faults limit name bytes result written = written-kept (plain_shelf old faults limit true) name bytes result (user_files new) (written refl)
told_kept false old new faults limit name bytes result written = nothing-kept name result

-- a fault of the device that was counted
pub counted : {X : Type 0} (old new : StoreState) (answer : Result X StoreFault) → old.failures ≤ last_count → HasCause Device old.failures new.failures answer → FaultHasCause old new answer
counted old new (Ok x) low cause = tt
counted old new (Err Device) low cause = ⊎_elim inl (λ most. inr (omega (arith, low, most))) (cause.told refl)
counted old new (Err TooLong) low cause = tt
counted old new (Err Memory) low cause = tt
