-- What a store of files is, and what its calls return.
use Rattle.std.specs.Prelude.{◌≡◌, ◌≢◌, ◌⊎◌, ◌<◌, ◌≤◌, ℕ, Bool, true, false, List, length, Option, Some, None, IsSome, Result, Ok, Err}
use Rattle.npy_files.specs.Words.{nat_cmp, is_lt, slice_cmp, empty, get, insert, Files, SameBut, last_count}
use Rattle.npy_files.specs.declared.store.StoreFault.{StoreFault}
use Rattle.npy_files.specs.declared.store.StoreFault.TheVariants.{Device, TooLong, Memory}

-- A store: its files, how often its device has failed, the most bytes of a file, and whether it is honest. Of a store
-- that is not honest, nothing is known but its limit and its failures.
pub record StoreState : Type 0 where
  pub files : Files
  pub failures : ℕ
  pub limit : ℕ
  pub honest : Bool

-- an honest store without files, which has never failed
abbrev pub empty_shelf : ℕ → StoreState
empty_shelf limit = record { files = empty; failures = 0; limit = limit; honest = true }

-- no call changes the limit or the honesty, or forgets a failure
pub record IsSameStore (old new : StoreState) : Type 0 where
  pub honest : new.honest ≡ old.honest
  pub limit : new.limit ≡ old.limit
  pub failures : old.failures ≤ new.failures

-- the device has failed since: its count of failures has risen, or is at its greatest value
abbrev pub HasFailed : StoreState → StoreState → Type 0
HasFailed old new = (old.failures < new.failures) ⊎ (old.failures ≡ last_count)

-- if the result is a fault of the device, the device has failed
abbrev pub FaultHasCause : {X : Type 0} → StoreState → StoreState → Result X StoreFault → Type 0
FaultHasCause old new (Err Device) = HasFailed old new
FaultHasCause old new answer = Unit {0}

-- The result of reading a file, which may be missing: its bytes, as the view shows them, or the fault of a file that is
-- longer than the limit. Other faults may come at any time.
abbrev pub IsRead : {V : Type 0} → (V → List ℕ) → ℕ → Option (List ℕ) → Result (Option V) StoreFault → Type 0
IsRead view limit there (Ok None) = there ≡ None
IsRead view limit there (Ok (Some bytes)) = (there ≡ Some (view bytes)) × (length (view bytes) ≤ limit)
IsRead view limit there (Err TooLong) = (bytes : List ℕ) × (there ≡ Some bytes) × (limit < length bytes)
IsRead view limit there (Err Device) = Unit {0}
IsRead view limit there (Err Memory) = Unit {0}

-- a read of an honest store returns the file of this name, as the view shows it
abbrev pub ReadsFile : {V : Type 0} → (V → List ℕ) → StoreState → List ℕ → Result (Option V) StoreFault → Type 0
ReadsFile view store name result = store.honest ≡ true → IsRead view store.limit (get store.files name) result

-- What a write leaves in any store, honest or not: if the file is too long or memory runs out, nothing changes, and no
-- other name ever changes.
abbrev pub IsKept : {X : Type 0} → List ℕ → Result X StoreFault → Files → Files → Type 0
IsKept name (Ok _) old new = SameBut name old new
IsKept name (Err Device) old new = SameBut name old new
IsKept name (Err TooLong) old new = new ≡ old
IsKept name (Err Memory) old new = new ≡ old

-- The files after a write to an honest store. After `Ok`, the name has these bytes, and all else is as it was. If the
-- file is too long or memory runs out, nothing has changed. After a fault of the device, nothing is known about this
-- one name.
abbrev pub IsWritten : StoreState → List ℕ → List ℕ → Result (Unit {0}) StoreFault → Files → Type 0
IsWritten old name bytes (Ok _) files = (files ≡ insert old.files name bytes) × (length bytes ≤ old.limit)
IsWritten old name bytes (Err TooLong) files = (files ≡ old.files) × (old.limit < length bytes)
IsWritten old name bytes (Err Device) files = (other : List ℕ) → other ≢ name → get files other ≡ get old.files other
IsWritten old name bytes (Err Memory) files = files ≡ old.files

-- a write to an honest store leaves its files like this
abbrev pub WritesFile : StoreState → List ℕ → List ℕ → Result (Unit {0}) StoreFault → StoreState → Type 0
WritesFile old name bytes result new = old.honest ≡ true → IsWritten old name bytes result new.files

-- whether one name comes before another, in the order of their bytes
abbrev pub comes_before : List ℕ → List ℕ → Bool
comes_before name other = is_lt (slice_cmp nat_cmp name other)

-- Of the files' names that come after another one, this is the first.
pub record IsFirstAfter (files : Files) (after name : List ℕ) : Type 0 where
  pub there : IsSome (get files name)
  pub later : comes_before after name ≡ true
  pub first : (other : List ℕ) → IsSome (get files other) → comes_before after other ≡ true → comes_before other name ≡ false

-- the first of the files' names that come after this one, or none
abbrev pub IsNextName : Files → List ℕ → Option (List ℕ) → Type 0
IsNextName files after None = (name : List ℕ) → IsSome (get files name) → comes_before after name ≡ false
IsNextName files after (Some name) = IsFirstAfter files after name
