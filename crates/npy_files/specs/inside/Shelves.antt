-- The files of the stores in memory.
use Rattle.std.specs.Prelude.{◌≡◌, ◌<◌, ℕ, zero, suc, Bool, true, false, List, map, slice_get, Option, Some, None, Result, Ok, Err}
use Rattle.npy_files.specs.Words.{from_entries, bytes_eq, Files}
use Rattle.npy_files.specs.declared.mem_store.StoredFile.{StoredFile}
use Rattle.npy_files.specs.declared.store.StoreFault.{StoreFault}
use Rattle.npy_files.specs.declared.store.StoreFault.TheVariants.{Device}
use Rattle.npy_files.specs.Stores.{StoreState, comes_before}

abbrev pub named_bytes : StoredFile → List ℕ × List ℕ
named_bytes file = (file.name.items, file.bytes.items)

-- whether the file has this name
abbrev pub is_called : List ℕ → StoredFile → Bool
is_called name file = bytes_eq name file.name.items

-- the files of a list, by their names
abbrev pub files_of : List StoredFile → Files
files_of files = from_entries (map named_bytes files)

-- the store with these files in memory, whose device fails only if it is made to fail
abbrev pub shelf_of : List StoredFile → ℕ → ℕ → StoreState
shelf_of files limit failures = record { files = files_of files; failures = failures; limit = limit; honest = true }

-- the file at this place of a list has this name
abbrev pub IsNamed : List StoredFile → ℕ → List ℕ → Type 0
IsNamed files place name = (file : StoredFile) × (slice_get files place ≡ Some file) × (file.name.items ≡ name)

-- Of the first `count` files of a list, the file at this place has the first name after another one; or none has one.
abbrev pub IsFirstOf : List StoredFile → List ℕ → ℕ → Option ℕ → Type 0
IsFirstOf files after count None = (place : ℕ) (name : List ℕ) → place < count → IsNamed files place name → comes_before after name ≡ false
IsFirstOf files after count (Some best) =
    (name : List ℕ) × IsNamed files best name × (comes_before after name ≡ true)
    × ((place : ℕ) (other : List ℕ) → place < count → IsNamed files place other → comes_before after other ≡ true → comes_before other name ≡ false)

-- how often a device has failed that fails once, after this number of calls. `None` means that it has failed.
abbrev pub failures_of : Option ℕ → ℕ
failures_of (Some calls) = 0
failures_of None = 1

-- the answer of such a device to a call, and the calls that are left then
abbrev pub answer_by : Option ℕ → Result (Unit {0}) StoreFault
answer_by None = Ok tt
answer_by (Some zero) = Err Device
answer_by (Some (suc calls)) = Ok tt

abbrev pub calls_after : Option ℕ → Option ℕ
calls_after None = None
calls_after (Some zero) = None
calls_after (Some (suc calls)) = Some calls
