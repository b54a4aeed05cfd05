-- A folder on a disk, as a store of files.
use Rattle.std.specs.Prelude.{◌≡◌, ◌≢◌, ◌⊎◌, ℕ, Bool, List, Some, IsTrue, cond}
use Rattle.npy_files.specs.Words.{empty, get, retain_keys, Files, DiskFault}
use Rattle.disk.specs.declared.disk.DiskFault.TheVariants as disk_fault
use Rattle.npy_files.specs.declared.store.StoreFault.{StoreFault}
use Rattle.npy_files.specs.declared.store.StoreFault.TheVariants as store_fault
use Rattle.npy_files.specs.Names.{is_user_name}
use Rattle.npy_files.specs.Stores.{StoreState}

-- the files that the store has: those of the disk with a user's name
abbrev pub user_files : Files → Files
user_files files = retain_keys files is_user_name

-- the store of a folder whose disk has these files. If the disk is not honest, nothing is known about its files.
abbrev pub folder_shelf : Files → ℕ → ℕ → Bool → StoreState
folder_shelf files faults limit honest = record { files = cond honest (user_files files) empty; failures = faults; limit = limit; honest = honest }

-- Each other name of a user has what it had. This name has what it had or these bytes, whole.
pub record OldOrNew (name bytes : List ℕ) (old new : Files) : Type 0 where
  pub others : (other : List ℕ) → IsTrue (is_user_name other) → other ≢ name → get new other ≡ get old other
  pub whole : IsTrue (is_user_name name) → (get new name ≡ get old name) ⊎ (get new name ≡ Some bytes)

-- the store's fault for a fault of its disk
abbrev pub fault_of : DiskFault → StoreFault
fault_of disk_fault.Failed = store_fault.Device
fault_of disk_fault.Memory = store_fault.Memory
