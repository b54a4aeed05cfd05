-- A disk with a cache: what a read finds, and what a crash may leave.
use Rattle.std.specs.Prelude.{◌≡◌, ◌⊎◌, ◌-◌, ◌||◌, ℕ, Bool, true, IsTrue, suc, List, [], ◌∷◌, length, drop, Option, None, MatchBool}
use Rattle.std.proofs.Common.{cond}
use Rattle.disk_tests.specs.Words.{bytes_eq, empty, get}
use Rattle.disk_tests.specs.declared.cached.Event.{Event}
use Rattle.disk_tests.specs.declared.cached.Event.TheVariants.{Changed, FileSynced, NamesSynced, Restarted}
use Rattle.disk_tests.specs.declared.cached.MemFile.{MemFile}
use Rattle.disk.specs.Files.{Files}
use Rattle.disk.specs.Crashes.{History, DiskState}
use Rattle.disk_tests.specs.Changes.{bytes_of_change, bound}

-- the files as a read finds them, after these events. The newest event comes first.
abbrev pub found : List Event → Files
found [] = empty
found (Changed name bytes is_whole ∷ older) = bound name.items (bytes_of_change bytes) (found older)
found (FileSynced name ∷ older) = found older
found (NamesSynced ∷ older) = found older
found (Restarted ∷ older) = found older

-- Whether the bytes of the file with this name are on the disk. The name itself may not be.
abbrev pub is_synced : List Event → List ℕ → Bool
is_synced [] name = true
is_synced (Changed other bytes is_whole ∷ older) name = cond (bytes_eq name other.items) is_whole (is_synced older name)
is_synced (FileSynced other ∷ older) name = bytes_eq name other.items || is_synced older name
is_synced (NamesSynced ∷ older) name = is_synced older name
is_synced (Restarted ∷ older) name = true

-- how often the file with this name was changed: made, written, renamed or removed
abbrev pub change_count : List Event → List ℕ → ℕ
change_count [] name = 0
change_count (Changed other bytes is_whole ∷ older) name =
    let before = change_count older name in cond (bytes_eq name other.items) (suc before) before
change_count (FileSynced other ∷ older) name = change_count older name
change_count (NamesSynced ∷ older) name = change_count older name
change_count (Restarted ∷ older) name = change_count older name

-- What a crash may leave under a name. After a whole change: what the change brought, or what might have been left
-- before it. After a change that is not whole: anything. Once the names are synced, a file whose bytes were synced
-- before that is left as a read found it. After a restart, so is every file.
abbrev pub MayStand : List Event → List ℕ → Option (List ℕ) → Type 0
MayStand [] name left = left ≡ None
MayStand (Changed other bytes is_whole ∷ older) name left = MatchBool (bytes_eq name other.items) (MatchBool is_whole (MayStand older name left ⊎ (left ≡ bytes_of_change bytes)) (Unit {0})) (MayStand older name left)
MayStand (FileSynced other ∷ older) name left = MayStand older name left
MayStand (NamesSynced ∷ older) name left = MatchBool (is_synced older name) (left ≡ get (found older) name) (MayStand older name left)
MayStand (Restarted ∷ older) name left = left ≡ get (found older) name

-- the files that a crash may leave
abbrev pub MayStay : List Event → Files → Type 0
MayStay events left = (name : List ℕ) → MayStand events name (get left name)

abbrev pub cached_history : List Event → History
cached_history events = record { now = length events; at = λ t files. MayStay (drop (length events - t) events) files }

-- The disk after these events. An open file is current if nothing but itself has changed its name since it was opened.
abbrev pub cached_state : List Event → DiskState MemFile
cached_state events = record {
  files = found events;
  history = cached_history events;
  Synced = λ name. IsTrue (is_synced events name);
  IsCurrent = λ file. file.changes ≡ change_count events file.name.items;
}

abbrev pub file_name : MemFile → List ℕ
file_name file = file.name.items
