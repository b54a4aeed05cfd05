-- What a lookup returns for an array.
use Rattle.std.specs.Prelude.{◌≡◌, ◌≢◌, ◌<◌, ℕ, ◌*◌, map, length, Option, Some, None, IsTrue, All, ◌+◌, ◌≤◌}
use Rattle.std.proofs.Common.{slice_index}
use Rattle.name_store.specs.Words.{item_size, fields, offsets, max_bytes, items_in, item_from}
use Rattle.name_store.specs.States.{State, Array}
use Rattle.name_store.specs.Arrays.{buffer_of, descr_of, read}
use Rattle.name_store.specs.Parts.{start_at}
use Rattle.name_store.specs.Views.{IsViewIn}
use Rattle.name_store.specs.declared.bound.ArrayRef.{ArrayRef}

-- `r` shows an array of the state: it is a view of the array in its buffer, and the items of the array are read from
-- the buffer's block at the offsets of the view. If the array has fields, its path is short enough to append one. If it
-- is writable, its places are distinct.
pub record Shows (s : State) (array : Array) (r : ArrayRef) : Type 0 where
  pub view : IsViewIn s r.number r.path.now r.layout.now r.writable array
  pub descr : descr_of s array ≡ r.descr.now
  pub whole : length r.block.now ≡ length (buffer_of s array).items * item_size (buffer_of s array).descr
  pub some : 1 ≤ item_size (buffer_of s array).descr
  pub starts : start_at (buffer_of s array).descr array.path < item_size (buffer_of s array).descr
  pub small : length r.block.now ≤ max_bytes
  pub items : (buffer_of s array).items ≡ items_in (buffer_of s array).descr (length (buffer_of s array).items) r.block.now
  pub reads : read s array ≡ map (item_from r.descr.now r.block.now) (offsets r.layout.now)
  pub deeper : (k : ℕ) → k < length (fields r.descr.now) → length r.path.now < 4
  pub inside : All (λ offset. offset + item_size r.descr.now ≤ length r.block.now) (offsets r.layout.now)
  pub once : IsTrue array.writable → (j k : ℕ) → j < k → k < length array.places → slice_index array.places j ≢ slice_index array.places k

-- A lookup returns the array if there is one, and otherwise nothing.
abbrev pub Finds : State → Option Array → Option ArrayRef → Type 0
Finds s None None = Unit {0}
Finds s None (Some r) = ⊥
Finds s (Some array) None = ⊥
Finds s (Some array) (Some r) = Shows s array r
