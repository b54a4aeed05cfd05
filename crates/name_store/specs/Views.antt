-- Views: layouts of the items of an array, in the block of its buffer.
use Rattle.std.specs.Prelude.{◌≡◌, ℕ, ◌*◌, true, Bool, List, length, is_some, IsTrue}
use Rattle.name_store.specs.Words.{get, Descr, item_size, Layout, offsets, Fits, IsNested, offsets_of}
use Rattle.name_store.specs.States.{State, Array}
use Rattle.name_store.specs.Arrays.{buffer_of}
use Rattle.name_store.specs.Parts.{descr_at, start_at, IsPathOf}
use Rattle.name_store.specs.declared.bound.Bound.{Bound}
use Rattle.name_store.specs.declared.bound.Bound.TheVariants.{Fresh, View}

-- The layout is that of an array in a buffer of n items of type `descr`: its items are the parts that the array's path
-- leads to, at the array's places. They lie within the n items and, if they may be written, do not overlap.
pub record IsLaidOut (descr : Descr) (n : ℕ) (array : Array) (layout : Layout) (writable : Bool) : Type 0 where
  pub part : IsPathOf descr array.path
  pub shape : layout.shape ≡ array.shape
  pub places : offsets layout ≡ offsets_of (item_size descr) (start_at descr array.path) array.places
  pub writable_is : writable ≡ array.writable
  pub fits : Fits layout (n * item_size descr) (item_size (descr_at descr array.path))
  pub nested : IsTrue writable → IsNested (offsets layout) (item_size (descr_at descr array.path))

-- the same for an array of the state, with this path, in buffer `number`, which exists
pub record IsViewIn (s : State) (number : ℕ) (path : List ℕ) (layout : Layout) (writable : Bool) (array : Array) : Type 0 where
  pub number_is : number ≡ array.buffer
  pub path_is : path ≡ array.path
  pub there : is_some (get s.buffers number) ≡ true
  pub laid : IsLaidOut (buffer_of s array).descr (length (buffer_of s array).items) array layout writable

-- A name can be bound to a new array, or to a view of an array in an existing buffer.
abbrev pub MayBind : State → Bound → Type 0
MayBind s (Fresh o) = Unit {0}
MayBind s (View number path layout writable) = (array : Array) × IsViewIn s number path layout writable array
