-- The places of an array that are written, and the items that are written to them.
use Rattle.std.specs.Prelude.{◌≡◌, ◌≤◌, ◌*◌, ℕ, true, false, List, length, map, replicate, Some, All}
use Rattle.name_store.specs.Words.{Contains, Descr, item_size, decode_item, AreAlike, item_from, LeafValue, Layout, offsets, Fits, IsNested, max_bytes, Owned}
use Rattle.name_store.specs.States.{State, Array}
use Rattle.name_store.specs.Arrays.{find_array, buffer_of, descr_of, addresses, read}
use Rattle.name_store.specs.Views.{IsViewIn}
use Rattle.name_store.specs.declared.target.Source.{Source}
use Rattle.name_store.specs.declared.target.Source.TheVariants.{One, Block, Buffer}
use Rattle.name_store.specs.declared.target.Target.{Target}
use Rattle.name_store.specs.declared.target.Target.TheVariants.{View, Plan}

-- Targets

-- the offsets of the target's items in bytes from the start of the buffer, in the order in which they are written
abbrev pub target_offsets : Target → List ℕ
target_offsets (View layout) = offsets layout
target_offsets (Plan plan) = plan.offsets

abbrev pub target_shape : Target → List ℕ
target_shape (View layout) = layout.shape
target_shape (Plan plan) = plan.shape

-- the items of the layout, which have the size of the array's items, lie in the array's buffer
abbrev pub FitsBuffer : State → Array → Layout → Type 0
FitsBuffer s array layout = Fits layout (length (buffer_of s array).items * item_size (buffer_of s array).descr) (item_size (descr_of s array))

-- The items of a view lie in the array's buffer and do not overlap. Those of a plan have at most `max_bytes` bytes.
abbrev pub MayWrite : State → Array → Target → Type 0
MayWrite s array (View layout) = FitsBuffer s array layout × IsNested (offsets layout) (item_size (descr_of s array))
MayWrite s array (Plan plan) = length plan.offsets * item_size (descr_of s array) ≤ max_bytes

-- the name is bound to a writable array, and the target's items are those at `places`, which are places of the array
pub record LeadsTo (s : State) (name : List ℕ) (target : Target) (array : Array) (places : List ℕ) : Type 0 where
  pub found : find_array s.names name ≡ Some array
  pub writable : array.writable ≡ true
  pub offsets_are : target_offsets target ≡ addresses s (record array { places = places })
  pub among : All (Contains array.places) places

-- Sources

-- a block has n items, whose element type has the same leaves and size as this one
pub record HasItems (owned : Owned) (descr : Descr) (n : ℕ) : Type 0 where
  pub alike : AreAlike owned.descr descr
  pub count : length (offsets owned.layout) ≡ n

-- an array of the state has n such items, in buffer `number` at the offsets of `layout`
pub record ReadsFrom (s : State) (number : ℕ) (layout : Layout) (descr : Descr) (n : ℕ) (array : Array) : Type 0 where
  pub view : IsViewIn s number array.path layout false array
  pub alike : AreAlike (descr_of s array) descr
  pub count : length (offsets layout) ≡ n

-- the source supplies these n items: n copies of one item, the items of a block, or those of an array of the state
abbrev pub Supplies : State → Descr → ℕ → Source → List (List LeafValue) → Type 0
Supplies s descr n (One bytes) items = (length bytes.items ≡ item_size descr) × (replicate n (decode_item descr bytes.items) ≡ items)
Supplies s descr n (Block owned) items = HasItems owned descr n × (map (item_from owned.descr owned.block) (offsets owned.layout) ≡ items)
Supplies s descr n (Buffer number layout) items = (array : Array) × ReadsFrom s number layout descr n array × (read s array ≡ items)

-- the arguments of a write are valid: the target is in the name's array, and the source supplies an item for each place
pub record IsAim (s : State) (name : List ℕ) (target : Target) (source : Source) : Type 0 where
  pub array : Array
  pub places : List ℕ
  pub items : List (List LeafValue)
  pub leads : LeadsTo s name target array places
  pub may_write : MayWrite s array target
  pub supplies : Supplies s (descr_of s array) (length (target_offsets target)) source items
