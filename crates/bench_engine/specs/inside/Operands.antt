-- Operands: items of a layout in a block, compared with those of arrays of the state.
use Rattle.std.specs.Prelude.{◌≡◌, ◌⊎◌, ℕ, List, map, true, false, IsTrue, Option, Some, None, Result, Ok, Err}
use Rattle.bench_engine.specs.Words.{list_all, Refusal, OutOfMemory, item_from, Layout, offsets, IsViewOf, can_stretch, stretched_items, Items, Owned, Descr, LeafValue, HasItems, Shows, ArrayRef, State, descr_of, read, Argument, Operand, UnknownName, find_array, is_bound, Computation, Duplicate, Cast, Combine, Transform, Reduce, View, Array}
use Rattle.script_lang.specs.declared.command.Argument.TheVariants as argument
use Rattle.bench_engine.specs.Machine.{OperandValues, operand_part, viewed}
use Rattle.bench_engine.specs.declared.operands.Given.{Given}
use Rattle.bench_engine.specs.declared.operands.Given.TheVariants as given
use Rattle.bench_engine.specs.declared.operands.Part.{Part}
use Rattle.bench_engine.specs.declared.operands.Part.TheVariants as part
use Rattle.bench_engine.specs.declared.operate.Sources.{Sources}
use Rattle.bench_engine.specs.inside.Assigns.{Holds, LiesIn}

-- the items are those of an array of the state, with its element type and its shape
pub record StandsFor (s : State) (array : Array) (x : Items) : Type 0 where
  pub descr : descr_of s array ≡ x.descr.now
  pub shape : array.shape ≡ x.layout.now.shape
  pub items : read s array ≡ map (item_from x.descr.now x.block.now) (offsets x.layout.now)

-- The part is the array `a`: an array of the state, a view of one, or a copy of the items of `a`.
abbrev pub IsPart : State → Part → Array → Type 0
IsPart s (part.Whole r) a = Shows s a r
IsPart s (part.View r layout) a = (array : Array) × (view : View) × Shows s array r × IsViewOf r.layout.now layout view × (viewed array view ≡ a)
IsPart s (part.Copy o) a = Holds s a o

-- the number of the buffer that holds the part's items, unless they are a copy
abbrev pub buffer_number : Part → Option ℕ
buffer_number (part.Whole r) = Some r.number
buffer_number (part.View r layout) = Some r.number
buffer_number (part.Copy o) = None

-- If there is a number, the layout has the items of `a`, which is a part of an array in the buffer with this number.
abbrev pub LiesInBuffer : State → Array → Option ℕ → Layout → Type 0
LiesInBuffer s a None layout = Unit {0}
LiesInBuffer s a (Some number) layout = (array : Array) × (r : ArrayRef) × Shows s array r × (number ≡ r.number) × LiesIn s array a layout

-- The names are all bound, and R holds for the result; or a name is not bound, and the refusal is `UnknownName`.
abbrev pub Knows : {X : Type 0} → State → List (List ℕ) → (X → Type 0) → Result X Refusal → Type 0
Knows s names R (Ok x) = (list_all (is_bound s) names ≡ true) × R x
Knows s names R (Err refusal) = (refusal ≡ UnknownName) × (list_all (is_bound s) names ≡ false)

-- the lookup shows the array that the name is bound to
abbrev pub IsNamed : State → List ℕ → ArrayRef → Type 0
IsNamed s name r = (array : Array) × (find_array s.names name ≡ Some array) × Shows s array r

-- the same for the name in an argument. A literal has none.
abbrev pub IsNamedBy : State → Argument → Option ArrayRef → Type 0
IsNamedBy s (argument.Operand operand) None = ⊥
IsNamedBy s (argument.Operand operand) (Some r) = IsNamed s operand.name r
IsNamedBy s (argument.Literal literal) found = found ≡ None

-- the same for the names in a computation, except those in index lists
abbrev pub AreSources : State → Computation → Sources → Type 0
AreSources s (Duplicate source order) found = IsNamed s source found.first
AreSources s (Cast source descr) found = IsNamed s source found.first
AreSources s (Combine op left right) found = IsNamed s left.name found.first × IsNamedBy s right found.second
AreSources s (Transform op operand) found = IsNamed s operand.name found.first
AreSources s (Reduce reduction source axis keep) found = IsNamed s source found.first

-- the literal of an argument, or the part that its operand selects
abbrev pub IsGiven : State → Argument → Given → Type 0
IsGiven s value (given.Literal literal) = value ≡ argument.Literal literal.now
IsGiven s value (given.Items p) = (operand : Operand) × (array : Array) × (value ≡ argument.Operand operand) × (operand_part s operand ≡ Ok array) × IsPart s p array

-- The items are those of an operand, with its element type and its shape, and also when both are stretched.
pub record Stands (v : OperandValues) (x : Items) : Type 0 where
  pub descr : v.descr ≡ x.descr.now
  pub shape : v.shape ≡ x.layout.now.shape
  pub items : (target : List ℕ) → IsTrue (can_stretch v.shape target) → v.stretched_to target ≡ stretched_items x.descr.now x.block.now x.layout.now target

-- the same for the items of an owned array
pub record OwnStands (o : Owned) (v : OperandValues) : Type 0 where
  pub descr : v.descr ≡ o.descr
  pub shape : v.shape ≡ o.layout.shape
  pub items : (target : List ℕ) → IsTrue (can_stretch v.shape target) → v.stretched_to target ≡ stretched_items o.descr o.block o.layout target

-- an owned array has these `n` items of this element type
abbrev pub HoldsItems : Descr → ℕ → Owned → List (List LeafValue) → Type 0
HoldsItems descr n o items = HasItems o descr n × (map (item_from o.descr o.block) (offsets o.layout) ≡ items)
