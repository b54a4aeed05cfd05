-- Items that are written to a name's array, and where they come from.
use Rattle.std.specs.Prelude.{◌≡◌, ◌≤◌, ◌*◌, ◌⊎◌, ℕ, Bool, true, false, List, length, map, Option, Some, Result, Ok, Err, All}
use Rattle.bench_engine.specs.Words.{Contains, Refusal, OutOfMemory, NoSuchCast, Descr, item_size, AreAlike, item_from, LeafValue, Layout, offsets, max_bytes, count, IsViewOf, IsPlanOf, KeepsNested, Items, Owned, can_cast, cast_item, stretched_into, State, addresses, descr_of, read, FitsBuffer, LeadsTo, MayWrite, target_offsets, target_shape, ArrayRef, Source, Target, View, Array}
use Rattle.name_store.specs.declared.target.Source.TheVariants as source
use Rattle.name_store.specs.declared.target.Target.TheVariants as target
use Rattle.bench_engine.specs.inside.OwnContents.{IsInCOrder}

-- an owned array has the element type, the shape and the items of an array of the state, in C order
pub record Holds (s : State) (part : Array) (o : Owned) : Type 0 where
  pub descr : o.descr ≡ descr_of s part
  pub shape : o.layout.shape ≡ part.shape
  pub order : IsInCOrder o
  pub items : map (item_from o.descr o.block) (offsets o.layout) ≡ read s part

-- ---- where the items are written

-- The target is the part that a view selects: a view of the array's layout if `plain`, and otherwise a plan of at most
-- 2^28 bytes.
abbrev pub IsAimed : ArrayRef → Bool → Target → View → Type 0
IsAimed r plain (target.View layout) view = (plain ≡ true) × IsViewOf r.layout.now layout view × KeepsNested r.layout.now layout
IsAimed r plain (target.Plan plan) view = (plain ≡ false) × IsPlanOf r.layout.now plan view × (length plan.offsets * item_size r.descr.now ≤ max_bytes)

-- the target leads to a part of the array that the name is bound to, and may be written
pub record IsTarget (s : State) (name : List ℕ) (array : Array) (target : Target) (part : Array) : Type 0 where
  pub places : List ℕ
  pub part_is : part ≡ record array { shape = target_shape target; places = places }
  pub counted : length (target_offsets target) ≡ count (target_shape target)
  pub leads : LeadsTo s name target array places
  pub may_write : MayWrite s array target
  pub few : length (target_offsets target) * item_size (descr_of s array) ≤ max_bytes

-- ---- where the items come from

-- The layout has the items of the part, which are some of the array's items, and fits into the array's buffer.
pub record LiesIn (s : State) (array part : Array) (layout : Layout) : Type 0 where
  pub places : List ℕ
  pub shape : List ℕ
  pub part_is : part ≡ record array { shape = shape; places = places }
  pub shape_is : layout.shape ≡ shape
  pub offsets_are : offsets layout ≡ addresses s (record array { shape = shape; places = places })
  pub among : All (Contains array.places) places
  pub fits : FitsBuffer s array layout

-- `wide` is a view of a layout, stretched into a shape
pub record Stretches (view : Layout) (shape : List ℕ) (wide : Layout) : Type 0 where
  pub seen : View
  pub there : stretched_into view.shape shape ≡ Ok seen
  pub is : IsViewOf view wide seen

-- the items of a layout in a block, cast to another element type
abbrev pub cast_from : List ℕ → Descr → Layout → Descr → List (List LeafValue)
cast_from block from layout to = map (λ offset. cast_item from to (item_from from block offset)) (offsets layout)

-- The source has the items, stretched into a shape and cast to an element type: in place, in the buffer with this
-- number, or in a block of its own. A refusal means that the items do not stretch, that there is no such cast, or that
-- memory ran out.
abbrev pub Fitted : Items → Option ℕ → List ℕ → Descr → Result Source Refusal → Type 0
Fitted x number shape to (Ok (source.One bytes)) = ⊥
Fitted x number shape to (Ok (source.Buffer number' wide)) =
    (number ≡ Some number') × Stretches x.layout.now shape wide × (can_cast x.descr.now to ≡ true) × AreAlike x.descr.now to × (map (item_from x.descr.now x.block.now) (offsets wide) ≡ cast_from x.block.now x.descr.now wide to)
Fitted x number shape to (Ok (source.Block o)) =
    (wide : Layout) × Stretches x.layout.now shape wide × (can_cast x.descr.now to ≡ true) × (o.descr ≡ to) × (o.layout.shape ≡ shape) × (map (item_from o.descr o.block) (offsets o.layout) ≡ cast_from x.block.now x.descr.now wide to)
Fitted x number shape to (Err refusal) =
    (refusal ≡ OutOfMemory) ⊎ ((stretched_into x.layout.now.shape shape ≡ Err refusal) ⊎ ((refusal ≡ NoSuchCast) × (wide : Layout) × Stretches x.layout.now shape wide × (can_cast x.descr.now to ≡ false)))
