-- The type and shape of the array that a reduction gives, or what is refused.
use Rattle.std.specs.Prelude.{◌≡◌, ℕ, ℤ, Bool, not, ◌&&◌, ◌==◌, Option, List, length, map, IfOk, Result, Ok, Err}
use Rattle.std.specs.List.{flat_map}
use Rattle.reductions.specs.Words.{C, Descr, Gives, Items, Refusal, NotForThisKind, BadAxis, EmptyReduction, Scalar, Bytes, ◌>>=◌, check, count, encode_item, item_from, item_size, offsets, offsets_in, owned_items, shape_of, Owned, Red, ScalarDescr, RecordDescr}
use Rattle.reductions.specs.Lists.{named_axis, is_axis, reduced_shape, list_length, lists}
use Rattle.reductions.specs.Reductions.{result_scalar, needs_items, reduced_items}

-- the scalar of items that are numbers; byte strings and records are refused
abbrev pub number_scalar : Descr → Result Scalar Refusal
number_scalar (ScalarDescr (Bytes n)) = Err NotForThisKind
number_scalar (ScalarDescr scalar) = Ok scalar
number_scalar (RecordDescr structure) = Err NotForThisKind

-- whether an item of the result would be the reduction of an empty list
abbrev pub has_empty_list : List ℕ → Option ℕ → List ℕ → Bool
has_empty_list shape axis result = (list_length shape axis == 0) && not (count result == 0)

-- the shape of a reduction along an axis, or over all axes, or the refusal
unfoldable pub shape_after : Red → List ℕ → Option ℕ → Bool → Result (List ℕ) Refusal
shape_after reduction shape axis keep = do
  let result = reduced_shape shape axis keep
  _ ← check (not (needs_items reduction && has_empty_list shape axis result)) EmptyReduction
  shape_of result

-- the type of an array's items, and its shape
pub record ReducedType : Type 0 where
  pub descr : Descr
  pub shape : List ℕ

abbrev pub outcome_of : Owned → ReducedType
outcome_of owned = record { descr = owned.descr; shape = owned.layout.shape }

-- the type and shape of a reduction of items of type `descr` in the shape `shape`, or the first refusal
unfoldable pub reduced_type : Red → Descr → List ℕ → Option ℤ → Bool → Result ReducedType Refusal
reduced_type reduction descr shape named keep = do
  scalar ← number_scalar descr
  _ ← check (is_axis (length shape) named) BadAxis
  result ← shape_after reduction shape (named_axis (length shape) named) keep
  Ok (record { descr = ScalarDescr (result_scalar reduction scalar); shape = result })

-- the reduction of an array's items along the named axis, or of all of them: a new array in C order, or the first refusal
pub record IsReduction (reduction : Red) (source : Items) (named : Option ℤ) (keep : Bool) (result : Result Owned Refusal) : Type 0 where
  pub array : Gives outcome_of result (reduced_type reduction source.descr.now source.layout.now.shape named keep)
  pub order : IfOk result (λ o. offsets o.layout ≡ offsets_in C (item_size o.descr) o.layout.shape)
  pub items :
      IfOk result (λ o. map (item_from o.descr o.block) (offsets o.layout) ≡ reduced_items reduction o.descr source.descr.now source.block.now (lists source.layout.now.shape (named_axis (length source.layout.now.shape) named) (offsets source.layout.now)))
  pub bytes : IfOk result (λ o. o.block ≡ flat_map (encode_item o.descr) (owned_items o))
