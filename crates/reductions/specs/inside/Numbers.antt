-- Numbers as they are read from bytes, and the bytes of their reductions.
use Rattle.std.specs.Prelude.{◌≡◌, ◌*◌, ◌^◌, ◌<◌, ℕ, ℤ, Option, Some, None, List, [], ◌∷◌, ◌++◌, ◌+◌, length, map, slice_index_or}
use Rattle.reductions.specs.Words.{Scalar, number, size, decode, encode, number_of, place, item_at, Layout, offsets, StridedAxis, run_along, run_offsets, Red, Side}
use Rattle.reductions.specs.Reductions.{result_scalar, reduced}

-- the number at an offset
abbrev pub number_at : Scalar → List ℕ → ℕ → ℤ
number_at scalar bytes offset = number_of (decode scalar (item_at offset (size scalar) bytes))

abbrev pub numbers_at : Scalar → List ℕ → List ℕ → List ℤ
numbers_at scalar bytes offsets = map (number_at scalar bytes) offsets

-- the bytes are read as the number `z` of a scalar, and are the bytes that it is written as
pub record IsStored (scalar : Scalar) (z : ℤ) (bytes : List ℕ) : Type 0 where
  pub value : decode scalar bytes ≡ number z
  pub exact : bytes ≡ encode scalar (number z)

-- the bytes are the result of a reduction of numbers of a scalar
abbrev pub IsReduced : Red → Scalar → List ℤ → List ℕ → Type 0
IsReduced reduction scalar numbers bytes = IsStored (result_scalar reduction scalar) (reduced reduction (result_scalar reduction scalar) numbers) bytes

-- the numbers of a side
abbrev pub numbers_of : Scalar → Side → List ℤ
numbers_of scalar s = numbers_at scalar s.bytes.now (run_offsets s.run)

-- `items` are the items along an axis from an offset on, in the bytes of a side and of its width
abbrev pub AreAlong : Side → ℕ → StridedAxis → Side → Type 0
AreAlong s offset axis items = (items.bytes.now ≡ s.bytes.now) × (items.width ≡ s.width) × (items.run ≡ run_along axis offset)

-- `part` is `n` items of a side, from the `m`-th one on
abbrev pub IsPart : ℕ → ℕ → Side → Side → Type 0
IsPart m n s part = AreAlong s (place s.run.offset s.run.step m) (record { len = n; stride = s.run.step }) part

-- the numbers of a side, of `bytes` bytes each, can be visited after `seen` others
pub record CanTakeIn (bytes seen : ℕ) (s : Side) : Type 0 where
  pub width : s.width ≡ bytes
  pub few : seen + s.run.count < 2 ^ 63

-- `after` is the state `held` after it has visited `numbers`, which have `seen` numbers before them
abbrev pub TakesIn : {Held : Type 0} → (Held → ℤ → List ℤ → Type 0) → Held → ℕ → List ℤ → Held → Type 0
TakesIn holds held seen numbers after = (first : ℤ) (before : List ℤ) → seen ≡ length before → holds held first before → holds after first (before ++ numbers)

-- the offsets of the items of each line: one line along the axis from each of the offsets
abbrev pub lines : StridedAxis → List ℕ → List (List ℕ)
lines axis offsets = map (λ offset. run_offsets (run_along axis offset)) offsets

-- `out` is the result for each list, given the offsets of its numbers: adjacent items of `width` bytes
pub record AreReduced (reduction : Red) (scalar : Scalar) (bytes : List ℕ) (width : ℕ) (lists : List (List ℕ)) (out : List ℕ) : Type 0 where
  pub len : length out ≡ length lists * width
  pub each : (k : ℕ) → k < length lists → IsReduced reduction scalar (numbers_at scalar bytes (slice_index_or lists k [])) (item_at (k * width) width out)

-- the results for these lists are appended, and take their bytes of the room that was left
pub record AddsReduced (reduction : Red) (scalar : Scalar) (bytes : List ℕ) (width : ℕ) (lists : List (List ℕ)) (old new : List ℕ × ℕ) : Type 0 where
  pub items : (done : List (List ℕ)) → AreReduced reduction scalar bytes width done old.0 → AreReduced reduction scalar bytes width (done ++ lists) new.0
  pub left : length lists * width + new.1 ≡ old.1

-- a number is appended
abbrev pub IsPushed : Scalar → ℕ → ℤ → List ℕ × ℕ → List ℕ × ℕ → Type 0
IsPushed scalar width z old new = (new.0 ≡ old.0 ++ encode scalar (number z)) × IsStored scalar z (encode scalar (number z)) × (width + new.1 ≡ old.1)

-- one list of all items of a layout, or a list along an axis from each of them
abbrev pub lists_from : Layout → Option StridedAxis → List (List ℕ)
lists_from starts None = offsets starts ∷ []
lists_from starts (Some axis) = lines axis (offsets starts)
