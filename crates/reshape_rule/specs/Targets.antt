-- The shape that the numbers of a reshape describe, as in NumPy: one of them may be -1, for the remaining length.
use Rattle.std.specs.Prelude.{ℕ, ◌+◌, ◌*◌, ◌/◌, ◌%◌, ◌==◌, ℤ, pos, negsuc, int_le, Bool, ◌&&◌, not, if◌then◌else◌, List, ◌∷◌, length, map, Result}
use Rattle.std.proofs.Common.{nat_le, []}
use Rattle.reshape_rule.specs.Words.{list_all, Refusal, TooManyAxes, BadReshape, ◌>>=◌, check, max_axes, shape_of}

-- how many numbers are below 0, so that they do not give a length
abbrev pub left_open : List ℤ → ℕ
left_open [] = 0
left_open (pos n ∷ numbers) = left_open numbers
left_open (negsuc n ∷ numbers) = 1 + left_open numbers

-- the product of the given lengths
abbrev pub given : List ℤ → ℕ
given [] = 1
given (pos n ∷ numbers) = n * given numbers
given (negsuc n ∷ numbers) = given numbers

-- whether `opened` lengths of -1, and other lengths with this product, can make `items` items. If there is a -1, the
-- product must not be 0, and must divide `items`.
abbrev pub make_up : ℕ → ℕ → ℕ → Bool
make_up items opened product = if opened == 0 then product == items else (not (product == 0) && (items % product == 0))

-- a length as it is given, or the remaining length `rest` for a number below 0
abbrev pub length_or : ℕ → ℤ → ℕ
length_or rest (pos n) = n
length_or rest (negsuc n) = rest

-- the shape that the numbers describe for an array of `items` items, or the first refusal that applies
unfoldable pub target_of : ℕ → List ℤ → Result (List ℕ) Refusal
target_of items numbers = do
  _ ← check (nat_le (length numbers) max_axes) TooManyAxes
  _ ← check (list_all (int_le (negsuc 0)) numbers) BadReshape
  _ ← check (nat_le (left_open numbers) 1) BadReshape
  _ ← check (make_up items (left_open numbers) (given numbers)) BadReshape
  shape_of (map (length_or (items / given numbers)) numbers)
