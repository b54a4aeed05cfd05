-- The numbers start, start + step, start + 2 * step, .. before a stop, as items of a scalar.
use Rattle.std.specs.Prelude.{ℕ, ℤ, pos, ◌-ℤ◌, unsigned_abs, not, List, [], ◌∷◌, length, map, nat_le, Result, Ok}
use Rattle.literal_items.specs.Words.{int_eq, list_all, Refusal, TooLarge, ZeroStep, LiteralOutOfRange, Scalar, ◌>>=◌, check, stepped, LeafValue, number, is_value, max_items}

-- the numbers of a range. There are at most as many as the distance from start to stop.
abbrev pub range_numbers : ℤ → ℤ → ℤ → List ℤ
range_numbers start stop step = stepped (unsigned_abs (stop -ℤ start)) start stop step

-- how many there are
abbrev pub range_count : ℤ → ℤ → ℤ → ℕ
range_count start stop step = length (range_numbers start stop step)

-- how many numbers there are. A step of 0 is refused, and so are more numbers than an array may have items.
unfoldable pub range_length : ℤ → ℤ → ℤ → Result ℕ Refusal
range_length start stop step = do
  _ ← check (not (int_eq step (pos 0))) ZeroStep
  _ ← check (nat_le (range_count start stop step) max_items) TooLarge
  Ok (range_count start stop step)

-- the numbers as items of a scalar. Each must be a value of the scalar.
unfoldable pub range_items : Scalar → ℤ → ℤ → ℤ → Result (List (List LeafValue)) Refusal
range_items scalar start stop step = do
  _ ← range_length start stop step
  _ ← check (list_all (is_value scalar) (range_numbers start stop step)) LiteralOutOfRange
  Ok (map (λ value. number value ∷ []) (range_numbers start stop step))
