-- Which lists of lengths are shapes, and how they are written.
use Rattle.std.specs.Prelude.{ℕ, ◌≤◌, nat_le, List, [], ◌∷◌, ◌++◌, codes, length, All, Result}
use Rattle.std.proofs.Common.{Ok}
use Rattle.shape_strides.specs.Words.{list_all, flat_map, decimal, Refusal, TooManyAxes, TooLarge, ◌>>=◌, check}
use Rattle.shape_strides.specs.Limits.{max_axes, max_items}
use Rattle.shape_strides.specs.Indexes.{count}

-- A shape is within the limits of an array.
pub record IsShape (shape : List ℕ) : Type 0 where
  pub axes : length shape ≤ max_axes
  pub lengths : All (λ n. n ≤ max_items) shape
  pub items : count shape ≤ max_items

-- the shape with these lengths, or the first refusal that applies
unfoldable pub shape_of : List ℕ → Result (List ℕ) Refusal
shape_of lengths = do
  _ ← check (nat_le (length lengths) max_axes) TooManyAxes
  _ ← check (list_all (λ n. nat_le n max_items) lengths) TooLarge
  _ ← check (nat_le (count lengths) max_items) TooLarge
  Ok lengths

-- a shape as Python writes a tuple: `()`, `(3,)`, `(2, 3)`
abbrev pub shape_text : List ℕ → List ℕ
shape_text [] = codes "()"
shape_text (n ∷ []) = codes "(" ++ decimal n ++ codes ",)"
shape_text (n ∷ shape) = codes "(" ++ decimal n ++ flat_map (λ m. codes ", " ++ decimal m) shape ++ codes ")"
