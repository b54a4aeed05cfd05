-- Pairs of items at equal steps, and the results for them.
use Rattle.std.specs.Prelude.{◌*◌, ℕ, List}
use Rattle.elementwise.specs.Words.{item_in, joined}
use Rattle.elementwise.specs.inside.Added.{AreAdded}
use Rattle.elementwise.specs.declared.loops.row_pairs.Pairs.{Pairs}

-- the number of pairs
abbrev pub pair_count : Pairs → ℕ
pair_count p = p.left.run.count

-- `f` of the bytes of the `k`-th pair
abbrev pub made_of : (List ℕ → List ℕ → List ℕ) → Pairs → ℕ → List ℕ
made_of f p k = f (item_in p.left k) (item_in p.right k)

-- the results of `f` for the first `n` pairs, of `width` bytes each, are appended to a block
abbrev pub AreMadeTo : ℕ → (List ℕ → List ℕ → List ℕ) → ℕ → Pairs → List ℕ × ℕ → List ℕ × ℕ → Type 0
AreMadeTo n f width p = AreAdded (n * width) (joined (made_of f p) n)

-- those for all pairs
abbrev pub AreMade : (List ℕ → List ℕ → List ℕ) → ℕ → Pairs → List ℕ × ℕ → List ℕ × ℕ → Type 0
AreMade f width p = AreMadeTo (pair_count p) f width p
