-- Lines along an axis, and rows across them.
use Rattle.std.specs.Prelude.{◌≡◌, ◌<◌, ℕ, ℤ, List, [], ◌∷◌, length, slice_index_or}
use Rattle.reductions.specs.Words.{Scalar, number_of_side, place, Side, Run, run_along, run_offsets}
use Rattle.reductions.specs.declared.lines.Lines.{Lines}
use Rattle.reductions.specs.inside.Numbers.{number_at, numbers_at, lines, AreAlong, TakesIn}

-- the run of the `j`-th line, and the line itself
abbrev pub line_run : Lines → ℕ → Run
line_run l j = run_along l.axis (place l.starts.run.offset l.starts.run.step j)

abbrev pub IsLine : Lines → ℕ → Side → Type 0
IsLine l j line = AreAlong l.starts (place l.starts.run.offset l.starts.run.step j) l.axis line

-- the `k`-th row: the `k`-th item of each line
abbrev pub IsRow : Lines → ℕ → Side → Type 0
IsRow l k row = AreAlong l.starts (place l.starts.run.offset l.axis.stride k) (record { len = l.starts.run.count; stride = l.starts.run.step }) row

-- the offsets of the items of each line
abbrev pub all_lines : Lines → List (List ℕ)
all_lines l = lines l.axis (run_offsets l.starts.run)

-- the first number of the `j`-th line, and its first `k` numbers
abbrev pub line_first : Scalar → Lines → ℕ → ℤ
line_first scalar l j = number_at scalar l.starts.bytes.now (place l.starts.run.offset l.starts.run.step j)

abbrev pub line_front : Scalar → Lines → ℕ → ℕ → List ℤ
line_front scalar l k j = numbers_at scalar l.starts.bytes.now (run_offsets (record { offset = place l.starts.run.offset l.starts.run.step j; count = k; step = l.axis.stride }))

-- `P` holds for each of the first `n` values of a list, and for each pair of values of two lists
abbrev pub EachOf : {X : Type 0} → ℕ → List X → (ℕ → X → Type 0) → Type 0
EachOf {X} n xs P = (j : ℕ) (d : X) → j < n → P j (slice_index_or xs j d)

abbrev pub EachPair : {X : Type 0} → ℕ → List X → List X → (ℕ → X → X → Type 0) → Type 0
EachPair {X} n xs ys P = (j : ℕ) (d : X) → j < n → P j (slice_index_or xs j d) (slice_index_or ys j d)

-- each state has visited its number of a row, which has `seen` numbers before it on its line
pub record HaveTakenRow {Held : Type 0} (holds : Held → ℤ → List ℤ → Type 0) (scalar : Scalar) (row : Side) (seen : ℕ) (old new : List Held) : Type 0 where
  pub len : length new ≡ length old
  pub held : EachPair row.run.count old new (λ j one after. TakesIn holds one seen (number_of_side scalar row j ∷ []) after)

-- each line has a state, which is that after its first `k` numbers
abbrev pub AreHeld : {Held : Type 0} → (Held → ℤ → List ℤ → Type 0) → Scalar → Lines → ℕ → List Held → Type 0
AreHeld holds scalar l k held = (length held ≡ l.starts.run.count) × EachOf l.starts.run.count held (λ j one. holds one (line_first scalar l j) (line_front scalar l k j))
