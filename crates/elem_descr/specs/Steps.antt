-- Numbers in steps: `start`, `start + step`, `start + 2 * step`, ...
use Rattle.std.specs.Prelude.{◌≡◌, ℕ, ℤ, pos, ◌+ℤ◌, ◌-ℤ◌, ◌*ℤ◌, ◌≤ℤ◌, ◌<ℤ◌, Bool, if◌then◌else◌, List, map}
use Rattle.std.proofs.Common.{int_lt, filter}
use Rattle.elem_descr.specs.Words.{int_max, range_with_len}

-- whether a number is strictly before `stop` in the direction of `step`
abbrev pub is_before : ℤ → ℤ → ℤ → Bool
is_before step stop number = if int_lt step (pos 0) then int_lt stop number else int_lt number stop

-- the first `n` numbers
abbrev pub numbers_from : ℤ → ℤ → ℕ → List ℤ
numbers_from start step n = map (λ k. start +ℤ step *ℤ pos k) (range_with_len 0 n)

-- those of the first `n` numbers that are before `stop`
unfoldable pub stepped : ℕ → ℤ → ℤ → ℤ → List ℤ
stepped n start stop step = filter (is_before step stop) (numbers_from start step n)

-- `gap` is the distance from `start` to `stop` in the direction of `step`, or 0 if `stop` is in the other direction
pub record IsGap (gap : ℕ) (start stop step : ℤ) : Type 0 where
  pub back : step <ℤ pos 0 → pos gap ≡ int_max (start -ℤ stop) (pos 0)
  pub forth : pos 0 ≤ℤ step → pos gap ≡ int_max (stop -ℤ start) (pos 0)
