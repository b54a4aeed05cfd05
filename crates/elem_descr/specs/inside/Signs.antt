-- Numbers read with a sign.
use Rattle.std.specs.Prelude.{ℕ, ℤ, pos, ◌-ℤ◌}
use Rattle.std.proofs.Common.{cond, nat_lt}

-- `x`, which is below `d`, read with a sign, if `h` is half of `d`
abbrev pub with_sign : ℕ → ℕ → ℕ → ℤ
with_sign h d x = cond (nat_lt x h) (pos x) (pos x -ℤ pos d)
