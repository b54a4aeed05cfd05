-- What the permissions of a mode say, each as the three bits of read, write and execute.
use Rattle.std.specs.Prelude.{◌/◌, ◌%◌, ℕ, bit_and}

abbrev pub owner_may : ℕ → ℕ
owner_may mode = mode / 64 % 8

abbrev pub group_may : ℕ → ℕ
group_may mode = mode / 8 % 8

abbrev pub others_may : ℕ → ℕ
others_may mode = mode % 8

-- what both the group and all others may do
abbrev pub both_may : ℕ → ℕ
both_may mode = bit_and (group_may mode) (others_may mode)
