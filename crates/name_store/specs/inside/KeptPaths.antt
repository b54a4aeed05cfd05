-- How a path is stored: as four numbers, padded with zeros.
use Rattle.std.proofs.Common.{◌≡◌, ◌≤◌, ◌-◌, ℕ, List, ◌++◌, length, take, replicate, sym, ap, ◌∙◌, arith, length-take}

-- a path of `len` numbers is stored as four numbers: those of the path, followed by zeros
pub record IsKept (len : ℕ) (numbers : List ℕ) : Type 0 where
  pub short : len ≤ 4
  pub four : length numbers ≡ 4
  pub padded : numbers ≡ take len numbers ++ replicate (4 - len) 0

-- the four numbers that a path is stored as
abbrev pub in_places : List ℕ → List ℕ
in_places path = path ++ replicate (4 - length path) 0

pub kept-len : (len : ℕ) (numbers : List ℕ) → IsKept len numbers → length (take len numbers) ≡ len
kept-len len numbers h = omega (arith, length-take len numbers, h.four, h.short)

pub kept-numbers : (len : ℕ) (numbers : List ℕ) → IsKept len numbers → in_places (take len numbers) ≡ numbers
kept-numbers len numbers h = ap (λ n. take len numbers ++ replicate (4 - n) 0) (kept-len len numbers h) ∙ sym h.padded
