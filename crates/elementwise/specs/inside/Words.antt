-- Byte strings that are compared as numbers.
use Rattle.std.specs.Prelude.{◌≡◌, ◌≤◌, ◌⊎◌, ℕ, Bool, false, List, All, length}
use Rattle.elementwise.specs.Words.{Big, Scalar, Byte, Int, width_size, without_nuls, item_at, Items, offsets}
use Rattle.elementwise.specs.Comparisons.{text_below}

-- the numbers of the scalar are unsigned, big-endian and have `n` bytes
abbrev pub IsWord : Scalar → ℕ → Type 0
IsWord (Byte false) n = n ≡ 1
IsWord (Int false width Big) n = n ≡ width_size width
IsWord _ n = ⊥

-- the length of a word: 2, 4 or 8 bytes
abbrev pub IsWordLen : ℕ → Type 0
IsWordLen n = (n ≡ 2) ⊎ (n ≡ 4) ⊎ (n ≡ 8)

-- whether the first byte string is below the second, and whether it is above; NULs at the ends do not count
abbrev pub AreInOrder : Bool × Bool → List ℕ → List ℕ → Type 0
AreInOrder b x y = (b.0 ≡ text_below (without_nuls x) (without_nuls y)) × (b.1 ≡ text_below (without_nuls y) (without_nuls x))

-- byte strings of `width` bytes lose only NULs at the end if they are cut to `n` bytes
abbrev pub CanCut : Items → ℕ → ℕ → Type 0
CanCut i width n = (n ≤ width) × All (λ offset. length (without_nuls (item_at offset width i.block.now)) ≤ n) (offsets i.layout.now)
