-- The NULs at the end of a byte string.
use Rattle.std.specs.Prelude.{ℕ, nat_eq, List}
use Rattle.elem_descr.specs.Words.{suffix_len}

-- the number of NULs at the end of a byte string
abbrev pub nuls : List ℕ → ℕ
nuls bytes = suffix_len (λ b. nat_eq b 0) bytes
