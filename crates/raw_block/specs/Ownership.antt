-- What the parts of a block own and lend.
use Rattle.std.specs.Prelude.{ℕ, ◌+◌, ◌/◌, ◌^◌, List, length}
use Rattle.raw_block.specs.Words.{Ty, w8, w128, ty_int, ty_array, full_share, Lft, ffalse, fsep, flt, fwand, froom, elements_shared, said, beside, Ptr, block_ptr, null_ptr, bytes}
use base.Fml.{Fml}
use denote.Builtin.{u8}

-- n bytes without a value, starting `o` bytes into the object `b`
abbrev pub unwritten : ℕ → ℕ → ℕ → Fml
unwritten b o n = froom (ty_array (ty_int w8) n) b o

-- the bytes `xs`, and after them n bytes without a value; together they are fewer than 2 ^ 63
abbrev pub bytes_own : Ptr → List ℕ → ℕ → Fml
bytes_own (block_ptr b o) xs n = fsep (flt (length xs + n) (2 ^ 63)) (fsep (bytes full_share xs b o) (unwritten b (o + length xs) n))
bytes_own null_ptr xs n = ffalse

-- the bytes `xs` of these, lent to be read
abbrev pub bytes_lent : Ptr → List ℕ → ℕ → Lft → Fml
bytes_lent (block_ptr b o) xs n = beside (said (flt (length xs + n) (2 ^ 63))) (elements_shared u8 xs b o)
bytes_lent null_ptr xs n = said ffalse

-- the type for which a block of `size` bytes is allocated: an array of words of 16 bytes
abbrev pub words : ℕ → Ty
words size = ty_array (ty_int w128) (size / 16)

-- the allocator's token for the block, and the means to restore the whole block from `len` bytes without a value
abbrev pub deed_owns : (Ty → Ptr → Fml) → Ptr → ℕ → ℕ → Fml
deed_owns token (block_ptr b o) len size = fsep (fwand (unwritten b o len) (froom (words size) b o)) (token (words size) (block_ptr b o))
deed_owns token null_ptr len size = ffalse
