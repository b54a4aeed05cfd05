-- The final value of the owner of bytes after a `&mut` to them has ended.
use Rattle.std.specs.Prelude.{ℕ, List, length}
use Rattle.raw_block.specs.Words.{Fml, MutBor, Array, Lends, u8, flat_map, refill}
use Rattle.raw_block.specs.Bytes.{put}
use Rattle.raw_block.specs.declared.base.Bytes.{Bytes}
use Rattle.raw_block.specs.contracts.base.Bytes.{the_row}

abbrev pub with_items : Bytes → List ℕ → Bytes
with_items b ws = record { at = b.at; items = ws; room = b.room }

-- the bytes are those last written through `r`
abbrev pub lends_bytes : MutBor Bytes → MutBor (List ℕ) → Fml
lends_bytes b r = Lends the_row (Array u8 0) b r (λ ws. with_items b.now (refill (length b.now.items) b.now.items ws))

-- the bytes starting at `at` are those of the arrays last written through `r`, concatenated
abbrev pub lends_arrays : ℕ → ℕ → MutBor Bytes → MutBor (List (List ℕ)) → Fml
lends_arrays width at b r = Lends the_row (Array (Array u8 width) 0) b r (λ ws. with_items b.now (refill (length b.now.items) b.now.items (put at (flat_map (λ x. x) ws) b.now.items)))
