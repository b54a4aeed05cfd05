-- The final value of a block after a `&mut` to its bytes has ended.
use Rattle.std.specs.Prelude.{ℕ, List, length}
use Rattle.raw_block.specs.Words.{Fml, MutBor, Array, Lends, u8, refill}
use Rattle.raw_block.specs.NumberRuns.{with_run}
use Rattle.raw_block.specs.contracts.block.RawBlock.{the_row}
use Rattle.raw_block.specs.contracts.block.builder.BlockBuilder.{the_row as the_builder}

-- the bytes of the block are those last written through `r`
abbrev pub lends_block : MutBor (List ℕ) → MutBor (List ℕ) → Fml
lends_block b r = Lends the_row (Array u8 0) b r (λ ws. refill (length b.now) b.now ws)

-- the bytes starting at `at` are those of the items last written through `r`
abbrev pub lends_run : ℕ → ℕ → MutBor (List ℕ) → MutBor (List (List ℕ)) → Fml
lends_run width at b r = Lends the_row (Array (Array u8 width) 0) b r (λ items. with_run at items b.now)

-- the bytes that are filled are those last written through `r`, and the room after them is unchanged
abbrev pub lends_filled : MutBor (List ℕ × ℕ) → MutBor (List ℕ) → Fml
lends_filled b r = Lends the_builder (Array u8 0) b r (λ ws. (refill (length b.now.0) b.now.0 ws, b.now.1))
