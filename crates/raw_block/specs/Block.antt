-- The invariants of a block, and of a block under construction.
use Rattle.std.specs.Prelude.{◌≡◌, ◌+◌, ◌*◌, ◌/◌, ◌^◌, ◌<◌, length}
use Rattle.raw_block.specs.declared.block.RawBlock.TheInside.{Inside}
use Rattle.raw_block.specs.declared.block.builder.BlockBuilder.TheInside.{Inside as Builder}

-- the owner of the bytes and the deed are for the block that the pointer leads to, and every byte has a value
pub record IsBlock (b : Inside) : Type 0 where
  pub owner : b.bytes.at ≡ b.base.ptr
  pub len : length b.bytes.items ≡ b.len
  pub filled : b.bytes.room ≡ 0
  pub small : b.len + 15 < 2 ^ 63
  pub deed : (b.deed.at ≡ b.base.ptr) × (b.deed.len ≡ b.len) × (b.deed.size ≡ (b.len + 15) / 16 * 16) × (b.deed.alloc ≡ b.alloc)

-- a block under construction: the bytes that are filled and the room after them are the whole block
pub record IsBuilder (b : Builder) : Type 0 where
  pub owner : b.bytes.at ≡ b.base.ptr
  pub filled : length b.bytes.items ≡ b.filled
  pub whole : b.filled + b.bytes.room ≡ b.len
  pub small : b.len + 15 < 2 ^ 63
  pub deed : (b.deed.at ≡ b.base.ptr) × (b.deed.len ≡ b.len) × (b.deed.size ≡ (b.len + 15) / 16 * 16) × (b.deed.alloc ≡ b.alloc)
