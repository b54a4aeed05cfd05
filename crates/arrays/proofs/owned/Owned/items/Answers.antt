use Rattle.std.proofs.Common.{length}
use Rattle.arrays.proofs.Words.{item_size, offsets_within}
use Rattle.arrays.proofs.owned.Owned.items.Goals as goal

pub invariant_of-result : goal.invariant_of-result
invariant_of-result c = let o = c.args.self.now in record { inside = offsets_within o.layout (length o.block) (item_size o.descr) o.fills_block.fits }
