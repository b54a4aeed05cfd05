use Rattle.std.proofs.Common.{◌+◌, ◌≤◌, length}
use Rattle.name_store.proofs.Words.{All-permutation, target_offsets}
use Rattle.name_store.proofs.write.Writer.put_near.Goals as goal

pub put_over-requires : goal.put_over-requires
put_over-requires c =
    let can = c.requires.may in
    let near = c.requires.near in
    record {
      small = can.small;
      some = can.some;
      inside = All-permutation (λ o. o + c.args.self.width ≤ length c.args.block.now) (target_offsets c.args.self.target) (target_offsets c.args.target) near.moved can.inside;
      may = near.may (length c.args.block.now) c.args.self.width can.may;
      are = rw c.in-One.is at can.are;
    }

pub old_items-requires : goal.old_items-requires
old_items-requires c =
    All-permutation (λ o. o + c.args.self.width ≤ length c.args.block.now) (target_offsets c.args.self.target) (target_offsets c.args.target) c.requires.near.moved c.requires.may.inside
