use Rattle.std.proofs.Common.{◌≡◌, map, take}
use Rattle.literal_items.proofs.Words.{item_size, encode_item, decode_item, blocks, values_of}
use Rattle.literal_items.proofs.literal_item.write_casts.Given as goal

-- the block begins with the items so far
abbrev pub invariant-loop-k : goal.invariant-loop-k
invariant-loop-k l = record {
  encoded : blocks (item_size l.descr) l.k l.block ≡ map (encode_item l.descr) (map (values_of l.descr) (take l.k l.literals));
  reads_back : map (decode_item l.descr) (blocks (item_size l.descr) l.k l.block) ≡ map (values_of l.descr) (take l.k l.literals);
}
