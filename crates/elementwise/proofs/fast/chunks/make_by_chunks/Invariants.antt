use Rattle.std.proofs.Common.{◌≡◌, ◌+◌, ◌-◌, ◌*◌, ◌≤◌}
use Rattle.elementwise.proofs.Words.{flat_map, ScalarDescr, size, encode_item, run_front, all_given, target_of}
use Rattle.elementwise.proofs.fast.chunks.make_by_chunks.Given as goal

-- the results on the first items are appended, and there is room for the rest
abbrev pub invariant-loop-done : goal.invariant-loop-done
invariant-loop-done l = record {
  made : l.block.0 ≡ flat_map (encode_item (ScalarDescr (target_of l.pairing))) (all_given l.pairing l.runs.both (run_front l.done l.runs.left) (run_front l.done l.runs.right));
  room : l.done * size (target_of l.pairing) + l.block.1 ≡ l.many * size (target_of l.pairing);
  most : l.done ≤ l.many;
}

abbrev pub decreases-loop-done : goal.decreases-loop-done
decreases-loop-done l = l.many - l.done
