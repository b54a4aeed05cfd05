use Rattle.std.proofs.Common.{◌≡◌, ◌+◌, ◌-◌, ◌*◌, ◌≤◌}
use Rattle.elementwise.proofs.Words.{run_offsets, cast_items, AreItems}
use Rattle.elementwise.proofs.casts.cast_bands.Given as goal

-- the first items are cast
abbrev pub invariant-loop-done : goal.invariant-loop-done
invariant-loop-done l =
    let run = l.run in
    record {
      few : l.done ≤ l.count;
      room : l.done * l.size + l.cast.1 ≡ l.count * l.size;
      cast : AreItems l.to (cast_items l.descr l.to l.block (run_offsets (record { offset = run.offset; count = l.done; step = run.step }))) l.cast.0;
    }

abbrev pub decreases-loop-done : goal.decreases-loop-done
decreases-loop-done l = l.count - l.done
