use Rattle.std.proofs.Common.{◌≡◌, ◌*◌, ◌<◌, ℕ, length}
use Rattle.elementwise.proofs.Words.{item_size, run_offsets, IsLeafCast}
use Rattle.elementwise.proofs.EncodedLaws.{HaveZeros}
use Rattle.elementwise.proofs.casts.cast_band.Given as goal

-- the first leaves are cast, and there are zeros elsewhere
abbrev pub invariant-loop-k : goal.invariant-loop-k
invariant-loop-k l =
    let os = run_offsets l.run in
    record {
      len : length l.rows ≡ length os * item_size l.to;
      done : (k : ℕ) → k < l.k → IsLeafCast l.descr l.to l.block os l.rows k;
      zeros : HaveZeros l.to (length os) l.k l.rows;
    }
