use Rattle.std.proofs.Common.{◌≡◌, ◌≤◌, ◌+◌, ◌++◌, List, ℕ, length, Ok}
use Rattle.bench_engine.proofs.Words.{IsUnbroken, HoldsPiece, Feeds}
use Rattle.bench_engine.proofs.session.Session.feed.Given as goal

-- a prefix of the bytes was fed, up to a newline
abbrev pub invariant-loop-end : goal.invariant-loop-end
invariant-loop-end g l = record {
  few : l.self.accepted + l.self.refused + length l.rest ≤ l.fn.self.accepted + l.fn.self.refused + length l.bytes;
  fed : (taken : List ℕ) × (l.bytes ≡ taken ++ l.rest)
      × ((held : List ℕ) → IsUnbroken held → HoldsPiece l.fn.self.line held →
      Feeds (g.N.NpyStore.shelf l.fn.store) (g.N.NpyStore.shelf l.store) (g.W.Write.contents l.fn.writer) (g.W.Write.contents l.writer) held taken l.fn.self l.self (Ok tt));
}

abbrev pub decreases-loop-end : goal.decreases-loop-end
decreases-loop-end g l = length l.rest
