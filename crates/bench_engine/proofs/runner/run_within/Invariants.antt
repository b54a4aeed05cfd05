use Rattle.std.proofs.Common.{◌≡◌, ◌≤◌, ◌+◌, ◌*◌, vec_len}
use Rattle.bench_engine.proofs.Words.{outside, Reading, RisesBy}
use Rattle.bench_engine.proofs.runner.run_within.Given as goal

-- the session was fed what was read so far
abbrev pub invariant-loop-turn : goal.invariant-loop-turn
invariant-loop-turn g l = record {
  few : l.session.accepted + l.session.refused ≤ 65538 * l.turn;
  chunk : vec_len l.chunk ≡ l.fn.limits.size;
  counted : RisesBy (g.S.ScriptSource.reads l.fn.source) (g.S.ScriptSource.reads l.source) l.turn;
  well : g.S.ScriptSource.failures l.source ≡ g.S.ScriptSource.failures l.fn.source;
  fed : Reading l.fn.limits.depth
      (outside (g.S.ScriptSource.remaining l.fn.source) (g.W.Write.contents l.fn.writer) (g.N.NpyStore.shelf l.fn.store))
      (outside (g.S.ScriptSource.remaining l.source) (g.W.Write.contents l.writer) (g.N.NpyStore.shelf l.store))
      l.session;
}
