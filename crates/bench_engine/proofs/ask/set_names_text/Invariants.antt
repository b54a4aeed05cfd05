use Rattle.std.proofs.Common.{◌≡◌, ◌++◌, drop}
use Rattle.bench_engine.proofs.Words.{names_text}
use Rattle.bench_engine.proofs.Listings.{listed}
use Rattle.bench_engine.proofs.ask.set_names_text.Given as goal

-- the remaining names complete the text
abbrev pub invariant-loop-k : goal.invariant-loop-k
invariant-loop-k l = l.out ++ listed (drop l.k l.bench.state.names) ≡ names_text l.bench.state
