use Rattle.std.proofs.Common.{refl}
use Rattle.bench_engine.proofs.Words.{IsPermutation-refl, offsets, pair_even, firsts-reordered}
use Rattle.bench_engine.proofs.update.near.Goals as goal

pub returns-in-Some : goal.returns-in-Some
returns-in-Some c = firsts-reordered (offsets c.args.view) (offsets c.args.view) (offsets c.in-Some.pair.target) (offsets c.in-Some.pair.source) refl (pair_even c.in-Some.pair) c.in-Some.ensures.pairs

pub returns-in-None : goal.returns-in-None
returns-in-None c = IsPermutation-refl (offsets c.args.view)
