use Rattle.bench_engine.proofs.Words.{meaning_of}
use Rattle.bench_engine.proofs.engine.answer.Goals as goal

pub returns : goal.returns
returns g c = c.respond.ensures (meaning_of c.args.line.now) c.read_line-read.ensures
