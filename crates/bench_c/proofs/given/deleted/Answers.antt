use Rattle.bench_c.proofs.GivenLaws.{other-command}
use Rattle.bench_c.proofs.given.deleted.Goals as goal

pub returns : goal.returns
returns c = other-command c.args.command (λ name is. c.in_default.not-Delete name is)
