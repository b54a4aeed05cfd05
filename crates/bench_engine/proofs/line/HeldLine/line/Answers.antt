use Rattle.bench_engine.proofs.Meanings.{too_long-held}
use Rattle.bench_engine.proofs.line.HeldLine.line.Goals as goal

pub returns-then-self : goal.returns-then-self
returns-then-self c piece holds = too_long-held _ _ piece c.if-self.true holds
