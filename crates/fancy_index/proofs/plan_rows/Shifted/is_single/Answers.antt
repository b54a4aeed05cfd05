use Rattle.std.proofs.Common.{sym, ◌∙◌}
use Rattle.fancy_index.proofs.Words.{eqb-true}
use Rattle.fancy_index.proofs.SingleLaws.{shifted-single}
use Rattle.fancy_index.proofs.plan_rows.Shifted.is_single.Goals as goal

pub returns : goal.returns
returns c = λ yes. shifted-single c.args.self.inner.now c.args.self.shifts.now c.args.self.place (sym c.items.ensures.value ∙ eqb-true c.items.result 1 yes)
