use Rattle.std.proofs.Common.{◌≡◌, ◌≢◌, ℕ, zero, suc, List, refl, arith}
use Rattle.array_print.proofs.Words.{lead}
use Rattle.array_print.proofs.PushLaws.{pushes-same}
use Rattle.array_print.proofs.padding.push_lead.Goals as goal

later : (k : ℕ) (separator : List ℕ) → k ≢ 0 → separator ≡ lead k separator
later zero separator some = absurd (some refl)
later (suc k) separator some = refl

pub returns : goal.returns
returns g c = pushes-same (later c.args.k _ (λ is. omega (arith, is, c.if-k-eq0.false))) c.push_separator.ensures
