use Rattle.std.proofs.Common.{◌≡◌, ◌∷◌, min, length, subst, sym, ap, ◌∙◌, arith}
use Rattle.shape_strides.proofs.Words.{run_front, pairs_left, IsAtPair}
use Rattle.shape_strides.proofs.PairLaws.{next_pair}
use Rattle.shape_strides.proofs.run_pairs.RunPairsIterator.next.Goals as goal

pub invariant_of-self : goal.invariant_of-self
invariant_of-self c =
    let w = c.self.inside in
    let pair = c.in_ok-pair.pair in
    let least : c.min-count.result ≡ min pair.first.count pair.second.count = omega arith in
    let at = subst (λ at. IsAtPair at w.first w.second) c.in_ok-pair.was c.self.invariant in
    let step = next_pair c.min-count.result pair c.after-first.result c.after-second.result w.first c.after-first.new.runs w.second c.after-second.new.runs least at c.after-first.ensures c.after-second.ensures in
    subst (λ at. IsAtPair at c.after-first.new.runs c.after-second.new.runs) (sym c.both-self-inside.ensures) step.0

pub returns-clause-steps : goal.returns-clause-steps
returns-clause-steps c =
    let w = c.self.inside in
    let pair = c.in_ok-pair.pair in
    let least : c.min-count.result ≡ min pair.first.count pair.second.count = omega arith in
    let at = subst (λ at. IsAtPair at w.first w.second) c.in_ok-pair.was c.self.invariant in
    let step = next_pair c.min-count.result pair c.after-first.result c.after-second.result w.first c.after-first.new.runs w.second c.after-second.new.runs least at c.after-first.ensures c.after-second.ensures in
    sym c.self.view_is ∙ ap (λ at. pairs_left at w.first w.second) c.in_ok-pair.was ∙ step.1 ∙ ap (λ at. record { first = run_front c.min-count.result pair.first; second = run_front c.min-count.result pair.second } ∷ pairs_left at c.after-first.new.runs c.after-second.new.runs) (sym c.both-self-inside.ensures)

pub returns-clause-goes : goal.returns-clause-goes
returns-clause-goes c =
    let all = returns-clause-steps c in
    record {
      on = λ _. (tt, tt, omega (arith, ap length all));
      keeps = tt;
      rests = λ _. tt;
    }
