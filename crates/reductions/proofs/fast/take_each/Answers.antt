use Rattle.std.proofs.Common.{◌<◌, ℕ, [], ◌∷◌, ◌++◌, length, refl, sym, subst, ◌∙◌, arith}
use Rattle.reductions.proofs.Words.{length-set, get_or_default, number_of_side, TakesIn}
use Rattle.reductions.proofs.HeldLaws.{pair_set, later_set}
use Rattle.reductions.proofs.fast.take_each.Goals as goal

pub loop-j-init : goal.loop-j-init
loop-j-init g c = record { len = refl; done = λ j d low. absurd (omega (arith, low)); later = λ j d low high. refl }

pub loop-j-preserved : goal.loop-j-preserved
loop-j-preserved g c =
    let inv = c.loop-j.invariant in
    let old = c.args.held.now in
    let j = c.loop-j.j in
    let one = c.index-held-j.result in
    let low : j < length old = omega (arith, c.requires.even, c.loop-j-test.true) in
    let same = c.index-held-j.is ∙ inv.later j one low (omega arith) in
    record {
      len = length-set c.loop-j.held j c.step.result ∙ inv.len;
      done =
          pair_set (λ (i : ℕ) one' after. TakesIn g.F.Fold.holds one' c.args.seen (number_of_side (g.S.Number.scalar g.O.Ordered.order) c.args.row i ∷ []) after) j old c.loop-j.held c.step.result (omega (arith, low, inv.len)) inv.done
          (λ d first before seen held. subst (λ z. g.F.Fold.holds c.step.result first (before ++ z ∷ [])) c.number.ensures
          (c.step.ensures first before seen (subst (λ h. g.F.Fold.holds h first before) (get_or_default old j d one low ∙ sym same) held)));
      later = later_set j (length old) old c.loop-j.held c.step.result inv.later;
    }

pub returns : goal.returns
returns g c = record { len = c.loop-j.invariant.len; held = λ j d low. c.loop-j.invariant.done j d (omega (arith, low, c.loop-j-test.false)) }
