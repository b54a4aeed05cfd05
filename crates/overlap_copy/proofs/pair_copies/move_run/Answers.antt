use Rattle.std.proofs.Common.{rules, ◌≡◌, ◌≤ℤ◌, ◌<ℤ◌, ℤ, pos, negsuc, true, length, w64, sym, ap, subst, ◌∙◌, arith, int_lt, neg_ℤ}
use Rattle.overlap_copy.proofs.Words.{ints, to_z-of_z, SFits, assigned, AreAlike}
use Rattle.overlap_copy.proofs.MovingLaws.{assigned_from_moves}
use Rattle.overlap_copy.proofs.ShiftLaws.{back-line, one-offset}
use Rattle.overlap_copy.proofs.TurnLaws.{spaced, back-alike, back-moved}
use Rattle.overlap_copy.proofs.pair_copies.move_run.Goals as goal
use Rattle.overlap_copy.proofs.pair_copies.move_run.Goals.{Else-to-lt2}

pub returns-then-to-lt2 : goal.returns-then-to-lt2
returns-then-to-lt2 c =
    let to = one-offset c.args.to (omega (arith, c.requires.some, c.if-to-lt2.true)) in
    let from = one-offset c.args.from (omega (arith, c.requires.some, c.requires.lie.count, c.if-to-lt2.true)) in
    record { written = c.move_within.ensures.moved ∙ (λ i. assigned (sym to i) (sym from i) c.args.width c.args.block.now c.args.block.now); len = search rules }

alike : (c : Else-to-lt2) → AreAlike c.args.to c.args.from c.args.width c.args.block.now
alike c = record {
  lie = c.requires.lie;
  two = omega (arith, c.if-to-lt2.false);
  step = c.requires.step;
  spaced = spaced (length c.args.block.now) c.args.width c.args.to c.requires.lie.to_in c.requires.nested;
}

under : (s : ℤ) → int_lt s (pos 0) ≡ true → s <ℤ pos 0
under s test = omega (arith, ints)

rises : (s : ℤ) → s <ℤ pos 0 → pos 0 ≤ℤ neg_ℤ s
rises (pos n) below = absurd (omega (arith, ints))
rises (negsuc n) below = omega (arith, ints)

pub move_forth-requires : goal.move_forth-requires
move_forth-requires c =
    let to = c.turned.result in
    let from = c.turned-then-to-lt0.result in
    let fits : SFits w64 c.args.to.step = search rules in
    let below = under c.args.to.step (ap (λ z. int_lt z (pos 0)) (sym (to_z-of_z w64 c.args.to.step fits)) ∙ c.if-to-lt0.true) in
    record {
      to_limit = back-line c.args.to to c.turned.ensures (record { two = omega (arith, c.if-to-lt2.false); few = c.requires.few; lies = c.requires.to_limit });
      from_limit = back-line c.args.from from c.turned-then-to-lt0.ensures (record { two = omega (arith, c.if-to-lt2.false, c.requires.lie.count); few = omega (arith, c.requires.few, c.requires.lie.count); lies = c.requires.from_limit });
      alike = back-alike c.args.width c.args.block.now c.args.to c.args.from to from (alike (goal.at.move_forth-requires c).Else-to-lt2) c.turned.ensures c.turned-then-to-lt0.ensures;
      rising = subst (λ s. pos 0 ≤ℤ s) (sym c.turned.ensures.step) (rises c.args.to.step below);
    }

pub returns-then-to-lt0 : goal.returns-then-to-lt0
returns-then-to-lt0 c =
    let new = c.move_forth.new.block in
    assigned_from_moves c.requires.lie c.requires.nested
    (back-moved c.args.width c.args.block.now c.args.to c.args.from c.turned.result c.turned-then-to-lt0.result (alike (goal.at.returns-then-to-lt0 c).Else-to-lt2) c.turned.ensures c.turned-then-to-lt0.ensures new c.move_forth.ensures.moved)

pub move_forth-requires-2-clause-alike : goal.move_forth-requires-2-clause-alike
move_forth-requires-2-clause-alike c = alike (goal.at.move_forth-requires-2-clause-alike c).Else-to-lt2

pub returns : goal.returns
returns c = assigned_from_moves c.requires.lie c.requires.nested c.move_forth-2.ensures.moved
