use Rattle.std.proofs.Common.{◌+◌, ◌≤◌, ◌<◌, ◌||◌, false, length, get_or, nat_eq, ap, sym, ◌∙◌, subst, All}
use Rattle.overlap_copy.proofs.Words.{list_any, All-rest, All-head}
use Rattle.overlap_copy.proofs.MarkLaws.{mark_more}
use Rattle.overlap_copy.proofs.share.mark_each.Goals as goal

pub loop-offset-preserved : goal.loop-offset-preserved
loop-offset-preserved c =
    let start = c.args.start in
    let o = c.in-Some.offset in
    let left = c.loop-offset.offset-iterator in
    let low : start ≤ o = All-head (λ p. start ≤ p) o c.next.new.self (subst (All (λ p. start ≤ p)) c.in-Some.ensures.steps c.loop-offset.invariant.low) in
    let high : o < start + length c.args.marks.now = All-head (λ p. p < start + length c.args.marks.now) o c.next.new.self (subst (All (λ p. p < start + length c.args.marks.now)) c.in-Some.ensures.steps c.loop-offset.invariant.high) in
    record {
      low = All-rest (λ p. start ≤ p) _ _ _ c.in-Some.ensures.steps c.loop-offset.invariant.low;
      high = All-rest (λ p. p < start + length c.args.marks.now) _ _ _ c.in-Some.ensures.steps c.loop-offset.invariant.high;
      value = λ i inside.
          mark_more c.loop-offset.marks start o i c.next.new.self low (subst (λ n. o < start + n) (sym c.loop-offset.auto.marks) high)
          ∙ ap (λ os. get_or c.loop-offset.marks i false || list_any (nat_eq (start + i)) os) (sym c.in-Some.ensures.steps)
          ∙ c.loop-offset.invariant.value i inside;
    }
