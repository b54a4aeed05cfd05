use Rattle.std.proofs.Common.{◌≤◌, All, subst}
use Rattle.fancy_index.proofs.Words.{max_items, All-back}
use Rattle.fancy_index.proofs.PartLaws.{parts_on}
use Rattle.fancy_index.proofs.index_parts.parts_of.Goals as goal

pub loop-item-preserved : goal.loop-item-preserved
loop-item-preserved c =
    let next = c.in-Some.ensures.next in
    record {
      small = All-back (λ n. n ≤ max_items) _ _ (subst (All (λ n. n ≤ max_items)) next.cut c.loop-item.invariant.small);
      have = parts_on _ _ _ _ _ _ _ _ _ next c.loop-item.invariant.have _ c.next.new.self.enough c.in_ok-push_parts.ensures.added;
    }
