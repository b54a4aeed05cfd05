use Rattle.std.proofs.Common.{◌+◌, ◌≤◌, ◌++◌, [], ◌∷◌, All, sym, subst, ◌∙◌, arith, append_assoc}
use Rattle.std.proofs.lemmas.List.Elements.{All-append}
use Rattle.fancy_index.proofs.Words.{All-cons, All-rest, max_bytes}
use Rattle.fancy_index.proofs.fast.offset_tables.offsets_of.Goals as goal

pub loop-offset-init : goal.loop-offset-init
loop-offset-init c =
    let ens = c.new-offset-items.ensures in
    let is = c.into_iter-offset-iterator.ensures.into_iter_gives ∙ ens.items in
    record {
      all = (λ i. c.new-list.ensures.items i ++ c.into_iter-offset-iterator.result) ∙ is;
      small = λ k d below. absurd (omega (arith, below, c.new-list.ensures.len));
      left = subst (All (λ offset. offset + 1 ≤ max_bytes)) (sym is) (ens.within max_bytes 1 c.args.layout.now.within_limit);
    }

pub loop-offset-preserved : goal.loop-offset-preserved
loop-offset-preserved c =
    let steps = c.in-Some.ensures.steps in
    let so_far = c.loop-offset.invariant in
    let at = c.in-Some.offset in
    let pushed = c.in_ok-push.ensures.items in
    let here : at + 1 ≤ max_bytes = (subst (All (λ offset. offset + 1 ≤ max_bytes)) steps so_far.left) 0 0 (omega arith) in
    record {
      all = (λ i. pushed i ++ c.next.new.self) ∙ append_assoc c.loop-offset.list.items (at ∷ []) c.next.new.self ∙ (λ i. c.loop-offset.list.items ++ sym steps i) ∙ so_far.all;
      small = subst (All (λ offset. offset ≤ max_bytes)) (sym pushed) (All-append (λ offset. offset ≤ max_bytes) c.loop-offset.list.items (at ∷ []) so_far.small (All-cons (λ offset. offset ≤ max_bytes) at [] (omega (arith, here)) (λ k d below. absurd (omega (arith, below)))));
      left = All-rest (λ offset. offset + 1 ≤ max_bytes) _ _ _ steps so_far.left;
    }
