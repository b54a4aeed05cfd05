use Rattle.std.proofs.Common.{◌+◌, ◌≤◌, ◌||◌, ap, sym, ◌∙◌}
use Rattle.overlap_copy.proofs.Words.{list_any, All-rest, max_bytes, is_end_marked}
use Rattle.overlap_copy.proofs.share.is_any_end_marked.Goals as goal

pub loop-offset-preserved : goal.loop-offset-preserved
loop-offset-preserved c =
    let test = is_end_marked c.args.marks.now c.args.start c.args.item in
    record {
      limit = All-rest (λ p. p + c.args.item ≤ max_bytes) _ _ _ c.in-Some.ensures.steps c.loop-offset.invariant.limit;
      rest = ap (λ t. t || list_any test c.next.new.self) c.if-is_marked.ensures
          ∙ ap (list_any test) (sym c.in-Some.ensures.steps) ∙ c.loop-offset.invariant.rest;
    }
