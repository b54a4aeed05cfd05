use Rattle.std.proofs.Common.{◌≡◌, ◌++◌, length, take, sym, ap, ◌∙◌, append_assoc, length-append, arith}
use Rattle.raw_block.proofs.Words.{take-add, item_at, length-item_at}
use Rattle.raw_block.proofs.pushing.push_chunks.Goals as goal

pub loop-done-preserved : goal.loop-done-preserved
loop-done-preserved g c =
    let N = g.row.N in let item = c.args.item.now in let done = c.loop-done.done in let chunk = item_at done N item in let before = c.loop-done.invariant in
    let long : length chunk ≡ N = length-item_at done N item (omega arith) in
    let items : c.push_array.new.self.items ≡ c.loop-done.bytes.items ++ chunk = c.push_array.ensures.1 ∙ ap (λ l. c.loop-done.bytes.items ++ l) c.array_at.ensures in
    record {
      begin = c.push_array.ensures.0 ∙ before.begin;
      items = λ old is. items ∙ ap (λ l. l ++ chunk) (before.items old is) ∙ append_assoc old (take done item) chunk ∙ ap (λ l. old ++ l) (sym (take-add done N item));
      count = ap length items ∙ length-append c.loop-done.bytes.items chunk ∙ omega (arith, before.count, long);
      left = omega (arith, before.left, c.push_array.ensures.2);
      within = omega arith;
    }
