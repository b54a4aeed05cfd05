use Rattle.std.proofs.Common.{◌+◌, ◌≤◌, length, arith}
use Rattle.elementwise.proofs.Words.{All-cons, All-rest, All-same, without_nuls, item_at}
use Rattle.elementwise.proofs.TrimmedLaws.{as_sliced, no_longer}
use Rattle.elementwise.proofs.fast.cut_lengths.longest.Goals as goal

pub loop-offset-preserved : goal.loop-offset-preserved
loop-offset-preserved c =
    let block = c.args.block.now in
    let width = c.args.width in
    let at = c.in-Some.offset in
    let steps = c.in-Some.ensures.steps in
    let left = c.next.new.self in
    let so_far = c.loop-offset.invariant in
    let size : length c.without_nuls.result.now ≤ c.max-most.result = omega (arith, c.max-most.ensures) in
    let here : length (without_nuls (item_at at width block)) ≤ c.max-most.result = as_sliced block at width c.max-most.result c.without_nuls.result.now c.without_nuls.ensures size in
    record {
      inside = All-rest (λ offset. offset + width ≤ length block) _ _ _ steps so_far.inside;
      some = omega (arith, c.max-most.ensures, so_far.some);
      within = omega (arith, c.max-most.ensures, so_far.within, no_longer block at width c.without_nuls.result.now c.without_nuls.ensures);
      least = λ n most all.
          so_far.least n (omega (arith, c.max-most.ensures, most)) (All-same (λ offset. length (without_nuls (item_at offset width block)) ≤ n) _ _ steps (All-cons (λ offset. length (without_nuls (item_at offset width block)) ≤ n) at left (omega (arith, here, most)) all));
    }
