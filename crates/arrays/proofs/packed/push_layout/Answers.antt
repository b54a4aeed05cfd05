use Rattle.std.proofs.Common.{◌*◌, ◌++◌, length, All, refl, ap, subst, ◌∙◌, arith}
use Rattle.arrays.proofs.Words.{All-rest, All-head, EachWithin, Run, max_bytes, joined_at, walked-within}
use Rattle.arrays.proofs.PackedLaws.{parts, joined-next}
use Rattle.arrays.proofs.packed.push_layout.Goals as goal

pub loop-run-init : goal.loop-run-init
loop-run-init c =
    let new = c.new-run-items.ensures in
    rw (c.into_iter-run-iterator.ensures.into_iter_gives, new.runs) (record {
      bytes = ap (λ os. c.args.items.now.0 ++ joined_at os c.args.width c.args.block.now) new.offsets;
      left = omega (arith, ap (λ os. length os * c.args.width) new.offsets);
      from = walked-within (length c.args.block.now) c.args.width (λ run. run) _ _ _ refl (new.lie max_bytes 1 c.args.layout.now.within_limit) new.offsets c.requires.inside;
    })

pub push_run-requires-clause-from : goal.push_run-requires-clause-from
push_run-requires-clause-from c =
    let lies = λ (run : Run). EachWithin (length c.args.block.now) run.offset run.step c.args.width run.count in
    All-head lies c.in-Some.run' _ (subst (All lies) c.in-Some.ensures.steps c.loop-run.invariant.from)

pub push_run-requires-clause-room : goal.push_run-requires-clause-room
push_run-requires-clause-room c =
    let all = parts _ _ c.in-Some.run' c.args.width c.in-Some.ensures.steps in omega (arith, all, c.loop-run.invariant.left, c.requires.room)

pub loop-run-preserved : goal.loop-run-preserved
loop-run-preserved c =
    let inv = c.loop-run.invariant in let steps = c.in-Some.ensures.steps in let run = c.in-Some.run' in let width = c.args.width in let block = c.args.block.now in
    let lies = λ (run : Run). EachWithin (length block) run.offset run.step width run.count in
    let within : lies run = All-head lies run _ (subst (All lies) steps inv.from) in
    let all = parts _ _ run width steps in
    record {
      bytes = joined-next _ _ run width block _ c.loop-run.items.0 steps c.push_run.ensures.bytes ∙ inv.bytes;
      left = omega (arith, all, inv.left, c.push_run.ensures.left);
      from = All-rest lies _ _ _ steps inv.from;
    }
