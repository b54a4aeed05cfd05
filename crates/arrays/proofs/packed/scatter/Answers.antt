use Rattle.std.proofs.Common.{◌*◌, ◌≤◌, length, All, refl, sym, subst, ap, ◌∙◌, arith}
use Rattle.arrays.proofs.Words.{All-rest, All-head, Run, EachWithin, max_bytes, offsets, room-next, assigned, row_offsets, row-multiples, walked-within}
use Rattle.arrays.proofs.PackedLaws.{scattered-next}
use Rattle.arrays.proofs.packed.scatter.Goals as goal

pub loop-run-init : goal.loop-run-init
loop-run-init c =
    let new = c.new-run-items.ensures in
    let layout = c.args.layout.now in
    let width = c.args.width in
    let items = c.args.items.now in
    let block = c.args.block.now in
    rw (c.into_iter-run-iterator.ensures.into_iter_gives, new.runs) (record {
      rest = (λ i. assigned (new.offsets i) (row_offsets 0 width (length (new.offsets i))) width items block) ∙ ap (λ from. assigned (offsets layout) from width items block) (row-multiples width (length (offsets layout)));
      len = refl;
      room = omega (arith, c.requires.items, ap (λ os. length os * width) new.offsets, c.len-len.ensures.len);
      some = new.some;
      to = walked-within (length block) width (λ run. run) _ _ _ refl (new.lie max_bytes 1 layout.within_limit) new.offsets c.requires.inside;
    })

pub packed_run-from-requires-clause-within : goal.packed_run-from-requires-clause-within
packed_run-from-requires-clause-within c =
    (room-next _ _ c.in-Some.run' c.loop-run.at c.args.width c.len-len.result c.in-Some.ensures.steps c.loop-run.invariant.room).0

pub overflow_mul-at : goal.overflow_mul-at
overflow_mul-at c =
    let room = (room-next _ _ c.in-Some.run' c.loop-run.at c.args.width c.len-len.result c.in-Some.ensures.steps c.loop-run.invariant.room).0 in
    record { fits = omega (arith, room, c.len-len.ensures.small) }

pub overflow_add-at : goal.overflow_add-at
overflow_add-at c =
    let room = (room-next _ _ c.in-Some.run' c.loop-run.at c.args.width c.len-len.result c.in-Some.ensures.steps c.loop-run.invariant.room).0 in
    record { fits = omega (arith, room, c.len-len.ensures.small) }

pub copy_run-requires-clause-to : goal.copy_run-requires-clause-to
copy_run-requires-clause-to c =
    let run = c.in-Some.run' in
    let lies = λ (r : Run). EachWithin (length c.args.block.now) r.offset r.step c.args.width r.count in
    subst (λ n. EachWithin n run.offset run.step c.args.width run.count) (sym c.loop-run.invariant.len) (All-head lies run _ (subst (All lies) c.in-Some.ensures.steps c.loop-run.invariant.to))

pub loop-run-preserved : goal.loop-run-preserved
loop-run-preserved c =
    let inv = c.loop-run.invariant in
    let steps = c.in-Some.ensures.steps in
    record {
      rest = scattered-next _ _ c.in-Some.run' c.packed_run-from.result c.loop-run.at c.args.width _ c.loop-run.block _ _ steps c.packed_run-from.ensures.run c.copy_run.ensures.written inv.rest;
      len = c.copy_run.ensures.len ∙ inv.len;
      room = (room-next _ _ c.in-Some.run' c.loop-run.at c.args.width c.len-len.result steps inv.room).1;
      some = All-rest (λ run. 1 ≤ run.count) _ _ _ steps inv.some;
      to = All-rest (λ run. EachWithin (length c.args.block.now) run.offset run.step c.args.width run.count) _ _ _ steps inv.to;
    }
