use Rattle.std.proofs.Common.{◌≡◌, ◌+◌, ◌*◌, ◌≤◌, ◌++◌, rules, w64, length, sym, ap, subst, ◌∙◌, arith, add-mul, mul-le-mul_right}
use Rattle.elementwise.proofs.Words.{ints, to_z-of_z, SFits, to_z, of_z, map-append, item_size, EachWithin, Run, place, run_offsets, length-run_offsets, cast_items, run_part, AreItems}
use Rattle.elementwise.proofs.ColumnLaws.{run-parts, part-within, length-cast_items}
use Rattle.elementwise.proofs.EncodedLaws.{items-append}
use Rattle.elementwise.proofs.casts.cast_bands.Goals as goal

pub place-requires-clause-low : goal.place-requires-clause-low
place-requires-clause-low c = (c.requires.within.each c.loop-done.done c.loop-done-test.true).0

pub place-requires-clause-high : goal.place-requires-clause-high
place-requires-clause-high c = omega (arith, ints, (c.requires.within.each c.loop-done.done c.loop-done-test.true).1, c.len-len.ensures.len, c.len-len.ensures.small)

pub cast_band-requires-in-loop-done-clause-within : goal.cast_band-requires-in-loop-done-clause-within
cast_band-requires-in-loop-done-clause-within c =
    let run = c.args.run in
    let len = length c.args.block.now in
    let wide = item_size c.args.descr.now in
    let next = c.min-next.result in
    let fits : SFits w64 run.step = search rules in
    subst (λ at. EachWithin len at (to_z w64 (of_z w64 run.step)) wide next) (sym c.place.ensures)
    (subst (λ step. EachWithin len (place run.offset run.step c.loop-done.done) step wide next) (sym (to_z-of_z w64 run.step fits))
    (part-within len wide run c.loop-done.done next c.requires.within c.loop-done-test.true (omega (arith, c.min-next.ensures, c.loop-done.invariant.few))))

pub cast_band-requires-in-loop-done-clause-few : goal.cast_band-requires-in-loop-done-clause-few
cast_band-requires-in-loop-done-clause-few c = omega (arith, mul-le-mul_right (item_size c.args.to.now) (let less : c.min-next.result ≤ c.args.run.count = omega (arith, c.min-next.ensures) in less), c.requires.few)

pub push_bytes-requires : goal.push_bytes-requires
push_bytes-requires c =
    let done = c.loop-done.done in
    let next = c.min-next.result in
    let size = c.size-size.result in
    let part : Run = record { offset = c.place.result; count = next; step = to_z w64 (of_z w64 c.args.run.step) } in
    let long : length c.bytes.result.now ≡ next * size =
    ap length c.bytes.ensures ∙ c.in_ok-band.ensures.long ∙ λ i. (length-cast_items c.args.descr.now c.args.to.now c.args.block.now (run_offsets part) ∙ length-run_offsets part) i * sym c.size-size.ensures.value i in
    let most : (done + next) * size ≤ c.args.run.count * size = mul-le-mul_right size (omega (arith, c.min-next.ensures, c.loop-done.invariant.few)) in
    omega (arith, long, most, add-mul done next size, c.loop-done.invariant.room)

pub loop-done-preserved : goal.loop-done-preserved
loop-done-preserved c =
    let from = c.args.descr.now in
    let to = c.args.to.now in
    let other = c.args.block.now in
    let run = c.args.run in
    let done = c.loop-done.done in
    let next = c.min-next.result in
    let size = c.size-size.result in
    let inv = c.loop-done.invariant in
    let fits : SFits w64 run.step = search rules in
    let next-run : Run = record { offset = c.place.result; count = next; step = to_z w64 (of_z w64 run.step) } in
    let part-is : next-run ≡ run_part run done next = λ i. record { offset = c.place.ensures i; count = next; step = to_z-of_z w64 run.step fits i } in
    let long : length c.bytes.result.now ≡ next * size =
    ap length c.bytes.ensures ∙ c.in_ok-band.ensures.long ∙ λ i. (length-cast_items from to other (run_offsets next-run) ∙ length-run_offsets next-run) i * sym c.size-size.ensures.value i in
    let front = run_offsets (record { offset = run.offset; count = done; step = run.step }) in
    let part = cast_items from to other (run_offsets (run_part run done next)) in
    let band : AreItems to part c.in_ok-band.band = subst (λ r. AreItems to (cast_items from to other (run_offsets r)) c.in_ok-band.band) part-is c.in_ok-band.ensures in
    let values : cast_items from to other (run_offsets (record { offset = run.offset; count = done + next; step = run.step })) ≡ cast_items from to other front ++ part =
    ap (cast_items from to other) (run-parts (length other) (item_size from) run done next c.requires.within c.loop-done-test.true) ∙ map-append _ front (run_offsets (run_part run done next)) in
    let pushed = c.push_bytes.ensures.bytes ∙ ap (λ bytes. c.loop-done.cast.0 ++ bytes) c.bytes.ensures in
    record {
      few = omega (arith, c.min-next.ensures, inv.few);
      room = omega (arith, long, add-mul done next size, inv.room, c.push_bytes.ensures.left);
      cast = subst (AreItems to _) (sym pushed) (subst (λ vs. AreItems to vs (c.loop-done.cast.0 ++ c.in_ok-band.band)) (sym values) (items-append to (cast_items from to other front) part c.loop-done.cast.0 c.in_ok-band.band inv.cast band));
    }
