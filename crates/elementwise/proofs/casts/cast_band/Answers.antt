use Rattle.std.proofs.Common.{◌≡◌, ◌+◌, ◌*◌, ◌<◌, rules, w64, length, replicate, sym, ap, subst, ◌∙◌, arith}
use Rattle.elementwise.proofs.Words.{ints, to_z-of_z, SFits, to_z, of_z, length-replicate, size, item_size, item_at, leaf_at, leaves_of, run_offsets, length-run_offsets, EachWithin, can_cast_scalar, source}
use Rattle.elementwise.proofs.CastLaws.{has_source, source-within, turn-done}
use Rattle.elementwise.proofs.ColumnLaws.{leaves-within, leaf-put}
use Rattle.elementwise.proofs.EncodedLaws.{all-zeros, zeros-stay, zeros-next, all-encoded}
use Rattle.elementwise.proofs.casts.cast_band.Goals as goal

pub loop-k-init : goal.loop-k-init
loop-k-init c =
    let rows = c.in_ok-rows.rows in
    let to = c.args.to.now in
    let os = run_offsets c.args.run in
    let size : length rows ≡ c.args.run.count * item_size to = ap length c.in_ok-rows.ensures ∙ length-replicate _ 0 ∙ ap (λ n. c.args.run.count * n) c.size-row.ensures.value in
    let long : length rows ≡ length os * item_size to = size ∙ ap (λ n. n * item_size to) (sym (length-run_offsets c.args.run)) in
    record {
      len = long;
      done = λ k low. absurd (omega (arith, low));
      zeros = all-zeros to (length os) rows (omega (arith, long)) (c.in_ok-rows.ensures ∙ ap (λ n. replicate n 0) (sym (ap length c.in_ok-rows.ensures ∙ length-replicate _ 0)));
    }

pub source_of-source-requires : goal.source_of-source-requires
source_of-source-requires c =
    let low : c.loop-k.k < length (leaves_of c.args.to.now) = omega (arith, c.loop-k-test.true, c.leaf_count-k-end.ensures.value) in
    (has_source c.args.descr.now c.args.to.now c.requires.can c.loop-k.k low).0

pub overflow_add-from : goal.overflow_add-from
overflow_add-from c = omega (arith, ints, (c.requires.within.each 0 c.requires.some).1, c.source_of-source.ensures.within, c.len-len.ensures.len, c.len-len.ensures.small)

pub cast-rows-requires-clause-can : goal.cast-rows-requires-clause-can
cast-rows-requires-clause-can c =
    let low : c.loop-k.k < length (leaves_of c.args.to.now) = omega (arith, c.loop-k-test.true, c.leaf_count-k-end.ensures.value) in
    (λ i. can_cast_scalar (c.source_of-source.ensures.value i).scalar (c.leaf_of-leaf.ensures.value i).scalar)
    ∙ (has_source c.args.descr.now c.args.to.now c.requires.can c.loop-k.k low).1

pub cast-rows-requires-clause-column : goal.cast-rows-requires-clause-column
cast-rows-requires-clause-column c =
    let run = c.args.run in
    let fits : SFits w64 run.step = search rules in
    let source = c.source_of-source.result in
    let long = c.loop-k.invariant.len ∙ ap (λ n. n * item_size c.args.to.now) (length-run_offsets run) ∙ ap (λ n. run.count * n) (sym c.size-row.ensures.value) in
    record {
      few = c.requires.count;
      small = omega (arith, c.size-row.ensures.within);
      within = subst (λ step. EachWithin (length c.args.block.now) (run.offset + source.at) step (size source.scalar) run.count) (sym (to_z-of_z w64 run.step fits))
          (leaves-within source.at run.offset run.step (length c.args.block.now) (size source.scalar) (item_size c.args.descr.now) run.count c.source_of-source.ensures.within c.requires.within);
      fits = omega (arith, c.leaf_of-leaf.ensures.within, c.size-row.ensures.value);
      room = omega (arith, long);
    }

pub cast-rows-requires-clause-zeros : goal.cast-rows-requires-clause-zeros
cast-rows-requires-clause-zeros c = λ at n j from ends inside.
    let to = c.args.to.now in
    let low : c.loop-k.k < length (leaves_of to) = omega (arith, c.loop-k-test.true, c.leaf_count-k-end.ensures.value) in
    let leaf = c.leaf_of-leaf.ensures.value in
    ap (λ row. item_at (at + j * row) n c.loop-k.rows) c.size-row.ensures.value
    ∙ zeros-next to (length (run_offsets c.args.run)) c.loop-k.k c.loop-k.rows c.loop-k.invariant.zeros c.size-row.ensures.apart low at n j
    (omega (arith, from, ap (λ l. l.at) leaf)) (omega (arith, ends, ap (λ l. l.at) leaf, ap (λ l. size l.scalar) leaf)) (omega (arith, inside, length-run_offsets c.args.run))

pub loop-k-preserved : goal.loop-k-preserved
loop-k-preserved c =
    let from = c.args.descr.now in
    let to = c.args.to.now in
    let run = c.args.run in
    let other = c.args.block.now in
    let os = run_offsets run in
    let k = c.loop-k.k in
    let inv = c.loop-k.invariant in
    let fits : SFits w64 run.step = search rules in
    let low : k < length (leaves_of to) = omega (arith, c.loop-k-test.true, c.leaf_count-k-end.ensures.value) in
    let wrote = leaf-put run (source from k) c.source_of-source.result (leaf_at to k) c.leaf_of-leaf.result (length other) (item_size from) c.size-row.result (item_size to) (to_z w64 (of_z w64 run.step)) other c.loop-k.rows c.cast-rows.result
    c.requires.within (to_z-of_z w64 run.step fits) c.source_of-source.ensures.value c.leaf_of-leaf.ensures.value c.size-row.ensures.value c.cast-rows.ensures.0 in
    record {
      len = c.cast-rows.ensures.1 ∙ inv.len;
      done = turn-done from to other os c.loop-k.rows _ k low (omega (arith, inv.len)) c.size-row.ensures.apart wrote inv.done;
      zeros = zeros-stay from to other os c.loop-k.rows _ k low (omega (arith, inv.len)) c.size-row.ensures.apart wrote inv.zeros;
    }

pub returns : goal.returns
returns c =
    let from = c.args.descr.now in
    let to = c.args.to.now in
    let inv = c.loop-k.invariant in
    all-encoded from to c.args.block.now (run_offsets c.args.run) c.loop-k.rows inv.len c.requires.can
    (λ k low. inv.done k (omega (arith, low, c.loop-k-test.false, c.leaf_count-k-end.ensures.value)))
    c.loop-k.k inv.zeros c.size-row.ensures.apart
    (λ k low. source-within from k c.size-from_item.ensures.apart (has_source from to c.requires.can k low).0)
