use Rattle.std.proofs.Common.{◌≡◌, ◌+◌, ◌*◌, ◌≤◌, All, length, sym, ap, subst, ◌∙◌, arith, add-mul}
use Rattle.reductions.proofs.Words.{map-append, All-head, All-rest, place, EachWithin, runs-within, place-at, All-front, All-back, max_bytes, offsets, length-offsets, all_offsets, run_along, run_offsets, runs, length-run_offsets, length-first, lines, AddsReduced}
use Rattle.reductions.proofs.AddedLaws.{adds_none, adds_all, length-lines}
use Rattle.reductions.proofs.fills.push_along.Goals as goal

pub loop-run-init : goal.loop-run-init
loop-run-init g c =
    let s = c.args.firsts in
    let l = s.layout.now in
    let len = length s.bytes.now in
    let width = g.S.Number.WIDTH in
    let ens = c.new-run-items.ensures in
    let rs = c.into_iter-run-iterator.result in
    let are = c.into_iter-run-iterator.ensures.into_iter_gives ∙ ens.runs in
    let all : all_offsets rs ≡ offsets l = ap all_offsets are ∙ ens.offsets in
    let many = ap length all ∙ length-offsets l in
    let ends = subst (All (λ offset. offset + width ≤ len)) (sym ens.offsets) (subst (λ w. All (λ offset. offset + w ≤ len) (offsets l)) c.requires.width s.inside) in
    record {
      adds = λ end added. subst (λ os. AddsReduced g.F.Fold.reduction (g.S.Number.scalar g.O.Ordered.order) s.bytes.now g.F.Total.Number.WIDTH (lines c.args.axis os) c.args.block end) all added;
      room = let same = ap (λ n. n * g.F.Total.Number.WIDTH) many in omega (arith, same, c.requires.room);
      few = omega (arith, many, c.items-items.ensures.value, c.items-items.ensures.limit);
      starts = subst (All (λ run. EachWithin len run.offset run.step width run.count)) (sym are) (runs-within len width (λ run. run) (runs l) (ens.lie max_bytes 1 l.within_limit) ends);
      lines =
          subst (All (λ offset. EachWithin len offset c.args.axis.stride width c.args.axis.len)) (sym all)
          (subst (λ w. All (λ offset. EachWithin len offset c.args.axis.stride w c.args.axis.len) (offsets l)) c.requires.width c.requires.items.2);
    }

pub invariant_of-starts : goal.invariant_of-starts
invariant_of-starts g c =
    let s = c.args.firsts in
    let len = length s.bytes.now in
    let run = c.in-Some.run' in
    let steps = c.in-Some.ensures.steps in
    let inv = c.loop-run.invariant in
    record {
      few = omega (arith, inv.few, ap (λ rs. length (all_offsets rs)) steps, length-first run c.next.new.self);
      within = subst (λ w. EachWithin len run.offset run.step w run.count) (sym c.WIDTH.ensures)
          (All-head (λ r. EachWithin len r.offset r.step g.S.Number.WIDTH r.count) run c.next.new.self (subst (All (λ r. EachWithin len r.offset r.step g.S.Number.WIDTH r.count)) steps inv.starts));
    }

pub invariant_of-push_lines : goal.invariant_of-push_lines
invariant_of-push_lines g c =
    let s = c.args.firsts in
    let axis = c.args.axis in
    let len = length s.bytes.now in
    let run = c.in-Some.run' in
    let steps = c.in-Some.ensures.steps in
    let inv = c.loop-run.invariant in
    let width = g.S.Number.WIDTH in
    let within = All-head (λ r. EachWithin len r.offset r.step width r.count) run c.next.new.self (subst (All (λ r. EachWithin len r.offset r.step width r.count)) steps inv.starts) in
    let here = All-front (λ o. EachWithin len o axis.stride width axis.len) (run_offsets run) (all_offsets c.next.new.self) (subst (λ rs. All (λ o. EachWithin len o axis.stride width axis.len) (all_offsets rs)) steps inv.lines) in
    record {
      few = c.requires.items.1;
      within = λ j low.
          subst (λ w. EachWithin len (place run.offset run.step j) axis.stride w axis.len) (sym c.WIDTH.ensures)
          (subst (λ o. EachWithin len o axis.stride width axis.len) (place-at len width run j within low) (here j 0 (omega (arith, low, length-run_offsets run))));
    }

pub push_lines-requires-clause-room : goal.push_lines-requires-clause-room
push_lines-requires-clause-room g c =
    let run = c.in-Some.run' in
    let next = c.next.new.self in
    let w = g.F.Total.Number.WIDTH in
    let parts = ap (λ rs. length (all_offsets rs) * w) c.in-Some.ensures.steps ∙ ap (λ n. n * w) (length-first run next) ∙ add-mul run.count (length (all_offsets next)) w in
    omega (arith, parts, c.loop-run.invariant.room)

pub loop-run-preserved : goal.loop-run-preserved
loop-run-preserved g c =
    let s = c.args.firsts in
    let axis = c.args.axis in
    let bytes = s.bytes.now in
    let len = length bytes in
    let scalar = g.S.Number.scalar g.O.Ordered.order in
    let run = c.in-Some.run' in
    let next = c.next.new.self in
    let steps = c.in-Some.ensures.steps in
    let inv = c.loop-run.invariant in
    let w = g.F.Total.Number.WIDTH in
    let parts = ap (λ rs. length (all_offsets rs) * w) steps ∙ ap (λ n. n * w) (length-first run next) ∙ add-mul run.count (length (all_offsets next)) w in
    let added = c.in_ok-block.ensures in
    let took : length (lines axis (run_offsets run)) * w ≡ run.count * w = ap (λ n. n * w) (length-lines axis run) in
    record {
      adds = λ end more. inv.adds end
          (subst (λ ls. AddsReduced g.F.Fold.reduction scalar bytes w ls c.loop-run.block end)
          (sym (ap (λ rs. lines axis (all_offsets rs)) steps ∙ map-append (λ offset. run_offsets (run_along axis offset)) (run_offsets run) (all_offsets next)))
          (adds_all g.F.Fold.reduction scalar bytes w (lines axis (run_offsets run)) (lines axis (all_offsets next)) c.loop-run.block c.in_ok-block.block end added more));
      room = omega (arith, parts, inv.room, added.left, took);
      few = omega (arith, inv.few, ap (λ rs. length (all_offsets rs)) steps, length-first run next);
      starts = All-rest (λ r. EachWithin len r.offset r.step g.S.Number.WIDTH r.count) _ _ _ steps inv.starts;
      lines = All-back (λ o. EachWithin len o axis.stride g.S.Number.WIDTH axis.len) (run_offsets run) (all_offsets next) (subst (λ rs. All (λ o. EachWithin len o axis.stride g.S.Number.WIDTH axis.len) (all_offsets rs)) steps inv.lines);
    }

pub returns : goal.returns
returns g c =
    let s = c.args.firsts in
    c.loop-run.invariant.adds c.loop-run.block
    (subst (λ rs. AddsReduced g.F.Fold.reduction (g.S.Number.scalar g.O.Ordered.order) s.bytes.now g.F.Total.Number.WIDTH (lines c.args.axis (all_offsets rs)) c.loop-run.block c.loop-run.block) (sym c.in-None.ensures.steps.0)
    (adds_none g.F.Fold.reduction (g.S.Number.scalar g.O.Ordered.order) s.bytes.now g.F.Total.Number.WIDTH c.loop-run.block))
