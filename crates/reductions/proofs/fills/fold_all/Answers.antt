use Rattle.std.proofs.Common.{◌≡◌, ◌+◌, ◌-◌, ◌≤◌, ℤ, List, [], ◌∷◌, ◌++◌, All, length, take, drop, refl, sym, ap, subst, ◌∙◌, arith, append_assoc, append-nil, length-append}
use Rattle.reductions.proofs.Words.{map-append, All-head, All-rest, EachWithin, decode, number_of, size, runs-within, max_bytes, offsets, length-offsets, entry-first, all_offsets, run_offsets, runs, length-first, number_at, numbers_at}
use Rattle.reductions.proofs.LineLaws.{headed, length-numbers}
use Rattle.reductions.proofs.fills.fold_all.Goals as goal

pub overflow_add-at : goal.overflow_add-at
overflow_add-at g c =
    let l = c.args.numbers.layout.now in
    let first = c.args.numbers.inside 0 0 (omega (arith, length-offsets l, c.requires.some)) in
    record { fits = omega (arith, first, entry-first l c.requires.some, c.requires.width) }

pub slice_bounds-read-end : goal.slice_bounds-read-end
slice_bounds-read-end g c =
    let l = c.args.numbers.layout.now in
    let first = c.args.numbers.inside 0 0 (omega (arith, length-offsets l, c.requires.some)) in
    omega (arith, first, entry-first l c.requires.some, c.requires.width)

pub loop-run-init : goal.loop-run-init
loop-run-init g c =
    let s = c.args.numbers in
    let l = s.layout.now in
    let len = length s.bytes.now in
    let width = g.S.Number.WIDTH in
    let scalar = g.S.Number.scalar g.O.Ordered.order in
    let ens = c.new-run-items.ensures in
    let are = c.into_iter-run-iterator.ensures.into_iter_gives ∙ ens.runs in
    let all : all_offsets c.into_iter-run-iterator.result ≡ offsets l = ap all_offsets are ∙ ens.offsets in
    let wide : l.offset + c.WIDTH.result - l.offset ≡ size scalar = omega (arith, c.WIDTH.ensures, g.met.S.Number.has_width g.O.Ordered.order) in
    let is : g.S.Number.value c.read.result ≡ number_at scalar s.bytes.now l.offset = sym (ap number_of c.read.ensures) ∙ ap (λ w. number_of (decode scalar (take w (drop l.offset s.bytes.now)))) wide in
    let ends = subst (All (λ offset. offset + width ≤ len)) (sym ens.offsets) (subst (λ w. All (λ offset. offset + w ≤ len) (offsets l)) c.requires.width s.inside) in
    record {
      counted = omega (arith, ap length all, length-offsets l);
      within = subst (All (λ run. EachWithin len run.offset run.step width run.count)) (sym are) (runs-within len width (λ run. run) (runs l) (ens.lie max_bytes 1 l.within_limit) ends);
      takes = λ end takes.
          subst (λ os. g.F.Fold.holds end (number_at scalar s.bytes.now l.offset) (numbers_at scalar s.bytes.now os)) all
          (takes (number_at scalar s.bytes.now l.offset) [] refl (subst (λ z. g.F.Fold.holds c.start-held.result z []) is c.start-held.ensures));
    }

pub invariant_of-side : goal.invariant_of-side
invariant_of-side g c =
    let len = length c.args.numbers.bytes.now in
    let run = c.in-Some.run' in
    let steps = c.in-Some.ensures.steps in
    let limit = c.items-items.ensures in
    record {
      few = omega (arith, c.loop-run.invariant.counted, ap (λ rs. length (all_offsets rs)) steps, length-first run c.next.new.self, limit.value, limit.limit);
      within = subst (λ w. EachWithin len run.offset run.step w run.count) (sym c.WIDTH-in-loop-run.ensures)
          (All-head (λ r. EachWithin len r.offset r.step g.S.Number.WIDTH r.count) run c.next.new.self (subst (All (λ r. EachWithin len r.offset r.step g.S.Number.WIDTH r.count)) steps c.loop-run.invariant.within));
    }

pub fold_run-held-requires : goal.fold_run-held-requires
fold_run-held-requires g c = record {
  width = c.WIDTH-in-loop-run.ensures;
  few = omega (arith, c.loop-run.invariant.counted, ap (λ rs. length (all_offsets rs)) c.in-Some.ensures.steps, length-first c.in-Some.run' c.next.new.self, c.items-items.ensures.value, c.items-items.ensures.limit);
}

pub overflow_add-seen : goal.overflow_add-seen
overflow_add-seen g c =
    record { fits = omega (arith, c.loop-run.invariant.counted, ap (λ rs. length (all_offsets rs)) c.in-Some.ensures.steps, length-first c.in-Some.run' c.next.new.self, c.items-items.ensures.value, c.items-items.ensures.limit) }

pub loop-run-preserved : goal.loop-run-preserved
loop-run-preserved g c =
    let scalar = g.S.Number.scalar g.O.Ordered.order in
    let bytes = c.args.numbers.bytes.now in
    let run = c.in-Some.run' in
    let next = c.next.new.self in
    let steps = c.in-Some.ensures.steps in
    let inv = c.loop-run.invariant in
    let here = numbers_at scalar bytes (run_offsets run) in
    let both = ap (λ rs. numbers_at scalar bytes (all_offsets rs)) steps ∙ map-append (number_at scalar bytes) (run_offsets run) (all_offsets next) in
    record {
      counted = omega (arith, inv.counted, ap (λ rs. length (all_offsets rs)) steps, length-first run next);
      within = All-rest (λ r. EachWithin (length bytes) r.offset r.step g.S.Number.WIDTH r.count) _ _ _ steps inv.within;
      takes = λ end more. inv.takes end (λ first before seen held.
          subst (g.F.Fold.holds end first) (append_assoc before here (numbers_at scalar bytes (all_offsets next)) ∙ ap (λ numbers. before ++ numbers) (sym both))
          (more first (before ++ here) (omega (arith, seen, length-append before here, length-numbers scalar bytes run)) (c.fold_run-held.ensures first before seen held)));
    }

pub returns : goal.returns
returns g c =
    let scalar = g.S.Number.scalar g.O.Ordered.order in
    let bytes = c.args.numbers.bytes.now in
    let l = c.args.numbers.layout.now in
    let first = number_at scalar bytes l.offset in
    let rest = numbers_at scalar bytes (drop 1 (offsets l)) in
    let all : numbers_at scalar bytes (offsets l) ≡ first ∷ rest =
    ap (numbers_at scalar bytes) (headed (offsets l) (omega (arith, length-offsets l, c.requires.some))) ∙ ap (λ o. number_at scalar bytes o ∷ rest) (entry-first l c.requires.some) in
    let held = c.loop-run.invariant.takes c.loop-run.held (λ first' before seen so_far.
    subst (g.F.Fold.holds c.loop-run.held first') (sym (append-nil before) ∙ ap (λ rs. before ++ numbers_at scalar bytes (all_offsets rs)) (sym c.in-None.ensures.steps.0)) so_far) in
    c.finish.ensures first rest (subst (λ (numbers : List ℤ). g.F.Fold.holds c.loop-run.held first numbers) all held) ∙ ap g.F.Fold.meaning (sym all)
