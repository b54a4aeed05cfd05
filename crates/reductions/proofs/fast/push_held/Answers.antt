use Rattle.std.proofs.Common.{◌≡◌, ◌-◌, ℤ, List, ◌∷◌, pos, map, sym, ap, subst, ◌∙◌, arith, ◌+ℤ◌}
use Rattle.reductions.proofs.Words.{Little, numbers_from, place, natural, run_offsets, line_run, line_first, numbers_at, lines, AddsReduced}
use Rattle.reductions.proofs.LineLaws.{front, numbers-first}
use Rattle.reductions.proofs.AddedLaws.{adds_none, line_added, has_room}
use Rattle.reductions.proofs.fast.push_held.Goals as goal

pub loop-j-init : goal.loop-j-init
loop-j-init g c = adds_none g.F.Fold.reduction (g.S.Number.scalar g.O.Ordered.order) c.args.lines.starts.bytes.now g.F.Total.Number.WIDTH c.args.block

pub push_total-requires : goal.push_total-requires
push_total-requires g c =
    has_room g.F.Fold.reduction (g.S.Number.scalar g.O.Ordered.order) g.F.Total.Number.WIDTH c.args.lines c.loop-j.j c.args.block c.loop-j.block c.loop-j-test.true c.requires.room c.loop-j.invariant

pub loop-j-preserved : goal.loop-j-preserved
loop-j-preserved g c =
    let scalar = g.S.Number.scalar g.O.Ordered.order in
    let l = c.args.lines in
    let j = c.loop-j.j in
    let one = c.index-held-j.result in
    let numbers = numbers_at scalar l.starts.bytes.now (run_offsets (line_run l j)) in
    let first = line_first scalar l j in
    let rest = numbers_at scalar l.starts.bytes.now (map natural (numbers_from (pos (place l.starts.run.offset l.starts.run.step j) +ℤ l.axis.stride) l.axis.stride (l.axis.len - 1))) in
    let begins : numbers ≡ first ∷ rest = numbers-first scalar l.starts.bytes.now (line_run l j) (l.axis.len - 1) (omega (arith, c.requires.some)) in
    let holds = subst (λ h. g.F.Fold.holds h first numbers) (sym c.index-held-j.is) (c.requires.held.1 j one c.loop-j-test.true) in
    let is = c.finish.ensures first rest (subst (λ (ns : List ℤ). g.F.Fold.holds one first ns) begins holds) ∙ ap g.F.Fold.meaning (sym begins) in
    line_added g.F.Fold.reduction scalar (g.F.Total.Number.scalar Little) g.F.Total.Number.WIDTH g.F.Fold.meaning l j (g.F.Total.Number.value c.finish.result) c.args.block c.loop-j.block c.push_total.new.block c.loop-j-test.true c.loop-j.invariant
    (g.met.F.Total.Number.has_width Little) c.push_total.ensures (g.met.F.Fold.gives g.O.Ordered.order) is

pub returns : goal.returns
returns g c =
    subst (λ n. AddsReduced g.F.Fold.reduction (g.S.Number.scalar g.O.Ordered.order) c.args.lines.starts.bytes.now g.F.Total.Number.WIDTH (lines c.args.lines.axis (run_offsets (front n c.args.lines.starts.run))) c.args.block c.loop-j.block)
    (omega (arith, c.loop-j-test.false, c.loop-j.auto.j-end)) c.loop-j.invariant
