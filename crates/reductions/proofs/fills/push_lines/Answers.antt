use Rattle.std.proofs.Common.{ap, subst, ◌∙◌, arith}
use Rattle.reductions.proofs.Words.{Little, run_offsets, numbers_at, lines, AddsReduced}
use Rattle.reductions.proofs.LineLaws.{front}
use Rattle.reductions.proofs.AddedLaws.{adds_none, line_added, has_room}
use Rattle.reductions.proofs.fills.push_lines.Goals as goal

pub loop-j-init : goal.loop-j-init
loop-j-init g c = adds_none g.F.Fold.reduction (g.S.Number.scalar g.O.Ordered.order) c.args.lines.starts.bytes.now g.F.Total.Number.WIDTH c.args.block

pub push_total-requires : goal.push_total-requires
push_total-requires g c =
    has_room g.F.Fold.reduction (g.S.Number.scalar g.O.Ordered.order) g.F.Total.Number.WIDTH c.args.lines c.loop-j.j c.args.block c.loop-j.block c.loop-j-test.true c.requires.room c.loop-j.invariant

pub loop-j-preserved : goal.loop-j-preserved
loop-j-preserved g c =
    let scalar = g.S.Number.scalar g.O.Ordered.order in
    let is = c.fold_line.ensures ∙ ap g.F.Fold.meaning (λ i. numbers_at scalar (c.line.ensures.0 i) (run_offsets (c.line.ensures.2 i))) in
    line_added g.F.Fold.reduction scalar (g.F.Total.Number.scalar Little) g.F.Total.Number.WIDTH g.F.Fold.meaning c.args.lines c.loop-j.j (g.F.Total.Number.value c.fold_line.result) c.args.block c.loop-j.block c.push_total.new.block c.loop-j-test.true c.loop-j.invariant
    (g.met.F.Total.Number.has_width Little) c.push_total.ensures (g.met.F.Fold.gives g.O.Ordered.order) is

pub returns : goal.returns
returns g c =
    subst (λ n. AddsReduced g.F.Fold.reduction (g.S.Number.scalar g.O.Ordered.order) c.args.lines.starts.bytes.now g.F.Total.Number.WIDTH (lines c.args.lines.axis (run_offsets (front n c.args.lines.starts.run))) c.args.block c.loop-j.block)
    (omega (arith, c.loop-j-test.false, c.loop-j.auto.j-end)) c.loop-j.invariant
