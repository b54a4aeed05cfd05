use Rattle.std.proofs.Common.{◌≡◌, ◌*◌, ◌<◌, ◌^◌, [], ◌∷◌, length, sym, subst, ◌∙◌, arith}
use Rattle.reductions.proofs.Words.{length-map, Little, encode, number, offsets, length-offsets, run_along, run_offsets, number_at, numbers_at, lines, lists_from, IsStored, AreReduced}
use Rattle.reductions.proofs.AddedLaws.{adds_one, whole, full}
use Rattle.reductions.proofs.fills.reduced.Goals as goal

pub returns-in_default : goal.returns-in_default
returns-in_default g c =
    let scalar = g.S.Number.scalar g.O.Ordered.order in
    let total = g.F.Total.Number.scalar Little in
    let width = g.F.Total.Number.WIDTH in
    let reduction = g.F.Fold.reduction in
    let bytes = c.args.firsts.bytes.now in
    let l = c.args.firsts.layout.now in
    let numbers = numbers_at scalar bytes (offsets l) in
    let few : length numbers < 2 ^ 63 = omega (arith, length-map (offsets l) (number_at scalar bytes), length-offsets l, c.items-items.ensures.value, c.items-items.ensures.limit) in
    let z = g.F.Total.Number.value c.fold_all.result in
    let is = g.met.F.Fold.gives g.O.Ordered.order (encode total (number z)) numbers few (subst (λ v. IsStored total v (encode total (number z))) c.fold_all.ensures c.push_total.ensures.1) in
    let added = adds_one reduction scalar bytes width (offsets l) total z c.in_ok-block.block c.push_total.new.block (g.met.F.Total.Number.has_width Little) c.push_total.ensures is in
    subst (λ axis. AreReduced reduction scalar bytes width (lists_from l axis) c.finish.result) (sym c.in_default.is)
    (subst (AreReduced reduction scalar bytes width (offsets l ∷ [])) (sym c.finish.ensures)
    (whole reduction scalar bytes width c.WIDTH-width.result (offsets l ∷ []) c.in_ok-block.block c.push_total.new.block c.in_ok-block.ensures added))

pub finish-requires-2 : goal.finish-requires-2
finish-requires-2 g c =
    let width = g.F.Total.Number.WIDTH in
    let l = c.args.firsts.layout.now in
    let axis = c.in-Some.axis in
    let many : c.items-items.result ≡ length (lines axis (offsets l)) = c.items-items.ensures.value ∙ sym (length-map (offsets l) (λ offset. run_offsets (run_along axis offset)) ∙ length-offsets l) in
    full g.F.Fold.reduction (g.S.Number.scalar g.O.Ordered.order) c.args.firsts.bytes.now width (c.items-items.result * c.WIDTH-width.result) (lines axis (offsets l)) c.in_ok-block-2.block c.in_ok-full.full c.in_ok-block-2.ensures c.in_ok-full.ensures
    (λ i. many i * c.WIDTH-width.ensures i)

pub returns : goal.returns
returns g c =
    let scalar = g.S.Number.scalar g.O.Ordered.order in
    let width = g.F.Total.Number.WIDTH in
    let bytes = c.args.firsts.bytes.now in
    let l = c.args.firsts.layout.now in
    let all = lines c.in-Some.axis (offsets l) in
    subst (λ axis. AreReduced g.F.Fold.reduction scalar bytes width (lists_from l axis) c.finish-2.result) (sym c.in-Some.is)
    (subst (AreReduced g.F.Fold.reduction scalar bytes width all) (sym c.finish-2.ensures)
    (whole g.F.Fold.reduction scalar bytes width (c.items-items.result * c.WIDTH-width.result) all c.in_ok-block-2.block c.in_ok-full.full c.in_ok-block-2.ensures c.in_ok-full.ensures))
