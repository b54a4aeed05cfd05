use Rattle.std.proofs.Common.{◌*◌, ◌≤◌, true, map, IfOk, sym, ap, arith, subst, ◌∙◌}
use Rattle.elementwise.proofs.Words.{and_parts, map-map, Descr, item_size, item_from, count, max_bytes, offsets, length-offsets, multiples, ScalarDescr, can_cast_scalar, can_cast, cast_item, IsMade}
use Rattle.elementwise.proofs.ColumnLaws.{length-cast_items}
use Rattle.elementwise.proofs.EncodedLaws.{items-read}
use Rattle.elementwise.proofs.CutLaws.{no_text, numbers_cast}
use Rattle.elementwise.proofs.MadeLaws.{made-in, over-made}
use Rattle.elementwise.proofs.casts.cast_items.Goals as goal

pub cast_numbers-requires-clause-from : goal.cast_numbers-requires-clause-from
cast_numbers-requires-clause-from c = c.items.ensures.descr ∙ c.near-near.ensures.descr ∙ c.in-Scalar-Scalar.is-0

pub cast_numbers-requires-clause-to : goal.cast_numbers-requires-clause-to
cast_numbers-requires-clause-to c = no_text c.in-Scalar-Scalar.target (sym c.is_text.ensures ∙ c.if-not-is_text.true)

pub cast_numbers-requires-clause-number : goal.cast_numbers-requires-clause-number
cast_numbers-requires-clause-number c =
    let s = c.in-Scalar-Scalar.scalar in
    let t = c.in-Scalar-Scalar.target in
    numbers_cast s t
    (and_parts (can_cast_scalar s t) true ((λ i. can_cast (sym c.in-Scalar-Scalar.is-0 i) (sym c.in-Scalar-Scalar.is-1 i)) ∙ c.requires.can)).0
    (no_text t (sym c.is_text.ensures ∙ c.if-not-is_text.true))

pub cast_numbers-requires-clause-few : goal.cast_numbers-requires-clause-few
cast_numbers-requires-clause-few c =
    let same = ap count (c.items.ensures.shape ∙ c.near-near.ensures.shape) in
    omega (arith, ap (λ n. n * item_size (ScalarDescr c.in-Scalar-Scalar.target)) same, subst (λ (d : Descr). count c.args.from.layout.now.shape * item_size d ≤ max_bytes) c.in-Scalar-Scalar.is-1 c.requires.few)

pub returns-in-Scalar-Scalar : goal.returns-in-Scalar-Scalar
returns-in-Scalar-Scalar c =
    let x = c.args.from in
    let z = c.items.result in
    let to = ScalarDescr c.in-Scalar-Scalar.target in
    subst (λ (d : Descr). IfOk c.cast_numbers.result (IsMade d x.layout.now.shape (map (λ offset. cast_item x.descr.now d (item_from x.descr.now x.block.now offset)) (offsets x.layout.now)))) (sym c.in-Scalar-Scalar.is-1)
    (made-in to z.layout.now.shape x.layout.now.shape _ _ c.cast_numbers.result (c.items.ensures.shape ∙ c.near-near.ensures.shape)
    (sym (map-map (cast_item z.descr.now to) (item_from z.descr.now z.block.now) (offsets z.layout.now))
    ∙ ap (map (cast_item z.descr.now to)) (c.items.ensures.items ∙ c.near-near.ensures.items)
    ∙ (λ i. map (cast_item ((c.items.ensures.descr ∙ c.near-near.ensures.descr) i) to) (map (item_from x.descr.now x.block.now) (offsets x.layout.now)))
    ∙ map-map (cast_item x.descr.now to) (item_from x.descr.now x.block.now) (offsets x.layout.now))
    c.cast_numbers.ensures)

pub over-requires-clause-whole : goal.over-requires-clause-whole
over-requires-clause-whole c =
    let l = c.args.from.layout.now in
    c.in_ok-cast-in_default.ensures.long ∙ λ i. (length-cast_items c.args.from.descr.now c.args.to.now c.args.from.block.now (offsets l) ∙ length-offsets l) i * item_size (sym c.in_ok-descr-in_default.ensures i)

pub over-requires-clause-small : goal.over-requires-clause-small
over-requires-clause-small c =
    let l = c.args.from.layout.now in
    omega (arith, c.in_ok-cast-in_default.ensures.long, ap (λ n. n * item_size c.args.to.now) (length-cast_items c.args.from.descr.now c.args.to.now c.args.from.block.now (offsets l) ∙ length-offsets l), c.requires.few)

pub returns-in_ok-descr-in_default : goal.returns-in_ok-descr-in_default
returns-in_ok-descr-in_default c =
    let to = c.args.to.now in
    let l = c.args.from.layout.now in
    let owned = c.over.ensures in
    let cast = c.in_ok-cast-in_default.ensures in
    let many = length-cast_items c.args.from.descr.now c.args.to.now c.args.from.block.now (offsets l) ∙ length-offsets l in
    over-made c.in_ok-descr-in_default.descr to l.shape _ c.over.result c.in_ok-cast-in_default.cast c.in_ok-descr-in_default.ensures owned.descr owned.shape owned.order owned.block
    (ap (λ n. map (item_from to c.in_ok-cast-in_default.cast) (multiples (item_size to) n)) (sym many) ∙ items-read to _ c.in_ok-cast-in_default.cast cast) cast.encoded
