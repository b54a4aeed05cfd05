use Rattle.std.proofs.Common.{◌≡◌, ◌+◌, ◌<◌, ◌≤◌, ℕ, List, [], get_or, length, take, drop, sym, ap, ◌∙◌, arith, IfSome, slice_get}
use Rattle.array_print.proofs.Words.{Scalar, Descr, size, decode, item_size, leaves_of, right_justified, leaf_text, AreWidths, texts_at}
use Rattle.array_print.proofs.PushLaws.{pushes-same}
use Rattle.array_print.proofs.LeafLaws.{bytes-at, count-widths, width-at, text-at}
use Rattle.array_print.proofs.printer.push_leaf.Goals as goal

-- the text of the leaf's bytes is the leaf's text
leaf-text : (descr : Descr) (ws block : List ℕ) (offset k at wide : ℕ) (scalar : Scalar) → AreWidths (leaves_of descr) ws → k < length (leaves_of descr) → IfSome (slice_get (leaves_of descr) k) (λ leaf. (scalar ≡ leaf.scalar) × (at ≡ leaf.at)) →
    at + size scalar ≤ item_size descr → wide ≡ size scalar → right_justified (get_or ws k 0) (leaf_text scalar (decode scalar (take wide (drop (offset + at) block)))) ≡ get_or (texts_at descr ws block offset) k []
leaf-text descr ws block offset k at wide scalar are below is fits whole =
    ap (λ bytes. right_justified (get_or ws k 0) (leaf_text scalar (decode scalar bytes))) (ap (λ n. take n (drop (offset + at) block)) whole ∙ sym (bytes-at block offset at (size scalar) (item_size descr) fits))
    ∙ sym (text-at (leaves_of descr) ws (take (item_size descr) (drop offset block)) k scalar at are below is)

pub bounds-items-k : goal.bounds-items-k
bounds-items-k g c = omega (arith, count-widths (leaves_of c.args.item.now.items.descr.now) c.args.item.now.items.widths.now c.requires.item.widths, c.requires.leaf)

pub push_value-requires-clause-width : goal.push_value-requires-clause-width
push_value-requires-clause-width g c =
    width-at (leaves_of c.args.item.now.items.descr.now) c.args.item.now.items.widths.now c.args.k c.leaf_at-scalar.result.0 c.leaf_at-scalar.result.1 c.requires.item.widths c.requires.leaf c.leaf_at-scalar.ensures.leaf

pub returns : goal.returns
returns g c =
    let text = leaf-text c.args.item.now.items.descr.now c.args.item.now.items.widths.now c.args.item.now.items.block.now c.args.item.now.offset c.args.k c.leaf_at-scalar.result.1 _ c.leaf_at-scalar.result.0 c.requires.item.widths c.requires.leaf c.leaf_at-scalar.ensures.leaf c.leaf_at-scalar.ensures.within (omega (arith, c.size.ensures.value)) in
    pushes-same text c.push_value.ensures
