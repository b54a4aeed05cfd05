-- The whole text of an array, as the block that all its axes lead to.
use Rattle.std.proofs.Common.{All, length, ◌≤◌, ◌+◌, ◌≡◌, ℕ, List, cond, codes, map, drop, sym, subst, ◌∙◌, ap, arith, ◌<◌}
use Rattle.std.proofs.lemmas.Simd.{map-map}
use Rattle.array_print.proofs.Words.{item_size, ne_eqb, item_from, AreWidths, leaves_of, Descr, Layout, count, offsets, array_text, block_text, item_text, widths, items_from, shown, part_offsets}
use Rattle.array_print.specs.declared.printer.Items.{Items}
use Rattle.array_print.specs.inside.ItemTexts.{AreItemsAt}
use Rattle.array_print.proofs.LeafLaws.{are-widths}
use Rattle.array_print.proofs.PartLaws.{whole-offsets, whole-part}

-- all axes lead to the items of the array, whose texts have the widths of its texts
pub whole-items : (items : Items) (l : Layout) → 0 < count l.shape → items.widths.now ≡ widths items.descr.now l.shape (items_from items.descr.now items.block.now (offsets l)) → All (λ offset. offset + item_size items.descr.now ≤ length items.block.now) (offsets l) → AreItemsAt items l 0 l.offset
whole-items items l some wide inside = record {
  widths = subst (AreWidths (leaves_of items.descr.now)) (sym wide) (are-widths items.descr.now l.shape (items_from items.descr.now items.block.now (offsets l)));
  part = whole-part l (length items.block.now) (item_size items.descr.now) some inside;
}

-- the whole layout is printed as one block, inside no bracket
pub whole-text : (descr : Descr) (l : Layout) (block ws : List ℕ) → 0 < count l.shape → ws ≡ widths descr l.shape (items_from descr block (offsets l)) →
    block_text 0 (drop 0 l.shape) (map (shown descr ws block) (part_offsets l 0 l.offset)) ≡ array_text descr l.shape (items_from descr block (offsets l))
whole-text descr l block ws some wide =
    let items = items_from descr block (offsets l) in
    let texts = map (item_text descr (widths descr l.shape items)) items in
    ap (λ os. block_text 0 l.shape (map (shown descr ws block) os)) (whole-offsets l)
    ∙ ap (λ ts. block_text 0 l.shape ts) (sym (map-map (item_text descr ws) (item_from descr block) (offsets l)))
    ∙ ap (λ w. block_text 0 l.shape (map (item_text descr w) items)) wide
    ∙ ap (λ b. cond b (codes "[]") (block_text 0 l.shape texts)) (sym (ne_eqb (count l.shape) 0 (λ none. omega (arith, none, some))))
