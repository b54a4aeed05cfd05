-- Layouts that are stretched to a shape.
use Rattle.std.proofs.Common.{◌≡◌, ◌+◌, ◌≤◌, ℕ, List, All, map, sym, ap, ◌∙◌}
use Rattle.elementwise.proofs.Words.{Layout, Items, item_from, items, offsets, offsets_within, fits-offsets, View, view_through, IsViewOf, broadcast_index, stretched-self, items_stretched}

pub inside : {old new : Layout} {view : View} (len width : ℕ) → IsViewOf old new view → All (λ offset. offset + width ≤ len) (offsets old) → All (λ offset. offset + width ≤ len) (offsets new)
inside {old} {new} len width is ends = offsets_within new len width (is.fits len width (fits-offsets old len width ends))

-- items that already have the shape
pub stretches-itself : (x : Items) (shape : List ℕ) → x.layout.now.shape ≡ shape → items x ≡ items_stretched x shape
stretches-itself x shape same =
    let l = x.layout.now in
    ap (map (item_from x.descr.now x.block.now)) (sym (stretched-self l) ∙ λ i. view_through (offsets l) l.shape (same i) (broadcast_index l.shape))
