use Rattle.std.proofs.Common.{◌≡◌, map, sym, ap, ◌∙◌}
use Rattle.arrays.proofs.Words.{item_at, item_size, offsets, offsets_in}
use Rattle.arrays.proofs.ItemLaws.{items-from_bytes}
use Rattle.arrays.proofs.copies.copy.Goals as goal

-- the copied items have the same bytes
same : (c : goal.In_ok-copy) → map (λ o. item_at o (item_size c.args.descr.now) c.in_ok-copy.copy.block) (offsets c.in_ok-copy.copy.layout) ≡ map (λ o. item_at o (item_size c.args.descr.now) c.args.block.now) (offsets c.args.layout.now)
same c =
    let width = c.size-item.ensures.value in
    let to : offsets c.in_ok-copy.copy.layout ≡ offsets_in c.args.order c.size-item.result c.args.layout.now.shape =
    c.in_ok-copy.ensures.order ∙ ap (λ n. offsets_in c.args.order n c.args.layout.now.shape) (ap item_size c.in_ok-descr.ensures ∙ sym width) in
    (λ i. map (λ o. item_at o (sym width i) (c.in_ok-copy.ensures.block i)) (to i))
    ∙ c.in_ok-block.ensures.items
    ∙ (λ i. map (λ o. item_at o (width i) c.args.block.now) (offsets c.args.layout.now))

pub returns-clause-items : goal.returns-clause-items
returns-clause-items c =
    items-from_bytes c.args.descr.now c.in_ok-copy.copy.block c.args.block.now (offsets c.in_ok-copy.copy.layout) (offsets c.args.layout.now) (same c)
