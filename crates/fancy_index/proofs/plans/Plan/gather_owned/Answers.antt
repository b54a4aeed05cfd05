use Rattle.std.proofs.Common.{◌≡◌, length, map, sym, ap, ◌∙◌}
use Rattle.fancy_index.proofs.Words.{map-map, item_from, item_size, decode_item, item_at, count, offsets, multiples, items_at, Planned}
use Rattle.fancy_index.proofs.plans.Plan.gather_owned.Goals as goal

pub returns-clause-items : goal.returns-clause-items
returns-clause-items c =
    let descr = c.args.descr.now in
    let width = c.size-item.result in
    let from = c.args.self.now.offsets in
    let to = multiples width (length from) in
    let items = c.in_ok-items.items in
    let sized : width ≡ item_size descr = c.size-item.ensures.value in
    let many : count c.self.inside.shape ≡ length from = ap (λ (p : Planned). count p.shape) c.self.view_is ∙ sym c.len.ensures.count ∙ c.len.ensures.value in
    let lies : offsets c.in_ok-over.field-0.layout ≡ to = c.in_ok-over.ensures.order ∙ (λ i. multiples (item_size (c.in_ok-descr.ensures i)) (many i)) ∙ ap (λ n. multiples n (length from)) (sym sized) in
    (λ i. map (item_from descr (c.in_ok-over.ensures.block i)) (lies i))
    ∙ sym (map-map (decode_item descr) (λ o. item_at o (item_size descr) items) to)
    ∙ ap (map (decode_item descr)) (ap (λ n. items_at to n items) (sym sized) ∙ c.in_ok-items.ensures.items ∙ ap (λ n. items_at from n c.args.block.now) sized)
    ∙ map-map (decode_item descr) (λ o. item_at o (item_size descr) c.args.block.now) from
