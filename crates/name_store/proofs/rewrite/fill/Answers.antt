use Rattle.std.proofs.Common.{◌+◌, ◌≤◌, All, length, refl, sym, ap, subst, ◌∙◌}
use Rattle.name_store.proofs.Words.{offsets, pair_even, put_each, All-firsts, firsts-reordered, filled-reordered, target_offsets, Target}
use Rattle.name_store.proofs.SourceLaws.{put_each-items}
use Rattle.name_store.proofs.rewrite.fill.Goals.{In-View-2}
use Rattle.name_store.proofs.rewrite.fill.Goals as goal

-- the items of the view lie within the block
lie : (c : In-View-2) → All (λ o. o + length c.args.item.now ≤ length c.args.block.now) (offsets c.in-View-2.layout)
lie c = subst (λ (t : Target). All (λ o. o + length c.args.item.now ≤ length c.args.block.now) (target_offsets t)) c.in-View-2.is c.requires

pub fill_each-requires-in-Some : goal.fill_each-requires-in-Some
fill_each-requires-in-Some c =
    let os = offsets c.in-View-2.layout in
    let pair = c.in-Some.pair in
    All-firsts (λ o. o + length c.args.item.now ≤ length c.args.block.now) os os (offsets pair.target) (offsets pair.source) refl (pair_even pair) c.in-Some.ensures.pairs (lie (goal.at.fill_each-requires-in-Some c).In-View-2)

pub returns-in-Some-clause-bytes : goal.returns-in-Some-clause-bytes
returns-in-Some-clause-bytes c =
    let os = offsets c.in-View-2.layout in
    let pair = c.in-Some.pair in
    let item = c.args.item.now in
    let block = c.args.block.now in
    c.fill_each-in-Some.ensures.bytes
    ∙ put_each-items (offsets pair.target) item block
    ∙ filled-reordered os (offsets pair.target) item block c.in-Some.ensures.nested (lie (goal.at.returns-in-Some-clause-bytes c).In-View-2) (firsts-reordered os os (offsets pair.target) (offsets pair.source) refl (pair_even pair) c.in-Some.ensures.pairs)
    ∙ sym (put_each-items os item block)
    ∙ ap (λ (t : Target). put_each (target_offsets t) item block) (sym c.in-View-2.is)
