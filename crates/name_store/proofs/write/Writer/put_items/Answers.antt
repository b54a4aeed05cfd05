use Rattle.std.proofs.Common.{sym, ◌∙◌}
use Rattle.name_store.proofs.Words.{target_offsets}
use Rattle.name_store.proofs.ExchangeLaws.{own-packed, replaced}
use Rattle.name_store.proofs.write.Writer.put_items.Goals as goal

pub returns-then-is_all-clause-put : goal.returns-then-is_all-clause-put
returns-then-is_all-clause-put c =
    let width = c.args.self.now.width in
    let are = rw c.in-Block.is at c.requires.are in
    let packed = own-packed c.in-Block.owned width _ are.0 are.1 (sym c.is_c.ensures ∙ c.if-is_c.true) in
    rw c.in-Block.is (replaced width c.args.block.now (target_offsets c.args.self.now.target) c.requires.inside (c.is_all.ensures c.if-is_all.true) _ c.in-Block.owned.block packed, tt)
