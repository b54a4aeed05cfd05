use Rattle.std.proofs.Common.{sym, ◌∙◌, Some, None}
use Rattle.name_store.proofs.ExchangeLaws.{own-packed}
use Rattle.name_store.proofs.RewriteLaws.{owned-within, lent-within, lent-packed}
use Rattle.name_store.proofs.write.Writer.packed.Goals as goal

pub gather-requires : goal.gather-requires
gather-requires c = owned-within c.in-Block.owned c.args.self.now.width (rw c.in-Block.is at c.requires.are).0

pub gather-requires-in-Some : goal.gather-requires-in-Some
gather-requires-in-Some c = lent-within _ _ c.args.block.now _ _ _ (rw c.in-Buffer.is at c.requires.are) (Some c.in-Some.slot) _ c.in-Some.is

pub gather-requires-in-None : goal.gather-requires-in-None
gather-requires-in-None c = lent-within _ _ c.args.block.now _ _ _ (rw c.in-Buffer.is at c.requires.are) None _ c.in-None.is

pub returns-in-Block : goal.returns-in-Block
returns-in-Block c =
    let are = rw c.in-Block.is at c.requires.are in
    rw c.in-Block.is (own-packed c.in-Block.owned c.args.self.now.width _ are.0 are.1 (sym c.is_c.ensures ∙ c.if-is_c.true))

pub returns-in-Some : goal.returns-in-Some
returns-in-Some c =
    rw c.in-Buffer.is (lent-packed _ _ c.args.block.now _ _ _ (rw c.in-Buffer.is at c.requires.are) (Some c.in-Some.slot) _ c.in-Some.is c.gather-in-Some.result c.gather-in-Some.ensures.len c.gather-in-Some.ensures.items)

pub returns : goal.returns
returns c = rw c.in-Buffer.is (lent-packed _ _ c.args.block.now _ _ _ (rw c.in-Buffer.is at c.requires.are) None _ c.in-None.is c.gather-in-None.result c.gather-in-None.ensures.len c.gather-in-None.ensures.items)
