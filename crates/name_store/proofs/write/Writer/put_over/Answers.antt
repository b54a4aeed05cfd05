use Rattle.std.proofs.Common.{◌≡◌, refl, sym, ap, ◌∙◌, length}
use Rattle.name_store.proofs.Words.{offsets, multiples, items_at, target_offsets, Target}
use Rattle.name_store.proofs.ExchangeLaws.{own-packed, own-offsets, replaced, replaced-old}
use Rattle.name_store.proofs.RewriteLaws.{owned-within}
use Rattle.name_store.proofs.write.Writer.put_over.Goals as goal

pub returns-then-is_all-clause-put : goal.returns-then-is_all-clause-put
returns-then-is_all-clause-put c = (
  c.replace-block.ensures.after
      ∙ replaced c.args.self.now.width c.args.block.now (target_offsets c.args.self.now.target) c.requires.inside (c.is_all.ensures c.if-is_all.true) _ c.in_ok-items.items c.in_ok-items.ensures,
  tt,
)

pub returns-then-is_all-clause-old : goal.returns-then-is_all-clause-old
returns-then-is_all-clause-old c = replaced-old c.args.self.now.width c.args.block.now (target_offsets c.args.self.now.target) c.requires.inside (c.is_all.ensures c.if-is_all.true) _ refl c.replace-block.ensures.value

pub exchange-requires-clause-paired : goal.exchange-requires-clause-paired
exchange-requires-clause-paired c =
    let are = rw c.in-Block.is at c.requires.are in
    record {
      to_in = rw c.in-View.is at c.requires.inside;
      from_in = owned-within c.in-Block.owned c.args.self.now.width are.0;
      count = are.1 ∙ ap (λ (t : Target). length (target_offsets t)) c.in-View.is;
    }

pub returns-in-View-clause-old : goal.returns-in-View-clause-old
returns-in-View-clause-old c =
    let width = c.args.self.now.width in
    let owned = c.in-Block.owned in
    let os = target_offsets c.args.self.now.target in
    let are = rw c.in-Block.is at c.requires.are in
    let order = sym c.is_c.ensures ∙ c.if-is_c.true in
    let packed = own-packed owned width (length os) are.0 are.1 order in
    let placed : multiples width (length os) ≡ offsets owned.layout = ap (multiples width) (sym are.1) ∙ sym (own-offsets owned width are.0 order) in
    record {
      size = refl;
      packed = record {
        long = c.exchange.ensures.other_len ∙ packed.long;
        items =
            ap (λ at. items_at at width c.exchange.new.other) placed
            ∙ c.exchange.ensures.old
            ∙ ap (λ (t : Target). items_at (target_offsets t) width c.args.block.now) (sym c.in-View.is);
      };
    }
