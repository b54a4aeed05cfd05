use Rattle.std.proofs.Common.{sym, ap, ◌∙◌, refl, inl, inr, map}
use Rattle.bench_engine.proofs.Words.{err_from_is_err_and, offsets, Descr, item_from, item_size}
use Rattle.bench_engine.proofs.Assigns.{kept-items}
use Rattle.bench_engine.proofs.GivenLaws.{stretches, wide-shape, wide-inside, cast-lacks}
use Rattle.bench_engine.proofs.write.fitted.Goals as goal

pub returns-then-not-can_cast : goal.returns-then-not-can_cast
returns-then-not-can_cast c = inr (inr (refl, c.in_ok-wide.wide, stretches c.args.items.layout.now c.in_ok-wide.wide c.args.shape.now c.in_ok-wide.ensures, sym c.if-not-can_cast.ensures))

pub returns-then-keeps_items : goal.returns-then-keeps_items
returns-then-keeps_items c =
    let r = c.args.items in
    let alike = c.if-keeps_items.ensures.alike refl in (
      c.in-Some.is,
      stretches c.args.items.layout.now c.in_ok-wide.wide c.args.shape.now c.in_ok-wide.ensures,
      sym c.if-not-can_cast.ensures,
      alike,
      kept-items r.descr.now c.args.descr.now r.block.now (offsets c.in_ok-wide.wide) alike (c.if-keeps_items.ensures.items refl)
          (wide-inside r.block.now (item_size r.descr.now) c.args.items.layout.now c.in_ok-wide.wide c.args.shape.now c.in_ok-wide.ensures c.args.items.inside),
    )

pub invariant_of-stretched : goal.invariant_of-stretched
invariant_of-stretched c = record { inside = wide-inside c.args.items.block.now (item_size c.args.items.descr.now) c.args.items.layout.now c.in_ok-wide.wide c.args.shape.now c.in_ok-wide.ensures c.args.items.inside }

pub returns-in_err-owned : goal.returns-in_err-owned
returns-in_err-owned c =
    let p = err_from_is_err_and c.from_residual-in_err-owned.result c.from_residual-in_err-owned.ensures.1 in
    rw (p.1, p.2) (inl (cast-lacks _ c.args.shape.now c.in_ok-wide.wide.shape (item_size c.args.descr.now) _ (sym c.if-not-can_cast.ensures) (wide-shape c.args.items.layout.now c.in_ok-wide.wide c.args.shape.now c.in_ok-wide.ensures)
    c.requires.few c.in_err-owned.ensures.refused))

pub returns : goal.returns
returns c =
    let e = c.in_ok-owned.ensures in (
      c.in_ok-wide.wide,
      stretches c.args.items.layout.now c.in_ok-wide.wide c.args.shape.now c.in_ok-wide.ensures,
      sym c.if-not-can_cast.ensures,
      e.descr,
      e.shape ∙ wide-shape c.args.items.layout.now c.in_ok-wide.wide c.args.shape.now c.in_ok-wide.ensures,
      ap (λ (d : Descr). map (item_from d c.in_ok-owned.owned.block) (offsets c.in_ok-owned.owned.layout)) e.descr ∙ e.items,
    )
