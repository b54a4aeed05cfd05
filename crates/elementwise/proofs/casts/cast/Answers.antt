use Rattle.elementwise.proofs.MadeLaws.{made-encoded}
use Rattle.elementwise.proofs.casts.cast.Goals as goal

pub returns-clause-descr : goal.returns-clause-descr
returns-clause-descr c = c.in_ok-cast_items.ensures.descr_is

pub returns-clause-shape : goal.returns-clause-shape
returns-clause-shape c = c.in_ok-cast_items.ensures.shape_is

pub returns-clause-order : goal.returns-clause-order
returns-clause-order c = c.in_ok-cast_items.ensures.order

pub returns-clause-items : goal.returns-clause-items
returns-clause-items c = c.in_ok-cast_items.ensures.items

pub returns-clause-encoded : goal.returns-clause-encoded
returns-clause-encoded c = made-encoded c.args.to.now c.args.from.layout.now.shape _ _ c.in_ok-cast_items.ensures
