use Rattle.elementwise.proofs.CastingLaws.{as_byte, as_int}
use Rattle.elementwise.proofs.kernels.casting.cast.Goals as goal

pub returns-in-Byte : goal.returns-in-Byte
returns-in-Byte g c = as_byte (g.S.Number.scalar g.P.Ordered.order) c.args.scalar.now c.args.operands c.args.block c.append-in-Byte.result _ c.in-Byte.is c.append-in-Byte.ensures

pub returns-in-Two-Little : goal.returns-in-Two-Little
returns-in-Two-Little g c = as_int (g.S.Number.scalar g.P.Ordered.order) c.args.scalar.now c.args.operands c.args.block c.append-in-Two-Little.result _ _ _ _ _ c.in-Int.is c.in-Two-Little.is-0 c.in-Two-Little.is-1 c.append-in-Two-Little.ensures

pub returns-in-Two-Big : goal.returns-in-Two-Big
returns-in-Two-Big g c = as_int (g.S.Number.scalar g.P.Ordered.order) c.args.scalar.now c.args.operands c.args.block c.append-in-Two-Big.result _ _ _ _ _ c.in-Int.is c.in-Two-Big.is-0 c.in-Two-Big.is-1 c.append-in-Two-Big.ensures

pub returns-in-Four-Little : goal.returns-in-Four-Little
returns-in-Four-Little g c = as_int (g.S.Number.scalar g.P.Ordered.order) c.args.scalar.now c.args.operands c.args.block c.append-in-Four-Little.result _ _ _ _ _ c.in-Int.is c.in-Four-Little.is-0 c.in-Four-Little.is-1 c.append-in-Four-Little.ensures

pub returns-in-Four-Big : goal.returns-in-Four-Big
returns-in-Four-Big g c = as_int (g.S.Number.scalar g.P.Ordered.order) c.args.scalar.now c.args.operands c.args.block c.append-in-Four-Big.result _ _ _ _ _ c.in-Int.is c.in-Four-Big.is-0 c.in-Four-Big.is-1 c.append-in-Four-Big.ensures

pub returns-in-Eight-Little : goal.returns-in-Eight-Little
returns-in-Eight-Little g c = as_int (g.S.Number.scalar g.P.Ordered.order) c.args.scalar.now c.args.operands c.args.block c.append-in-Eight-Little.result _ _ _ _ _ c.in-Int.is c.in-Eight-Little.is-0 c.in-Eight-Little.is-1 c.append-in-Eight-Little.ensures

pub returns-in-Eight-Big : goal.returns-in-Eight-Big
returns-in-Eight-Big g c = as_int (g.S.Number.scalar g.P.Ordered.order) c.args.scalar.now c.args.operands c.args.block c.append-in-Eight-Big.result _ _ _ _ _ c.in-Int.is c.in-Eight-Big.is-0 c.in-Eight-Big.is-1 c.append-in-Eight-Big.ensures
