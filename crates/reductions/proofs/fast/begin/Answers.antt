use Rattle.std.proofs.Common.{◌+◌, [], ◌∷◌, length, ap, subst, sym, ◌∙◌, arith, length-append}
use Rattle.reductions.proofs.Words.{number_of_side, EachOf}
use Rattle.reductions.proofs.HeldLaws.{each_more}
use Rattle.reductions.proofs.fast.begin.Goals as goal

pub loop-j-init : goal.loop-j-init
loop-j-init g c = record {
  len = ap length c.in_ok-held.ensures.items;
  room = c.in_ok-held.ensures.capacity;
  held = λ j d low. absurd (omega (arith, low));
}

pub push_reserved-requires : goal.push_reserved-requires
push_reserved-requires g c = omega (arith, c.loop-j.invariant.len, c.loop-j.invariant.room, c.loop-j-test.true)

pub loop-j-preserved : goal.loop-j-preserved
loop-j-preserved g c = record {
  len = ap length c.push_reserved.ensures.items ∙ omega (arith, length-append c.loop-j.held.items (c.start.result ∷ []), c.loop-j.invariant.len);
  room = omega (arith, c.push_reserved.ensures.capacity, c.loop-j.invariant.room);
  held =
      subst (λ xs. EachOf (c.loop-j.j + 1) xs (λ j one. g.F.Fold.holds one (number_of_side (g.S.Number.scalar g.O.Ordered.order) c.args.firsts j) [])) (sym c.push_reserved.ensures.items)
      (each_more (λ j one. g.F.Fold.holds one (number_of_side (g.S.Number.scalar g.O.Ordered.order) c.args.firsts j) []) c.loop-j.j c.loop-j.held.items c.start.result c.loop-j.invariant.len c.loop-j.invariant.held
      (subst (λ z. g.F.Fold.holds c.start.result z []) c.number.ensures c.start.ensures));
}
