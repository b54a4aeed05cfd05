use Rattle.std.proofs.Common.{length, sym, ap, subst, ◌∙◌, arith}
use Rattle.elementwise.proofs.Words.{EachWithin, item_at, leaf_cast, place, with_leaves}
use Rattle.elementwise.proofs.kernels.leaf_casts.CastingFromNumberTask.run.Goals as goal

pub invariant_of-side : goal.invariant_of-side
invariant_of-side g c =
    let s = c.args.self.0 in
    record {
      few = omega (arith, c.requires.few);
      within = subst (λ width. EachWithin (length c.bytes.result.now) s.from.offset s.from.step width s.from.count) (sym c.WIDTH.ensures)
          (subst (λ bytes. EachWithin (length bytes) s.from.offset s.from.step g.S.Number.WIDTH s.from.count) (sym c.bytes.ensures) c.requires.within);
    }

pub returns : goal.returns
returns g c =
    let s = c.args.self.0 in
    let wide = c.WIDTH.ensures ∙ sym (g.met.S.Number.has_width g.P.Ordered.order) in
    let same = c.bytes_mut.ensures.same_len c.put_each.new.bytes (c.put_each.ensures.len ∙ ap length c.bytes_mut.ensures.value) in (
      same ∙ c.put_each.ensures.bytes ∙ λ i. with_leaves (λ k. leaf_cast (g.S.Number.scalar g.P.Ordered.order) (g.T.Number.scalar g.Q.Ordered.order) (item_at (place s.from.offset s.from.step k) (wide i) (c.bytes.ensures i))) s.at s.row s.from.count (c.bytes_mut.ensures.value i),
      ap length same ∙ c.put_each.ensures.len ∙ ap length c.bytes_mut.ensures.value,
    )
