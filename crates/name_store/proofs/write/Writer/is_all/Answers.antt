use Rattle.std.proofs.Common.{◌≡◌, ◌∙◌, ◌*◌, ap, sym, subst, length, arith}
use Rattle.name_store.proofs.Words.{eqb-true, length-offsets, offsets, target_offsets, Target, AreAll}
use Rattle.name_store.proofs.write.Writer.is_all.Goals as goal

pub returns-then-is_c : goal.returns-then-is_c
returns-then-is_c c same =
    let few : c.items.result ≡ length (offsets c.in-View.layout) = c.items.ensures.value ∙ sym (length-offsets c.in-View.layout) in
    let bytes = ap (λ n. n * c.args.self.now.width) few in
    let equal = eqb-true c.saturating_mul.result c.len.result same in
    subst (λ (t : Target). AreAll c.args.self.now.width c.args.block.now (target_offsets t)) (sym c.in-View.is) (record {
      order = sym c.is_c.ensures ∙ c.if-is_c.true;
      whole = omega (arith, equal, bytes, c.len.ensures.len, c.len.ensures.small, c.saturating_mul.ensures);
    })
