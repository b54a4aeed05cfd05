use Rattle.std.proofs.Common.{◌≡◌, ◌≤◌, false, length, ap, subst, sym, arith}
use Rattle.elem_descr.proofs.Words.{Field, Partial, IsShallow, is_taken}
use Rattle.elem_descr.proofs.PartialLaws.{partial_push, MayFollow}
use Rattle.elem_descr.proofs.record_builder.RecordBuilder.add.Goals as goal

pub invariant_of-self-2 : goal.invariant_of-self-2
invariant_of-self-2 c =
    let d = c.self.inside in
    let p : Partial = record { size = d.size; alignment = d.alignment; leaves = d.leaves; levels = d.levels; fields = d.fields.items } in
    let is : p ≡ c.args.self.now = c.self.view_is in
    let field : Field = record { name = c.args.name; at = c.next_multiple_of-at.result; descr = c.args.descr } in
    let most : (1 ≤ c.max-self-inside.result) × (c.max-self-inside.result ≤ 8) = (omega (arith, c.self.invariant.aligned.0), omega (arith, c.self.invariant.aligned.1, c.requires.aligned)) in
    let fresh : Partial → Type 0 = λ q. is_taken q.fields c.args.name ≡ false in
    let shallow : Partial → Type 0 = λ q. IsShallow q.levels c.args.descr in
    let may : MayFollow p field =
    record {
      legal = c.requires.legal;
      free = subst fresh (sym is) c.requires.new;
      room = omega (arith, c.requires.room, ap (λ (q : Partial). length q.fields) is);
      shallow = subst shallow (sym is) c.requires.shallow;
      later = c.next_multiple_of-at.ensures.lower_bound;
      some = omega (arith, c.size.ensures.value, c.size.ensures.not_empty);
      within = omega (arith, c.size.ensures.value);
      few_leaves = omega (arith, c.leaf_count.ensures.value);
    } in
    rw (c.in_ok-push.ensures.items, c.size.ensures.value, c.leaf_count.ensures.value) (partial_push p field c.max-self-inside.result c.self.invariant may most)
