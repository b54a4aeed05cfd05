use Rattle.std.proofs.Common.{◌≡◌, ◌+◌, ◌*◌, ◌≤◌, All, inl, inr, Ok, Err, map, length, refl, sym, ap, subst, ◌∙◌, arith, mul-le-mul_right}
use Rattle.reductions.proofs.Words.{flat_map, err_from_is_err_and, C, ScalarDescr, item_from, size, item_size, encode_item, Gives, count, max_items, offsets, offsets_in, multiples, named_axis, is_axis, lists, reduced_type, outcome_of, result_scalar, reduced_items, shape_after, AreReduced}
use Rattle.reductions.proofs.OutcomeLaws.{refused, outcome_kind, outcome_axis, outcome_shape, outcome_ok, shape_is, many_lists, some_after, items_are, bytes_are, result_size-le}
use Rattle.reductions.proofs.reducing.reduce_items.Goals as goal

pub returns-in_err-scalar : goal.returns-in_err-scalar
returns-in_err-scalar c =
    let p = err_from_is_err_and c.from_residual.result c.from_residual.ensures.1 in
    rw (p.1, p.2) (refused c.args.reduction c.args.items c.args.axis c.args.keep c.in_err-scalar.field-0.0
    (inr (outcome_kind c.args.reduction c.args.items.descr.now c.args.items.layout.now.shape c.args.axis c.args.keep c.in_err-scalar.field-0.0 c.in_err-scalar.ensures.err)))

pub returns-in_err-axis : goal.returns-in_err-axis
returns-in_err-axis c =
    let p = err_from_is_err_and c.from_residual-in_err-axis.result c.from_residual-in_err-axis.ensures.1 in
    let why = c.in_err-axis.ensures.err in
    rw (p.1, p.2) (refused c.args.reduction c.args.items c.args.axis c.args.keep c.in_err-axis.field-0.0 (inr (
    outcome_axis c.args.reduction c.args.items.descr.now c.args.items.layout.now.shape c.args.axis c.args.keep c.in_ok-scalar.scalar c.in_ok-scalar.ensures.ok.0 (ap (λ n. is_axis n c.args.axis) (sym c.rank.ensures.value) ∙ why.1)
    ∙ ap Err (sym why.0)
    )))

pub returns-in_err-shape : goal.returns-in_err-shape
returns-in_err-shape c =
    let p = err_from_is_err_and c.from_residual-in_err-shape.result c.from_residual-in_err-shape.ensures.1 in
    let shape = c.args.items.layout.now.shape in
    let found = c.in_ok-axis.ensures.ok in
    let named = ap (λ n. named_axis n c.args.axis) (sym c.rank.ensures.value) ∙ sym found.1 in
    let refusal = c.in_err-shape.field-0.0 in
    rw (p.1, p.2) (refused c.args.reduction c.args.items c.args.axis c.args.keep refusal
    (elim c.in_err-shape.ensures as (λ _. Gives outcome_of (Err refusal) (reduced_type c.args.reduction c.args.items.descr.now shape c.args.axis c.args.keep)) [
      | inl lacked ↦ inl lacked
      | inr refused ↦ inr (outcome_shape c.args.reduction c.args.items.descr.now shape c.args.axis c.args.keep c.in_ok-scalar.scalar refusal c.in_ok-scalar.ensures.ok.0 (ap (λ n. is_axis n c.args.axis) (sym c.rank.ensures.value) ∙ found.0)
          (ap (λ axis. shape_after c.args.reduction shape axis c.args.keep) named ∙ refused))
    ]))

pub invariant_of-numbers : goal.invariant_of-numbers
invariant_of-numbers c = record {
  inside =
      subst (λ d. All (λ offset. offset + item_size d ≤ length c.bytes.result.now) (offsets c.args.items.layout.now)) c.in_ok-scalar.ensures.ok.2
      (subst (λ b. All (λ offset. offset + item_size c.args.items.descr.now ≤ length b) (offsets c.args.items.layout.now)) (sym c.bytes.ensures) c.args.items.inside);
}

pub reduced_block-requires-clause-items : goal.reduced_block-requires-clause-items
reduced_block-requires-clause-items c =
    c.items.ensures.value ∙ many_lists c.args.reduction c.args.items.layout.now.shape c.in_ok-axis.axis c.args.keep c.in_ok-shape.shape (offsets c.args.items.layout.now) c.rank.result c.rank.ensures.value c.in_ok-axis.ensures.ok.2 c.in_ok-shape.ensures

pub reduced_block-requires-clause-some : goal.reduced_block-requires-clause-some
reduced_block-requires-clause-some c needs none =
    let shape = c.args.items.layout.now.shape in
    c.items.ensures.value
    ∙ ap count (sym (shape_is c.args.reduction shape c.in_ok-axis.axis c.args.keep c.in_ok-shape.shape c.in_ok-shape.ensures))
    ∙ some_after c.args.reduction shape c.in_ok-axis.axis c.args.keep c.in_ok-shape.shape c.in_ok-shape.ensures needs none

pub over-requires-clause-whole : goal.over-requires-clause-whole
over-requires-clause-whole c =
    let many = many_lists c.args.reduction c.args.items.layout.now.shape c.in_ok-axis.axis c.args.keep c.in_ok-shape.shape (offsets c.args.items.layout.now) c.rank.result c.rank.ensures.value c.in_ok-axis.ensures.ok.2 c.in_ok-shape.ensures in
    c.in_ok-out.ensures.len ∙ (λ i. sym many i * size (sym c.result_scalar.ensures i))

pub over-requires-clause-small : goal.over-requires-clause-small
over-requires-clause-small c =
    let wide = size (result_scalar c.args.reduction c.in_ok-scalar.scalar) in
    let long : length c.in_ok-out.out ≡ c.items.result * wide = over-requires-clause-whole c ∙ (λ i. sym c.items.ensures.value i * size (c.result_scalar.ensures i)) in
    let most : c.items.result * wide ≤ max_items * wide = mul-le-mul_right wide c.items.ensures.limit in
    omega (arith, long, most, result_size-le c.args.reduction c.in_ok-scalar.scalar c.in_ok-scalar.ensures.ok.1)

pub returns : goal.returns
returns c =
    let reduction = c.args.reduction in
    let source = c.args.items in
    let shape = source.layout.now.shape in
    let keep = c.args.keep in
    let scalar = c.in_ok-scalar.scalar in
    let axis = c.in_ok-axis.axis in
    let result = c.in_ok-shape.shape in
    let owned = c.in_ok-owned.owned in
    let to = result_scalar reduction scalar in
    let found = ap (λ n. is_axis n c.args.axis) (sym c.rank.ensures.value) ∙ c.in_ok-axis.ensures.ok.0 in
    let named = ap (λ n. named_axis n c.args.axis) (sym c.rank.ensures.value) ∙ sym c.in_ok-axis.ensures.ok.1 in
    let typed = c.in_ok-owned.ensures.descr ∙ ap ScalarDescr c.result_scalar.ensures in
    let placed : offsets owned.layout ≡ multiples (size to) (count result) = c.in_ok-owned.ensures.order ∙ ap (λ s. multiples (size s) (count result)) c.result_scalar.ensures in
    let ls = lists shape axis (offsets source.layout.now) in
    let many = many_lists reduction shape axis keep result (offsets source.layout.now) c.rank.result c.rank.ensures.value c.in_ok-axis.ensures.ok.2 c.in_ok-shape.ensures in
    let are = subst (λ b. AreReduced reduction scalar b (size to) ls c.in_ok-out.out) c.bytes.ensures c.in_ok-out.ensures in
    let items =
    (λ i. map (item_from (typed i) (c.in_ok-owned.ensures.block i)) (placed i))
    ∙ items_are reduction scalar to source.block.now c.in_ok-out.out ls (count result) refl many are
    ∙ (λ i. reduced_items reduction (sym typed i) (sym c.in_ok-scalar.ensures.ok.2 i) source.block.now (lists shape (sym named i) (offsets source.layout.now))) in
    record {
      array =
          outcome_ok reduction source.descr.now shape c.args.axis keep scalar result c.in_ok-scalar.ensures.ok.0 found (ap (λ a. shape_after reduction shape a keep) named ∙ c.in_ok-shape.ensures)
          ∙ (λ i. Ok (record { descr = sym typed i; shape = sym c.in_ok-owned.ensures.shape i }));
      order = c.in_ok-owned.ensures.order ∙ (λ i. offsets_in C (item_size (sym c.in_ok-owned.ensures.descr i)) (sym c.in_ok-owned.ensures.shape i));
      items = items;
      bytes =
          c.in_ok-owned.ensures.block
          ∙ bytes_are reduction scalar to source.block.now c.in_ok-out.out ls (count result) refl many are
          ∙ (λ i. flat_map (encode_item (sym typed i)) (reduced_items reduction (sym typed i) (sym c.in_ok-scalar.ensures.ok.2 i) source.block.now (lists shape (sym named i) (offsets source.layout.now))))
          ∙ ap (flat_map (encode_item owned.descr)) (sym items);
    }
