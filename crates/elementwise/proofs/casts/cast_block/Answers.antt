use Rattle.std.proofs.Common.{◌≡◌, ◌*◌, ℕ, List, Result, Ok, Err, IfOk, pos, w64, length, sym, ap, subst, ◌∙◌, arith}
use Rattle.elementwise.proofs.Words.{ints, IfOk-weaker, AllocError, to_z, item_size, EachWithin, max_bytes, offsets, length-offsets, run_offsets, row_offsets, row-multiples, multiples, items_at, cast_items, AreItems}
use Rattle.elementwise.proofs.ColumnLaws.{same-cast}
use Rattle.elementwise.proofs.CutLaws.{first-bytes-cast}
use Rattle.elementwise.proofs.RowLaws.{count-run, row-within, run-inside}
use Rattle.elementwise.proofs.casts.cast_block.Goals as goal

-- ---- items that are one run

pub cast_bands-requires-clause-within : goal.cast_bands-requires-clause-within
cast_bands-requires-clause-within c =
    let x = c.args.from in
    run-inside x c.in-Some.run' c.in-Some.ensures.items (c.in-Some.ensures.lie max_bytes 1 x.layout.now.within_limit)

pub cast_bands-requires-clause-count : goal.cast_bands-requires-clause-count
cast_bands-requires-clause-count c =
    omega (arith, count-run c.args.from.layout.now c.in-Some.run' c.in-Some.ensures.items, c.items-count.ensures.value, c.items-count.ensures.limit)

pub cast_bands-requires-clause-few : goal.cast_bands-requires-clause-few
cast_bands-requires-clause-few c =
    omega (arith, ap (λ n. n * item_size c.args.to.now) (count-run c.args.from.layout.now c.in-Some.run' c.in-Some.ensures.items), c.requires.few)

-- ---- items that are gathered first

pub cast_bands-requires-2-clause-within : goal.cast_bands-requires-2-clause-within
cast_bands-requires-2-clause-within c =
    let w = c.size-width.result in
    let n = c.items-count.result in
    let bytes = c.in_ok-packed.packed in
    let near : to_z w64 w ≡ pos w = omega (arith, ints, c.size-width.ensures.within) in
    let long : length bytes ≡ n * w = c.in_ok-packed.ensures.len ∙ ap (λ n. n * w) (length-offsets c.args.from.layout.now ∙ sym c.items-count.ensures.value) in
    subst (λ z. EachWithin (length bytes) 0 z (item_size c.args.from.descr.now) n) (sym near)
    (subst (λ v. EachWithin (length bytes) 0 (pos w) v n) c.size-width.ensures.value (row-within (length bytes) 0 w w n (omega arith) (omega (arith, long))))

pub returns : goal.returns
returns c =
    let x = c.args.from in
    let from = x.descr.now in
    let to = c.args.to.now in
    let os = offsets x.layout.now in
    let w = c.size-width.result in
    let bytes = c.in_ok-packed.packed in
    let near : to_z w64 w ≡ pos w = omega (arith, ints, c.size-width.ensures.within) in
    let many : c.items-count.result ≡ length os = c.items-count.ensures.value ∙ sym (length-offsets x.layout.now) in
    let here : run_offsets (record { offset = 0; count = c.items-count.result; step = to_z w64 w }) ≡ row_offsets 0 w (length os) = λ i. run_offsets (record { offset = 0; count = many i; step = near i }) in
    let same = (λ i. items_at (row-multiples w (length os) i) w bytes) ∙ c.in_ok-packed.ensures.items in
    let values = (λ i. cast_items from to bytes (here i)) ∙ same-cast from to w bytes x.block.now (row_offsets 0 w (length os)) os c.size-width.ensures.value same in
    IfOk-weaker c.cast_bands-2.result _ _ (λ out are. subst (λ vs. AreItems to vs out) values are) c.cast_bands-2.ensures

-- ---- byte strings that are cut

pub returns-then-is_cut : goal.returns-then-is_cut
returns-then-is_cut c = told c.gather.result c.gather.ensures.len c.gather.ensures.items
  where
    told : (result : Result (List ℕ) AllocError) → IfOk result (λ bytes. length bytes ≡ length (offsets c.args.from.layout.now) * c.size.result)
        → IfOk result (λ bytes. items_at (multiples c.size.result (length (offsets c.args.from.layout.now))) c.size.result bytes ≡ items_at (offsets c.args.from.layout.now) c.size.result c.args.from.block.now)
        → IfOk result (AreItems c.args.to.now (cast_items c.args.from.descr.now c.args.to.now c.args.from.block.now (offsets c.args.from.layout.now)))
    told (Err e) long same = tt
    told (Ok bytes) long same =
        let os = offsets c.args.from.layout.now in
        first-bytes-cast c.args.from.descr.now c.args.to.now c.args.from.block.now os bytes (c.is_cut.ensures c.if-is_cut.true) c.args.from.inside
        (long ∙ ap (λ w. length os * w) c.size.ensures.value)
        (subst (λ w. items_at (multiples w (length os)) w bytes ≡ items_at os w c.args.from.block.now) c.size.ensures.value same)
        c.size.ensures.apart
