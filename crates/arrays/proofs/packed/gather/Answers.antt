use Rattle.std.proofs.Common.{◌≡◌, ◌+◌, ◌*◌, ◌≤◌, ◌++◌, length, sym, ap, ◌∙◌, arith}
use Rattle.arrays.proofs.Words.{IfOk-weaker, item_at, first_address, offsets, multiples, length-offsets, items_at, joined_at, length-joined_at, joined-items}
use Rattle.arrays.proofs.WholeLaws.{whole-ends, whole-items}
use Rattle.arrays.proofs.packed.gather.Goals as goal
use Rattle.arrays.proofs.packed.gather.Goals.{After-len-len, After-filled-filled, After-finish}

-- ---- adjacent items

-- the number of bytes of all items, which lie within the block
whole : (c : After-len-len) → (c.saturating_mul-bytes.result ≡ length (offsets c.args.layout.now) * c.args.width) × (first_address (offsets c.args.layout.now) + c.saturating_mul-bytes.result ≤ length c.args.block.now)
whole c =
    let os = offsets c.args.layout.now in
    let ends = whole-ends c.args.width (length c.args.block.now) os (sym c.if-is_c.ensures) c.requires in
    let bytes = ap (λ n. n * c.args.width) (c.items.ensures.value ∙ sym (length-offsets c.args.layout.now)) in
    (omega (arith, ends, bytes, c.saturating_mul-bytes.ensures, c.len-len.ensures.len, c.len-len.ensures.small), omega (arith, ends, bytes, c.saturating_mul-bytes.ensures, c.len-len.ensures.len, c.len-len.ensures.small))

pub part-whole-requires : goal.part-whole-requires
part-whole-requires c = omega (arith, c.first_address.ensures, (whole (goal.at.part-whole-requires c).After-len-len).1, ap length c.bytes.ensures)

pub returns-then-is_c-clause-items : goal.returns-then-is_c-clause-items
returns-then-is_c-clause-items c =
    let os = offsets c.args.layout.now in
    let width = c.args.width in
    let long = (whole (goal.at.returns-then-is_c-clause-items c).After-len-len).0 in
    let whole-is : c.part-whole.result.now ≡ item_at (first_address os) (length os * width) c.args.block.now =
    c.part-whole.ensures.value ∙ (λ i. item_at (c.first_address.ensures i) (long i) (c.bytes.ensures i)) in
    IfOk-weaker c.try_copied.result _ _ (λ items is. ap (items_at (multiples width (length os)) width) (is ∙ whole-is) ∙ whole-items width os c.args.block.now (sym c.if-is_c.ensures)) c.try_copied.ensures

pub returns-then-is_c-clause-len : goal.returns-then-is_c-clause-len
returns-then-is_c-clause-len c =
    let long = (whole (goal.at.returns-then-is_c-clause-len c).After-len-len).0 in
    IfOk-weaker c.try_copied.result _ _ (λ items is. ap length is ∙ c.part-whole.ensures.len ∙ long) c.try_copied.ensures

-- ---- run by run, or by columns

-- the memory is enough for exactly all items
size : (c : After-filled-filled) → length (offsets c.args.layout.now) * c.args.width ≡ c.in_ok-items.items.1
size c =
    let long = ap (λ n. n * c.args.width) (length-offsets c.args.layout.now ∙ sym c.items.ensures.value) in
    omega (arith, long, ap (λ p. p.1) c.in_ok-items.ensures, c.saturating_mul-bytes.ensures, c.filled-filled.ensures.small)

pub push_layout-requires-clause-room : goal.push_layout-requires-clause-room
push_layout-requires-clause-room c = omega (arith, size (goal.at.push_layout-requires-clause-room c).After-filled-filled)

pub finish-requires : goal.finish-requires
finish-requires c = omega (arith, size (goal.at.finish-requires c).After-filled-filled, c.push_layout.ensures.left)

-- the items are concatenated
bytes_are : (c : After-finish) → c.finish.result ≡ joined_at (offsets c.args.layout.now) c.args.width c.args.block.now
bytes_are c = c.finish.ensures ∙ c.push_layout.ensures.bytes ∙ (λ i. (c.in_ok-items.ensures i).0 ++ joined_at (offsets c.args.layout.now) c.args.width c.args.block.now)

pub returns-clause-len : goal.returns-clause-len
returns-clause-len c =
    ap length (bytes_are (goal.at.returns-clause-len c).After-finish) ∙ length-joined_at c.args.width (offsets c.args.layout.now) c.args.block.now c.requires

pub returns-clause-items : goal.returns-clause-items
returns-clause-items c =
    let os = offsets c.args.layout.now in let width = c.args.width in
    ap (items_at (multiples width (length os)) width) (bytes_are (goal.at.returns-clause-items c).After-finish) ∙ joined-items width os c.args.block.now c.requires
