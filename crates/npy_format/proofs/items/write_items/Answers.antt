use Rattle.std.proofs.Common.{◌≡◌, ◌<◌, ℕ, ◌+◌, ◌*◌, ◌≤◌, length, All, get_or, subst, rules, ap, ◌∙◌, arith, mul-one}
use Rattle.npy_format.proofs.Words.{repeat, mul-le-mul_left, same_from_all_zip, item_size, leaves_of, written_item, limits_from, capped}
use Rattle.npy_format.proofs.WrittenItemLaws.{plain_again, all_again, length-limits, length-repeat, bands_capped}
use Rattle.npy_format.proofs.items.write_items.Goals as goal

pub returns-then-are_plain : goal.returns-then-are_plain
returns-then-are_plain c =
    let leaves = leaves_of c.args.descr.now in
    let size = item_size c.args.descr.now in
    all_again (written_item leaves size) size c.args.count c.args.bytes.now
    (λ item long are. plain_again leaves size item (subst (All (λ limit. limit ≡ 255)) c.requires.limits (c.are_plain.ensures c.if-are_plain.true)) c.requires.in_order long are)
    c.requires.len (λ i. (c.type_inv.bytes i).fits)

pub cap_each-requires : goal.cap_each-requires
cap_each-requires c =
    let copies = c.min.result + 1 in
    let limits = c.args.limits.now in
    let width : length limits ≡ item_size c.args.descr.now = ap length c.requires.limits ∙ length-limits 0 (leaves_of c.args.descr.now) (item_size c.args.descr.now) c.requires.in_order ∙ omega arith in
    let some : 1 ≤ length limits = omega (arith, width, c.size.ensures.value, c.size.ensures.not_empty) in
    let many : c.in_ok-many.many.items ≡ repeat copies c.args.limits.now = same_from_all_zip _ _ _ c.in_ok-many.ensures.items (λ x y same. same) in
    let long : length c.as_slice.result.now ≡ copies * length limits = ap length (c.as_slice.ensures.value ∙ many) ∙ length-repeat copies c.args.limits.now in
    let most : copies * 1 ≤ copies * length limits = mul-le-mul_left copies some in
    omega (arith, long, most, mul-one copies)

pub returns : goal.returns
returns c =
    let leaves = leaves_of c.args.descr.now in
    let size = item_size c.args.descr.now in
    let copies = c.min.result + 1 in
    let bytes = c.args.bytes.now in
    let many : c.as_slice.result.now ≡ repeat copies (limits_from 0 leaves size) =
    c.as_slice.ensures.value ∙ same_from_all_zip _ _ _ c.in_ok-many.ensures.items (λ x y same. same) ∙ ap (repeat copies) c.requires.limits in
    let some : 1 ≤ size = omega (arith, c.size.ensures.value, c.size.ensures.not_empty) in
    let are : (i : ℕ) → get_or bytes i 0 < 256 = λ i. search rules in
    bands_capped leaves size c.args.count copies bytes c.cap_each.new.bytes c.requires.in_order some (omega arith) c.requires.len are
    (c.cap_each.ensures ∙ ap (λ xs. capped bytes (repeat (length bytes) xs)) many)
