use Rattle.std.proofs.Common.{◌≡◌, ◌+◌, ◌*◌, ◌≤◌, ◌++◌, ◌||◌, ℕ, true, List, map, length, All, Ok, inr, sym, ap, subst, ◌∙◌, arith, rules, length-drop}
use Rattle.npy_format.proofs.Words.{append-nil, common_steps, err_from_is_err_and, flat_map, encode_item, item_size, item_from, count, offsets, length-offsets, is_c_contiguous, is_f_contiguous, file_order, written_text, written_header, is_fortran, ordered, file_of, gathered, addresses_in_file, take_all}
use Rattle.npy_format.proofs.SaverLaws.{stretch_ends, stretch_written}
use Rattle.npy_format.proofs.WriterLaws.{file_length, file_written, saved-large, saved-small}
use Rattle.npy_format.proofs.writer.npy_parts.Goals.{In_ok-limits}
use Rattle.npy_format.proofs.writer.npy_parts.Goals as goal

-- the items lie within the block, and have as many bytes as were counted
inside : (c : In_ok-limits) → All (λ offset. offset + item_size c.args.descr.now ≤ length c.bytes-bytes.result.now) (offsets c.args.layout.now)
inside c = subst (λ (b : List ℕ). All (λ offset. offset + item_size c.args.descr.now ≤ length b) (offsets c.args.layout.now)) (sym c.bytes-bytes.ensures) c.requires.inside

sized : (c : In_ok-limits) → c.in_ok-len.len ≡ count c.args.layout.now.shape * item_size c.args.descr.now
sized c = c.in_ok-len.ensures.bytes ∙ ap (λ n. n * item_size c.args.descr.now) c.items.ensures.value

pub returns-in_err-len-clause-gives : goal.returns-in_err-len-clause-gives
returns-in_err-len-clause-gives c =
    let l = c.args.layout.now in
    let p = err_from_is_err_and c.from_residual.result c.from_residual.ensures.1 in
    let large = c.in_err-len.ensures.large in
    rw (p.1, p.2, large.0) (inr (saved-large c.args.descr.now l.shape (offsets l) (map (item_from c.args.descr.now c.args.block.now) (offsets l)) (omega (arith, large.1, ap (λ n. n * item_size c.args.descr.now) c.items.ensures.value))))

pub part-items-requires : goal.part-items-requires
part-items-requires c =
    let at = (goal.at.part-items-requires c).In_ok-limits in
    let l = c.args.layout.now in
    let together = subst (λ w. (is_c_contiguous w (offsets l) || is_f_contiguous w l.shape (offsets l)) ≡ true) c.size-width.ensures.value (sym c.adjacency-together.ensures.together ∙ c.if-together.true) in
    stretch_ends c.args.descr.now l.shape (offsets l) c.bytes-bytes.result.now c.first_address.result c.in_ok-len.len (length-offsets l) (inside at) together c.first_address.ensures (sized at)

pub returns-then-are_plain-clause-gives : goal.returns-then-are_plain-clause-gives
returns-then-are_plain-clause-gives c =
    let at = (goal.at.returns-then-are_plain-clause-gives c).In_ok-limits in
    let l = c.args.layout.now in
    let descr = c.args.descr.now in
    let block = c.args.block.now in
    let bytes = c.bytes-bytes.result.now in
    let together = subst (λ w. (is_c_contiguous w (offsets l) || is_f_contiguous w l.shape (offsets l)) ≡ true) c.size-width.ensures.value (sym c.adjacency-together.ensures.together ∙ c.if-together.true) in
    let fortran = is_fortran (item_size descr) l.shape (offsets l) in
    let front = c.in_ok-front.front.items in
    saved-small descr l.shape (offsets l) (map (item_from descr block) (offsets l)) (subst (λ n. n ≤ _) (sized at) c.in_ok-len.ensures.within) ∙ ap (λ file. Ok file) (sym (
    ap (λ items. front ++ items) c.part-items.ensures.value
    ∙ stretch_written descr l.shape (offsets l) bytes c.first_address.result c.in_ok-len.len (length-offsets l) (inside at) together c.first_address.ensures (sized at) front (subst (All (λ limit. limit ≡ 255)) (c.deref.ensures.value ∙ c.in_ok-limits.ensures.limits) (c.are_plain.ensures c.if-are_plain.true)) c.in_ok-limits.ensures.in_order c.will_load.ensures.bytes
    ∙ ap (λ head. head ++ flat_map (encode_item descr) (ordered (file_order fortran) l.shape (map (item_from descr bytes) (offsets l)))) (c.in_ok-front.ensures ∙ ap (λ f. written_header (written_text descr f l.shape)) (c.adjacency-together.ensures.fortran ∙ ap (λ w. is_fortran w l.shape (offsets l)) c.size-width.ensures.value))
    ∙ ap (λ b. file_of descr fortran l.shape (map (item_from descr b) (offsets l))) c.bytes-bytes.ensures))

pub write_items-requires-clause-len : goal.write_items-requires-clause-len
write_items-requires-clause-len c =
    let at = (goal.at.write_items-requires-clause-len c).In_ok-limits in
    let l = c.args.layout.now in
    let bytes = c.bytes-bytes.result.now in
    let front = c.in_ok-front.front.items in
    let width = c.size-width.result in
    let begins : c.len-start.result ≡ length front = search rules in
    let wide = subst (λ w. All (λ offset. offset + w ≤ length bytes) (offsets l)) (sym c.size-width.ensures.value) (inside at) in
    let is : c.push_items.new.file.items ≡ front ++ gathered width bytes (addresses_in_file width l.shape (offsets l)) = c.in_ok-push_items.ensures ∙ ap (λ f. f ++ gathered width bytes (addresses_in_file width l.shape (offsets l))) c.in_ok-reserve_exact.ensures.items in
    let long = file_length l.shape (offsets l) bytes front c.as_mut_slice.result.now width (length-offsets l) wide (c.as_mut_slice.ensures.value ∙ is) ∙ (λ i. sym begins i + sym c.items-2.ensures.value i * c.size-width.ensures.value i) in
    ap length (take_all _ _ (omega (arith, length-drop c.len-start.result c.as_mut_slice.result.now))) ∙ omega (arith, long, length-drop c.len-start.result c.as_mut_slice.result.now)

pub returns-clause-gives : goal.returns-clause-gives
returns-clause-gives c =
    let at = (goal.at.returns-clause-gives c).In_ok-limits in
    let l = c.args.layout.now in
    let descr = c.args.descr.now in
    let block = c.args.block.now in
    let bytes = c.bytes-bytes.result.now in
    let front = c.in_ok-front.front.items in
    let width = c.size-width.result in
    let begins : c.len-start.result ≡ length front = search rules in
    let wide = subst (λ w. All (λ offset. offset + w ≤ length bytes) (offsets l)) (sym c.size-width.ensures.value) (inside at) in
    let is : c.push_items.new.file.items ≡ front ++ gathered width bytes (addresses_in_file width l.shape (offsets l)) = c.in_ok-push_items.ensures ∙ ap (λ f. f ++ gathered width bytes (addresses_in_file width l.shape (offsets l))) c.in_ok-reserve_exact.ensures.items in
    let fortran = is_fortran (item_size descr) l.shape (offsets l) in
    saved-small descr l.shape (offsets l) (map (item_from descr block) (offsets l)) (subst (λ n. n ≤ _) (sized at) c.in_ok-len.ensures.within) ∙ ap (λ file. Ok file) (sym (
    append-nil _
    ∙ file_written l.shape (offsets l) bytes front c.push_items.new.file.items width (length-offsets l) wide is descr _ c.len-start.result c.items-2.result c.size-width.ensures.value begins c.items-2.ensures.value (grind (arith, common_steps, take_all))
    ∙ ap (λ head. head ++ flat_map (encode_item descr) (ordered (file_order (is_fortran width l.shape (offsets l))) l.shape (map (item_from descr bytes) (offsets l)))) (c.in_ok-front.ensures ∙ ap (λ f. written_header (written_text descr f l.shape)) c.adjacency-together.ensures.fortran)
    ∙ ap (λ w. file_of descr (is_fortran w l.shape (offsets l)) l.shape (map (item_from descr bytes) (offsets l))) c.size-width.ensures.value
    ∙ ap (λ b. file_of descr fortran l.shape (map (item_from descr b) (offsets l))) c.bytes-bytes.ensures))
