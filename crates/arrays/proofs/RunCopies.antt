-- Copies of runs: what the operations of a block do, item by item.
use Rattle.std.proofs.Common.{◌≡◌, ℕ, zero, suc, List, [], ◌∷◌, length, refl, sym, ap, subst, ◌∙◌}
use Rattle.arrays.proofs.Words.{ℤ, put, item_at, place, EachWithin, copied, fewer, Run, run_offsets, length-run_offsets, run_offsets-more, assigned-append, assigned}

copied-run : (len other_len dst : ℕ) (dst_step : ℤ) (src : ℕ) (src_step : ℤ) (width n : ℕ) (other block : List ℕ) → EachWithin len dst dst_step width n → EachWithin other_len src src_step width n →
    copied dst dst_step other src src_step width n block
    ≡ assigned (run_offsets (record { offset = dst; count = n; step = dst_step })) (run_offsets (record { offset = src; count = n; step = src_step })) width other block
copied-run len other_len dst dst_step src src_step width zero other block to from = refl
copied-run len other_len dst dst_step src src_step width (suc n) other block to from =
    let here : Run = record { offset = dst; count = n; step = dst_step } in
    let there : Run = record { offset = src; count = n; step = src_step } in
    let last = place dst dst_step n in
    let source = place src src_step n in
    ap (put last (item_at source width other)) (copied-run len other_len dst dst_step src src_step width n other block (fewer len dst dst_step width n to) (fewer other_len src src_step width n from))
    ∙ sym (assigned-append (run_offsets here) (run_offsets there) (last ∷ []) (source ∷ []) width other block (length-run_offsets here ∙ sym (length-run_offsets there)))
    ∙ λ i. assigned (sym (run_offsets-more len dst dst_step width n to) i) (sym (run_offsets-more other_len src src_step width n from) i) width other block

pub copied-even : (to from : Run) (width : ℕ) (other block : List ℕ) → to.count ≡ from.count → EachWithin (length block) to.offset to.step width to.count → EachWithin (length other) from.offset from.step width from.count →
    copied to.offset to.step other from.offset from.step width to.count block ≡ assigned (run_offsets to) (run_offsets from) width other block
copied-even to from width other block even lies lies' =
    copied-run (length block) (length other) to.offset to.step from.offset from.step width to.count other block lies (subst (EachWithin (length other) from.offset from.step width) (sym even) lies')
    ∙ ap (λ n. assigned (run_offsets to) (run_offsets (record { offset = from.offset; count = n; step = from.step })) width other block) even
