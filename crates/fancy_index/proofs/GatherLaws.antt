-- Adjacent items.
use Rattle.std.proofs.Common.{◌≡◌, ℕ, zero, suc, ◌+◌, ◌*◌, ◌≤◌, List, ◌∷◌, length, get_or, All, sym, ap, ◌∙◌, arith, zero-mul, suc-mul, mul_comm, pos}
use Rattle.fancy_index.proofs.Words.{length-map-range_with_len, get_or-map-range_with_len, Run, run_offsets, multiples, length-run_offsets, row-multiples, packed, packed-append}

pub packed-suc : (at width n : ℕ) → packed at width (suc n) ≡ at ∷ packed (at + width) width n
packed-suc at width n =
    let more : suc n ≡ 1 + n = omega arith in
    let first : at + width * 0 ≡ at = omega arith in
    let next : at + 1 * width ≡ at + width = omega arith in
    ap (packed at width) more ∙ packed-append at width 1 n ∙ (λ i. first i ∷ packed (next i) width n)

-- a run that begins at 0, and whose step is the width of an item
pub packed-run : (run : Run) (width : ℕ) (offsets : List ℕ) → run_offsets run ≡ offsets → run.offset ≡ 0 → run.step ≡ pos width → offsets ≡ multiples width (length offsets)
packed-run run width offsets is begin step =
    let same : offsets ≡ multiples width run.count = sym is ∙ (λ i. run_offsets (record { offset = begin i; count = run.count; step = step i })) ∙ row-multiples width run.count in
    same ∙ ap (multiples width) (sym (length-run_offsets run) ∙ ap length is)

-- if each item ends within the bytes, so do all of them together
pub packed-end : (width len n : ℕ) → All (λ offset. offset + width ≤ len) (multiples width n) → n * width ≤ len
packed-end width len zero within = omega (arith, zero-mul width)
packed-end width len (suc n) within =
    let last : get_or (multiples width (suc n)) n 0 ≡ width * n = get_or-map-range_with_len (λ k. width * k) 0 (suc n) n n 0 (omega arith) (omega arith) in
    omega (arith, within n 0 (omega (arith, length-map-range_with_len (λ k. width * k) 0 (suc n))), last, suc-mul n width, mul_comm width n)
