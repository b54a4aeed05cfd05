-- Runs that are the reverse of each other.
use Rattle.std.proofs.Common.{◌≡◌, ◌-◌, ◌<◌, ◌≤◌, ℕ, ℤ, pos, ◌+ℤ◌, ◌*ℤ◌, ◌≤ℤ◌, reverse, get_or, sym, ap, subst, ◌∙◌, arith, nat_abs}
use Rattle.overlap_copy.proofs.Words.{*ℤ_comm, *ℤ-one, zero-*ℤ, +ℤ_idr, one, ints, get_or-reverse, BeginsWithin, Run, length-run_offsets, lie-within, max_bytes, not_negative, place-at, position, run_offsets, IsTurned, place_in}
use Rattle.overlap_copy.proofs.TurnLaws.{turned_position, turned_place}

step_of_two : (a b s t p q : ℤ) → p ≡ q → p ≡ a +ℤ s → q ≡ b +ℤ t → a ≡ b → s ≡ t
step_of_two a b s t p q same one two start = omega (arith, ints, same, one, two, start)

once : (s : ℤ) → pos 1 *ℤ s ≡ s
unfolding one
once s = *ℤ_comm (pos 1) s ∙ *ℤ-one s

pub first_place : (run : Run) → place_in run 0 ≡ run.offset
first_place run = ap (λ z. nat_abs (pos run.offset +ℤ z)) (zero-*ℤ run.step) ∙ ap nat_abs (+ℤ_idr (pos run.offset))

second_place : (run : Run) → pos 0 ≤ℤ position run.offset run.step 1 → pos (place_in run 1) ≡ pos run.offset +ℤ run.step
second_place run low = not_negative (position run.offset run.step 1) low ∙ ap (λ z. pos run.offset +ℤ z) (once run.step)

pub turned_line : (to from back : Run) → 2 ≤ to.count → from.count ≡ to.count → BeginsWithin to → BeginsWithin from → run_offsets from ≡ reverse (run_offsets to) → IsTurned to back → (from.offset ≡ back.offset) × (from.step ≡ back.step)
turned_line to from back two even begins begins' are turned =
    let n = to.count in
    let in_to = lie-within max_bytes 1 to begins in
    let in_from = lie-within max_bytes 1 from begins' in
    let long = length-run_offsets to in
    let there : (k : ℕ) → k < n → place_in from k ≡ place_in back k = λ k below.
    sym (place-at max_bytes 1 from k in_from (omega (arith, below, even)))
    ∙ ap (λ l. get_or l k 0) are
    ∙ get_or-reverse (run_offsets to) k 0 (omega (arith, below, long))
    ∙ ap (λ m. get_or (run_offsets to) (m - 1 - k) 0) long
    ∙ place-at max_bytes 1 to (n - 1 - k) in_to (omega (arith, below))
    ∙ sym (turned_place to back k turned below) in
    let start : from.offset ≡ back.offset = sym (first_place from) ∙ there 0 (omega (arith, two)) ∙ first_place back in
    let low = (in_from.each 1 (omega (arith, two, even))).0 in
    let low' = subst (λ z. pos 0 ≤ℤ z) (sym (turned_position to back 1 turned two)) (in_to.each (n - 1 - 1) (omega (arith, two))).0 in
    (start, step_of_two (pos from.offset) (pos back.offset) from.step back.step (pos (place_in from 1)) (pos (place_in back 1)) (ap pos (there 1 two)) (second_place from low) (second_place back low') (ap pos start))
