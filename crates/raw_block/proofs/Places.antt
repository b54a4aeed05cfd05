-- The place of the k-th item, as the code computes it.
use Rattle.std.proofs.Common.{◌≡◌, ℕ, suc, ◌+◌, ◌-◌, ◌*◌, ◌%◌, ◌^◌, sym, ap, ◌∙◌, w64, arith, ℤ, pos, ◌≤ℤ◌, ◌<ℤ◌}
use Rattle.raw_block.proofs.Words.{add-mod-mod, add-mul-mod_self_right, mod-eq_of_lt, mul-add, ints, negsuc, SFits, of_z, position, place, not_negative}

pub place_wraps : (at k : ℕ) (step : ℤ) → SFits w64 step → pos 0 ≤ℤ position at step k → position at step k <ℤ pos (2 ^ 64) → (at + (k * of_z w64 step) % 2 ^ 64) % 2 ^ 64 ≡ place at step k
place_wraps at k (pos s) fits low high = add-mod-mod at (k * s) (2 ^ 64) ∙ mod-eq_of_lt (omega (arith, ints))
place_wraps at k (negsuc s) fits low high =
    let N : ℕ = 2 ^ 64 in let p : ℕ = place at (negsuc s) k in let S : ℕ = N - suc s in
    let is : pos p ≡ position at (negsuc s) k = not_negative (position at (negsuc s) k) low in
    let back : p + k * suc s ≡ at = omega (arith, ints) in
    let whole : S + suc s ≡ N = omega (arith, ints) in let parts : k * S + k * suc s ≡ k * N = sym (mul-add k S (suc s)) ∙ ap (λ t. k * t) whole in
    let sum : at + k * S ≡ p + k * N = omega arith in
    add-mod-mod at (k * S) N ∙ ap (λ t. t % N) sum ∙ add-mul-mod_self_right p k N ∙ mod-eq_of_lt (omega (arith, ints))
