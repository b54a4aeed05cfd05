-- Items that have no bytes in common.
use Rattle.std.proofs.Common.{◌≡◌, ◌+◌, ◌<◌, ◌≤◌, inl, inr, false, ℕ, List, get_or, Contains, arith}
use Rattle.overlap_copy.proofs.Words.{both_ways, cases_lt, get_or_default, recursion_from_All, distance, have_common_byte, LiesApart, LieApart}
use Rattle.overlap_copy.proofs.OverlapLaws.{test_from_common}

-- if no two items share a byte, they are at least `width` apart
pub lie_apart : (width : ℕ) (to from : List ℕ) → have_common_byte to width from width ≡ false → LieApart width to from
lie_apart width to from none =
    recursion_from_All (λ at. LiesApart width at from) to (λ j d inside.
    recursion_from_All (λ offset. width ≤ distance offset (get_or to j d)) from (λ k e inside'.
    let p = get_or to j d in
    let q = get_or from k e in
    let at_p : Contains to p = (j, inside, get_or_default to j p d inside) in
    let at_q : Contains from q = (k, inside', get_or_default from k q e inside') in
    let clear : p < q + width → q < p + width → ⊥ = λ below above. both_ways (have_common_byte to width from width) none (test_from_common to width from width (record { p = p; q = q; at_p = at_p; at_q = at_q; below = below; above = above })) in
    elim (cases_lt p (q + width)) [
      | inr after ↦ omega (arith, after)
      | inl below ↦ elim (cases_lt q (p + width)) [ inr before ↦ omega (arith, before) | inl above ↦ absurd (clear below above) ]
    ]))
