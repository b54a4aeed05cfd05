-- Byte strings that are cut, and padded with NULs.
use Rattle.std.proofs.Common.{◌≡◌, ◌+◌, ◌-◌, ◌≤◌, inl, inr, ℕ, List, ◌++◌, length, take, min, replicate, sym, ap, ◌∙◌, arith, append_assoc, length-take, length-append, append-nil}
use Rattle.elementwise.proofs.Words.{cases_lt, take-append_seam, length-replicate, take_all, take-take, take-append-le, replicate-append-replicate, without_nuls, padded, without_nuls-back, without_nuls-more, without_nuls-twice, length-without_nuls, nuls}

-- ---- padding

padded-cut : (n k : ℕ) (bytes : List ℕ) → n ≤ length bytes → padded n (bytes ++ replicate k 0) ≡ padded n bytes
padded-cut n k bytes le =
    let none : n - length (bytes ++ replicate k 0) ≡ n - length bytes = omega (arith, length-append bytes (replicate k 0)) in
    λ i. take-append-le n bytes (replicate k 0) le i ++ replicate (none i) 0

padded-within : (n k : ℕ) (bytes : List ℕ) → length bytes ≤ n → n ≤ length bytes + k → padded n (bytes ++ replicate k 0) ≡ padded n bytes
padded-within n k bytes le ge =
    let m = n - length bytes in
    let long = length-append bytes (replicate k 0) in
    let size : length {A = ℕ} (replicate k 0) ≡ k = length-replicate k 0 in
    let size' : length {A = ℕ} (replicate m 0) ≡ m = length-replicate m 0 in
    let none : n - length (bytes ++ replicate k 0) ≡ 0 = omega arith in
    let parts : m + (k - m) ≡ k = omega arith in
    let front = bytes ++ replicate m 0 in
    let seam : n ≡ length front = omega (arith, length-append bytes (replicate m 0)) in
    let split : bytes ++ replicate k 0 ≡ front ++ replicate (k - m) 0 =
    ap (λ j. bytes ++ replicate j 0) (sym parts) ∙ ap (λ back. bytes ++ back) (sym (replicate-append-replicate m (k - m) 0)) ∙ sym (append_assoc bytes (replicate m 0) (replicate (k - m) 0)) in
    (λ i. take n (bytes ++ replicate k 0) ++ replicate (none i) 0)
    ∙ append-nil (take n (bytes ++ replicate k 0))
    ∙ (λ i. take (seam i) (split i))
    ∙ take-append_seam front (replicate (k - m) 0)
    ∙ ap (λ all. all ++ replicate m 0) (sym (take_all n bytes le))

padded-short : (n k : ℕ) (bytes : List ℕ) → length bytes + k ≤ n → padded n (bytes ++ replicate k 0) ≡ padded n bytes
padded-short n k bytes le =
    let long = length-append bytes (replicate k 0) in
    let size : length {A = ℕ} (replicate k 0) ≡ k = length-replicate k 0 in
    let rest : k + (n - length (bytes ++ replicate k 0)) ≡ n - length bytes = omega arith in
    ap (λ all. all ++ replicate (n - length (bytes ++ replicate k 0)) 0) (take_all n (bytes ++ replicate k 0) (omega arith))
    ∙ append_assoc bytes (replicate k 0) (replicate (n - length (bytes ++ replicate k 0)) 0)
    ∙ ap (λ back. bytes ++ back) (replicate-append-replicate k (n - length (bytes ++ replicate k 0)) 0 ∙ ap (λ j. replicate j 0) rest)
    ∙ ap (λ all. all ++ replicate (n - length bytes) 0) (sym (take_all n bytes (omega arith)))

padded-more : (n k : ℕ) (bytes : List ℕ) → padded n (bytes ++ replicate k 0) ≡ padded n bytes
padded-more n k bytes = elim (cases_lt n (length bytes)) [
  | inl below ↦ padded-cut n k bytes (omega arith)
  | inr above ↦ elim (cases_lt n (length bytes + k)) [ inl within ↦ padded-within n k bytes above (omega arith) | inr over ↦ padded-short n k bytes over ]
]

-- padding does not depend on the NULs at the end
padded-without : (n : ℕ) (bytes : List ℕ) → padded n (without_nuls bytes) ≡ padded n bytes
padded-without n bytes = sym (padded-more n (nuls bytes) (without_nuls bytes)) ∙ ap (padded n) (without_nuls-back bytes)

padded-take : (n : ℕ) (bytes : List ℕ) → padded n (take n bytes) ≡ padded n bytes
padded-take n bytes =
    let same : n - length (take n bytes) ≡ n - length bytes = omega (arith, length-take n bytes) in
    λ i. take-take n n bytes (omega arith) i ++ replicate (same i) 0

-- the bytes of a byte string that is cut
pub text_encoded : (n : ℕ) (bytes : List ℕ) → padded n bytes ≡ padded n (without_nuls (take n (without_nuls bytes)))
text_encoded n bytes = sym (padded-without n (take n (without_nuls bytes)) ∙ padded-take n (without_nuls bytes) ∙ padded-without n bytes)

-- as they are appended: the bytes that are kept, then NULs
pub text_pushed : (n kept : ℕ) (bytes : List ℕ) → kept ≡ min (length bytes) n → take kept bytes ++ replicate (n - kept) 0 ≡ padded n (without_nuls (take n (without_nuls bytes)))
text_pushed n kept bytes is = elim (cases_lt n (length bytes)) [
  | inl below ↦ (λ i. take (let same : kept ≡ n = omega (arith, is, below) in same i) bytes ++ replicate (let rest : n - kept ≡ n - length bytes = omega (arith, is, below) in rest i) 0) ∙ text_encoded n bytes
  | inr above ↦ let same : kept ≡ length bytes = omega (arith, is, above) in (λ i. (take_all kept bytes (omega (arith, same)) ∙ sym (take_all n bytes above)) i ++ replicate (n - same i) 0) ∙ text_encoded n bytes
]

-- the byte string that they are read back as
pub text_read_back : (n : ℕ) (bytes : List ℕ) → length bytes ≤ n → without_nuls (padded n (without_nuls bytes)) ≡ without_nuls bytes
text_read_back n bytes le =
    ap without_nuls (ap (λ all. all ++ replicate (n - length (without_nuls bytes)) 0) (take_all n (without_nuls bytes) (omega (arith, length-without_nuls bytes))))
    ∙ without_nuls-more (without_nuls bytes) (n - length (without_nuls bytes))
    ∙ without_nuls-twice bytes

-- a byte string that is not longer is unchanged
pub text_stays : (n : ℕ) (bytes : List ℕ) → length bytes ≤ n → without_nuls (take n (without_nuls bytes)) ≡ without_nuls bytes
text_stays n bytes le = ap without_nuls (take_all n (without_nuls bytes) (omega (arith, length-without_nuls bytes))) ∙ without_nuls-twice bytes
