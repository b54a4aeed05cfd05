-- Laws of the NULs at the end of a byte string: they do not count.
use Rattle.std.specs.Prelude.{◌≡◌, ◌+◌, ◌-◌, ◌≤◌, ◌<◌, ℕ, List, ◌++◌, length, take, nat_eq}
use Rattle.std.proofs.Common.{zero, suc, get_or, drop, replicate, reverse, sym, ap, ◌∙◌, arith, length-take, length-append}
use Rattle.elem_descr.specs.Words.{length-drop, prefix_len, eqb-true, length-replicate, length-reverse, reverse-append, get_or-reverse, get_or-drop, get_or-replicate, same_lists, take-append-drop, take-append-le, prefix_len_passes, suffix_len-le-length}
use Rattle.elem_descr.specs.Encoding.{without_nuls}
use Rattle.elem_descr.specs.Nuls.{nuls}

pub nul_at : (bytes : List ℕ) (k d : ℕ) → length bytes - nuls bytes ≤ k → k < length bytes → get_or bytes k d ≡ 0
nul_at bytes k d late within =
    let j = length bytes - 1 - k in
    let few = suffix_len-le-length (λ b. nat_eq b 0) bytes in
    let near : j < nuls bytes = omega arith in
    let test = prefix_len_passes (λ b. nat_eq b 0) (reverse bytes) j d near in
    let same : length bytes - 1 - j ≡ k = omega arith in
    ap (λ i. get_or bytes i d) (sym same) ∙ sym (get_or-reverse bytes j d (omega arith)) ∙ eqb-true (get_or (reverse bytes) j d) 0 test

-- the last `nuls bytes` bytes are NULs
pub back_nuls : (bytes : List ℕ) → drop (length bytes - nuls bytes) bytes ≡ replicate (nuls bytes) 0
back_nuls bytes =
    let few = suffix_len-le-length (λ b. nat_eq b 0) bytes in
    let long : length (drop (length bytes - nuls bytes) bytes) ≡ nuls bytes = length-drop (length bytes - nuls bytes) bytes ∙ omega arith in
    same_lists (drop (length bytes - nuls bytes) bytes) (replicate (nuls bytes) 0) (long ∙ sym (length-replicate (nuls bytes) 0))
    (λ k d low.
    let near : k < nuls bytes = omega arith in
    get_or-drop (length bytes - nuls bytes) bytes k d ∙ nul_at bytes ((length bytes - nuls bytes) + k) d (omega arith) (omega arith) ∙ sym (get_or-replicate (nuls bytes) k 0 d near))

-- a byte string is the same bytes without the NULs at the end, followed by these NULs
pub without_nuls-back : (bytes : List ℕ) → without_nuls bytes ++ replicate (nuls bytes) 0 ≡ bytes
without_nuls-back bytes = ap (λ back. without_nuls bytes ++ back) (sym (back_nuls bytes)) ∙ take-append-drop (length bytes - nuls bytes) bytes

pub prefix_of_zeros : (n : ℕ) (bytes : List ℕ) → prefix_len (λ b. nat_eq b 0) (replicate n 0 ++ bytes) ≡ n + prefix_len (λ b. nat_eq b 0) bytes
prefix_of_zeros zero bytes = omega arith
prefix_of_zeros (suc n) bytes = let more = prefix_of_zeros n bytes in omega arith

pub reverse-replicate : (n : ℕ) → reverse {A = ℕ} (replicate n 0) ≡ replicate n 0
reverse-replicate n =
    same_lists (reverse {A = ℕ} (replicate n 0)) (replicate n 0) (length-reverse (replicate n 0))
    (λ k d low.
    let zeros : List ℕ = replicate n 0 in
    let long : length (reverse zeros) ≡ length zeros = length-reverse zeros in
    let size : length zeros ≡ n = length-replicate n 0 in
    let near : k < n = omega arith in
    get_or-reverse (replicate n 0) k d (omega arith) ∙ get_or-replicate n (length (replicate n 0) - 1 - k) 0 d (omega arith) ∙ sym (get_or-replicate n k 0 d near))

pub nuls-more : (bytes : List ℕ) (n : ℕ) → nuls (bytes ++ replicate n 0) ≡ n + nuls bytes
nuls-more bytes n =
    ap (prefix_len (λ b. nat_eq b 0)) (reverse-append bytes (replicate n 0) ∙ ap (λ front. front ++ reverse bytes) (reverse-replicate n))
    ∙ prefix_of_zeros n (reverse bytes)

-- appended NULs do not count
pub without_nuls-more : (bytes : List ℕ) (n : ℕ) → without_nuls (bytes ++ replicate n 0) ≡ without_nuls bytes
without_nuls-more bytes n =
    let long = length-append bytes (replicate n 0) in
    let size : length {A = ℕ} (replicate n 0) ≡ n = length-replicate n 0 in
    let more = nuls-more bytes n in
    let same : length (bytes ++ replicate n 0) - nuls (bytes ++ replicate n 0) ≡ length bytes - nuls bytes = omega arith in
    ap (λ k. take k (bytes ++ replicate n 0)) same ∙ take-append-le (length bytes - nuls bytes) bytes (replicate n 0) (omega arith)

pub without_nuls-twice : (bytes : List ℕ) → without_nuls (without_nuls bytes) ≡ without_nuls bytes
without_nuls-twice bytes = sym (without_nuls-more (without_nuls bytes) (nuls bytes)) ∙ ap without_nuls (without_nuls-back bytes)

pub length-without_nuls : (bytes : List ℕ) → length (without_nuls bytes) ≤ length bytes
length-without_nuls bytes = omega (arith, length-take (length bytes - nuls bytes) bytes)
