-- Byte strings padded with NULs.
use Rattle.std.proofs.Common.{◌≡◌, ◌+◌, ◌-◌, ◌≤◌, ℕ, min, List, ◌++◌, length, take, drop, replicate, sym, ap, ◌∙◌, arith, append_assoc, length-take, nat_eq}
use Rattle.literal_items.proofs.Words.{take_all, take_min, drop-replicate, replicate-append-replicate, suffix_len-le-length, without_nuls, padded, without_nuls-back, without_nuls-more, nuls}

padded-without_nuls : (n : ℕ) (bytes : List ℕ) → length bytes ≤ n → padded n (without_nuls bytes) ≡ bytes ++ replicate (n - length bytes) 0
padded-without_nuls n bytes fits =
    let few = suffix_len-le-length (λ b. nat_eq b 0) bytes in
    let long : length (without_nuls bytes) ≡ length bytes - nuls bytes = length-take (length bytes - nuls bytes) bytes ∙ omega arith in
    let rest : n - length (without_nuls bytes) ≡ nuls bytes + (n - length bytes) = omega arith in
    ap (λ front. front ++ replicate (n - length (without_nuls bytes)) 0) (take_all n (without_nuls bytes) (omega arith))
    ∙ ap (λ k. without_nuls bytes ++ replicate k 0) rest
    ∙ ap (λ back. without_nuls bytes ++ back) (sym (replicate-append-replicate (nuls bytes) (n - length bytes) 0))
    ∙ sym (append_assoc (without_nuls bytes) (replicate (nuls bytes) 0) (replicate (n - length bytes) 0))
    ∙ ap (λ front. front ++ replicate (n - length bytes) 0) {y = bytes} (without_nuls-back bytes)

-- bytes put over zeros are the bytes, and zeros after them
over_zeros : (n kept : ℕ) (bytes : List ℕ) → kept ≡ min (length bytes) n → take kept bytes ++ drop kept (replicate n 0) ≡ take n bytes ++ replicate (n - length (take n bytes)) 0
over_zeros n kept bytes is =
    let long = length-take n bytes in
    let front : take kept bytes ≡ take n bytes = ap (λ k. take k bytes) (omega arith) ∙ take_min n bytes in
    let back : drop kept (replicate n 0) ≡ replicate (n - length (take n bytes)) 0 = drop-replicate kept n 0 ∙ ap (λ k. replicate k 0) (omega arith) in
    ap (λ xs. xs ++ drop kept (replicate n 0)) front ∙ ap (λ xs. take n bytes ++ xs) back

pub bytes_encoded : (n kept : ℕ) (bytes : List ℕ) → kept ≡ min (length bytes) n → take kept bytes ++ drop kept (replicate n 0) ≡ padded n (without_nuls (take n bytes))
bytes_encoded n kept bytes is =
    let long = length-take n bytes in
    over_zeros n kept bytes is ∙ sym (padded-without_nuls n (take n bytes) (omega arith))

pub bytes_read_back : (n kept : ℕ) (bytes : List ℕ) → kept ≡ min (length bytes) n → without_nuls (take kept bytes ++ drop kept (replicate n 0)) ≡ without_nuls (take n bytes)
bytes_read_back n kept bytes is = ap without_nuls (over_zeros n kept bytes is) ∙ without_nuls-more (take n bytes) (n - length (take n bytes))
