-- A repeated item.
use Rattle.std.proofs.Common.{◌≡◌, ℕ, zero, suc, ◌+◌, List, ◌∷◌, ◌++◌, length, replicate, refl, sym, ap, ◌∙◌, arith}
use Rattle.bench_engine.proofs.Words.{take-append_seam, drop-append_seam, blocks, joined, joined-add}

pub blocks-repeated : (item : List ℕ) (n : ℕ) → blocks (length item) n (joined (λ _. item) n) ≡ replicate n item
blocks-repeated item zero = refl
blocks-repeated item (suc n) =
    let next : suc n ≡ 1 + n = omega arith in
    let front : joined (λ _. item) (suc n) ≡ item ++ joined (λ _. item) n = ap (joined (λ _. item)) next ∙ sym (joined-add (λ _. item) 1 n) in
    ap (blocks (length item) (suc n)) front
    ∙ (λ i. take-append_seam item (joined (λ _. item) n) i ∷ (ap (blocks (length item) n) (drop-append_seam item (joined (λ _. item) n)) ∙ blocks-repeated item n) i)
