-- Byte strings that are compared with one byte string.
use Rattle.std.proofs.Common.{◌≡◌, ◌≤◌, ℕ, true, false, Ok, Err, List, [], ◌∷◌, length, map, take, drop, refl, sym, ◌∙◌, arith, length-take}
use Rattle.elementwise.proofs.Words.{Refusal, NotForThisKind, Descr, Scalar, Byte, Int, Bytes, is_text, text, without_nuls, Comparison, compared, compared_item, truth_item, item_from, ScalarDescr, BoolScalar, scalar_of, bytes_compared_result}

not_text : (s : Scalar) → ((n : ℕ) → s ≡ Bytes n → ⊥) → is_text s ≡ false
not_text BoolScalar other = refl
not_text (Byte signed) other = refl
not_text (Int signed width order) other = refl
not_text (Bytes n) other = absurd (other n refl)

-- operands that are not byte strings are refused
module _ (d : Descr) (shape : List ℕ) where
  pub operand_refused : (e : Refusal) → scalar_of d ≡ Err e → bytes_compared_result d shape ≡ Err e
  unfolding bytes_compared_result
  operand_refused e is = rw is refl

  pub number_refused : (a : Scalar) → scalar_of d ≡ Ok a → ((n : ℕ) → a ≡ Bytes n → ⊥) → bytes_compared_result d shape ≡ Err NotForThisKind
  unfolding bytes_compared_result
  number_refused a is other = let kind = not_text a other in rw (is, kind) refl

  pub one_given : (a : Scalar) → scalar_of d ≡ Ok a → is_text a ≡ true → bytes_compared_result d shape ≡ Ok (ScalarDescr BoolScalar, shape)
  unfolding bytes_compared_result
  one_given a is kind = rw (is, kind) refl

-- byte strings of one length are compared with other bytes in their place
pub items_within : (c c' : Comparison) (d : Descr) (w : ℕ) (kept bytes block os : List ℕ) → d ≡ ScalarDescr (Bytes w) → ((item : List ℕ) → length item ≤ w → compared c' (text (without_nuls item)) (text (without_nuls kept)) ≡ compared c (text (without_nuls item)) (text bytes)) →
    map (λ o. compared_item c' (item_from d block o) (text (without_nuls kept) ∷ [])) os ≡ map (λ o. compared_item c (item_from d block o) (text bytes ∷ [])) os
items_within c c' d w kept bytes block os is same =
    let item = λ (o : ℕ). take w (drop 0 (take w (drop o block))) in
    (λ i. map (λ o. compared_item c' (item_from (is i) block o) (text (without_nuls kept) ∷ [])) os)
    ∙ (λ i. map (λ o. truth_item (same (item o) (omega (arith, length-take w (drop 0 (take w (drop o block))))) i)) os)
    ∙ λ i. map (λ o. compared_item c (item_from (sym is i) block o) (text bytes ∷ [])) os
