-- A target shape has the same number of items.
use Rattle.std.proofs.Common.{◌≡◌, ℕ, ◌*◌, ◌/◌, ◌%◌, ◌≤◌, ◌==◌, not, true, false, ℤ, pos, negsuc, int_le, List, [], ◌∷◌, map, length, Result, Ok, Err, inl, inr, refl, sym, ◌∙◌, ap, arith, mul_assoc, mul_comm, div-add-mod'}
use Rattle.reshape_rule.proofs.Words.{list_all, is_ok, IfOk, cases_lt, cases_Bool, and_parts, eqb-true, false≢true, Refusal, Gives, max_axes, count, shape_of-same, left_open, given, make_up, length_or, target_of}
use Rattle.reshape_rule.proofs.TargetLaws.{target_of-many, target_of-low, target_of-opened, target_of-made}

-- ---- the product of the lengths

count-none_open : (rest : ℕ) (numbers : List ℤ) → left_open numbers ≡ 0 → count (map (length_or rest) numbers) ≡ given numbers
count-none_open rest [] none = refl
count-none_open rest (pos n ∷ numbers) none = ap (λ c. n * c) (count-none_open rest numbers none)
count-none_open rest (negsuc n ∷ numbers) none = absurd (omega arith)

count-one_open : (rest : ℕ) (numbers : List ℤ) → left_open numbers ≡ 1 → count (map (length_or rest) numbers) ≡ given numbers * rest
count-one_open rest [] one = absurd (omega arith)
count-one_open rest (pos n ∷ numbers) one = ap (λ c. n * c) (count-one_open rest numbers one) ∙ sym (mul_assoc n (given numbers) rest)
count-one_open rest (negsuc n ∷ numbers) one = ap (λ c. rest * c) (count-none_open rest numbers (omega arith)) ∙ mul_comm rest (given numbers)

made-none : (items product : ℕ) → make_up items 0 product ≡ true → product ≡ items
made-none items product made = eqb-true product items made

made-one : (items product : ℕ) → make_up items 1 product ≡ true → product * (items / product) ≡ items
made-one items product made =
    let both = and_parts (not (product == 0)) (items % product == 0) made in
    let whole : items % product ≡ 0 = eqb-true (items % product) 0 both.1 in
    omega (arith, mul_comm product (items / product), div-add-mod' items product)

count-made : (items : ℕ) (numbers : List ℤ) → left_open numbers ≤ 1 → make_up items (left_open numbers) (given numbers) ≡ true → count (map (length_or (items / given numbers)) numbers) ≡ items
count-made items numbers few made =
    elim (cases_lt 0 (left_open numbers)) [
      | inl some ↦
          let one : left_open numbers ≡ 1 = omega arith in
          count-one_open (items / given numbers) numbers one ∙ made-one items (given numbers) (ap (λ o. make_up items o (given numbers)) (sym one) ∙ made)
      | inr most ↦
          let none : left_open numbers ≡ 0 = omega arith in
          count-none_open (items / given numbers) numbers none ∙ made-none items (given numbers) (ap (λ o. make_up items o (given numbers)) (sym none) ∙ made)
    ]

-- ---- the target shape

err_is : {A X : Type 0} (e : Refusal) (x : X) → Err e ≡ Ok x → A
err_is e x same = absurd (false≢true (ap is_ok same))

target-count : (items : ℕ) (numbers : List ℤ) (shape : List ℕ) → target_of items numbers ≡ Ok shape → count shape ≡ items
target-count items numbers shape found =
    elim (cases_lt max_axes (length numbers)) [
      | inl many ↦ err_is _ shape (sym (target_of-many items numbers many) ∙ found)
      | inr few ↦ elim (cases_Bool (list_all (int_le (negsuc 0)) numbers)) [
        | inr low ↦ err_is _ shape (sym (target_of-low items numbers few low) ∙ found)
        | inl high ↦ elim (cases_lt 1 (left_open numbers)) [
          | inl more ↦ err_is _ shape (sym (target_of-opened items numbers few high more) ∙ found)
          | inr one ↦ elim (cases_Bool (make_up items (left_open numbers) (given numbers))) [
            | inr not ↦ err_is _ shape (sym (target_of-made items numbers false few high one not) ∙ found)
            | inl made ↦ ap count (sym (shape_of-same _ shape (sym (target_of-made items numbers true few high one made) ∙ found))) ∙ count-made items numbers one made
          ]
        ]
      ]
    ]

pub given-count : (items : ℕ) (numbers : List ℤ) (result : Result (List ℕ) Refusal) → Gives (λ s. s) result (target_of items numbers) → IfOk result (λ s. count s ≡ items)
given-count items numbers (Ok shape) there = target-count items numbers shape there
given-count items numbers (Err e) there = tt
