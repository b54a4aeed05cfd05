-- Laws of the target shape: the capped product, and each refusal.
use Rattle.std.proofs.Common.{◌≡◌, ℕ, ◌+◌, ◌*◌, ◌/◌, ◌%◌, ◌<◌, ◌≤◌, ◌==◌, min, nat_le, true, false, ℤ, pos, negsuc, int_le, Bool, List, ◌∷◌, map, length, get_or, drop, Err, inl, inr, refl, sym, ◌∙◌, ap, arith, one-mul, mul_comm, mul_assoc}
use Rattle.reshape_rule.proofs.Words.{list_all, min-eq_left, min-eq_right, div-eq_of_lt, mod-eq_of_lt, cases_lt, nat_tests, drop_more, map-map, ◌>>=◌, check, TooManyAxes, BadReshape, max_axes, max_items, shape_of, min-mul, shape_of-capped, left_open, given, make_up, length_or, target_of}

-- ---- the numbers from k on

given-cons : (number : ℤ) (numbers : List ℤ) → given (number ∷ numbers) ≡ length_or 1 number * given numbers
given-cons (pos n) numbers = refl
given-cons (negsuc n) numbers = sym (one-mul (given numbers))

pub given-more : (numbers : List ℤ) (k : ℕ) → k < length numbers → given (drop k numbers) ≡ length_or 1 (get_or numbers k (pos 0)) * given (drop (k + 1) numbers)
given-more numbers k below = ap given (drop_more numbers k (pos 0) below) ∙ given-cons (get_or numbers k (pos 0)) (drop (k + 1) numbers)

-- ---- the capped product

swapped : (p n c : ℕ) → p * n * c ≡ n * (p * c)
swapped p n c = ap (λ x. x * c) (mul_comm p n) ∙ mul_assoc n p c

-- one more factor, with both the factor and the product capped
pub capped-more : (numbers : List ℤ) (k product top : ℕ) → k < length numbers → min (min (product * min (length_or 1 (get_or numbers k (pos 0))) top) top * given (drop (k + 1) numbers)) top ≡ min (product * given (drop k numbers)) top
capped-more numbers k product top below =
    let n = length_or 1 (get_or numbers k (pos 0)) in
    let c = given (drop (k + 1) numbers) in
    min-mul (product * min n top) c top ∙ ap (λ x. min x top) (swapped product (min n top) c) ∙ min-mul n (product * c) top ∙ ap (λ x. min x top) (sym (swapped product n c) ∙ mul_assoc product n c ∙ ap (λ x. product * x) (sym (given-more numbers k below)))

-- If there are fewer items than the cap, the capped product gives the same answer.
pub make_up-capped : (items opened product top : ℕ) → items < top → make_up items opened (min product top) ≡ make_up items opened product
make_up-capped items opened product top low =
    elim (cases_lt product top) [
      | inl below ↦ ap (make_up items opened) (min-eq_left (omega arith))
      | inr above ↦
          let same : (top == items) ≡ (product == items) = grind (arith, nat_tests) in
          let same' : (top == 0) ≡ (product == 0) = grind (arith, nat_tests) in
          let rest : items % top ≡ items % product = mod-eq_of_lt low ∙ sym (mod-eq_of_lt (omega arith)) in
          ap (make_up items opened) (min-eq_right above) ∙ rw (same, same', rest) refl
    ]

pub left_over-capped : (items product top : ℕ) → items < top → items / min product top ≡ items / product
left_over-capped items product top low =
    elim (cases_lt product top) [
      | inl below ↦ ap (λ p. items / p) (min-eq_left (omega arith))
      | inr above ↦ ap (λ p. items / p) (min-eq_right above) ∙ div-eq_of_lt low ∙ sym (div-eq_of_lt (omega arith))
    ]

-- ---- what the numbers describe

pub target_of-many : (items : ℕ) (numbers : List ℤ) → max_axes < length numbers → target_of items numbers ≡ Err TooManyAxes
unfolding target_of
target_of-many items numbers many =
    let test : nat_le (length numbers) max_axes ≡ false = grind (arith, nat_tests) in
    rw test

pub target_of-low : (items : ℕ) (numbers : List ℤ) → length numbers ≤ max_axes → list_all (int_le (negsuc 0)) numbers ≡ false → target_of items numbers ≡ Err BadReshape
unfolding target_of
target_of-low items numbers few low =
    let test : nat_le (length numbers) max_axes ≡ true = grind (arith, nat_tests) in
    rw (test, low)

pub target_of-opened : (items : ℕ) (numbers : List ℤ) → length numbers ≤ max_axes → list_all (int_le (negsuc 0)) numbers ≡ true → 1 < left_open numbers → target_of items numbers ≡ Err BadReshape
unfolding target_of
target_of-opened items numbers few high more =
    let test : nat_le (length numbers) max_axes ≡ true = grind (arith, nat_tests) in
    let test' : nat_le (left_open numbers) 1 ≡ false = grind (arith, nat_tests) in
    rw (test, high, test')

pub target_of-made : (items : ℕ) (numbers : List ℤ) (made : Bool) → length numbers ≤ max_axes → list_all (int_le (negsuc 0)) numbers ≡ true → left_open numbers ≤ 1 → make_up items (left_open numbers) (given numbers) ≡ made → target_of items numbers ≡ (check made BadReshape >>= (λ _. shape_of (map (length_or (items / given numbers)) numbers)))
unfolding target_of
target_of-made items numbers made few high one is =
    let test : nat_le (length numbers) max_axes ≡ true = grind (arith, nat_tests) in
    let test' : nat_le (left_open numbers) 1 ≡ true = grind (arith, nat_tests) in
    rw (test, high, test', is) refl

-- The numbers pass the checks of the program, which caps their product.
pub record Passes (items : ℕ) (numbers : List ℤ) (opened product : ℕ) (made : Bool) : Type 0 where
  pub few : length numbers ≤ max_axes
  pub high : list_all (int_le (negsuc 0)) numbers ≡ true
  pub one : opened ≤ 1
  pub opened_is : opened ≡ left_open numbers
  pub product_is : product ≡ min (given numbers) (max_items + 1)
  pub low : items ≤ max_items
  pub made_is : made ≡ make_up items opened product

passes-made : (items : ℕ) (numbers : List ℤ) (opened product : ℕ) (made : Bool) → Passes items numbers opened product made → target_of items numbers ≡ (check made BadReshape >>= (λ _. shape_of (map (length_or (items / given numbers)) numbers)))
passes-made items numbers opened product made p =
    let is : make_up items (left_open numbers) (given numbers) ≡ made =
    sym (p.made_is ∙ ap (make_up items opened) p.product_is ∙ make_up-capped items opened (given numbers) (max_items + 1) (omega (arith, p.low)) ∙ ap (λ o. make_up items o (given numbers)) p.opened_is) in
    target_of-made items numbers made p.few p.high (omega (arith, p.one, p.opened_is)) is

pub target_of-unmade : (items : ℕ) (numbers : List ℤ) (opened product : ℕ) (made : Bool) → Passes items numbers opened product made → made ≡ false → target_of items numbers ≡ Err BadReshape
target_of-unmade items numbers opened product made p is = passes-made items numbers opened product made p ∙ ap (λ m. check m BadReshape >>= (λ _. shape_of (map (length_or (items / given numbers)) numbers))) is

pub target_of-ok : (items : ℕ) (numbers : List ℤ) (opened product : ℕ) (made : Bool) (rest : ℕ) (lengths : List ℕ) → Passes items numbers opened product made → made ≡ true → rest ≡ items / product → lengths ≡ map (λ number. min (length_or rest number) (max_items + 1)) numbers → target_of items numbers ≡ shape_of lengths
target_of-ok items numbers opened product made rest lengths p is rest-is are =
    let rest' : rest ≡ items / given numbers = rest-is ∙ ap (λ q. items / q) p.product_is ∙ left_over-capped items (given numbers) (max_items + 1) (omega (arith, p.low)) in
    passes-made items numbers opened product made p ∙ ap (λ m. check m BadReshape >>= (λ _. shape_of (map (length_or (items / given numbers)) numbers))) is ∙ ap (λ r. shape_of (map (length_or r) numbers)) (sym rest') ∙ sym (shape_of-capped (max_items + 1) (map (length_or rest) numbers) (omega arith)) ∙ ap shape_of (map-map (λ n. min n (max_items + 1)) (length_or rest) numbers ∙ sym are)
