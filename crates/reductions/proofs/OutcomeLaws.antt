-- Refusals, and the result otherwise.
use Rattle.std.proofs.Common.{◌≡◌, ◌*◌, ◌<◌, ◌≤◌, ℕ, zero, suc, ℤ, true, false, Bool, Option, Some, None, List, [], ◌∷◌, map, drop, length, get_or, Ok, Err, refl, sym, ap, subst, ◌∙◌, arith, mul_comm, mul-zero, one-mul, suc-mul, zero-mul, nat_eq, ◌&&◌, ◌||◌, not, ◌==◌, slice_set, is_ok}
use Rattle.reductions.proofs.Words.{Gives, Items, list_any, ne_eqb, range_with_len, insert, remove, flat_map, length-map, get_or-map, same_lists, take-take, length-map-range_with_len, get_or-map-range_with_len, Descr, Refusal, EmptyReduction, BadAxis, Scalar, IsNumber, size, decode, encode, number_of, number_size, ◌>>=◌, check, check_passed, shape_of-same, encode_item, number, item_from, one-encoded, item_at, joined, all_joined, joined_list, Layout, count, indexes, rank, length-indexes, offsets, multiples, offsets-none, shape_of, Red, ScalarDescr, wide_size, little_size, lists, reduced_shape, list_length, named_axis, is_axis, IsAxisOf, has_empty_list, number_scalar, reduced_type, outcome_of, IsReduction, result_scalar, needs_items, reduced, reduced_item, reduced_items, item_number, shape_after, number_at, numbers_at, AreReduced}

-- ---- lengths

product_zero : (m n : ℕ) → (nat_eq m 0 || nat_eq n 0) ≡ nat_eq (m * n) 0
product_zero zero n = sym (ap (λ k. nat_eq k 0) (zero-mul n))
product_zero (suc m) zero = let some : nat_eq (suc m) 0 ≡ false = ne_eqb (suc m) 0 (λ same. omega (arith, same)) in rw some (sym (ap (λ k. nat_eq k 0) (mul-zero (suc m))))
product_zero (suc m) (suc n) =
    let some : nat_eq (suc m) 0 ≡ false = ne_eqb (suc m) 0 (λ same. omega (arith, same)) in
    let some' : nat_eq (suc n) 0 ≡ false = ne_eqb (suc n) 0 (λ same. omega (arith, same)) in
    let product : nat_eq (suc m * suc n) 0 ≡ false = ne_eqb (suc m * suc n) 0 (λ same. omega (arith, same, suc-mul m (suc n))) in
    rw (some, some') (sym product)

-- axes have no items if one of the lengths is 0
pub any_zero : (lengths : List ℕ) → list_any (λ n. nat_eq n 0) lengths ≡ nat_eq (count lengths) 0
any_zero [] = refl
any_zero (n ∷ lengths) = ap (λ b. nat_eq n 0 || b) (any_zero lengths) ∙ product_zero n (count lengths)

pub after_empty : (reduction : Red) (shape : List ℕ) (axis : Option ℕ) (keep : Bool) → (needs_items reduction && has_empty_list shape axis (reduced_shape shape axis keep)) ≡ true → shape_after reduction shape axis keep ≡ Err EmptyReduction
unfolding shape_after
after_empty reduction shape axis keep empty = rw empty refl

pub after_some : (reduction : Red) (shape : List ℕ) (axis : Option ℕ) (keep : Bool) → (needs_items reduction && has_empty_list shape axis (reduced_shape shape axis keep)) ≡ false → shape_after reduction shape axis keep ≡ shape_of (reduced_shape shape axis keep)
unfolding shape_after
after_some reduction shape axis keep some = rw some refl

-- ---- the number of lists is the number of items of the result

count-ones : (shape : List ℕ) → count (map (λ _. 1) shape) ≡ 1
count-ones [] = refl
count-ones (n ∷ shape) = one-mul (count (map (λ _. 1) shape)) ∙ count-ones shape

count-kept : (shape : List ℕ) (a : ℕ) → a < length shape → count (slice_set shape a 1) ≡ count (remove shape a)
count-kept [] a low = absurd (omega (arith, low))
count-kept (n ∷ shape) zero low = one-mul (count shape)
count-kept (n ∷ shape) (suc a) low = ap (λ c. n * c) (count-kept shape a (omega (arith, low)))

length-lists : (shape : List ℕ) (axis : Option ℕ) (keep : Bool) (items : List ℕ) → IsAxisOf (length shape) axis → length (lists shape axis items) ≡ count (reduced_shape shape axis keep)
length-lists shape None true items is = sym (count-ones shape)
length-lists shape None false items is = refl
length-lists shape (Some a) keep items is =
    length-map (indexes (remove shape a)) _ ∙ length-indexes (remove shape a) ∙ same keep
  where
    same : (keep : Bool) → count (remove shape a) ≡ count (reduced_shape shape (Some a) keep)
    same true = sym (count-kept shape a is)
    same false = refl

-- ---- empty lists

pub no_items : (l : Layout) (axis : Option ℕ) (k : ℕ) → list_length l.shape axis ≡ 0 → k < length (lists l.shape axis (offsets l)) → get_or (lists l.shape axis (offsets l)) k [] ≡ []
no_items l None zero none low = offsets-none l none
no_items l None (suc k) none low = absurd (omega (arith, low))
no_items l (Some a) k none low =
    let shape = l.shape in
    let list = λ (index : List ℕ). map (λ j. get_or (offsets l) (rank shape (insert index a j)) 0) (range_with_len 0 (get_or shape a 0)) in
    get_or-map list (indexes (remove shape a)) k [] [] (omega (arith, low, length-map (indexes (remove shape a)) list))
    ∙ ap (λ n. map (λ j. get_or (offsets l) (rank shape (insert (get_or (indexes (remove shape a)) k []) a j)) 0) (range_with_len 0 n)) none

no_answer : (refusal : Refusal) (result : List ℕ) → Err refusal ≡ Ok result → ⊥
no_answer refusal result same = let is : false ≡ true = ap is_ok same in absurd (cc)

pub some_after : (reduction : Red) (shape : List ℕ) (axis : Option ℕ) (keep : Bool) (result : List ℕ) → shape_after reduction shape axis keep ≡ Ok result → needs_items reduction ≡ true → list_length shape axis ≡ 0 → count (reduced_shape shape axis keep) ≡ 0
unfolding shape_after
some_after reduction shape axis keep result found needs none = go (count (reduced_shape shape axis keep)) (rw (needs, none) at found)
  where
    go : (n : ℕ) → (check (not (not (n == 0))) EmptyReduction >>= (λ _. shape_of (reduced_shape shape axis keep))) ≡ Ok result → n ≡ 0
    go zero found = refl
    go (suc n) found = let other : nat_eq (suc n) 0 ≡ false = ne_eqb (suc n) 0 (λ same. omega (arith, same)) in absurd (no_answer EmptyReduction result (rw other at found))

-- the shape is that of the result
pub shape_is : (reduction : Red) (shape : List ℕ) (axis : Option ℕ) (keep : Bool) (result : List ℕ) → shape_after reduction shape axis keep ≡ Ok result → reduced_shape shape axis keep ≡ result
unfolding shape_after
shape_is reduction shape axis keep result found =
    shape_of-same (reduced_shape shape axis keep) result (check_passed (not (needs_items reduction && has_empty_list shape axis (reduced_shape shape axis keep))) EmptyReduction (shape_of (reduced_shape shape axis keep)) result found)

-- there is a list for each item of the result
pub many_lists : (reduction : Red) (shape : List ℕ) (axis : Option ℕ) (keep : Bool) (result items : List ℕ) (rank : ℕ) → rank ≡ length shape → IsAxisOf rank axis → shape_after reduction shape axis keep ≡ Ok result → count result ≡ length (lists shape axis items)
many_lists reduction shape axis keep result items rank all is found =
    ap count (sym (shape_is reduction shape axis keep result found)) ∙ sym (length-lists shape axis keep items (subst (λ n. IsAxisOf n axis) all is))

-- ---- the outcome

pub refused : (reduction : Red) (source : Items) (named : Option ℤ) (keep : Bool) (refusal : Refusal) → Gives outcome_of (Err refusal) (reduced_type reduction source.descr.now source.layout.now.shape named keep) → IsReduction reduction source named keep (Err refusal)
refused reduction source named keep refusal gives = record { array = gives; order = tt; items = tt; bytes = tt }

pub outcome_kind : (reduction : Red) (descr : Descr) (shape : List ℕ) (named : Option ℤ) (keep : Bool) (refusal : Refusal) → number_scalar descr ≡ Err refusal → reduced_type reduction descr shape named keep ≡ Err refusal
unfolding reduced_type
outcome_kind reduction descr shape named keep refusal is = rw is refl

pub outcome_axis : (reduction : Red) (descr : Descr) (shape : List ℕ) (named : Option ℤ) (keep : Bool) (scalar : Scalar) → number_scalar descr ≡ Ok scalar → is_axis (length shape) named ≡ false → reduced_type reduction descr shape named keep ≡ Err BadAxis
unfolding reduced_type
outcome_axis reduction descr shape named keep scalar is none = rw (is, none) refl

pub outcome_ok : (reduction : Red) (descr : Descr) (shape : List ℕ) (named : Option ℤ) (keep : Bool) (scalar : Scalar) (result : List ℕ) → number_scalar descr ≡ Ok scalar → is_axis (length shape) named ≡ true →
    shape_after reduction shape (named_axis (length shape) named) keep ≡ Ok result → reduced_type reduction descr shape named keep ≡ Ok (record { descr = ScalarDescr (result_scalar reduction scalar); shape = result })
unfolding reduced_type
outcome_ok reduction descr shape named keep scalar result is found after = rw (is, found, after) refl

pub outcome_shape : (reduction : Red) (descr : Descr) (shape : List ℕ) (named : Option ℤ) (keep : Bool) (scalar : Scalar) (refusal : Refusal) → number_scalar descr ≡ Ok scalar → is_axis (length shape) named ≡ true →
    shape_after reduction shape (named_axis (length shape) named) keep ≡ Err refusal → reduced_type reduction descr shape named keep ≡ Err refusal
unfolding reduced_type
outcome_shape reduction descr shape named keep scalar refusal is found after = rw (is, found, after) refl

-- ---- the items

read_number : (scalar : Scalar) (block : List ℕ) (o : ℕ) → item_number (item_from (ScalarDescr scalar) block o) ≡ number_at scalar block o
read_number scalar block o = ap (λ bytes. number_of (decode scalar bytes)) (take-take (size scalar) (size scalar) (drop o block) (omega arith))

numbers_are : (scalar : Scalar) (block : List ℕ) (list : List ℕ) → map item_number (map (item_from (ScalarDescr scalar) block) list) ≡ numbers_at scalar block list
numbers_are scalar block [] = refl
numbers_are scalar block (o ∷ list) = λ i. read_number scalar block o i ∷ numbers_are scalar block list i

pub items_are : (reduction : Red) (scalar to : Scalar) (block out : List ℕ) (ls : List (List ℕ)) (n : ℕ) → to ≡ result_scalar reduction scalar → n ≡ length ls → AreReduced reduction scalar block (size to) ls out →
    map (item_from (ScalarDescr to) out) (multiples (size to) n) ≡ reduced_items reduction (ScalarDescr to) (ScalarDescr scalar) block ls
items_are reduction scalar to block out ls n is many are =
    let f = item_from (ScalarDescr to) out in
    let g = λ (list : List ℕ). reduced_item reduction (ScalarDescr to) (map (item_from (ScalarDescr scalar) block) list) in
    let at = λ (k : ℕ). size to * k in
    let long : length (multiples (size to) n) ≡ n = length-map-range_with_len at 0 n in
    same_lists (map f (multiples (size to) n)) (map g ls) (length-map (multiples (size to) n) f ∙ long ∙ many ∙ sym (length-map ls g)) (λ k d below.
    let low : k < n = omega (arith, below, long, length-map (multiples (size to) n) f) in
    let list = get_or ls k [] in
    get_or-map f (multiples (size to) n) k 0 d (omega (arith, low, long))
    ∙ ap f (get_or-map-range_with_len at 0 n k k 0 low (omega arith))
    ∙ ap (λ value. value ∷ []) (
    ap (decode to) (take-take (size to) (size to) (drop (size to * k) out) (omega arith))
    ∙ ap (λ o. decode to (item_at o (size to) out)) (mul_comm (size to) k)
    ∙ ap (λ s. decode s (item_at (k * size to) (size to) out)) is
    ∙ (are.each k (omega (arith, low, many))).value
    ∙ ap (λ s. number (reduced reduction s (numbers_at scalar block list))) (sym is)
    ∙ ap (λ numbers. number (reduced reduction to numbers)) (sym (numbers_are scalar block list))
    )
    ∙ sym (get_or-map g ls k [] d (omega (arith, low, many))))

-- ---- the bytes

pub bytes_are : (reduction : Red) (scalar to : Scalar) (block out : List ℕ) (ls : List (List ℕ)) (n : ℕ) → to ≡ result_scalar reduction scalar → n ≡ length ls → AreReduced reduction scalar block (size to) ls out →
    out ≡ flat_map (encode_item (ScalarDescr to)) (reduced_items reduction (ScalarDescr to) (ScalarDescr scalar) block ls)
bytes_are reduction scalar to block out ls n is many are =
    let f = encode_item (ScalarDescr to) in
    let g = λ (list : List ℕ). reduced_item reduction (ScalarDescr to) (map (item_from (ScalarDescr scalar) block) list) in
    let items = map g ls in
    all_joined (λ k. f (get_or items k [])) (size to) n out (are.len ∙ ap (λ m. m * size to) (sym many)) (λ k low.
    let list = get_or ls k [] in
    (are.each k (omega (arith, low, many))).exact
    ∙ ap (λ s. encode s (number (reduced reduction s (numbers_at scalar block list)))) (sym is)
    ∙ ap (λ numbers. encode to (number (reduced reduction to numbers))) (sym (numbers_are scalar block list))
    ∙ sym (one-encoded to (number (reduced reduction to (map item_number (map (item_from (ScalarDescr scalar) block) list)))))
    ∙ ap f (sym (get_or-map g ls k [] [] (omega (arith, low, many)))))
    ∙ ap (joined (λ k. f (get_or items k []))) (many ∙ sym (length-map ls g))
    ∙ joined_list f [] items

-- ---- the number of bytes

pub result_size-le : (reduction : Red) (scalar : Scalar) → IsNumber scalar → size (result_scalar reduction scalar) ≤ 8
result_size-le reduction scalar is = grind (arith, wide_size scalar, little_size scalar, number_size scalar is)
