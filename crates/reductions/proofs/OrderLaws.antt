-- Reductions that do not depend on the order of the numbers.
use Rattle.std.proofs.Common.{◌≡◌, cond, ◌*◌, ◌<◌, ℕ, zero, suc, ℤ, pos, negsuc, ◌+ℤ◌, ◌*ℤ◌, Bool, true, false, not, ◌&&◌, ◌||◌, List, [], ◌∷◌, length, get_or, set, refl, sym, ap, subst, ◌∙◌, arith}
use Rattle.reductions.proofs.Words.{better, best_of, best_from, fold, list_any, list_all, IsPermutation, neg_ℤ, *ℤ_comm, zero-*ℤ, negsuc-*ℤ-pos, negsuc-*ℤ-negsuc, pos-*ℤ-negsuc, neg_ℤ-neg_ℤ, ints, clamps, swap_is, get_or_default, IsPermutation-keeps, IsPermutation-map, IsPermutation-sym, Contains-permutation, length_permutation, list_any-IsPermutation, false≢true, Scalar, wrap, Red, Sum, Product, Minimum, Maximum, Any, ArgMin, ArgMax, item_at, AllOf, AreReduced, IsReduced, IsStored, number_at, numbers_at, reduced, result_scalar, is_true, depends_on_order}
use Rattle.reductions.proofs.RowLaws.{swapped}

-- ---- an operation that takes any two numbers in either order

module _ (op : ℤ → ℤ → ℤ) (turns : (z x y : ℤ) → op (op z x) y ≡ op (op z y) x) where
  -- a fold may start with a later number, if the first one takes its place
  put_later : (l : List ℤ) (j : ℕ) (z a d : ℤ) → j < length l → fold op (op z (get_or l j d)) (set l j a) ≡ fold op (op z a) l
  put_later [] j z a d below = absurd (omega arith)
  put_later (x ∷ l) zero z a d below = ap (λ y. fold op y l) (turns z x a)
  put_later (b ∷ l) (suc j) z a d below =
      ap (λ y. fold op y (set l j a)) (turns z (get_or l j d) b) ∙ put_later l j (op z b) a d (omega arith) ∙ ap (λ y. fold op y l) (turns z b a)

  swapped-fold : (l : List ℤ) (i j : ℕ) (z d : ℤ) → i < length l → j < length l → fold op z (set (set l i (get_or l j d)) j (get_or l i d)) ≡ fold op z l
  swapped-fold [] i j z d in_i in_j = absurd (omega arith)
  swapped-fold (a ∷ l) zero zero z d in_i in_j = refl
  swapped-fold (a ∷ l) zero (suc j) z d in_i in_j = put_later l j z a d (omega arith)
  swapped-fold (a ∷ l) (suc i) zero z d in_i in_j = put_later l i z a d (omega arith)
  swapped-fold (a ∷ l) (suc i) (suc j) z d in_i in_j = swapped-fold l i j (op z a) d (omega arith) (omega arith)

  fold-reordered : (z : ℤ) (xs ys : List ℤ) → IsPermutation xs ys → fold op z ys ≡ fold op z xs
  fold-reordered z xs ys same =
      IsPermutation-keeps xs (λ l. fold op z l ≡ fold op z xs) refl (λ l i j in_i in_j is.
      ap (fold op z) (sym (swap_is l i j (pos 0) in_i in_j)) ∙ swapped-fold l i j z (pos 0) in_i in_j ∙ is) ys same

  -- a number may come last instead of first
  last : (l : List ℤ) (z a : ℤ) → op (fold op z l) a ≡ fold op (op z a) l
  last [] z a = refl
  last (b ∷ l) z a = last l (op z b) a ∙ ap (λ y. fold op y l) (turns z b a)

  module _ (once : (z x : ℤ) → op (op z x) x ≡ op z x) (either : (x y : ℤ) → op x y ≡ op y x) where
    -- a number of the list may be counted twice
    taken : (l : List ℤ) (k : ℕ) (z d : ℤ) → k < length l → fold op (op z (get_or l k d)) l ≡ fold op z l
    taken [] k z d below = absurd (omega arith)
    taken (x ∷ l) zero z d below = ap (λ y. fold op y l) (once z x)
    taken (b ∷ l) (suc k) z d below = ap (λ y. fold op y l) (turns z (get_or l k d) b) ∙ taken l k (op z b) d (omega arith)

    -- a fold may start with any number of the list
    from_any : (l : List ℤ) (j k : ℕ) (d : ℤ) → j < length l → k < length l → fold op (get_or l j d) l ≡ fold op (get_or l k d) l
    from_any l j k d in_j in_k =
        sym (taken l k (get_or l j d) d in_k) ∙ ap (λ y. fold op y l) (either (get_or l j d) (get_or l k d)) ∙ taken l j (get_or l k d) d in_j

    first-reordered : (x y : ℤ) (xs ys : List ℤ) → IsPermutation (x ∷ xs) (y ∷ ys) → fold op y (y ∷ ys) ≡ fold op x (x ∷ xs)
    first-reordered x y xs ys same =
        let there = Contains-permutation (y ∷ ys) (x ∷ xs) y (IsPermutation-sym (x ∷ xs) (y ∷ ys) same) (0, omega arith, refl) in
        let at : get_or (x ∷ xs) there.0 (pos 0) ≡ y = get_or_default (x ∷ xs) there.0 (pos 0) y there.1 ∙ there.2 in
        fold-reordered y (x ∷ xs) (y ∷ ys) same ∙ ap (λ z. fold op z (x ∷ xs)) (sym at) ∙ from_any (x ∷ xs) there.0 0 (pos 0) there.1 (omega arith)

-- ---- each reduction

neg-left : (a b : ℤ) → neg_ℤ a *ℤ b ≡ neg_ℤ (a *ℤ b)
neg-left (pos zero) b = zero-*ℤ b ∙ ap neg_ℤ (sym (zero-*ℤ b))
neg-left (pos (suc m)) (pos n) = negsuc-*ℤ-pos m n
neg-left (pos (suc m)) (negsuc n) = negsuc-*ℤ-negsuc m n ∙ sym (ap neg_ℤ (pos-*ℤ-negsuc (suc m) n) ∙ neg_ℤ-neg_ℤ (pos (suc m * suc n)))
neg-left (negsuc m) (pos n) = sym (ap neg_ℤ (negsuc-*ℤ-pos m n) ∙ neg_ℤ-neg_ℤ (pos (suc m * n)))
neg-left (negsuc m) (negsuc n) = pos-*ℤ-negsuc (suc m) n ∙ ap neg_ℤ (sym (negsuc-*ℤ-negsuc m n))

neg-right : (a b : ℤ) → a *ℤ neg_ℤ b ≡ neg_ℤ (a *ℤ b)
neg-right a b = *ℤ_comm a (neg_ℤ b) ∙ neg-left b a ∙ ap neg_ℤ (*ℤ_comm b a)

all_up : (a b c : ℕ) → (pos a *ℤ pos b) *ℤ pos c ≡ (pos a *ℤ pos c) *ℤ pos b
all_up a b c = ap pos (turned a b c)
  where
    turned : (a b c : ℕ) → a * b * c ≡ a * c * b
    turned a b c = omega arith

two_up : (a b : ℕ) (y : ℤ) → (pos a *ℤ pos b) *ℤ y ≡ (pos a *ℤ y) *ℤ pos b
two_up a b (pos c) = all_up a b c
two_up a b (negsuc c) =
    neg-right (pos a *ℤ pos b) (pos (suc c)) ∙ ap neg_ℤ (all_up a b (suc c)) ∙ sym (ap (λ m. m *ℤ pos b) (neg-right (pos a) (pos (suc c))) ∙ neg-left (pos a *ℤ pos (suc c)) (pos b))

one_up : (a : ℕ) (x y : ℤ) → (pos a *ℤ x) *ℤ y ≡ (pos a *ℤ y) *ℤ x
one_up a (pos b) y = two_up a b y
one_up a (negsuc b) y =
    ap (λ m. m *ℤ y) (neg-right (pos a) (pos (suc b))) ∙ neg-left (pos a *ℤ pos (suc b)) y ∙ ap neg_ℤ (two_up a (suc b) y) ∙ sym (neg-right (pos a *ℤ y) (pos (suc b)))

product_turns : (z x y : ℤ) → (z *ℤ x) *ℤ y ≡ (z *ℤ y) *ℤ x
product_turns (pos a) x y = one_up a x y
product_turns (negsuc a) x y =
    ap (λ m. m *ℤ y) (neg-left (pos (suc a)) x) ∙ neg-left (pos (suc a) *ℤ x) y ∙ ap neg_ℤ (one_up (suc a) x y)
    ∙ sym (ap (λ m. m *ℤ x) (neg-left (pos (suc a)) y) ∙ neg-left (pos (suc a) *ℤ y) x)

better_turns : (greatest : Bool) (z x y : ℤ) → better greatest (better greatest z x) y ≡ better greatest (better greatest z y) x
better_turns false z x y = omega (arith, ints, clamps)
better_turns true z x y = omega (arith, ints, clamps)

better_once : (greatest : Bool) (z x : ℤ) → better greatest (better greatest z x) x ≡ better greatest z x
better_once false z x = omega (arith, ints, clamps)
better_once true z x = omega (arith, ints, clamps)

better_either : (greatest : Bool) (x y : ℤ) → better greatest x y ≡ better greatest y x
better_either false x y = omega (arith, ints, clamps)
better_either true x y = omega (arith, ints, clamps)

best-reordered : (greatest : Bool) (xs ys : List ℤ) → IsPermutation xs ys → best_of greatest ys ≡ best_of greatest xs
best-reordered greatest [] [] same = refl
best-reordered greatest [] (y ∷ ys) same = absurd (omega (arith, length_permutation [] (y ∷ ys) same))
best-reordered greatest (x ∷ xs) [] same = absurd (omega (arith, length_permutation (x ∷ xs) [] same))
best-reordered greatest (x ∷ xs) (y ∷ ys) same =
    sym (best_from greatest y ys) ∙ first-reordered (better greatest) (better_turns greatest) (better_once greatest) (better_either greatest) x y xs ys same ∙ best_from greatest x xs

all_is : (p : ℤ → Bool) (l : List ℤ) → list_all p l ≡ not (list_any (λ z. not (p z)) l)
all_is p [] = refl
all_is p (x ∷ l) = ap (λ b. p x && b) (all_is p l) ∙ turned (p x) (list_any (λ z. not (p z)) l)
  where
    turned : (a b : Bool) → (a && not b) ≡ not (not a || b)
    turned true b = refl
    turned false b = refl

pub reduced-reordered : (reduction : Red) (scalar : Scalar) (xs ys : List ℤ) → depends_on_order reduction ≡ false → IsPermutation xs ys → reduced reduction scalar ys ≡ reduced reduction scalar xs
reduced-reordered Sum scalar xs ys free same = ap (wrap scalar) (fold-reordered (λ sum value. sum +ℤ value) swapped (pos 0) xs ys same)
reduced-reordered Product scalar xs ys free same = ap (wrap scalar) (fold-reordered (λ product value. product *ℤ value) product_turns (pos 1) xs ys same)
reduced-reordered Minimum scalar xs ys free same = best-reordered false xs ys same
reduced-reordered Maximum scalar xs ys free same = best-reordered true xs ys same
reduced-reordered Any scalar xs ys free same = ap (λ b. cond b (pos 1) (pos 0)) (sym (list_any-IsPermutation is_true xs ys same))
reduced-reordered AllOf scalar xs ys free same =
    ap (λ b. cond b (pos 1) (pos 0)) (all_is is_true ys ∙ ap not (sym (list_any-IsPermutation (λ z. not (is_true z)) xs ys same)) ∙ sym (all_is is_true xs))
reduced-reordered ArgMin scalar xs ys free same = absurd (false≢true (sym free))
reduced-reordered ArgMax scalar xs ys free same = absurd (false≢true (sym free))

-- the result of the numbers at some offsets is the result of the same offsets in another order
pub results-reordered : (reduction : Red) (scalar : Scalar) (bytes os os' out : List ℕ) (width : ℕ) → depends_on_order reduction ≡ false → IsPermutation os os' → AreReduced reduction scalar bytes width (os' ∷ []) out → AreReduced reduction scalar bytes width (os ∷ []) out
results-reordered reduction scalar bytes os os' out width free same are = record { len = are.len; each = each }
  where
    each : (k : ℕ) → k < length (os ∷ []) → IsReduced reduction scalar (numbers_at scalar bytes (get_or (os ∷ []) k [])) (item_at (k * width) width out)
    each zero below =
        subst (λ z. IsStored (result_scalar reduction scalar) z (item_at (0 * width) width out))
        (reduced-reordered reduction (result_scalar reduction scalar) (numbers_at scalar bytes os) (numbers_at scalar bytes os') free (IsPermutation-map (number_at scalar bytes) os os' same)) (are.each 0 (omega arith))
    each (suc k) below = absurd (omega arith)
