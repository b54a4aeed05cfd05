-- Laws of transposes.
use Rattle.std.proofs.Common.{◌≡◌, ◌≢◌, ℕ, zero, suc, ◌*◌, ◌<◌, ◌==◌, Bool, true, false, ◌||◌, ℤ, pos, ◌+ℤ◌, ◌*ℤ◌, List, [], ◌∷◌, map, length, replicate, get_or, set, inl, inr, refl, sym, ap, ◌∙◌, arith, mul_assoc, length-set}
use Rattle.view_ops.proofs.Words.{cases_Bool, false≢true, nat_tests, ints, length-map, length-replicate, get_or-replicate, get_or-set_same, get_or-set_other, length-le_from_distinct_below, list_any, IsDistinct, AllByRecursion, *ℤ-zero, +ℤ_assoc, count, IsIndex, length-index, IsIndex-from_numbers, transposed_shape, transposed_index, put_at, AreAxes}
use Rattle.shape_strides.specs.Layouts.{dot}

-- ---- numbers written at the positions of axes

or_false_left : (x y : Bool) → (x || y) ≡ false → x ≡ false
or_false_left x y none = grind arith

or_false_right : (x y : Bool) → (x || y) ≡ false → y ≡ false
or_false_right x y none = grind arith

apart_from : (a j : ℕ) → (a == j) ≡ false → j ≢ a
apart_from a j test = grind (arith, nat_tests)

apart_from' : (b a : ℕ) → (b == a) ≡ false → b ≢ a
apart_from' b a test = grind (arith, nat_tests)

pub length-put_at : (axes numbers over : List ℕ) → length (put_at axes numbers over) ≡ length over
length-put_at (a ∷ axes) (x ∷ numbers) over = length-set (put_at axes numbers over) a x ∙ length-put_at axes numbers over
length-put_at _ _ over = refl

-- The number at any other position is unchanged.
pub put_at-out : (axes numbers over : List ℕ) (j d : ℕ) → list_any (λ b. b == j) axes ≡ false → get_or (put_at axes numbers over) j d ≡ get_or over j d
put_at-out (a ∷ axes) (x ∷ numbers) over j d none =
    let other = apart_from a j (or_false_left (a == j) (list_any (λ b. b == j) axes) none) in
    get_or-set_other (put_at axes numbers over) a j x d other ∙ put_at-out axes numbers over j d (or_false_right (a == j) (list_any (λ b. b == j) axes) none)
put_at-out _ _ over j d none = refl

-- ---- addresses

turn_in : (a b d : ℤ) → b ≡ pos 0 → a +ℤ d ≡ b +ℤ d +ℤ a
turn_in a b d none = omega (arith, ints)

pub dot-set : (strides : List ℤ) (xs : List ℕ) (a k : ℕ) → a < length strides → a < length xs → get_or xs a 0 ≡ 0 → dot strides (set xs a k) ≡ dot strides xs +ℤ get_or strides a (pos 0) *ℤ pos k
dot-set (s ∷ strides) (x ∷ xs) zero k below within none =
    let nothing : s *ℤ pos x ≡ pos 0 = ap (λ y. s *ℤ pos y) none ∙ *ℤ-zero s in
    turn_in (s *ℤ pos k) (s *ℤ pos x) (dot strides xs) nothing
dot-set (s ∷ strides) (x ∷ xs) (suc a) k below within none =
    ap (λ z. s *ℤ pos x +ℤ z) (dot-set strides xs a k (omega arith) (omega arith) none) ∙ sym (+ℤ_assoc (s *ℤ pos x) (dot strides xs) (get_or strides a (pos 0) *ℤ pos k))
dot-set _ _ a k below within none = absurd (omega arith)

dot-nothing : (strides : List ℤ) (n : ℕ) → dot strides (replicate n 0) ≡ pos 0
dot-nothing (s ∷ strides) (suc n) = rw (*ℤ-zero s, dot-nothing strides n)
dot-nothing _ _ = refl

turned_sum : (a b : ℤ) → a +ℤ b ≡ b +ℤ a
turned_sum a b = omega (arith, ints)

pub dot-put_at : (strides : List ℤ) (axes numbers : List ℕ) (n : ℕ) → length strides ≡ n → AreAxes n axes → dot (map (λ a. get_or strides a (pos 0)) axes) numbers ≡ dot strides (put_at axes numbers (replicate n 0))
dot-put_at strides (a ∷ axes) (x ∷ numbers) n size are =
    let p = get_or strides a (pos 0) *ℤ pos x in
    let rest = put_at axes numbers (replicate n 0) in
    let long : a < length rest = omega (arith, length-put_at axes numbers (replicate n 0), length-replicate {A = ℕ} n 0, are.0) in
    let none : get_or rest a 0 ≡ 0 = put_at-out axes numbers (replicate n 0) a 0 are.1 ∙ get_or-replicate n a 0 0 are.0 in
    let later = dot-put_at strides axes numbers n size are.2 in
    ap (λ z. p +ℤ z) later ∙ turned_sum p (dot strides rest) ∙ sym (dot-set strides rest a x (omega (arith, are.0)) long none)
dot-put_at strides _ _ n size _ = sym (dot-nothing strides n)

-- ---- every axis is named

same_from_test : (a j : ℕ) → (a == j) ≡ true → a ≡ j
same_from_test a j test = grind (arith, nat_tests)

test_turned : (a b : ℕ) → (b == a) ≡ false → (a == b) ≡ false
test_turned a b test = grind (arith, nat_tests)

none_equal : (a : ℕ) (axes : List ℕ) → list_any (λ b. b == a) axes ≡ false → AllByRecursion (λ b. (a == b) ≡ false) axes
none_equal a [] none = tt
none_equal a (b ∷ axes) none = (test_turned a b (or_false_left (b == a) (list_any (λ c. c == a) axes) none), none_equal a axes (or_false_right (b == a) (list_any (λ c. c == a) axes) none))

distinct : (n : ℕ) (axes : List ℕ) → AreAxes n axes → IsDistinct ◌==◌ axes
unfolding IsDistinct
distinct n [] are = tt
distinct n (a ∷ axes) are = (none_equal a axes are.1, distinct n axes are.2)

below : (n : ℕ) (axes : List ℕ) → AreAxes n axes → (q : ℕ) → list_any (λ b. q == b) axes ≡ true → q < n
below n [] are q any = absurd (false≢true any)
below n (a ∷ axes) are q any =
    elim (cases_Bool (q == a)) [
      | inl same ↦ let is : q ≡ a = same_from_test q a same in omega (arith, are.0)
      | inr apart ↦ below n axes are.2 q (rw apart at any)
    ]

pub named : (n j : ℕ) (axes : List ℕ) → length axes ≡ n → AreAxes n axes → j < n → list_any (λ b. b == j) axes ≡ true
named n j axes size are low =
    elim (cases_Bool (list_any (λ b. b == j) axes)) [
      | inl any ↦ any
      | inr none ↦
          let more : AreAxes n (j ∷ axes) = (low, none, are) in
          let few = length-le_from_distinct_below (j ∷ axes) n (distinct n (j ∷ axes) more) (below n (j ∷ axes) more) in
          absurd (omega arith)
    ]

-- ---- indexes

put_at-in : (n j : ℕ) (axes shape index over : List ℕ) → AreAxes n axes → length over ≡ n → IsIndex (transposed_shape axes shape) index → list_any (λ b. b == j) axes ≡ true → get_or (put_at axes index over) j 0 < get_or shape j 0
put_at-in n j [] shape index over are size in' any = absurd (false≢true any)
put_at-in n j (a ∷ axes) shape [] over are size in' any = absurd in'
put_at-in n j (a ∷ axes) shape (k ∷ index) over are size in' any =
    let rest = put_at axes index over in
    let long : a < length rest = omega (arith, length-put_at axes index over, are.0) in
    elim (cases_Bool (a == j)) [
      | inl same ↦
          let is : a ≡ j = same_from_test a j same in
          rw (← is, get_or-set_same rest a k 0 long) in'.0
      | inr apart ↦
          let other = apart_from a j apart in
          let any' : list_any (λ b. b == j) axes ≡ true = rw apart at any in
          rw (get_or-set_other rest a j k 0 other) (put_at-in n j axes shape index over are.2 size in'.1 any')
    ]

pub IsIndex-transposed : (axes shape index : List ℕ) → length axes ≡ length shape → AreAxes (length shape) axes → IsIndex (transposed_shape axes shape) index → IsIndex shape (transposed_index axes index)
IsIndex-transposed axes shape index size are in' =
    IsIndex-from_numbers shape (transposed_index axes index) (length-put_at axes index (replicate (length axes) 0) ∙ length-replicate {A = ℕ} (length axes) 0 ∙ size) (λ j low.
    put_at-in (length shape) j axes shape index (replicate (length axes) 0) are (length-replicate {A = ℕ} (length axes) 0 ∙ size) in' (named (length shape) j axes size are low))

-- ---- different indexes lead to different items

map-set_out : (l : List ℕ) (a x : ℕ) (bs : List ℕ) → list_any (λ b. b == a) bs ≡ false → map (λ b. get_or (set l a x) b 0) bs ≡ map (λ b. get_or l b 0) bs
map-set_out l a x [] none = refl
map-set_out l a x (b ∷ bs) none =
    let other = apart_from' b a (or_false_left (b == a) (list_any (λ c. c == a) bs) none) in
    rw (get_or-set_other l a b x 0 other) (ap (λ ys. get_or l b 0 ∷ ys) (map-set_out l a x bs (or_false_right (b == a) (list_any (λ c. c == a) bs) none)))

read_back : (n : ℕ) (axes numbers over : List ℕ) → AreAxes n axes → length over ≡ n → length numbers ≡ length axes → map (λ a. get_or (put_at axes numbers over) a 0) axes ≡ numbers
read_back n [] [] over are size same = refl
read_back n (a ∷ axes) (x ∷ numbers) over are size same =
    let rest = put_at axes numbers over in
    let long : a < length rest = omega (arith, length-put_at axes numbers over, are.0) in
    rw (get_or-set_same rest a x 0 long) (ap (λ ys. x ∷ ys) (map-set_out rest a x axes are.1 ∙ read_back n axes numbers over are.2 size (omega arith)))
read_back n _ _ over are size same = absurd (omega arith)

pub transposed-one : (axes shape i j : List ℕ) → length axes ≡ length shape → AreAxes (length shape) axes → IsIndex (transposed_shape axes shape) i → IsIndex (transposed_shape axes shape) j → transposed_index axes i ≡ transposed_index axes j → i ≡ j
transposed-one axes shape i j size are in-i in-j same =
    let over = replicate (length axes) 0 in
    let long = length-replicate {A = ℕ} (length axes) 0 ∙ size in
    let size-i = length-index (transposed_shape axes shape) i in-i ∙ length-map axes (λ a. get_or shape a 0) in
    let size-j = length-index (transposed_shape axes shape) j in-j ∙ length-map axes (λ a. get_or shape a 0) in
    sym (read_back (length shape) axes i over are long size-i) ∙ ap (λ l. map (λ a. get_or l a 0) axes) same ∙ read_back (length shape) axes j over are long size-j

-- ---- the number of items

-- the lengths of the axes, with 1 for each axis that is named
abbrev erased : List ℕ → List ℕ → List ℕ
erased [] shape = shape
erased (a ∷ axes) shape = set (erased axes shape) a 1

length-erased : (axes shape : List ℕ) → length (erased axes shape) ≡ length shape
length-erased [] shape = refl
length-erased (a ∷ axes) shape = length-set (erased axes shape) a 1 ∙ length-erased axes shape

erased-out : (axes shape : List ℕ) (j : ℕ) → list_any (λ b. b == j) axes ≡ false → get_or (erased axes shape) j 0 ≡ get_or shape j 0
erased-out [] shape j none = refl
erased-out (a ∷ axes) shape j none =
    get_or-set_other (erased axes shape) a j 1 0 (apart_from a j (or_false_left (a == j) (list_any (λ b. b == j) axes) none)) ∙ erased-out axes shape j (or_false_right (a == j) (list_any (λ b. b == j) axes) none)

erased-in : (n : ℕ) (axes shape : List ℕ) (j : ℕ) → length shape ≡ n → AreAxes n axes → list_any (λ b. b == j) axes ≡ true → get_or (erased axes shape) j 0 ≡ 1
erased-in n [] shape j size are any = absurd (false≢true any)
erased-in n (a ∷ axes) shape j size are any =
    let long : a < length (erased axes shape) = omega (arith, length-erased axes shape, are.0) in
    elim (cases_Bool (a == j)) [
      | inl same ↦ let is : a ≡ j = same_from_test a j same in rw (← is) (get_or-set_same (erased axes shape) a 1 0 long)
      | inr apart ↦
          let any' : list_any (λ b. b == j) axes ≡ true = rw apart at any in
          get_or-set_other (erased axes shape) a j 1 0 (apart_from a j apart) ∙ erased-in n axes shape j size are.2 any'
    ]

turned_product : (x c k : ℕ) → 1 * c * x ≡ x * c
turned_product x c k = grind arith

count-set : (xs : List ℕ) (a : ℕ) → a < length xs → count (set xs a 1) * get_or xs a 0 ≡ count xs
count-set [] a low = absurd (omega arith)
count-set (x ∷ xs) zero low = turned_product x (count xs) 0
count-set (x ∷ xs) (suc a) low = mul_assoc x (count (set xs a 1)) (get_or xs a 0) ∙ ap (λ c. x * c) (count-set xs a (omega arith))

regrouped : (g c s : ℕ) → g * c * s ≡ c * (s * g)
regrouped g c s = grind arith

times_one : (c : ℕ) → c * 1 ≡ c
times_one c = omega arith

one_product : (c : ℕ) → 1 * c ≡ c
one_product c = omega arith

count-erased : (n : ℕ) (axes shape : List ℕ) → length shape ≡ n → AreAxes n axes → count (transposed_shape axes shape) * count (erased axes shape) ≡ count shape
count-erased n [] shape size are = one_product (count shape)
count-erased n (a ∷ axes) shape size are =
    let g = get_or shape a 0 in
    let left = erased axes shape in
    let long : a < length left = omega (arith, length-erased axes shape, are.0) in
    regrouped g (count (transposed_shape axes shape)) (count (set left a 1)) ∙ ap (λ x. count (transposed_shape axes shape) * (count (set left a 1) * x)) (sym (erased-out axes shape a are.1)) ∙ ap (λ c. count (transposed_shape axes shape) * c) (count-set left a long) ∙ count-erased n axes shape size are.2

count-ones : (xs : List ℕ) → ((j : ℕ) → j < length xs → get_or xs j 0 ≡ 1) → count xs ≡ 1
count-ones [] ones = refl
count-ones (x ∷ xs) ones = rw (ones 0 (omega arith), count-ones xs (λ j low. ones (suc j) (omega arith)))

pub count-transposed : (axes shape : List ℕ) → length axes ≡ length shape → AreAxes (length shape) axes → count (transposed_shape axes shape) ≡ count shape
count-transposed axes shape size are =
    let one : count (erased axes shape) ≡ 1 = count-ones (erased axes shape) (λ j low. erased-in (length shape) axes shape j refl are (named (length shape) j axes size are (omega (arith, length-erased axes shape)))) in
    let whole = count-erased (length shape) axes shape refl are in
    sym (times_one (count (transposed_shape axes shape))) ∙ ap (λ c. count (transposed_shape axes shape) * c) (sym one) ∙ whole
