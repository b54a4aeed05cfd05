-- Joined axes are determined by the addresses to which they lead.
use Rattle.std.proofs.Common.{◌≡◌, ℕ, zero, suc, ◌+◌, ◌-◌, ◌*◌, ◌<◌, ◌≤◌, ◌==◌, false, ℤ, pos, ◌+ℤ◌, ◌*ℤ◌, List, [], ◌∷◌, ◌++◌, length, drop, reverse, inl, inr, refl, sym, ◌∙◌, ap, subst, arith, append_assoc, mul-le-mul_left}
use Rattle.shape_strides.proofs.Words.{flat_map, cases_lt, cond_both, eqb-false, false≢true, Decides-int_eq, reverse_onto, ints, append-nil, append_cancel_left, reverse-reverse, numbers_from, StridedAxis, count, leads_over, join_outside, all_joined, lengths_of, factors_pos, numbers-suc, numbers-split, flat_map_same, flat_map-flat_map, first_is}
use Rattle.shape_strides.proofs.JoinedLaws.{flat_map-id, addresses}

-- ---- lists of joined axes

-- Each axis has 2 items or more, and none leads over the one inside of it.
abbrev pub AreJoined : List StridedAxis → Type 0
AreJoined [] = Unit {0}
AreJoined (axis ∷ []) = 2 ≤ axis.len
AreJoined (outer ∷ inner ∷ axes) = (2 ≤ outer.len) × (leads_over outer inner ≡ false) × AreJoined (inner ∷ axes)

-- such axes, innermost first
abbrev pub AreJoinedOut : List StridedAxis → Type 0
AreJoinedOut [] = Unit {0}
AreJoinedOut (axis ∷ []) = 2 ≤ axis.len
AreJoinedOut (inner ∷ outer ∷ axes) = (2 ≤ inner.len) × (leads_over outer inner ≡ false) × AreJoinedOut (outer ∷ axes)

-- The first axis has 2 items or more, with or without axes inside of it.
joined_len : (axis : StridedAxis) (axes : List StridedAxis) → AreJoined (axis ∷ axes) → 2 ≤ axis.len
joined_len axis [] are = are
joined_len axis (inner ∷ axes) are = are.0

joined_out_len : (axis : StridedAxis) (axes : List StridedAxis) → AreJoinedOut (axis ∷ axes) → 2 ≤ axis.len
joined_out_len axis [] are = are
joined_out_len axis (outer ∷ axes) are = are.0

joined_out_rest : (axis : StridedAxis) (axes : List StridedAxis) → AreJoinedOut (axis ∷ axes) → AreJoinedOut axes
joined_out_rest axis [] are = tt
joined_out_rest axis (outer ∷ axes) are = are.2

reversed_onto : (axis : StridedAxis) (axes outer : List StridedAxis) → AreJoined (axis ∷ axes) → AreJoinedOut (axis ∷ outer) → AreJoinedOut (reverse axes ++ axis ∷ outer)
reversed_onto axis [] outer are out = out
reversed_onto axis (inner ∷ axes) outer are out =
    subst AreJoinedOut (sym (ap (λ axes'. axes' ++ axis ∷ outer) (reverse_onto axes inner []) ∙ append_assoc (reverse axes) (inner ∷ []) (axis ∷ outer))) (reversed_onto inner axes (axis ∷ outer) are.2 (joined_len inner axes are.2, are.1, out))

-- ---- the addresses, for axes listed innermost first

abbrev pub addresses_out : ℤ → List StridedAxis → List ℤ
addresses_out at [] = at ∷ []
addresses_out at (axis ∷ axes) = flat_map (λ z. numbers_from z axis.stride axis.len) (addresses_out at axes)

addresses_out-last : (at : ℤ) (axes : List StridedAxis) (outer : StridedAxis) → addresses_out at (axes ++ outer ∷ []) ≡ flat_map (λ z. addresses_out z axes) (numbers_from at outer.stride outer.len)
addresses_out-last at [] outer = append-nil (numbers_from at outer.stride outer.len) ∙ sym (flat_map-id (numbers_from at outer.stride outer.len))
addresses_out-last at (axis ∷ axes) outer =
    let steps : ℤ → List ℤ = λ z. numbers_from z axis.stride axis.len in
    ap (flat_map steps) (addresses_out-last at axes outer) ∙ flat_map-flat_map steps (λ z. addresses_out z axes) (numbers_from at outer.stride outer.len)

addresses-out : (at : ℤ) (axes : List StridedAxis) → addresses at axes ≡ addresses_out at (reverse axes)
addresses-out at [] = refl
addresses-out at (axis ∷ axes) =
    flat_map_same (λ z. addresses z axes) (λ z. addresses_out z (reverse axes)) (λ z. addresses-out z axes) (numbers_from at axis.stride axis.len) ∙ sym (ap (addresses_out at) (reverse_onto axes axis []) ∙ addresses_out-last at (reverse axes) axis)

-- ---- the first addresses

rest_is : (x y : ℤ) (xs ys : List ℤ) → x ∷ xs ≡ y ∷ ys → xs ≡ ys
rest_is x y xs ys same = ap (drop 1) same

none_is : {A : Type 0} (y : ℤ) (ys : List ℤ) → [] ≡ y ∷ ys → A
none_is y ys same = let none : 0 ≡ suc (length ys) = ap length same in absurd (omega arith)

-- the numbers of an axis of `n` items, starting with the first
sized : (s : ℤ) (n : ℕ) → 1 ≤ n → (at : ℤ) → numbers_from at s n ≡ at ∷ numbers_from (at +ℤ s) s (n - 1)
sized s zero some at = absurd (omega arith)
sized s (suc n) some at =
    let less : suc n - 1 ≡ n = omega arith in
    numbers-suc at s n ∙ ap (λ m. at ∷ numbers_from (at +ℤ s) s m) (sym less)

sized_two : (s : ℤ) (n : ℕ) → 2 ≤ n → (at : ℤ) → numbers_from at s n ≡ at ∷ (at +ℤ s) ∷ numbers_from ((at +ℤ s) +ℤ s) s (n - 1 - 1)
sized_two s n two at = sized s n (omega arith) at ∙ ap (λ zs. at ∷ zs) (sized s (n - 1) (omega arith) (at +ℤ s))

first_out : (at : ℤ) (axes : List StridedAxis) → AreJoinedOut axes → (rest : List ℤ) × (addresses_out at axes ≡ at ∷ rest)
first_out at [] are = ([], refl)
first_out at (axis ∷ axes) are =
    let outer = first_out at axes (joined_out_rest axis axes are) in
    let steps : ℤ → List ℤ = λ z. numbers_from z axis.stride axis.len in
    (_, ap (flat_map steps) outer.1 ∙ ap (λ zs. zs ++ flat_map steps outer.0) (sized axis.stride axis.len (omega (arith, joined_out_len axis axes are)) at))

two_out : (at : ℤ) (axis : StridedAxis) (axes : List StridedAxis) → AreJoinedOut (axis ∷ axes) → (rest : List ℤ) × (addresses_out at (axis ∷ axes) ≡ at ∷ (at +ℤ axis.stride) ∷ rest)
two_out at axis axes are =
    let outer = first_out at axes (joined_out_rest axis axes are) in
    let steps : ℤ → List ℤ = λ z. numbers_from z axis.stride axis.len in
    (_, ap (flat_map steps) outer.1 ∙ ap (λ zs. zs ++ flat_map steps outer.0) (sized_two axis.stride axis.len (joined_out_len axis axes are) at))

-- ---- the length of the innermost axis: how far the addresses go by its stride

stride_is : (at s t : ℤ) → at +ℤ s ≡ at +ℤ t → s ≡ t
stride_is at s t same = omega (arith, ints)

-- The next outer axis does not continue where the innermost one ends.
no_second : (at : ℤ) (axis : StridedAxis) (axes : List StridedAxis) (second : ℤ) (rest : List ℤ) → AreJoinedOut (axis ∷ axes) → addresses_out at axes ≡ at ∷ second ∷ rest → second ≡ at +ℤ axis.stride *ℤ pos axis.len → ⊥
no_second at axis [] second rest are is ends = none_is second rest (rest_is at at [] (second ∷ rest) is)
no_second at axis (outer ∷ axes) second rest are is ends =
    let two = two_out at outer axes are.2 in
    let same : at +ℤ outer.stride ≡ second = first_is (at +ℤ outer.stride) second two.0 rest (rest_is at at ((at +ℤ outer.stride) ∷ two.0) (second ∷ rest) (sym two.1 ∙ is)) in
    let over : outer.stride ≡ axis.stride *ℤ pos axis.len = stride_is at outer.stride (axis.stride *ℤ pos axis.len) (same ∙ ends) in
    false≢true (sym are.1 ∙ (Decides-int_eq outer.stride (axis.stride *ℤ pos axis.len)).1 over)

-- where the first of several blocks begins
begins : (s : ℤ) (n : ℕ) (xs : List ℤ) (y : ℤ) (ys : List ℤ) → 1 ≤ n → flat_map (λ z. numbers_from z s n) xs ≡ y ∷ ys → (rest : List ℤ) × (xs ≡ y ∷ rest)
begins s n [] y ys some is = none_is y ys is
begins s n (x ∷ xs) y ys some is =
    let steps : ℤ → List ℤ = λ z. numbers_from z s n in
    (xs, ap (λ z. z ∷ xs) (first_is x y _ ys (sym (ap (λ zs. zs ++ flat_map steps xs) (sized s n some x)) ∙ is)))

no_longer : (at : ℤ) (axis : StridedAxis) (axes : List StridedAxis) (m : ℕ) (later : List ℤ) → AreJoinedOut (axis ∷ axes) → axis.len < m → addresses_out at (axis ∷ axes) ≡ numbers_from at axis.stride m ++ later → ⊥
no_longer at axis axes m later are below is =
    let steps : ℤ → List ℤ = λ z. numbers_from z axis.stride axis.len in
    let outer = first_out at axes (joined_out_rest axis axes are) in
    let ends : ℤ = at +ℤ axis.stride *ℤ pos axis.len in
    let more = m - axis.len in
    let split : m ≡ axis.len + more = omega arith in
    let run = numbers_from at axis.stride axis.len in
    let first : addresses_out at (axis ∷ axes) ≡ run ++ flat_map steps outer.0 = ap (flat_map steps) outer.1 in
    let other : numbers_from at axis.stride m ++ later ≡ run ++ (numbers_from ends axis.stride more ++ later) =
    ap (λ n. numbers_from at axis.stride n ++ later) split ∙ ap (λ zs. zs ++ later) (numbers-split at axis.stride axis.len more) ∙ append_assoc run (numbers_from ends axis.stride more) later in
    let rest : flat_map steps outer.0 ≡ numbers_from ends axis.stride more ++ later = append_cancel_left run (flat_map steps outer.0) (numbers_from ends axis.stride more ++ later) (sym first ∙ is ∙ other) in
    let second = begins axis.stride axis.len outer.0 ends _ (omega (arith, joined_out_len axis axes are)) (rest ∙ ap (λ zs. zs ++ later) (sized axis.stride more (omega arith) ends)) in
    no_second at axis axes ends second.0 are (outer.1 ∙ ap (λ zs. at ∷ zs) second.1) refl

-- ---- every n-th address

nth_cons : (s : ℤ) (n : ℕ) (x : ℤ) (xs : List ℤ) → flat_map (λ z. numbers_from z s (suc n)) (x ∷ xs) ≡ x ∷ (numbers_from (x +ℤ s) s n ++ flat_map (λ z. numbers_from z s (suc n)) xs)
nth_cons s n x xs = ap (λ zs. zs ++ flat_map (λ z. numbers_from z s (suc n)) xs) (numbers-suc x s n)

every_nth : (s : ℤ) (n : ℕ) (xs ys : List ℤ) → flat_map (λ z. numbers_from z s (suc n)) xs ≡ flat_map (λ z. numbers_from z s (suc n)) ys → xs ≡ ys
every_nth s n [] [] same = refl
every_nth s n [] (y ∷ ys) same = none_is y _ (same ∙ nth_cons s n y ys)
every_nth s n (x ∷ xs) [] same = none_is x _ (sym same ∙ nth_cons s n x xs)
every_nth s n (x ∷ xs) (y ∷ ys) same =
    let steps : ℤ → List ℤ = λ z. numbers_from z s (suc n) in
    let first : x ≡ y = first_is x y _ _ (sym (nth_cons s n x xs) ∙ same ∙ nth_cons s n y ys) in
    let later : flat_map steps xs ≡ flat_map steps ys = append_cancel_left (steps x) (flat_map steps xs) (flat_map steps ys) (same ∙ ap (λ z. steps z ++ flat_map steps ys) (sym first)) in
    ap (λ z. z ∷ xs) first ∙ ap (λ zs. y ∷ zs) (every_nth s n xs ys later)

pub every_nth_of : (s : ℤ) (n : ℕ) (xs ys : List ℤ) → 1 ≤ n → flat_map (λ z. numbers_from z s n) xs ≡ flat_map (λ z. numbers_from z s n) ys → xs ≡ ys
every_nth_of s zero xs ys some same = absurd (omega arith)
every_nth_of s (suc n) xs ys some same = every_nth s n xs ys same

-- ---- equal addresses

one_of_two : (at : ℤ) (axis : StridedAxis) (axes : List StridedAxis) {A : Type 0} → AreJoinedOut (axis ∷ axes) → addresses_out at (axis ∷ axes) ≡ at ∷ [] → A
one_of_two at axis axes are is =
    let two = two_out at axis axes are in
    none_is (at +ℤ axis.stride) two.0 (rest_is at at [] ((at +ℤ axis.stride) ∷ two.0) (sym is ∙ two.1))

pub same_axis : (x y : StridedAxis) → x.len ≡ y.len → x.stride ≡ y.stride → x ≡ y
same_axis x y len stride = ap (λ n. let axis : StridedAxis = record { len = n; stride = x.stride } in axis) len ∙ ap (λ s. let axis : StridedAxis = record { len = y.len; stride = s } in axis) stride

same_stride : (at : ℤ) (x y : StridedAxis) (xs ys : List StridedAxis) → AreJoinedOut (x ∷ xs) → AreJoinedOut (y ∷ ys) → addresses_out at (x ∷ xs) ≡ addresses_out at (y ∷ ys) → x.stride ≡ y.stride
same_stride at x y xs ys of-x of-y same =
    let left = two_out at x xs of-x in
    let right = two_out at y ys of-y in
    stride_is at x.stride y.stride (first_is (at +ℤ x.stride) (at +ℤ y.stride) left.0 right.0 (rest_is at at ((at +ℤ x.stride) ∷ left.0) ((at +ℤ y.stride) ∷ right.0) (sym left.1 ∙ same ∙ right.1)))

not_below : (at : ℤ) (x y : StridedAxis) (xs ys : List StridedAxis) → AreJoinedOut (x ∷ xs) → AreJoinedOut (y ∷ ys) → x.stride ≡ y.stride → addresses_out at (x ∷ xs) ≡ addresses_out at (y ∷ ys) → x.len < y.len → ⊥
not_below at x y xs ys of-x of-y stride same below =
    let steps : ℤ → List ℤ = λ z. numbers_from z y.stride y.len in
    let outer = first_out at ys (joined_out_rest y ys of-y) in
    no_longer at x xs y.len (flat_map steps outer.0) of-x below (same ∙ ap (flat_map steps) outer.1 ∙ ap (λ s. numbers_from at s y.len ++ flat_map steps outer.0) (sym stride))

same_len : (at : ℤ) (x y : StridedAxis) (xs ys : List StridedAxis) → AreJoinedOut (x ∷ xs) → AreJoinedOut (y ∷ ys) → x.stride ≡ y.stride → addresses_out at (x ∷ xs) ≡ addresses_out at (y ∷ ys) → x.len ≡ y.len
same_len at x y xs ys of-x of-y stride same =
    elim (cases_lt x.len y.len) [
      | inl below ↦ absurd (not_below at x y xs ys of-x of-y stride same below)
      | inr above ↦ elim (cases_lt y.len x.len) [
        | inl below ↦ absurd (not_below at y x ys xs of-y of-x (sym stride) (sym same) below)
        | inr above' ↦ omega arith
      ]
    ]

unique_out : (at : ℤ) (xs ys : List StridedAxis) → AreJoinedOut xs → AreJoinedOut ys → addresses_out at xs ≡ addresses_out at ys → xs ≡ ys
unique_out at [] [] of-x of-y same = refl
unique_out at [] (y ∷ ys) of-x of-y same = one_of_two at y ys of-y (sym same)
unique_out at (x ∷ xs) [] of-x of-y same = one_of_two at x xs of-x same
unique_out at (x ∷ xs) (y ∷ ys) of-x of-y same =
    let stride = same_stride at x y xs ys of-x of-y same in
    let axis : x ≡ y = same_axis x y (same_len at x y xs ys of-x of-y stride same) stride in
    let outer : addresses_out at xs ≡ addresses_out at ys =
    every_nth_of x.stride x.len (addresses_out at xs) (addresses_out at ys) (omega (arith, joined_out_len x xs of-x)) (same ∙ ap (λ a. flat_map (λ z. numbers_from z a.stride a.len) (addresses_out at ys)) (sym axis)) in
    ap (λ a. a ∷ xs) axis ∙ ap (λ axes. y ∷ axes) (unique_out at xs ys (joined_out_rest x xs of-x) (joined_out_rest y ys of-y) outer)

are_joined_out : (axes : List StridedAxis) → AreJoined axes → AreJoinedOut (reverse axes)
are_joined_out [] are = tt
are_joined_out (axis ∷ axes) are = subst AreJoinedOut (sym (reverse_onto axes axis [])) (reversed_onto axis axes [] are (joined_len axis axes are))

-- Two lists of joined axes that lead to the same addresses are equal.
pub joined_unique : (at : ℤ) (xs ys : List StridedAxis) → AreJoined xs → AreJoined ys → addresses at xs ≡ addresses at ys → xs ≡ ys
joined_unique at xs ys of-x of-y same =
    let reversed = unique_out at (reverse xs) (reverse ys) (are_joined_out xs of-x) (are_joined_out ys of-y) (sym (addresses-out at xs) ∙ same ∙ addresses-out at ys) in
    sym (reverse-reverse xs) ∙ ap reverse reversed ∙ reverse-reverse ys

-- ---- joining gives joined axes

merged_joined : (outer inner : StridedAxis) (axes : List StridedAxis) → 2 ≤ outer.len → AreJoined (inner ∷ axes) → AreJoined (record { len = outer.len * inner.len; stride = inner.stride } ∷ axes)
merged_joined outer inner [] two are =
    let grown : outer.len * 1 ≤ outer.len * inner.len = mul-le-mul_left outer.len (omega arith) in
    omega arith
merged_joined outer inner (next ∷ axes) two are =
    let grown : outer.len * 1 ≤ outer.len * inner.len = mul-le-mul_left outer.len (omega (arith, are.0)) in
    let more : 2 ≤ outer.len * inner.len = omega arith in
    (more, are.1, are.2)

are_joined_onto : (axis : StridedAxis) (axes : List StridedAxis) → 0 < axis.len → AreJoined axes → AreJoined (join_outside axis axes)
are_joined_onto axis [] some are =
    cond_both (axis.len == 1) [] (axis ∷ []) AreJoined (λ _. tt) (λ more. let two : 2 ≤ axis.len = grind (arith, eqb-false axis.len 1 more) in two)
are_joined_onto axis (inner ∷ axes) some are =
    let merged : StridedAxis = record { len = axis.len * inner.len; stride = inner.stride } in
    cond_both (axis.len == 1) (inner ∷ axes) _ AreJoined (λ _. are) (λ more.
    let two : 2 ≤ axis.len = grind (arith, eqb-false axis.len 1 more) in
    cond_both (leads_over axis inner) (merged ∷ axes) (axis ∷ inner ∷ axes) AreJoined (λ _. merged_joined axis inner axes two are) (λ not. (two, not, are)))

pub are_joined : (axes : List StridedAxis) → 0 < count (lengths_of axes) → AreJoined (all_joined axes)
are_joined [] some = tt
are_joined (axis ∷ axes) some =
    let both = factors_pos axis.len (count (lengths_of axes)) some in
    are_joined_onto axis (all_joined axes) both.0 (are_joined axes both.1)

-- The first address is the one from which the axes start.
pub addresses-first : (at : ℤ) (axes : List StridedAxis) → AreJoined axes → (rest : List ℤ) × (addresses at axes ≡ at ∷ rest)
addresses-first at axes are =
    let found = first_out at (reverse axes) (are_joined_out axes are) in
    (found.0, addresses-out at axes ∙ found.1)
