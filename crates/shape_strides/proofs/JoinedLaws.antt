-- Joined axes lead to the same addresses.
use Rattle.std.proofs.Common.{◌≡◌, ℕ, zero, suc, ◌+◌, ◌*◌, ◌==◌, ℤ, pos, ◌+ℤ◌, ◌*ℤ◌, List, [], ◌∷◌, ◌++◌, map, length, refl, sym, ◌∙◌, ap, arith, zero-mul, suc-mul}
use Rattle.shape_strides.proofs.Words.{flat_map, range_with_len, cond_both, eqb-true, Decides-int_eq, append-nil, flat_map-map, map-map, +ℤ_idr, +ℤ_assoc, numbers_from, none_more, numbers-suc, numbers-split, flat_map_same, flat_map-flat_map, map-flat_map, Layout, StridedAxis, indexes, dot, natural, address, offsets, strided_axes, leads_over, join_outside, all_joined}

-- ---- lists

pub map_same : {X Y : Type 0} (f g : X → Y) → ((x : X) → f x ≡ g x) → (xs : List X) → map f xs ≡ map g xs
map_same f g same [] = refl
map_same f g same (x ∷ xs) = ap (λ y. y ∷ map f xs) (same x) ∙ ap (λ ys. g x ∷ ys) (map_same f g same xs)

pub flat_map-id : (zs : List ℤ) → flat_map (λ z. z ∷ []) zs ≡ zs
flat_map-id [] = refl
flat_map-id (z ∷ zs) = ap (λ rest. z ∷ rest) (flat_map-id zs)

-- n * m numbers, grouped by m: one step of `t` leads over m steps of `s`
pub numbers-times : (at s t : ℤ) (m n : ℕ) → t ≡ s *ℤ pos m → numbers_from at s (n * m) ≡ flat_map (λ next. numbers_from next s m) (numbers_from at t n)
numbers-times at s t m zero over = ap (numbers_from at s) (zero-mul m)
numbers-times at s t m (suc n) over =
    let more : suc n * m ≡ m + n * m = omega (arith, suc-mul n m) in
    ap (numbers_from at s) more ∙ numbers-split at s m (n * m) ∙ ap (λ z. numbers_from at s m ++ numbers_from (at +ℤ z) s (n * m)) (sym over) ∙ ap (λ zs. numbers_from at s m ++ zs) (numbers-times (at +ℤ t) s t m n over) ∙ ap (flat_map (λ next. numbers_from next s m)) (sym (numbers-suc at t n))

-- ---- the addresses that axes lead to

-- the addresses in C order, starting at `at`
abbrev pub addresses : ℤ → List StridedAxis → List ℤ
addresses at [] = at ∷ []
addresses at (axis ∷ axes) = flat_map (λ next. addresses next axes) (numbers_from at axis.stride axis.len)

pub flat_map-one : {Y : Type 0} (f : ℤ → List Y) (at s : ℤ) → flat_map f (numbers_from at s 1) ≡ f at
flat_map-one f at s = append-nil (f (at +ℤ s *ℤ pos 0)) ∙ ap f (none_more at s)

-- An axis of length 1 does not change the addresses.
addresses-single : (at : ℤ) (axis : StridedAxis) (axes : List StridedAxis) → axis.len ≡ 1 → addresses at axes ≡ addresses at (axis ∷ axes)
addresses-single at axis axes one =
    sym (flat_map-one (λ next. addresses next axes) at axis.stride) ∙ ap (λ n. flat_map (λ next. addresses next axes) (numbers_from at axis.stride n)) (sym one)

addresses-merged : (at : ℤ) (outer inner : StridedAxis) (axes : List StridedAxis) → outer.stride ≡ inner.stride *ℤ pos inner.len → addresses at (record { len = outer.len * inner.len; stride = inner.stride } ∷ axes) ≡ addresses at (outer ∷ inner ∷ axes)
addresses-merged at outer inner axes over =
    ap (flat_map (λ next. addresses next axes)) (numbers-times at inner.stride outer.stride inner.len outer.len over) ∙ flat_map-flat_map (λ next. addresses next axes) (λ next. numbers_from next inner.stride inner.len) (numbers_from at outer.stride outer.len)

pub addresses-join_outside : (at : ℤ) (axis : StridedAxis) (axes : List StridedAxis) → addresses at (join_outside axis axes) ≡ addresses at (axis ∷ axes)
addresses-join_outside at axis [] =
    cond_both (axis.len == 1) [] (axis ∷ []) (λ made. addresses at made ≡ addresses at (axis ∷ [])) (λ one. addresses-single at axis [] (eqb-true axis.len 1 one)) (λ _. refl)
addresses-join_outside at axis (inner ∷ axes) =
    let merged : StridedAxis = record { len = axis.len * inner.len; stride = inner.stride } in
    cond_both (axis.len == 1) (inner ∷ axes) _ (λ made. addresses at made ≡ addresses at (axis ∷ inner ∷ axes)) (λ one. addresses-single at axis (inner ∷ axes) (eqb-true axis.len 1 one)) (λ _.
    cond_both (leads_over axis inner) (merged ∷ axes) (axis ∷ inner ∷ axes) (λ made. addresses at made ≡ addresses at (axis ∷ inner ∷ axes)) (λ over. addresses-merged at axis inner axes ((Decides-int_eq axis.stride (inner.stride *ℤ pos inner.len)).0 over)) (λ _. refl))

pub addresses-joined : (at : ℤ) (axes : List StridedAxis) → addresses at (all_joined axes) ≡ addresses at axes
addresses-joined at [] = refl
addresses-joined at (axis ∷ axes) =
    addresses-join_outside at axis (all_joined axes) ∙ flat_map_same (λ next. addresses next (all_joined axes)) (λ next. addresses next axes) (λ next. addresses-joined next axes) (numbers_from at axis.stride axis.len)

-- ---- the addresses of a layout

pub addresses-indexes : (at : ℤ) (strides : List ℤ) (shape : List ℕ) → length strides ≡ length shape → addresses at (strided_axes strides shape) ≡ map (λ index. at +ℤ dot strides index) (indexes shape)
addresses-indexes at [] [] same = ap (λ z. z ∷ []) (sym (+ℤ_idr at))
addresses-indexes at (s ∷ strides) (n ∷ shape) same =
    let later : ℤ → List ℤ = λ next. addresses next (strided_axes strides shape) in
    let whole : List ℕ → ℤ = λ index. at +ℤ dot (s ∷ strides) index in
    let one : (k : ℕ) → later (at +ℤ s *ℤ pos k) ≡ map whole (map (λ i. k ∷ i) (indexes shape)) = λ k.
    addresses-indexes (at +ℤ s *ℤ pos k) strides shape (omega arith) ∙ map_same (λ i. (at +ℤ s *ℤ pos k) +ℤ dot strides i) (λ i. whole (k ∷ i)) (λ i. +ℤ_assoc at (s *ℤ pos k) (dot strides i)) (indexes shape) ∙ sym (map-map whole (λ i. k ∷ i) (indexes shape)) in
    flat_map-map later (λ k. at +ℤ s *ℤ pos k) (range_with_len 0 n) ∙ flat_map_same (λ k. later (at +ℤ s *ℤ pos k)) (λ k. map whole (map (λ i. k ∷ i) (indexes shape))) one (range_with_len 0 n) ∙ sym (map-flat_map whole (λ k. map (λ i. k ∷ i) (indexes shape)) (range_with_len 0 n))
addresses-indexes at _ _ same = absurd (omega arith)

-- The addresses are the same whether the axes are joined or not.
pub offsets-addresses : (l : Layout) → offsets l ≡ map natural (addresses (pos l.offset) (strided_axes l.strides l.shape))
unfolding offsets
offsets-addresses l =
    sym (ap (map natural) (addresses-indexes (pos l.offset) l.strides l.shape l.one_stride_an_axis) ∙ map-map natural (address l) (indexes l.shape))

pub offsets-joined : (l : Layout) → offsets l ≡ map natural (addresses (pos l.offset) (all_joined (strided_axes l.strides l.shape)))
offsets-joined l = offsets-addresses l ∙ ap (map natural) (sym (addresses-joined (pos l.offset) (strided_axes l.strides l.shape)))
