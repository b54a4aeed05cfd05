-- A layout is a stretch of the layout that it shrinks to.
use Rattle.std.proofs.Common.{◌≡◌, inl, inr, ℕ, suc, ◌-◌, ◌<◌, ◌≤◌, ◌==◌, ◌&&◌, true, false, if◌then◌else◌, ℤ, pos, ◌+ℤ◌, ◌*ℤ◌, List, [], ◌∷◌, ◌++◌, All, length, get_or, drop, replicate, refl, sym, ap, subst, ◌∙◌, arith, zero-mul, ◌+◌, below_more, get_or-append-add}
use Rattle.broadcasting.proofs.Words.{mul-le-mul, eqb-true, nat_tests, get_or_default, get_or_append_left, Layout, max_items, max_bytes, count, IsIndex, dot, address_at, LieWithin, rank-lt, length-index, number-lt, IsIndex-from_numbers, IsShape, ShowsThrough, LieWithin-view, stretches, all_stretch, can_stretch, within_axes, broadcast_index, broadcast_index-is, IsIndex-broadcast, ShrinksTo, CanShrink, IsStretchOf}
use Rattle.broadcasting.proofs.StretchLaws.{HasNumbers, numbers-view}

-- ---- one axis

at_most : (n m : ℕ) (stride : ℤ) → ShrinksTo n stride m → m ≤ n
at_most n m stride (inl same) = omega arith
at_most n m stride (inr one) = omega arith

fits : (n m : ℕ) (stride : ℤ) → ShrinksTo n stride m → stretches m n ≡ true
fits n m stride (inl same) = grind (arith, nat_tests)
fits n m stride (inr one) = let is : m ≡ 1 = one.0 in grind (arith, nat_tests)

step : (n m k : ℕ) (stride : ℤ) → ShrinksTo n stride m → k < n → stride *ℤ pos k ≡ stride *ℤ pos (if m == 1 then 0 else k)
step n m k stride (inl same) below =
    elim (m == 1) as (λ t. (m == 1) ≡ t → stride *ℤ pos k ≡ stride *ℤ pos (if t then 0 else k)) [
      | true ↦ λ one. ap (λ j. stride *ℤ pos j) (omega (arith, eqb-true m 1 one))
      | false ↦ λ other. refl
    ] refl
step n m k stride (inr one) below =
    (λ i. one.1 i *ℤ pos k) ∙ ap pos (zero-mul k ∙ sym (zero-mul (if m == 1 then 0 else k))) ∙ λ i. sym one.1 i *ℤ pos (if m == 1 then 0 else k)

-- one more axis
pub one-more : (shape : List ℕ) (strides : List ℤ) (small small' : List ℕ) (i m : ℕ) → length small ≡ i → small' ≡ small ++ m ∷ [] → ShrinksTo (get_or shape i 0) (get_or strides i (pos 0)) m →
    ((k : ℕ) → k < i → ShrinksTo (get_or shape k 0) (get_or strides k (pos 0)) (get_or small k 0)) → (k : ℕ) → k < i + 1 → ShrinksTo (get_or shape k 0) (get_or strides k (pos 0)) (get_or small' k 0)
one-more shape strides small small' i m many is here so_far =
    below_more _ _
    (λ k low. subst (λ (x : ℕ). ShrinksTo (get_or shape k 0) (get_or strides k (pos 0)) x) (sym (ap (λ l. get_or l k 0) is ∙ get_or_append_left small (m ∷ []) 0 k (omega arith))) (so_far k low))
    (subst (λ (x : ℕ). ShrinksTo (get_or shape i 0) (get_or strides i (pos 0)) x) (sym (ap (λ l. get_or l i 0) is ∙ (λ j. get_or (small ++ m ∷ []) (last j) 0) ∙ get_or-append-add small (m ∷ []) 0 0)) here)
  where
    last : i ≡ length small + 0
    last = omega (arith, many)

-- ---- all axes

rest : (n m : ℕ) (stride : ℤ) (shape small : List ℕ) (strides : List ℤ) → CanShrink (n ∷ shape) (stride ∷ strides) (m ∷ small) → CanShrink shape strides small
rest n m stride shape small strides can = record { axes = omega (arith, can.axes); each = λ k below. can.each (suc k) (omega arith) }

all_fit : (shape small : List ℕ) (strides : List ℤ) → length strides ≡ length shape → CanShrink shape strides small → all_stretch small shape ≡ true
all_fit [] [] strides same can = refl
all_fit (n ∷ shape) (m ∷ small) (s ∷ strides) same can =
    λ i. fits n m s (can.each 0 (omega arith)) i && all_fit shape small strides (omega (arith, same)) (rest n m s shape small strides can) i
all_fit _ _ _ same can = absurd (omega arith)

count-shrunk : (shape small : List ℕ) (strides : List ℤ) → length strides ≡ length shape → CanShrink shape strides small → count small ≤ count shape
count-shrunk [] [] strides same can = omega arith
count-shrunk (n ∷ shape) (m ∷ small) (s ∷ strides) same can =
    mul-le-mul (at_most n m s (can.each 0 (omega arith))) (count-shrunk shape small strides (omega (arith, same)) (rest n m s shape small strides can))
count-shrunk _ _ _ same can = absurd (omega arith)

dot-within : (shape small : List ℕ) (strides : List ℤ) (index : List ℕ) → length strides ≡ length shape → CanShrink shape strides small → IsIndex shape index → dot strides index ≡ dot strides (within_axes small index)
dot-within [] [] strides [] same can in' = refl
dot-within (n ∷ shape) (m ∷ small) (s ∷ strides) (k ∷ index) same can in' =
    λ i. step n m k s (can.each 0 (omega arith)) in'.0 i +ℤ dot-within shape small strides index (omega (arith, same)) (rest n m s shape small strides can) in'.1 i
dot-within _ _ _ _ same can in' = absurd (omega arith)

pub IsIndex-shrunk : (shape small : List ℕ) (strides : List ℤ) (index : List ℕ) → CanShrink shape strides small → IsIndex small index → IsIndex shape index
IsIndex-shrunk shape small strides index can in' =
    IsIndex-from_numbers shape index (length-index small index in' ∙ can.axes) (λ j below.
    let low : get_or index j 0 < get_or small j 0 = number-lt small index j in' (omega (arith, can.axes)) in
    omega (arith, at_most (get_or shape j 0) (get_or small j 0) (get_or strides j (pos 0)) (can.each j below)))

can-shrunk : (shape small : List ℕ) (strides : List ℤ) → length strides ≡ length shape → CanShrink shape strides small → can_stretch small shape ≡ true
can-shrunk shape small strides same can =
    let none : length shape - length small ≡ 0 = omega (arith, can.axes) in
    ap (λ k. all_stretch (replicate k 1 ++ small) shape) none ∙ all_fit shape small strides same can

-- ---- the shape

short-shrunk : (shape small : List ℕ) (strides : List ℤ) → CanShrink shape strides small → All (λ n. n ≤ max_items) shape → All (λ n. n ≤ max_items) small
short-shrunk shape small strides can short k d below =
    let low : k < length shape = omega (arith, can.axes) in
    let most : get_or small k 0 ≤ get_or shape k 0 = at_most (get_or shape k 0) (get_or small k 0) (get_or strides k (pos 0)) (can.each k low) in
    let limit : get_or shape k 0 ≤ max_items = short k 0 low in
    subst (λ n. n ≤ max_items) (get_or_default small k 0 d below) (omega arith)

pub IsShape-shrunk : (shape small : List ℕ) (strides : List ℤ) → length strides ≡ length shape → CanShrink shape strides small → IsShape shape → IsShape small
IsShape-shrunk shape small strides same can is = record {
  axes = omega (arith, can.axes, is.axes);
  lengths = short-shrunk shape small strides can is.lengths;
  items = omega (arith, count-shrunk shape small strides same can, is.items);
}

-- A loop over the axes has shrunk all of them.
pub all_shrunk : (lengths shape small : List ℕ) (strides own : List ℤ) (axis : ℕ) → axis ≡ length lengths → lengths ≡ shape → strides ≡ own → length small ≡ axis → ((k : ℕ) → k < axis → ShrinksTo (get_or lengths k 0) (get_or strides k (pos 0)) (get_or small k 0)) → CanShrink shape own small
all_shrunk lengths shape small strides own axis all is are axes each =
    subst (λ x. CanShrink x own small) is (subst (λ x. CanShrink lengths x small) are (record { axes = axes ∙ all; each = λ k below. each k (omega (arith, all)) }))

-- ---- the layout

shrunk-shows : (layout : Layout) (small : List ℕ) → CanShrink layout.shape layout.strides small → ShowsThrough layout small layout.strides layout.offset (λ index. index)
shrunk-shows layout small can = record {
  leads = λ index in'. IsIndex-shrunk layout.shape small layout.strides index can in';
  same = λ index in'. refl;
}

pub shrunk-lies : (layout : Layout) (small : List ℕ) → CanShrink layout.shape layout.strides small → LieWithin small layout.strides layout.offset max_bytes 1
shrunk-lies layout small can = LieWithin-view layout small layout.strides layout.offset (λ index. index) max_bytes 1 (shrunk-shows layout small can) layout.within_limit

larger-shows : (layout new : Layout) → CanShrink layout.shape layout.strides new.shape → HasNumbers new new.shape layout.strides layout.offset → ShowsThrough new layout.shape layout.strides layout.offset (broadcast_index new.shape)
larger-shows layout new can has =
    let wide = can-shrunk layout.shape new.shape layout.strides layout.one_stride_an_axis can in
    let leads : (index : List ℕ) → IsIndex layout.shape index → IsIndex new.shape (broadcast_index new.shape index) = λ index in'. IsIndex-broadcast new.shape layout.shape index wide in' in
    record {
      leads = leads;
      same = λ index in'.
          let some : 0 < count new.shape = omega (arith, rank-lt new.shape (broadcast_index new.shape index) (leads index in')) in
          let none : length layout.shape - length new.shape ≡ 0 = omega (arith, can.axes) in
          let to : broadcast_index new.shape index ≡ within_axes new.shape index = broadcast_index-is new.shape layout.shape index in' ∙ ap (λ k. within_axes new.shape (drop k index)) none in
          ap (λ z. pos layout.offset +ℤ z) (dot-within layout.shape new.shape layout.strides index layout.one_stride_an_axis can in' ∙ ap (dot layout.strides) (sym to))
          ∙ λ i. address_at (sym (has.strides_are some) i) (sym (has.offset_is some) i) (broadcast_index new.shape index);
    }

shrunk-itself : (layout new : Layout) → CanShrink layout.shape layout.strides new.shape → HasNumbers new new.shape layout.strides layout.offset → IsStretchOf new layout
shrunk-itself layout new can has = record {
  can = can-shrunk layout.shape new.shape layout.strides layout.one_stride_an_axis can;
  larger = numbers-view new layout layout.shape layout.strides layout.offset (broadcast_index new.shape) (larger-shows layout new can has) (record { shape_is = refl; strides_are = λ some. refl; offset_is = λ some. refl });
  smaller = numbers-view layout new new.shape layout.strides layout.offset (λ index. index) (shrunk-shows layout new.shape can) has;
}

-- the condition of the exit of `shrink`
pub shrunk-length : (layout : Layout) (shape : List ℕ) (strides : List ℤ) (small : List ℕ) → strides ≡ layout.strides → shape ≡ small → CanShrink layout.shape layout.strides small → length strides ≡ length shape
shrunk-length layout shape strides small strides-are is can = omega (arith, ap length strides-are, ap length is, can.axes, layout.one_stride_an_axis)

pub shrunk-stretch : (layout new : Layout) (small : List ℕ) (strides : List ℤ) → CanShrink layout.shape layout.strides small → strides ≡ layout.strides → HasNumbers new small strides layout.offset → IsStretchOf new layout
shrunk-stretch layout new small strides can strides-are has =
    shrunk-itself layout new (subst (CanShrink layout.shape layout.strides) (sym has.shape_is) can)
    (subst (λ (s : List ℤ). HasNumbers new new.shape s layout.offset) strides-are (subst (λ (s : List ℕ). HasNumbers new s strides layout.offset) (sym has.shape_is) has))
