-- A stretched layout is a view.
use Rattle.std.proofs.Common.{◌≡◌, Option, Some, Err, ℕ, zero, suc, ◌-◌, ◌<◌, ◌==◌, Bool, true, false, if◌then◌else◌, ℤ, pos, ◌+ℤ◌, ◌*ℤ◌, List, [], ◌∷◌, ◌++◌, length, drop, replicate, refl, sym, ap, subst, ◌∙◌, arith, zero-mul, length-append}
use Rattle.broadcasting.proofs.Words.{IfSome, length-replicate, +ℤ_idl, *ℤ-zero, ShapesDoNotBroadcast, Layout, max_bytes, count, IsIndex, dot, address_at, LieWithin, offsets, rank-lt, dot-nil, view_through, IsViewOf, ShowsThrough, IsView, LieWithin-view, inside-view, offsets-view, can_stretch, within_axes, broadcast_index, stretched, kept_strides, AreStretched, broadcast_index-is, IsIndex-broadcast, few-axes}

-- ---- addresses

axis-kept : (t : Bool) (stride : ℤ) (k : ℕ) → (if t then pos 0 else stride) *ℤ pos k ≡ stride *ℤ pos (if t then 0 else k)
axis-kept true stride k = ap pos (zero-mul k) ∙ sym (*ℤ-zero stride)
axis-kept false stride k = refl

dot-kept : (shape : List ℕ) (strides : List ℤ) (index : List ℕ) → length strides ≡ length shape → dot (kept_strides shape strides) index ≡ dot strides (within_axes shape index)
dot-kept [] [] index same = refl
dot-kept (n ∷ shape) (s ∷ strides) [] same = refl
dot-kept (n ∷ shape) (s ∷ strides) (k ∷ index) same =
    λ i. axis-kept (n == 1) s k i +ℤ dot-kept shape strides index (omega arith) i
dot-kept _ _ index same = absurd (omega arith)

dot-behind : (more : ℕ) (strides : List ℤ) (index : List ℕ) → dot (replicate more (pos 0) ++ strides) index ≡ dot strides (drop more index)
dot-behind zero strides index = refl
dot-behind (suc more) strides [] = sym (dot-nil strides)
dot-behind (suc more) strides (k ∷ index) =
    ap (λ n. pos n +ℤ dot (replicate more (pos 0) ++ strides) index) (zero-mul k) ∙ +ℤ_idl (dot (replicate more (pos 0) ++ strides) index) ∙ dot-behind more strides index

-- ---- the view

stretched-dot : (old : Layout) (target : List ℕ) (strides : List ℤ) (index : List ℕ) → AreStretched old target strides → IsIndex target index → dot strides index ≡ dot old.strides (broadcast_index old.shape index)
stretched-dot old target strides index made in' =
    let more = length target - length old.shape in
    ap (λ s. dot s index) made.strides_are ∙ dot-behind more (kept_strides old.shape old.strides) index ∙ dot-kept old.shape old.strides (drop more index) old.one_stride_an_axis ∙ sym (ap (dot old.strides) (broadcast_index-is old.shape target index in'))

pub stretched-shows : (old : Layout) (target : List ℕ) (strides : List ℤ) → AreStretched old target strides → ShowsThrough old target strides old.offset (broadcast_index old.shape)
stretched-shows old target strides made = record {
  leads = λ index in'. IsIndex-broadcast old.shape target index made.can in';
  same = λ index in'. ap (λ z. pos old.offset +ℤ z) (stretched-dot old target strides index made in');
}

length-kept : (shape : List ℕ) (strides : List ℤ) → length strides ≡ length shape → length (kept_strides shape strides) ≡ length shape
length-kept [] [] same = refl
length-kept (n ∷ shape) (s ∷ strides) same = ap suc (length-kept shape strides (omega arith))
length-kept _ _ same = absurd (omega arith)

pub stretched-length : (old : Layout) (target : List ℕ) (strides : List ℤ) → AreStretched old target strides → length strides ≡ length target
stretched-length old target strides made =
    let more = length target - length old.shape in
    let kept = kept_strides old.shape old.strides in
    omega (arith, ap length made.strides_are, length-append (replicate more (pos 0)) kept, length-replicate {A = ℤ} more (pos 0), length-kept old.shape old.strides old.one_stride_an_axis, few-axes old.shape target made.can)

pub stretched-lies : (old : Layout) (target : List ℕ) (strides : List ℤ) → AreStretched old target strides → LieWithin target strides old.offset max_bytes 1
stretched-lies old target strides made =
    LieWithin-view old target strides old.offset (broadcast_index old.shape) max_bytes 1 (stretched-shows old target strides made) old.within_limit

-- A layout has this shape and, if it has items, these strides and this offset.
pub record HasNumbers (new : Layout) (shape : List ℕ) (strides : List ℤ) (offset : ℕ) : Type 0 where
  pub shape_is : new.shape ≡ shape
  pub strides_are : 0 < count shape → new.strides ≡ strides
  pub offset_is : 0 < count shape → new.offset ≡ offset

shows-numbers : (old new : Layout) (shape : List ℕ) (strides : List ℤ) (offset : ℕ) (m : List ℕ → List ℕ) → ShowsThrough old shape strides offset m → HasNumbers new shape strides offset → IsView old new m
shows-numbers old new shape strides offset m shows has = record {
  leads = λ index in'. shows.leads index (rw (← has.shape_is) in');
  same = λ index in'.
      let in-shape : IsIndex shape index = rw (← has.shape_is) in' in
      let some : 0 < count shape = omega (arith, rank-lt shape index in-shape) in
      ap (λ s. address_at s new.offset index) (has.strides_are some) ∙ ap (λ o. address_at strides o index) (has.offset_is some) ∙ shows.same index in-shape;
}

-- Such a layout is a view.
pub numbers-view : (old new : Layout) (shape : List ℕ) (strides : List ℤ) (offset : ℕ) (m : List ℕ → List ℕ) → ShowsThrough old shape strides offset m → HasNumbers new shape strides offset → IsViewOf old new (record { shape = shape; leads = m })
numbers-view old new shape strides offset m shows has =
    let view : IsView old new m = shows-numbers old new shape strides offset m shows has in
    record {
      shape = has.shape_is;
      leads = shows.leads;
      inside = inside-view old new m shape view has.shape_is;
      places = offsets-view old new m view ∙ ap (λ s. view_through (offsets old) old.shape s m) has.shape_is;
      fits = λ len item fits. LieWithin-view old new.shape new.strides new.offset m len item view fits;
    }

-- the condition of the exits of `stretch` and `stretched_to`
pub made_numbers : (result : Option Layout) (new : Layout) (shape target : List ℕ) (strides : List ℤ) (offset : ℕ) → result ≡ Some new → shape ≡ target → IfSome result (λ l. l.shape ≡ shape) → IfSome result (λ l. 0 < count shape → l.strides ≡ strides) → IfSome result (λ l. 0 < count shape → l.offset ≡ offset) → HasNumbers new target strides offset
made_numbers result new shape target strides offset is same shape-is strides-are offset-is = record {
  shape_is = subst (λ r. IfSome r (λ l. l.shape ≡ shape)) is shape-is ∙ same;
  strides_are = λ some. subst (λ r. IfSome r (λ l. 0 < count shape → l.strides ≡ strides)) is strides-are (omega (arith, ap count same));
  offset_is = λ some. subst (λ r. IfSome r (λ l. 0 < count shape → l.offset ≡ offset)) is offset-is (omega (arith, ap count same));
}

pub stretched-err : (shape target : List ℕ) → can_stretch shape target ≡ false → stretched shape target ≡ Err ShapesDoNotBroadcast
unfolding stretched
stretched-err shape target cannot = rw cannot

pub stretched-view : (old new : Layout) (target : List ℕ) (strides : List ℤ) → AreStretched old target strides → HasNumbers new target strides old.offset → IsViewOf old new (record { shape = target; leads = broadcast_index old.shape })
stretched-view old new target strides made has = numbers-view old new target strides old.offset (broadcast_index old.shape) (stretched-shows old target strides made) has
