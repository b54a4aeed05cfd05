-- A transposed layout is a view.
use Rattle.std.proofs.Common.{◌≡◌, ◌⊎◌, inl, inr, Option, Err, ℕ, ◌<◌, ◌≤◌, ℤ, pos, ◌+ℤ◌, List, map, length, replicate, get_or, Ok, refl, sym, ap, subst, ◌∙◌, arith}
use Rattle.view_ops.proofs.Words.{Refusal, OutOfMemory, Layout, count, IsShape, max_items, max_bytes, address_at, LieWithin, address, offsets, zeros_are, length-map, get_or-map, dot, axes_of, transposed, transposed_shape, transposed_index, put_at, AreAxes, AreAllAxes, view_through, IsViewOf, GivesView, KeepsNested, ShowsThrough, IsView, LieWithin-view, inside-view, offsets-view}
use Rattle.view_ops.proofs.TransposeLaws.{dot-put_at, IsIndex-transposed, transposed-one, count-transposed}
use Rattle.view_ops.proofs.ViewLaws.{IsNested-view, gives_refusal}
use Rattle.view_ops.proofs.AxesLaws.{axis-lt}

-- ---- the shape

pub IsShape-transposed : (axes shape : List ℕ) → AreAllAxes (length shape) axes → IsShape shape → IsShape (transposed_shape axes shape)
IsShape-transposed axes shape all is =
    let size = length-map axes (λ a. get_or shape a 0) in
    record {
      axes = omega (arith, size, all.size, is.axes);
      lengths = λ k d below.
          let inside : k < length axes = omega (arith, below, size) in
          subst (λ m. m ≤ max_items) (sym (get_or-map (λ a. get_or shape a 0) axes k 0 d inside)) (is.lengths (get_or axes k 0) 0 (axis-lt (length shape) axes k all.are inside));
      items = omega (arith, count-transposed axes shape all.size all.are, is.items);
    }

-- ---- the view

-- how the shape and the strides are made
pub record IsTurned (old : Layout) (shape : List ℕ) (strides : List ℤ) (axes : List ℕ) : Type 0 where
  pub all : AreAllAxes (length old.shape) axes
  pub shape_is : shape ≡ transposed_shape axes old.shape
  pub strides_are : strides ≡ map (λ a. get_or old.strides a (pos 0)) axes

turned-address : (old : Layout) (shape : List ℕ) (strides : List ℤ) (axes index : List ℕ) → IsTurned old shape strides axes → address_at strides old.offset index ≡ address old (transposed_index axes index)
turned-address old shape strides axes index turned =
    let are : AreAxes (length old.strides) axes = rw (old.one_stride_an_axis) turned.all.are in
    let moved = dot-put_at old.strides axes index (length old.strides) refl are in
    let size : length old.strides ≡ length axes = old.one_stride_an_axis ∙ sym turned.all.size in
    ap (λ s. pos old.offset +ℤ dot s index) turned.strides_are ∙ ap (λ z. pos old.offset +ℤ z) moved ∙ ap (λ n. pos old.offset +ℤ dot old.strides (put_at axes index (replicate n 0))) size

pub turned-shows : (old : Layout) (shape : List ℕ) (strides : List ℤ) (axes : List ℕ) → IsTurned old shape strides axes → ShowsThrough old shape strides old.offset (transposed_index axes)
turned-shows old shape strides axes turned = record {
  leads = λ index in'. IsIndex-transposed axes old.shape index turned.all.size turned.all.are (rw (← turned.shape_is) in');
  same = λ index in'. turned-address old shape strides axes index turned;
}

pub turned-length : (old : Layout) (shape : List ℕ) (strides : List ℤ) (axes : List ℕ) → IsTurned old shape strides axes → length strides ≡ length shape
turned-length old shape strides axes turned =
    ap length turned.strides_are ∙ length-map axes (λ a. get_or old.strides a (pos 0)) ∙ sym (ap length turned.shape_is ∙ length-map axes (λ a. get_or old.shape a 0))

pub turned-lies : (old : Layout) (shape : List ℕ) (strides : List ℤ) (axes : List ℕ) → IsTurned old shape strides axes → LieWithin shape strides old.offset max_bytes 1
turned-lies old shape strides axes turned =
    LieWithin-view old shape strides old.offset (transposed_index axes) max_bytes 1 (turned-shows old shape strides axes turned) old.within_limit

-- Without items, the strides are 0 in any order.
pub turned-zeros : (old : Layout) (shape : List ℕ) (strides : List ℤ) (axes : List ℕ) → IsTurned old shape strides axes → count shape ≡ 0 → (old.offset ≡ 0) × (strides ≡ map (λ _. pos 0) shape)
turned-zeros old shape strides axes turned none =
    let zero = old.zero_if_empty (sym (count-transposed axes old.shape turned.all.size turned.all.are) ∙ sym (ap count turned.shape_is) ∙ none) in (
      zero.0,
      zeros_are strides shape 0 (turned-length old shape strides axes turned) (λ k below.
          let inside : k < length axes = omega (arith, ap length turned.strides_are, length-map axes (λ a. get_or old.strides a (pos 0))) in
          let low : get_or axes k 0 < length old.shape = axis-lt (length old.shape) axes k turned.all.are inside in
          ap (λ s. get_or s k (pos 0)) turned.strides_are ∙ get_or-map (λ a. get_or old.strides a (pos 0)) axes k 0 (pos 0) inside ∙ ap (λ s. get_or s (get_or axes k 0) (pos 0)) zero.1 ∙ get_or-map (λ _. pos 0) old.shape (get_or axes k 0) 0 (pos 0) low),
    )

pub turned-is : (old new : Layout) (axes : List ℕ) → IsTurned old new.shape new.strides axes → new.offset ≡ old.offset → IsViewOf old new (record { shape = transposed_shape axes old.shape; leads = transposed_index axes })
turned-is old new axes turned same =
    let view : IsView old new (transposed_index axes) = subst (λ o. ShowsThrough old new.shape new.strides o (transposed_index axes)) (sym same) (turned-shows old new.shape new.strides axes turned) in
    record {
      shape = turned.shape_is;
      leads = λ index in'. view.leads index (rw turned.shape_is in');
      inside = inside-view old new (transposed_index axes) (transposed_shape axes old.shape) view turned.shape_is;
      places = offsets-view old new (transposed_index axes) view ∙ ap (λ s. view_through (offsets old) old.shape s (transposed_index axes)) turned.shape_is;
      fits = λ len item fits. LieWithin-view old new.shape new.strides new.offset (transposed_index axes) len item view fits;
    }

pub turned-nested : (old new : Layout) (axes : List ℕ) → IsTurned old new.shape new.strides axes → new.offset ≡ old.offset → KeepsNested old new
turned-nested old new axes turned same item nested =
    let view : IsView old new (transposed_index axes) = subst (λ o. ShowsThrough old new.shape new.strides o (transposed_index axes)) (sym same) (turned-shows old new.shape new.strides axes turned) in
    IsNested-view old new (transposed_index axes) item view (λ i j in-i in-j same. transposed-one axes old.shape i j turned.all.size turned.all.are (rw (← turned.shape_is) in-i) (rw (← turned.shape_is) in-j) same) nested

-- ---- the exits

pub turned_as : {old : Layout} {axes lengths items seen shape : List ℕ} {steps strides : List ℤ} → lengths ≡ items → items ≡ transposed_shape axes seen → seen ≡ old.shape → AreAllAxes (length old.shape) axes → shape ≡ lengths → strides ≡ map (λ a. get_or steps a (pos 0)) axes → steps ≡ old.strides → IsTurned old shape strides axes
turned_as {axes = axes} first second third all made are is = record {
  all = all;
  shape_is = made ∙ first ∙ second ∙ ap (λ s. transposed_shape axes s) third;
  strides_are = are ∙ ap (λ s. map (λ a. get_or s a (pos 0)) axes) is;
}

pub transposed-ok : (shape : List ℕ) (named : Option (List ℤ)) (axes : List ℕ) → axes_of (length shape) named ≡ Ok axes → transposed shape named ≡ Ok (record { shape = transposed_shape axes shape; leads = transposed_index axes })
unfolding transposed
transposed-ok shape named axes is = rw is

pub transposed-err : (shape : List ℕ) (named : Option (List ℤ)) (e : Refusal) → axes_of (length shape) named ≡ Err e → transposed shape named ≡ Err e
unfolding transposed
transposed-err shape named e is = rw is

pub gives_transposed : (old new : Layout) (named : Option (List ℤ)) (axes : List ℕ) → axes_of (length old.shape) named ≡ Ok axes → IsViewOf old new (record { shape = transposed_shape axes old.shape; leads = transposed_index axes }) → GivesView old (Ok new) (transposed old.shape named)
gives_transposed old new named axes is view = rw (transposed-ok old.shape named axes is) view

pub gives_no_axes : (old : Layout) (named : Option (List ℤ)) (e : Refusal) → (e ≡ OutOfMemory) ⊎ (axes_of (length old.shape) named ≡ Err e) → GivesView old (Err e) (transposed old.shape named)
gives_no_axes old named e (inl memory) = gives_refusal old (transposed old.shape named) e (inl memory)
gives_no_axes old named e (inr there) = gives_refusal old (transposed old.shape named) e (inr (transposed-err old.shape named e there))
