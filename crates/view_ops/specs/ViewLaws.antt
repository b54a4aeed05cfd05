-- Laws of layouts that show items of another layout.
use Rattle.std.specs.Prelude.{◌≡◌, ℕ, ℤ, ◌<◌, List, [], All, length}
use Rattle.std.proofs.Common.{get_or, sym, ap, subst, ◌∙◌, arith}
use Rattle.view_ops.specs.Words.{get_or-map, Layout, LieWithin, address, offsets, Fits, indexes, rank, IsIndex, length-indexes, rank-lt, get_or-indexes, index_at, same_on_indexes, length-offsets, get_or-offsets, natural}
use Rattle.view_ops.specs.Views.{View, view_through, IsViewOf}
use Rattle.view_ops.specs.Shows.{ShowsThrough, IsView}

-- If the other layout fits in `len` bytes, the items that are shown lie within them.
pub LieWithin-view : (old : Layout) (shape : List ℕ) (strides : List ℤ) (offset : ℕ) (m : List ℕ → List ℕ) (len item : ℕ) → ShowsThrough old shape strides offset m → Fits old len item → LieWithin shape strides offset len item
LieWithin-view old shape strides offset m len item view fits = record {
  from_zero = λ index in'. rw (view.same index in') (fits.from_zero (m index) (view.leads index in'));
  within = λ index in'. rw (view.same index in') (fits.within (m index) (view.leads index in'));
}

-- A view has the offsets that `view_through` gives.
pub offsets-view : (old new : Layout) (m : List ℕ → List ℕ) → IsView old new m → offsets new ≡ view_through (offsets old) old.shape new.shape m
unfolding offsets
offsets-view old new m view =
    same_on_indexes new.shape (λ index. natural (address new index)) (λ index. get_or (offsets old) (rank old.shape (m index)) 0)
    (λ index in'. ap natural (view.same index in') ∙ sym (get_or-offsets old (m index) 0 (view.leads index in')))

-- Each index leads to an item of the other layout.
inside : (old new : Layout) (m : List ℕ → List ℕ) → IsView old new m → All (λ index. rank old.shape (m index) < length (offsets old)) (indexes new.shape)
inside old new m view k d below =
    let found = index_at new.shape k (omega (arith, length-indexes new.shape)) in
    let here : get_or (indexes new.shape) k d ≡ found.0 = ap (λ r. get_or (indexes new.shape) r d) (sym found.2) ∙ get_or-indexes new.shape found.0 d found.1 in
    rw here (omega (arith, length-offsets old, rank-lt old.shape (m found.0) (view.leads found.0 found.1)))

pub inside-view : (old new : Layout) (m : List ℕ → List ℕ) (shape : List ℕ) → IsView old new m → new.shape ≡ shape → All (λ index. rank old.shape (m index) < length (offsets old)) (indexes shape)
inside-view old new m shape view same = subst (λ (s : List ℕ). All (λ index. rank old.shape (m index) < length (offsets old)) (indexes s)) same (inside old new m view)

-- A view of a view is a view.
pub view-twice : (old mid new : Layout) (first second : View) → IsViewOf old mid first → IsViewOf mid new second → IsViewOf old new (record { shape = second.shape; leads = λ index. first.leads (second.leads index) })
view-twice old mid new first second one two = record {
  shape = two.shape;
  leads = leads;
  inside = λ k d below.
      let found = index_at second.shape k (omega (arith, length-indexes second.shape)) in
      let here : get_or (indexes second.shape) k d ≡ found.0 = ap (λ r. get_or (indexes second.shape) r d) (sym found.2) ∙ get_or-indexes second.shape found.0 d found.1 in
      rw here (omega (arith, length-offsets old, rank-lt old.shape (first.leads (second.leads found.0)) (leads found.0 found.1)));
  places = two.places ∙ same_on_indexes second.shape (λ index. get_or (offsets mid) (rank mid.shape (second.leads index)) 0) (λ index. get_or (offsets old) (rank old.shape (first.leads (second.leads index))) 0) each;
  fits = λ len item fits. two.fits len item (one.fits len item fits);
}
  where
    in-first : (index : List ℕ) → IsIndex second.shape index → IsIndex first.shape (second.leads index)
    in-first index in' = subst (λ (s : List ℕ). IsIndex s (second.leads index)) one.shape (two.leads index in')

    leads : (index : List ℕ) → IsIndex second.shape index → IsIndex old.shape (first.leads (second.leads index))
    leads index in' = one.leads (second.leads index) (in-first index in')

    through : List ℕ → ℕ
    through index = get_or (offsets old) (rank old.shape (first.leads index)) 0

    each : (index : List ℕ) → IsIndex second.shape index → get_or (offsets mid) (rank mid.shape (second.leads index)) 0 ≡ through (second.leads index)
    each index in' =
        let at = second.leads index in
        let below : rank first.shape at < length (indexes first.shape) = omega (arith, length-indexes first.shape, rank-lt first.shape at (in-first index in')) in
        (λ i. get_or (one.places i) (rank (one.shape i) at) 0)
        ∙ get_or-map through (indexes first.shape) (rank first.shape at) [] 0 below
        ∙ ap through (get_or-indexes first.shape at [] (in-first index in'))
