-- A layout without its first axes, each of which has length 1, is a view.
use Rattle.std.proofs.Common.{◌≡◌, ℕ, zero, suc, ◌-◌, ◌*◌, ◌≤◌, ◌==◌, true, ℤ, pos, ◌+ℤ◌, List, [], ◌∷◌, ◌++◌, length, take, drop, replicate, refl, sym, ap, subst, ◌∙◌, arith, one-mul}
use Rattle.broadcasting.proofs.Words.{list_all, eqb-true, and_parts, length-drop, All-drop, +ℤ_idl, *ℤ-zero, Layout, max_items, max_bytes, count, IsIndex, dot, LieWithin, IsShape, slice-rest, ShowsThrough, LieWithin-view}

-- ---- the remaining axes

count-rest : (k : ℕ) (shape : List ℕ) → list_all (λ n. n == 1) (take k shape) ≡ true → count (drop k shape) ≡ count shape
count-rest (suc k) (n ∷ shape) single =
    let both = and_parts (n == 1) (list_all (λ m. m == 1) (take k shape)) single in
    count-rest k shape both.1 ∙ sym (ap (λ m. m * count shape) (eqb-true n 1 both.0) ∙ one-mul (count shape))
count-rest _ _ single = refl

pub IsShape-rest : (k : ℕ) (shape : List ℕ) → list_all (λ n. n == 1) (take k shape) ≡ true → IsShape shape → IsShape (drop k shape)
IsShape-rest k shape single is = record {
  axes = omega (arith, length-drop k shape, is.axes);
  lengths = All-drop (λ n. n ≤ max_items) k shape is.lengths;
  items = omega (arith, count-rest k shape single, is.items);
}

-- ---- the index to which an index leads

IsIndex-front : (k : ℕ) (shape index : List ℕ) → list_all (λ n. n == 1) (take k shape) ≡ true → k ≤ length shape → IsIndex (drop k shape) index → IsIndex shape (replicate k 0 ++ index)
IsIndex-front zero shape index single few in' = in'
IsIndex-front (suc k) [] index single few in' = absurd (omega arith)
IsIndex-front (suc k) (n ∷ shape) index single few in' =
    let both = and_parts (n == 1) (list_all (λ m. m == 1) (take k shape)) single in
    (omega (arith, eqb-true n 1 both.0), IsIndex-front k shape index both.1 (omega arith) in')

dot-front : (k : ℕ) (strides : List ℤ) (index : List ℕ) → dot strides (replicate k 0 ++ index) ≡ dot (drop k strides) index
dot-front (suc k) (s ∷ strides) index =
    ap (λ z. z +ℤ dot strides (replicate k 0 ++ index)) (*ℤ-zero s) ∙ +ℤ_idl (dot strides (replicate k 0 ++ index)) ∙ dot-front k strides index
dot-front _ _ index = refl

-- ---- the view

-- how the layout is made
pub record IsRest (old : Layout) (k : ℕ) (shape : List ℕ) (strides : List ℤ) : Type 0 where
  pub few : k ≤ length old.shape
  pub single : list_all (λ n. n == 1) (take k old.shape) ≡ true
  pub shape_is : shape ≡ drop k old.shape
  pub strides_are : strides ≡ drop k old.strides

rest-shows : (old : Layout) (k : ℕ) (shape : List ℕ) (strides : List ℤ) → IsRest old k shape strides → ShowsThrough old shape strides old.offset (λ index. replicate k 0 ++ index)
rest-shows old k shape strides made = record {
  leads = λ index in'. IsIndex-front k old.shape index made.single made.few (subst (λ (s : List ℕ). IsIndex s index) made.shape_is in');
  same = λ index in'. ap (λ z. pos old.offset +ℤ z) (ap (λ s. dot s index) made.strides_are ∙ sym (dot-front k old.strides index));
}

pub rest-length : (old : Layout) (k : ℕ) (shape : List ℕ) (strides : List ℤ) → IsRest old k shape strides → length strides ≡ length shape
rest-length old k shape strides made =
    omega (arith, ap length made.strides_are, ap length made.shape_is, length-drop k old.strides, length-drop k old.shape, old.one_stride_an_axis)

pub rest-lies : (old : Layout) (k : ℕ) (shape : List ℕ) (strides : List ℤ) → IsRest old k shape strides → LieWithin shape strides old.offset max_bytes 1
rest-lies old k shape strides made =
    LieWithin-view old shape strides old.offset (λ index. replicate k 0 ++ index) max_bytes 1 (rest-shows old k shape strides made) old.within_limit

pub rest-made : {old : Layout} {k : ℕ} {seen shape : List ℕ} {steps strides : List ℤ} → k ≤ length old.shape → list_all (λ n. n == 1) (take k old.shape) ≡ true → seen ≡ old.shape → shape ≡ take (length seen - k) (drop k seen) → steps ≡ old.strides → strides ≡ take (length steps - k) (drop k steps) → IsRest old k shape strides
rest-made {k = k} {seen = seen} {steps = steps} few single seen-is is steps-are are = record {
  few = few;
  single = single;
  shape_is = is ∙ slice-rest k seen ∙ ap (drop k) seen-is;
  strides_are = are ∙ slice-rest k steps ∙ ap (drop k) steps-are;
}

pub rest-moved : (old : Layout) (k : ℕ) (shape : List ℕ) (strides : List ℤ) → IsRest old k shape strides → ShowsThrough old (drop k old.shape) strides old.offset (λ index. replicate k 0 ++ index)
rest-moved old k shape strides made =
    subst (λ (s : List ℕ). ShowsThrough old s strides old.offset (λ index. replicate k 0 ++ index)) made.shape_is (rest-shows old k shape strides made)
