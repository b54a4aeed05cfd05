-- Layouts with the same offsets have the same first offset and the same joined axes.
use Rattle.std.proofs.Common.{◌≡◌, ◌↔◌, ◌≢◌, ◌<◌, ◌==◌, Bool, ◌&&◌, IsTrue, ℤ, pos, List, [], ◌∷◌, map, length, get_or, reverse, refl, sym, ◌∙◌, ap, arith}
use Rattle.std.proofs.lemmas.Slice.Eq.{slice_eq-Decides}
use Rattle.std.specs.Bool.{Decides}
use Rattle.std.specs.Cmp.Lexicographic.{pointwise}
use Rattle.shape_strides.proofs.Words.{eqb-true, eq-eqb, and_parts, Decides-int_eq, reverse-reverse, int_eq, Layout, StridedAxis, count, natural, offsets, strided_axes, all_joined, pos-natural, length-offsets}
use Rattle.shape_strides.proofs.JoinedLaws.{addresses, offsets-joined}
use Rattle.shape_strides.proofs.RunLaws.{NoneBelow, none_below}
use Rattle.shape_strides.proofs.StartLaws.{lengths_of-axes}
use Rattle.shape_strides.proofs.UniqueLaws.{AreJoined, joined_unique, are_joined, addresses-first, same_axis}

-- ---- addresses and offsets

pos-naturals : (zs : List ℤ) → NoneBelow zs → map pos (map natural zs) ≡ zs
pos-naturals [] none = refl
pos-naturals (z ∷ zs) none = ap (λ y. y ∷ map pos (map natural zs)) (pos-natural z none.0) ∙ ap (λ ys. z ∷ ys) (pos-naturals zs none.1)

abbrev axes_of : Layout → List StridedAxis
axes_of l = all_joined (strided_axes l.strides l.shape)

addresses-offsets : (l : Layout) → addresses (pos l.offset) (axes_of l) ≡ map pos (offsets l)
addresses-offsets l = sym (ap (map pos) (offsets-joined l) ∙ pos-naturals (addresses (pos l.offset) (axes_of l)) (none_below l))

axes_joined : (l : Layout) → 0 < count l.shape → AreJoined (axes_of l)
axes_joined l some = are_joined (strided_axes l.strides l.shape) (omega (arith, ap count (lengths_of-axes l.strides l.shape l.one_stride_an_axis)))

-- ---- the same offsets

pub offsets_differ : (a b : Layout) → count a.shape ≢ count b.shape → offsets a ≢ offsets b
offsets_differ a b other same = other (sym (length-offsets a) ∙ ap length same ∙ length-offsets b)

same_first : (a b : Layout) → 0 < count a.shape → 0 < count b.shape → offsets a ≡ offsets b → a.offset ≡ b.offset
same_first a b some some' same =
    let left = addresses-first (pos a.offset) (axes_of a) (axes_joined a some) in
    let right = addresses-first (pos b.offset) (axes_of b) (axes_joined b some') in
    ap (λ zs. natural (get_or zs 0 (pos 0))) (sym left.1 ∙ addresses-offsets a ∙ ap (map pos) same ∙ sym (addresses-offsets b) ∙ right.1)

pub other_first : (a b : Layout) → 0 < count a.shape → 0 < count b.shape → a.offset ≢ b.offset → offsets a ≢ offsets b
other_first a b some some' other same = other (same_first a b some some' same)

pub same_axes : (a b : Layout) → 0 < count a.shape → 0 < count b.shape → offsets a ≡ offsets b → axes_of a ≡ axes_of b
same_axes a b some some' same =
    let first = same_first a b some some' same in
    joined_unique (pos a.offset) (axes_of a) (axes_of b) (axes_joined a some) (axes_joined b some') (addresses-offsets a ∙ ap (map pos) same ∙ sym (addresses-offsets b) ∙ ap (λ o. addresses (pos o) (axes_of b)) (sym first))

same_offsets : (a b : Layout) → a.offset ≡ b.offset → axes_of a ≡ axes_of b → offsets a ≡ offsets b
same_offsets a b first axes = offsets-joined a ∙ ap (λ o. map natural (addresses (pos o) (axes_of a))) first ∙ ap (λ made. map natural (addresses (pos b.offset) made)) axes ∙ sym (offsets-joined b)

-- ---- comparing axes

-- `==` of lists of axes
abbrev pub are_alike : List StridedAxis → List StridedAxis → Bool
are_alike = pointwise (λ (x y : StridedAxis). (x.len == y.len) && int_eq x.stride y.stride)

axes_eq : (x y : StridedAxis) → Decides ((x.len == y.len) && int_eq x.stride y.stride) (x ≡ y)
axes_eq x y = (
  λ yes. let parts = and_parts (x.len == y.len) (int_eq x.stride y.stride) yes in same_axis x y (eqb-true x.len y.len parts.0) ((Decides-int_eq x.stride y.stride).0 parts.1),
  λ same. ap (λ z. (x.len == z.len) && int_eq x.stride z.stride) (sym same) ∙ rw (eq-eqb x.len x.len refl, (Decides-int_eq x.stride x.stride).1 refl) refl,
)

-- If the first offsets are equal, comparing the joined axes, listed innermost first, decides whether all offsets are.
pub decided : (a b : Layout) (left right : List StridedAxis) (alike : Bool) → 0 < count a.shape → 0 < count b.shape → a.offset ≡ b.offset → reverse left ≡ axes_of a → reverse right ≡ axes_of b → alike ≡ are_alike left right → IsTrue alike ↔ (offsets a ≡ offsets b)
decided a b left right alike some some' first is is' test =
    let same_list = slice_eq-Decides axes_eq left right alike test in
    let onto : offsets a ≡ offsets b → left ≡ right = λ same. sym (reverse-reverse left) ∙ ap reverse (is ∙ same_axes a b some some' same ∙ sym is') ∙ reverse-reverse right in
    (λ yes. same_offsets a b first (sym is ∙ ap reverse (same_list.0 yes) ∙ is'), λ same. same_list.1 (onto same))
