-- Laws of runs along the last axis, and of the axes outside of it.
use Rattle.std.proofs.Common.{◌≡◌, ℕ, ◌*◌, ◌<◌, ◌≤◌, ℤ, pos, List, [], ◌∷◌, ◌++◌, map, refl, sym, ◌∙◌, ap, subst, arith, mul-le-mul_left, mul-le-mul_right}
use Rattle.shape_strides.proofs.Words.{Each, numbers_from, flat_map_same, map-flat_map, Layout, StridedAxis, Run, count, natural, address, strided_axes, all_joined, run_along, runs_from, IsInBytes, lengths_of, factors_pos}
use Rattle.shape_strides.proofs.JoinedLaws.{addresses, addresses-indexes, addresses-joined}
use Rattle.shape_strides.proofs.RunLaws.{Each-indexes}
use Rattle.shape_strides.proofs.StartLaws.{count-joined, lengths_of-axes}

-- ---- the runs of axes that end with one axis

-- There is a run from each address that the outer axes lead to.
pub runs_from-front : (at : ℤ) (front : List StridedAxis) (run : StridedAxis) → runs_from at (front ++ run ∷ []) ≡ map (λ z. run_along run (natural z)) (addresses at front)
runs_from-front at [] run = refl
runs_from-front at (axis ∷ []) run =
    let start : ℤ → Run = λ z. run_along run (natural z) in
    flat_map_same (λ next. runs_from next (run ∷ [])) (λ next. map start (addresses next [])) (λ next. runs_from-front next [] run) (numbers_from at axis.stride axis.len) ∙ sym (map-flat_map start (λ next. addresses next []) (numbers_from at axis.stride axis.len))
runs_from-front at (axis ∷ inner ∷ front) run =
    let start : ℤ → Run = λ z. run_along run (natural z) in
    flat_map_same (λ next. runs_from next (inner ∷ front ++ run ∷ [])) (λ next. map start (addresses next (inner ∷ front))) (λ next. runs_from-front next (inner ∷ front) run) (numbers_from at axis.stride axis.len) ∙ sym (map-flat_map start (λ next. addresses next (inner ∷ front)) (numbers_from at axis.stride axis.len))

-- ---- each address is within the limit

pub in_bytes : (l : Layout) → Each IsInBytes (addresses (pos l.offset) (all_joined (strided_axes l.strides l.shape)))
in_bytes l =
    let same = addresses-joined (pos l.offset) (strided_axes l.strides l.shape) ∙ addresses-indexes (pos l.offset) l.strides l.shape l.one_stride_an_axis in
    subst (Each IsInBytes) (sym same) (Each-indexes IsInBytes (address l) l.shape (λ index in'. (l.within_limit.from_zero index in', l.within_limit.within index in')))

-- ---- the number of runs

pub lengths-low : (lengths : List ℕ) (top : ℕ) → 0 < count lengths → count lengths ≤ top → Each (λ n. n ≤ top) lengths
lengths-low [] top some low = tt
lengths-low (n ∷ lengths) top some low =
    let both = factors_pos n (count lengths) some in
    let first : n * 1 ≤ n * count lengths = mul-le-mul_left n both.1 in
    let rest : 1 * count lengths ≤ n * count lengths = mul-le-mul_right (count lengths) both.0 in
    (omega arith, lengths-low lengths top both.1 (omega arith))

pub count-whole : (l : Layout) → count (lengths_of (all_joined (strided_axes l.strides l.shape))) ≡ count l.shape
count-whole l = count-joined (strided_axes l.strides l.shape) ∙ ap count (lengths_of-axes l.strides l.shape l.one_stride_an_axis)
