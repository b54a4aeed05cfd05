-- Items that are adjacent in Fortran order. If the axes are reversed, they are adjacent in C order.
use Rattle.std.specs.Prelude.{◌≡◌, ◌*◌, ◌<◌, List, length, map}
use Rattle.std.proofs.Common.{ℕ, [], reverse, get_or, All, sym, ap, subst, ◌∙◌, arith}
use Rattle.arrays.specs.Words.{length-map, get_or-map, same_lists, reverse-reverse, length-map-range_with_len, get_or-map-range_with_len, item_at, fortran_order, count, indexes, rank, IsIndex, length-indexes, rank-lt, get_or-indexes, index_at, multiples, f_multiples, count-reverse, IsIndex-reverse, IsIndex-from_reverse}
use Rattle.arrays.specs.Assignments.{items_at}

-- in a list with a number for each index in C order, the number of an index is at its rank
at-index : (shape index : List ℕ) (f : List ℕ → ℕ) (d : ℕ) → IsIndex shape index → get_or (map f (indexes shape)) (rank shape index) d ≡ f index
at-index shape index f d in' =
    let inside : rank shape index < length (indexes shape) = omega (arith, length-indexes shape, rank-lt shape index in') in
    get_or-map f (indexes shape) (rank shape index) [] d inside ∙ ap f (get_or-indexes shape index [] in')

pub length-fortran : (shape offsets : List ℕ) → length (fortran_order shape offsets) ≡ count shape
length-fortran shape offsets = length-map (indexes (reverse shape)) _ ∙ length-indexes (reverse shape) ∙ count-reverse shape

-- a property of all offsets also holds for them in Fortran order
pub fortran-all : (P : ℕ → Type 0) (shape offsets : List ℕ) → length offsets ≡ count shape → All P offsets → All P (fortran_order shape offsets)
fortran-all P shape offsets long all = λ k d below.
    let f = λ (i : List ℕ). get_or offsets (rank shape (reverse i)) 0 in
    let found = index_at (reverse shape) k (omega (arith, below, length-map (indexes (reverse shape)) f, length-indexes (reverse shape))) in
    let here : get_or (fortran_order shape offsets) k d ≡ f found.0 = ap (λ j. get_or (fortran_order shape offsets) j d) (sym found.2) ∙ at-index (reverse shape) found.0 f d found.1 in
    subst P (sym here) (all (rank shape (reverse found.0)) 0 (omega (arith, long, rank-lt shape (reverse found.0) (IsIndex-from_reverse shape found.0 found.1))))

-- in Fortran order, the offset of an index is at the rank of the reversed index in the reversed shape
pub fortran-at : (shape index offsets : List ℕ) → IsIndex shape index → get_or (fortran_order shape offsets) (rank (reverse shape) (reverse index)) 0 ≡ get_or offsets (rank shape index) 0
fortran-at shape index offsets in' =
    at-index (reverse shape) (reverse index) (λ i. get_or offsets (rank shape (reverse i)) 0) 0 (IsIndex-reverse shape index in')
    ∙ ap (λ i. get_or offsets (rank shape i) 0) (reverse-reverse index)

-- if `items` has the items of `block` in Fortran order, reading it at the offsets of Fortran order gives their C order
pub items-in_fortran : (width : ℕ) (shape offsets items block : List ℕ) → length offsets ≡ count shape
    → items_at (multiples width (count shape)) width items ≡ items_at (fortran_order shape offsets) width block → items_at (f_multiples width shape) width items ≡ items_at offsets width block
items-in_fortran width shape offsets items block long same =
    let f = λ (index : List ℕ). width * rank (reverse shape) (reverse index) in
    let many = length-map (indexes shape) f ∙ length-indexes shape in
    let turned = fortran_order shape offsets in
    let long' = length-fortran shape offsets in
    let even = length-map-range_with_len (λ k. width * k) 0 (count shape) in
    same_lists (items_at (f_multiples width shape) width items) (items_at offsets width block)
    (length-map (f_multiples width shape) _ ∙ many ∙ sym long ∙ sym (length-map offsets _)) (λ k d below.
    let low : k < count shape = omega (arith, below, length-map (f_multiples width shape) (λ o. item_at o width items), many) in
    let found = index_at shape k low in
    let r = rank (reverse shape) (reverse found.0) in
    let r_low : r < count shape = omega (arith, rank-lt (reverse shape) (reverse found.0) (IsIndex-reverse shape found.0 found.1), count-reverse shape) in
    let here : get_or (f_multiples width shape) k 0 ≡ width * r = ap (λ j. get_or (f_multiples width shape) j 0) (sym found.2) ∙ at-index shape found.0 f 0 found.1 in
    let there : get_or (multiples width (count shape)) r 0 ≡ width * r = get_or-map-range_with_len (λ j. width * j) 0 (count shape) r r 0 r_low (omega arith) in
    let source : get_or turned r 0 ≡ get_or offsets k 0 = fortran-at shape found.0 offsets found.1 ∙ ap (λ j. get_or offsets j 0) found.2 in
    get_or-map (λ o. item_at o width items) (f_multiples width shape) k 0 d (omega (arith, low, many))
    ∙ ap (λ o. item_at o width items) (here ∙ sym there)
    ∙ sym (get_or-map (λ o. item_at o width items) (multiples width (count shape)) r 0 d (omega (arith, r_low, even)))
    ∙ ap (λ l. get_or l r d) same
    ∙ get_or-map (λ o. item_at o width block) turned r 0 d (omega (arith, r_low, long'))
    ∙ ap (λ o. item_at o width block) source
    ∙ sym (get_or-map (λ o. item_at o width block) offsets k 0 d (omega (arith, low, long))))
