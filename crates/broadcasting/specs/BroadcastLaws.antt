-- Laws of broadcasting: an array stretched to its own shape is unchanged.
use Rattle.std.specs.Prelude.{◌≡◌, ℕ, ◌-◌, ◌<◌, ◌==◌, ◌&&◌, ◌||◌, true, if◌then◌else◌, List, ◌∷◌, ◌++◌, length, drop, replicate}
use Rattle.std.proofs.Common.{Ok, zero, suc, false, [], refl, ap, ◌∙◌, arith, get_or}
use Rattle.broadcasting.specs.Words.{false≢true, eqb-true, and_parts, nat_tests, IsIndex, rank, length-index, same_on_indexes, Layout, natural, address, offsets, get_or-offsets, view_through}
use Rattle.broadcasting.specs.Broadcasts.{stretches, all_stretch, can_stretch, within_axes, broadcast_index, stretched}

-- ---- a shape stretched to itself

fits-itself : (n : ℕ) → stretches n n ≡ true
fits-itself n = grind (arith, nat_tests)

all-itself : (shape : List ℕ) → all_stretch shape shape ≡ true
all-itself [] = refl
all-itself (n ∷ shape) = λ i. fits-itself n i && all-itself shape i

none-beyond : (shape : List ℕ) → length shape - length shape ≡ 0
none-beyond shape = omega arith

pub can-itself : (shape : List ℕ) → can_stretch shape shape ≡ true
can-itself shape = ap (λ k. all_stretch (replicate k 1 ++ shape) shape) (none-beyond shape) ∙ all-itself shape

number-itself : (n k : ℕ) → k < n → (if n == 1 then 0 else k) ≡ k
number-itself n k below =
    elim (n == 1) as (λ t. (n == 1) ≡ t → (if t then 0 else k) ≡ k) [
      | true ↦ λ one. omega (arith, eqb-true n 1 one)
      | false ↦ λ other. refl
    ] refl

within-itself : (shape index : List ℕ) → IsIndex shape index → within_axes shape index ≡ index
within-itself [] [] in' = refl
within-itself (n ∷ shape) (k ∷ index) in' = λ i. number-itself n k in'.0 i ∷ within-itself shape index in'.1 i
within-itself _ _ in' = absurd in'

-- Each index leads to itself.
pub broadcast_index-itself : (shape index : List ℕ) → IsIndex shape index → broadcast_index shape index ≡ index
broadcast_index-itself shape index in' =
    ap (λ n. within_axes shape (drop (n - length shape) index)) (length-index shape index in') ∙ ap (λ k. within_axes shape (drop k index)) (none-beyond shape) ∙ within-itself shape index in'

-- ---- the index to which an index of a larger shape leads

number-within : (m n k : ℕ) → stretches m n ≡ true → k < n → (if m == 1 then 0 else k) < m
number-within m n k can below =
    elim (m == 1) as (λ t. (m == 1) ≡ t → ((m == n) || t) ≡ true → (if t then 0 else k) < m) [
      | true ↦ λ one can. omega (arith, eqb-true m 1 one)
      | false ↦ λ other can. grind (arith, eqb-true m n)
    ] refl can

IsIndex-within : (shape target index : List ℕ) → all_stretch shape target ≡ true → IsIndex target index → IsIndex shape (within_axes shape index)
IsIndex-within [] [] [] all in' = tt
IsIndex-within [] (n ∷ target) index all in' = absurd (false≢true all)
IsIndex-within (m ∷ shape) [] index all in' = absurd (false≢true all)
IsIndex-within (m ∷ shape) (n ∷ target) (k ∷ index) all in' =
    let can = and_parts (stretches m n) (all_stretch shape target) all in
    (number-within m n k can.0 in'.0, IsIndex-within shape target index can.1 in'.1)
IsIndex-within _ _ _ all in' = absurd in'

-- An index of a target with `more` new axes leads to an index of the shape.
IsIndex-behind : (more : ℕ) (shape target index : List ℕ) → all_stretch (replicate more 1 ++ shape) target ≡ true → IsIndex target index → IsIndex shape (within_axes shape (drop more index))
IsIndex-behind zero shape target index all in' = IsIndex-within shape target index all in'
IsIndex-behind (suc more) shape [] index all in' = absurd (false≢true all)
IsIndex-behind (suc more) shape (n ∷ target) [] all in' = absurd in'
IsIndex-behind (suc more) shape (n ∷ target) (k ∷ index) all in' =
    IsIndex-behind more shape target index (and_parts (stretches 1 n) (all_stretch (replicate more 1 ++ shape) target) all).1 in'.1

pub broadcast_index-is : (shape target index : List ℕ) → IsIndex target index → broadcast_index shape index ≡ within_axes shape (drop (length target - length shape) index)
broadcast_index-is shape target index in' = ap (λ n. within_axes shape (drop (n - length shape) index)) (length-index target index in')

pub IsIndex-broadcast : (shape target index : List ℕ) → can_stretch shape target ≡ true → IsIndex target index → IsIndex shape (broadcast_index shape index)
IsIndex-broadcast shape target index can in' =
    rw (broadcast_index-is shape target index in') (IsIndex-behind (length target - length shape) shape target index can in')

-- An array that is stretched to its own shape is unchanged.
pub stretched-self : (l : Layout) → view_through (offsets l) l.shape l.shape (broadcast_index l.shape) ≡ offsets l
unfolding offsets
stretched-self l =
    same_on_indexes l.shape (λ index. get_or (offsets l) (rank l.shape (broadcast_index l.shape index)) 0) (λ index. natural (address l index))
    (λ index in'. ap (λ j. get_or (offsets l) (rank l.shape j) 0) (broadcast_index-itself l.shape index in') ∙ get_or-offsets l index 0 in')

pub stretched-ok : (shape target : List ℕ) → can_stretch shape target ≡ true → stretched shape target ≡ Ok (record { shape = target; leads = broadcast_index shape })
unfolding stretched
stretched-ok shape target can = rw can
