-- The integers of an array, and the places that they name.
use Rattle.std.proofs.Common.{◌≡◌, ℕ, suc, ◌+◌, ◌-◌, ◌*◌, ◌<◌, ◌≤◌, Bool, true, false, cond, ◌&&◌, Ok, Err, List, [], ◌∷◌, ◌++◌, map, length, get_or, take, All, refl, sym, ap, subst, ◌∙◌, arith, ℤ, pos}
use Rattle.fancy_index.proofs.Words.{is_ok, IfOk, list_all, flat_map, mul-suc, false≢true, and_parts, same_lists, get_or-map, length-map, map-append, get_or_default, get_or-flat_map, list_all-append, length-flat_map-take, IndexOutOfRange, integer, number_in, item_size, item_at, signed_number, LieWithin, max_bytes, max_items, count, offsets, length-offsets, Run, run_offsets, length-run_offsets, is_place, Items, Form, word, words_along, IsNative, LiesIn, ArePlaces, place_of, named_places}
use Rattle.fancy_index.proofs.RunLaws.{packed-entry}

-- ---- a run of integers

pub length-words : (form : Form) (block : List ℕ) (run : Run) → length (words_along form block run) ≡ run.count
length-words form block run = length-map (run_offsets run) (λ offset. word form (item_at offset form.width block)) ∙ length-run_offsets run

pub below-count : (form : Form) (block : List ℕ) (run : Run) (k : ℕ) → k < length (words_along form block run) → k < run.count
below-count form block run k low = omega (arith, low, length-words form block run)

module _ (form : Form) (block : List ℕ) (run : Run) (k : ℕ) (low : k < run.count) where
  pub word-there : get_or (words_along form block run) k (pos 0) ≡ word form (item_at (get_or (run_offsets run) k 0) form.width block)
  word-there = get_or-map (λ offset. word form (item_at offset form.width block)) (run_offsets run) k 0 (pos 0) (omega (arith, low, length-run_offsets run))

  pub ends-there : LiesIn block form.width run → get_or (run_offsets run) k 0 + form.width ≤ length block
  ends-there lies = lies.ends k 0 (omega (arith, low, length-run_offsets run))

-- the runs of all items of an array
pub runs-lie : (array : Items) (runs : List Run) → count array.layout.now.shape ≤ max_items → flat_map run_offsets runs ≡ offsets array.layout.now → All (λ (run : Run). 1 ≤ run.count) runs → All (λ (run : Run). LieWithin (run.count ∷ []) (run.step ∷ []) run.offset max_bytes 1) runs →
    All (LiesIn array.block.now (item_size array.descr.now)) runs
runs-lie array runs few all some lie = λ k d below.
    let run = get_or runs k d in
    let room = length-flat_map-take run_offsets runs k d below in
    record {
      some = some k d below;
      few = omega (arith, few, room, ap length all, length-offsets array.layout.now, length-run_offsets run);
      limit = lie k d below;
      ends = λ j e inside.
          subst (λ offset. offset + item_size array.descr.now ≤ length array.block.now) (ap (λ l. get_or l (length (flat_map run_offsets (take k runs)) + j) e) (sym all) ∙ get_or-flat_map run_offsets runs k j d e below inside)
          (array.inside (length (flat_map run_offsets (take k runs)) + j) e (omega (arith, room, inside, ap length all)));
    }

-- adjacent integers in the machine's own format
module _ (form : Form) (width : ℕ) (block : List ℕ) (run : Run) (is : form.width ≡ width) (lies : LiesIn block form.width run) (native : IsNative form run) where
  entry : (k : ℕ) → k < run.count → get_or (run_offsets run) k 0 ≡ run.offset + width * k
  entry k low = (λ i. get_or (run_offsets (record { offset = run.offset; count = run.count; step = (native.step ∙ ap pos is) i })) k 0) ∙ packed-entry run.offset width run.count k low

  -- the last of them ends within the block
  pub native-end : run.offset + width * run.count ≤ length block
  native-end =
      let last = run.count - 1 in
      let low : last < run.count = omega (arith, lies.some) in
      let next : run.count ≡ suc last = omega (arith, lies.some) in
      let end : width * run.count ≡ width * last + width = ap (λ n. width * n) next ∙ mul-suc width last ∙ omega arith in
      omega (arith, end, ends-there form block run last low lies, entry last low, is)

  pub native-numbers : (numbers : List ℤ) → length numbers ≡ run.count → ((k : ℕ) → k < run.count → get_or numbers k (pos 0) ≡ signed_number width (item_at (run.offset + width * k) width block)) → numbers ≡ words_along form block run
  native-numbers numbers many each =
      same_lists numbers (words_along form block run) (many ∙ sym (length-words form block run)) (λ k d below.
      let low : k < run.count = omega (arith, below, many) in
      sym (get_or_default numbers k (pos 0) d below)
      ∙ each k low
      ∙ (λ i. integer (sym native.signed i) (sym is i) (number_in (sym native.order i) (sym is i) (item_at (sym (entry k low) i) (sym is i) block)))
      ∙ sym (word-there form block run k low)
      ∙ get_or_default (words_along form block run) k (pos 0) d (omega (arith, low, length-words form block run)))

-- ---- the places that numbers name

by_all : (test : Bool) (all places : List ℕ) → cond test (Ok all) (Err IndexOutOfRange) ≡ Ok places → (test ≡ true) × (places ≡ all)
by_all true all places is = (refl, subst (λ r. IfOk r (λ p. p ≡ all)) is refl)
by_all false all places is = absurd (false≢true (ap is_ok is))

pub places-named : (n : ℕ) (numbers : List ℤ) (places : List ℕ) → named_places n numbers ≡ Ok places → (list_all (is_place n) numbers ≡ true) × (places ≡ map (place_of n) numbers)
places-named n numbers places is = by_all (list_all (is_place n) numbers) (map (place_of n) numbers) places is

-- the places of some numbers and of the numbers after them
pub more_places : (n : ℕ) (done here : List ℤ) (are test : Bool) (places new : List ℕ) → ArePlaces n done are places → ArePlaces n here test new → ArePlaces n (done ++ here) (are && test) (places ++ new)
more_places n done here are test places new so_far is = (
  (λ i. so_far.0 i && is.0 i) ∙ sym (list_all-append (is_place n) done here),
  λ all. let both = and_parts are test all in (λ i. so_far.1 both.0 i ++ is.1 both.1 i) ∙ sym (map-append (place_of n) done here),
)
