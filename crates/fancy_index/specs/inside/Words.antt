-- Integers, read from bytes.
use Rattle.std.specs.Prelude.{◌≡◌, ◌+◌, ◌≤◌, ◌==◌, ◌||◌, ℕ, Bool, true, IsTrue, if◌then◌else◌, ℤ, pos, List, [], ◌∷◌, map, length, All, Result, Ok, Err}
use Rattle.std.specs.List.{list_all}
use Rattle.fancy_index.specs.Words.{Refusal, IndexOutOfRange, Descr, Little, integer, number_in, item_size, item_at, LieWithin, max_items, max_bytes, Run, run_offsets, natural, from_front, is_place}
use Rattle.fancy_index.specs.Sources.{number_from}
use Rattle.fancy_index.specs.declared.integers.Form.{Form}

-- the integer in the bytes of an item
abbrev pub word : Form → List ℕ → ℤ
word form item = integer form.signed form.width (number_in form.order form.width item)

-- items of this type are integers of this form, of 1, 2, 4 or 8 bytes
pub record AreWords (form : Form) (descr : Descr) : Type 0 where
  pub width : IsTrue (form.width == 1 || form.width == 2 || form.width == 4 || form.width == 8)
  pub size : item_size descr ≡ form.width
  pub read : (block : List ℕ) (offset : ℕ) → number_from descr block offset ≡ word form (item_at offset form.width block)

-- adjacent little-endian integers with a sign
pub record IsNative (form : Form) (run : Run) : Type 0 where
  pub signed : form.signed ≡ true
  pub order : form.order ≡ Little
  pub step : run.step ≡ pos form.width

-- the integers of a run of items
abbrev pub words_along : Form → List ℕ → Run → List ℤ
words_along form block run = map (λ offset. word form (item_at offset form.width block)) (run_offsets run)

-- a run of at least one item of `width` bytes, each of which lies in a block
pub record LiesIn (block : List ℕ) (width : ℕ) (run : Run) : Type 0 where
  pub some : 1 ≤ run.count
  pub few : run.count ≤ max_items
  pub limit : LieWithin (run.count ∷ []) (run.step ∷ []) run.offset max_bytes 1
  pub ends : All (λ offset. offset + width ≤ length block) (run_offsets run)

-- the place along an axis of n that a number names
abbrev pub place_of : ℕ → ℤ → ℕ
place_of n at = natural (from_front n at)

-- the places that numbers name, or the refusal if one of them is out of range
abbrev pub named_places : ℕ → List ℤ → Result (List ℕ) Refusal
named_places n numbers = if list_all (is_place n) numbers then Ok (map (place_of n) numbers) else Err IndexOutOfRange

-- `found` says whether a number names one of n places, and, if so, which
abbrev pub IsPlaceOf : ℕ → ℤ → Bool × ℕ → Type 0
IsPlaceOf n number found = (found.0 ≡ is_place n number) × (found.0 ≡ true → found.1 ≡ place_of n number)

-- `are` says whether all numbers name one of n places, and, if so, `places` are these
abbrev pub ArePlaces : ℕ → List ℤ → Bool → List ℕ → Type 0
ArePlaces n numbers are places = (are ≡ list_all (is_place n) numbers) × (are ≡ true → places ≡ map (place_of n) numbers)
