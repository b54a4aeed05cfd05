-- Laws of array lookups, and of the places of arrays.
use Rattle.std.specs.Prelude.{◌≡◌, ◌+◌, ◌*◌, ◌/◌, ◌<◌, ℕ, suc, List, [], ◌∷◌, length, Option, Some, None, map, All}
use Rattle.std.proofs.Common.{zero, slice_index, refl, ap, ◌∙◌, arith}
use Rattle.name_store.specs.Words.{div-mul-add, mul_comm, offsets_of, rank, places_of}
use Rattle.name_store.specs.States.{State, Array}
use Rattle.name_store.specs.Shown.{Shows, Finds}
use Rattle.name_store.specs.declared.bound.ArrayRef.{ArrayRef}

-- If a lookup finds an array, the name is bound to one, and the result shows it.
pub found-array : (s : State) (found : Option Array) (r : ArrayRef) → Finds s found (Some r) → (array : Array) × (found ≡ Some array) × Shows s array r
found-array s None r nothing = absurd nothing
found-array s (Some array) r shows = (array, refl, shows)

-- the k-th offset is that of the k-th place
pub offset-at : (item start : ℕ) (places : List ℕ) (k : ℕ) → k < length places → slice_index (offsets_of item start places) k ≡ item * slice_index places k + start
offset-at item start [] k within = absurd (omega (arith, within))
offset-at item start (place ∷ places) zero within = refl
offset-at item start (place ∷ places) (suc k) within = offset-at item start places k (omega (arith, within))

-- `places_of` turns the offsets of a part of the items back into their places
pub places-offsets : (item start : ℕ) (places : List ℕ) → start < item → places_of item (offsets_of item start places) ≡ places
places-offsets item start [] less = refl
places-offsets item start (place ∷ places) less =
    λ i. (ap (λ at. (at + start) / item) (mul_comm item place) ∙ div-mul-add place item start less) i ∷ places-offsets item start places less i

pub offsets-at : (item start : ℕ) (places shape : List ℕ) (leads : List ℕ → List ℕ) (is : List (List ℕ)) → All (λ i. rank shape (leads i) < length places) is →
    map (λ i. slice_index (offsets_of item start places) (rank shape (leads i))) is ≡ offsets_of item start (map (λ i. slice_index places (rank shape (leads i))) is)
offsets-at item start places shape leads [] inside = refl
offsets-at item start places shape leads (i ∷ is) inside = λ j.
    offset-at item start places (rank shape (leads i)) (inside zero i (omega arith)) j
    ∷ offsets-at item start places shape leads is (λ k d below. inside (suc k) d (omega (arith, below))) j
