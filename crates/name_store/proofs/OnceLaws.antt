-- No two places of a writable array are equal.
use Rattle.std.proofs.Common.{◌≡◌, ◌≢◌, ◌+◌, ◌*◌, ◌/◌, ◌<◌, ℕ, List, length, IsTrue, sym, ap, ◌∙◌, slice_index, arith}
use Rattle.name_store.proofs.Words.{length-map, item_size, offsets, distance, places_of, LiesIn, start_at, array_at, Entry, Slot, offset-at}
use Rattle.name_store.proofs.PartLaws.{part-some}

pub no_place_twice : (s : Slot) (e : Entry) → LiesIn s e → IsTrue e.writable → (j k : ℕ) → j < k → k < length (array_at e).places → slice_index (array_at e).places j ≢ slice_index (array_at e).places k
no_place_twice s e lies free j k before within same =
    let item : ℕ = item_size s.descr in
    let start : ℕ = start_at s.descr e.path in
    let places : List ℕ = places_of e.item (offsets e.layout) in
    let first : slice_index (offsets e.layout) j ≡ item * slice_index places j + start = ap (λ (os : List ℕ). slice_index os j) lies.laid.places ∙ offset-at item start places j (omega (arith, before, within)) in
    let second : slice_index (offsets e.layout) k ≡ item * slice_index places k + start = ap (λ (os : List ℕ). slice_index os k) lies.laid.places ∙ offset-at item start places k within in
    let alike : slice_index (offsets e.layout) j ≡ slice_index (offsets e.layout) k = first ∙ ap (λ place. item * place + start) same ∙ sym second in
    let counted : length places ≡ length (offsets e.layout) = length-map (offsets e.layout) (λ offset. offset / e.item) in
    let inside : k < length places = within in
    let far = (lies.laid.nested free).apart j k before (omega (arith, inside, counted)) in
    let near : distance (slice_index (offsets e.layout) j) (slice_index (offsets e.layout) k) ≡ 0 = omega (arith, alike) in
    omega (arith, far, near, part-some s.descr s.is_whole.legal e.path lies.laid.part)
