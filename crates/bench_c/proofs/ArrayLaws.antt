-- What is asked about the array of a name.
use Rattle.std.proofs.Common.{◌≡◌, ◌≤◌, ◌<◌, ◌*◌, ℕ, List, length, map, true, nat_le, Option, Some, None, Result, Ok, Err, IfOk, IfErr, if◌then◌else◌, refl, sym, ap, ◌∙◌}
use Rattle.bench_c.proofs.Facts.{le-leb, lt-leb}
use Rattle.bench_engine.specs.NewArrayLaws.{cast-answers}
use Rattle.bench_c.specs.Words.{array_of, can_cast, cast_item, Gives, Refusal, OutOfMemory, NoSuchCast, TooLarge, UnknownName, Descr, item_size, item_from, encode_item, Owned, owned_items, offsets, ok_or, Array, ArrayRef, State, Shows, Finds, find_array, count, max_bytes, flat_map}
use Rattle.bench_c.specs.Arrays.{array_called, bytes_as, items_called, numbers_called}
use Rattle.bench_c.specs.inside.Arrays.{Looks, in_form}
use Rattle.bench_c.specs.declared.asked.Form.{Form}
use Rattle.bench_c.specs.declared.asked.Form.TheVariants.{Own, Number}

-- ---- lookups

pub called-long : (s : State) (name : List ℕ) → 32 < length name → array_called name s ≡ Err UnknownName
unfolding array_called
called-long s name long = rw (lt-leb (length name) 32 long) refl

pub called-short : (s : State) (name : List ℕ) → length name ≤ 32 → array_called name s ≡ array_of s name
unfolding array_called
called-short s name short = rw (le-leb (length name) 32 short) refl

found-one : (s : State) (name : List ℕ) (r : ArrayRef) (there : Option Array) → length name ≤ 32 → find_array s.names name ≡ there → Finds s there (Some r) → Looks s (array_called name s) (Ok r)
found-one s name r (Some array) short is shows = (array, called-short s name short ∙ ap (λ o. ok_or o UnknownName) is, shows)
found-one s name r None short is never = absurd never

pub looks-found : (s : State) (name : List ℕ) (r : ArrayRef) → length name ≤ 32 → Finds s (find_array s.names name) (Some r) → Looks s (array_called name s) (Ok r)
looks-found s name r short shows = found-one s name r (find_array s.names name) short refl shows

found-none : (s : State) (name : List ℕ) (there : Option Array) → length name ≤ 32 → find_array s.names name ≡ there → Finds s there None → array_called name s ≡ Err UnknownName
found-none s name (Some array) short is never = absurd never
found-none s name None short is _ = called-short s name short ∙ ap (λ o. ok_or o UnknownName) is

pub looks-none : (s : State) (name : List ℕ) → length name ≤ 32 → Finds s (find_array s.names name) None → array_called name s ≡ Err UnknownName
looks-none s name short none = found-none s name (find_array s.names name) short refl none

-- ---- what is asked about the array, if it is not found

pub form-refused : (form : Form) (s : State) (name : List ℕ) (e : Refusal) → array_called name s ≡ Err e → in_form form name s ≡ Err e
unfolding items_called numbers_called
form-refused Own s name e bad = rw bad refl
form-refused Number s name e bad = rw bad refl

-- ---- the bytes of items

pub bytes-given : (s : State) (a : Array) (r : ArrayRef) (descr : Descr) (result : Result Owned Refusal) → Shows s a r → IfOk result (λ o. o.descr ≡ descr) →
    IfOk result (λ o. map (item_from descr o.block) (offsets o.layout) ≡ map (λ offset. cast_item r.descr.now descr (item_from r.descr.now r.block.now offset)) (offsets r.layout.now)) →
    IfOk result (λ o. o.block ≡ flat_map (encode_item o.descr) (owned_items o)) → IfOk result (λ _. can_cast r.descr.now descr ≡ true) → IfOk result (λ _. count r.layout.now.shape * item_size descr ≤ max_bytes) →
    IfErr result (λ e. e ≡ (if can_cast r.descr.now descr then (if nat_le (count r.layout.now.shape * item_size descr) max_bytes then OutOfMemory else TooLarge) else NoSuchCast)) → Gives (λ o. o.block) result (bytes_as descr s a)
unfolding bytes_as
bytes-given s a r descr (Ok o) shows typed items encoded can few refused =
    cast-answers (λ o. o.block) (flat_map (encode_item descr)) s a r descr (Ok o) shows made can few tt
  where
    made : flat_map (encode_item descr) (map (λ offset. cast_item r.descr.now descr (item_from r.descr.now r.block.now offset)) (offsets r.layout.now)) ≡ o.block
    made =
        ap (flat_map (encode_item descr)) (sym items)
        ∙ (λ i. flat_map (encode_item (sym typed i)) (map (item_from (sym typed i) o.block) (offsets o.layout)))
        ∙ sym encoded
bytes-given s a r descr (Err e) shows typed items encoded can few refused =
    cast-answers (λ o. o.block) (flat_map (encode_item descr)) s a r descr (Err e) shows tt tt tt refused
