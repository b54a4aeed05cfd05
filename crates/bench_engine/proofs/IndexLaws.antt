-- Index lists with names of arrays.
use Rattle.std.proofs.Common.{◌≡◌, ◌<◌, ◌≤◌, ◌+◌, ◌*◌, ◌&&◌, ℕ, zero, suc, true, false, nat_le, List, [], ◌∷◌, ◌++◌, length, map, take, get_or, slice_index, Some, refl, sym, ap, ◌∙◌, subst, All, Result, Ok, Err, arith}
use Rattle.bench_engine.proofs.Words.{Contains, list_all, le-leb, lt-leb, and_parts, take_more, length-map, map_push, All-map, Contains-get_or, list_all-append, map-map, Refusal, TooLarge, item_from, item_size, IndexItem, Layout, count, indexes, rank, length-indexes, rank-lt, get_or-indexes, index_at, length-offsets, offsets, max_bytes, view_through, IndexArray, indexed, Planned, IsPlanOf, GivesPlan, index_array_of, index_item_of, index_items, item_number, Items, State, is_bound, buffer_of, descr_of, addresses, read, start_at, Shows, ArrayRef, offsets-at, View, Array, names_in_item, names_in_index, by_items, array_by_items, gathered, viewed}
use Rattle.bench_engine.specs.NewArrayLaws.{passed}

-- ---- names that are bound

pub all-bound : (s : State) (item : IndexItem (List ℕ)) (index : List (IndexItem (List ℕ))) → list_all (is_bound s) (names_in_index (item ∷ index)) ≡ (list_all (is_bound s) (names_in_item item) && list_all (is_bound s) (names_in_index index))
all-bound s item index = list_all-append (is_bound s) (names_in_item item) (names_in_index index)

-- all names are bound if those in each item are
pub bound-in_each : (s : State) (index : List (IndexItem (List ℕ))) → list_all (λ item. list_all (is_bound s) (names_in_item item)) index ≡ list_all (is_bound s) (names_in_index index)
bound-in_each s [] = refl
bound-in_each s (item ∷ index) = ap (λ b. list_all (is_bound s) (names_in_item item) && b) (bound-in_each s index) ∙ sym (all-bound s item index)

-- ---- arrays in the place of names

pub array-is : (s : State) (a : Array) (r : ArrayRef) (indices : Items) → Shows s a r → indices.descr.now ≡ r.descr.now → indices.layout.now ≡ r.layout.now → indices.block.now ≡ r.block.now → index_array_of indices ≡ by_items s (Some a)
array-is s a r indices shows descr layout block = λ i. record {
  descr = (descr ∙ sym shows.descr) i;
  shape = (ap (λ (l : Layout). l.shape) layout ∙ shows.view.laid.shape) i;
  numbers = numbers i;
}
  where
    numbers : (index_array_of indices).numbers ≡ map item_number (read s a)
    numbers =
        (λ i. map (λ offset. item_number (item_from (descr i) (block i) offset)) (offsets (layout i)))
        ∙ sym (map-map item_number (item_from r.descr.now r.block.now) (offsets r.layout.now))
        ∙ ap (map item_number) (sym shows.reads)

-- one more item, with its array
pub item-added : (s : State) (items pushed : List (IndexItem Items)) (index : List (IndexItem (List ℕ))) (k : ℕ) (item : IndexItem Items) (d : IndexItem (List ℕ)) → pushed ≡ items ++ item ∷ [] → k < length index →
    index_items items ≡ map (array_by_items s) (take k index) → index_item_of item ≡ array_by_items s (get_or index k d) → index_items pushed ≡ map (array_by_items s) (take (k + 1) index)
item-added s items pushed index k item d put below before is =
    ap index_items put
    ∙ map_push index_item_of items item
    ∙ (λ i. before i ++ is i ∷ [])
    ∙ sym (map_push (array_by_items s) (take k index) (get_or index k d))
    ∙ ap (map (array_by_items s)) (sym (take_more index k d below))

-- the names in each item are bound
pub each-bound : (s : State) (index : List (IndexItem (List ℕ))) (k : ℕ) (d : IndexItem (List ℕ)) → list_all (is_bound s) (names_in_index index) ≡ true → k < length index → list_all (is_bound s) (names_in_item (get_or index k d)) ≡ true
each-bound s [] k d all below = absurd (omega arith)
each-bound s (item ∷ index) zero d all below = (and_parts (list_all (is_bound s) (names_in_item item)) (list_all (is_bound s) (names_in_index index)) (sym (all-bound s item index) ∙ all)).0
each-bound s (item ∷ index) (suc k) d all below = each-bound s index k d (and_parts (list_all (is_bound s) (names_in_item item)) (list_all (is_bound s) (names_in_index index)) (sym (all-bound s item index) ∙ all)).1 (omega arith)

-- ---- where a plan leads

-- a plan leads to items of its layout
pub plan-inside : (layout : Layout) (plan : Planned) (view : View) → IsPlanOf layout plan view → All (λ index. rank layout.shape (view.leads index) < length (offsets layout)) (indexes view.shape)
plan-inside layout plan view is k d below =
    let found = index_at view.shape k (omega (arith, length-indexes view.shape)) in
    let here : get_or (indexes view.shape) k d ≡ found.0 = ap (λ r. get_or (indexes view.shape) r d) (sym found.2) ∙ get_or-indexes view.shape found.0 d found.1 in
    rw here (omega (arith, length-offsets layout, rank-lt layout.shape (view.leads found.0) (is.leads found.0 found.1)))

pub plan-counted : (layout : Layout) (plan : Planned) (view : View) → IsPlanOf layout plan view → length plan.offsets ≡ count plan.shape
plan-counted layout plan view is = ap length is.places ∙ length-map (indexes view.shape) (λ index. slice_index (offsets layout) (rank layout.shape (view.leads index))) ∙ length-indexes view.shape ∙ ap count (sym is.shape)

module _ (s : State) (a : Array) (r : ArrayRef) (shows : Shows s a r) (plan : Planned) (view : View) (is : IsPlanOf r.layout.now plan view) where
  counted : length (offsets r.layout.now) ≡ length a.places
  counted = ap length shows.view.laid.places ∙ length-map a.places (λ place. item_size (buffer_of s a).descr * place + start_at (buffer_of s a).descr a.path)

  inside : All (λ index. rank a.shape (view.leads index) < length a.places) (indexes view.shape)
  inside = λ k d below.
      let index : List ℕ = get_or (indexes view.shape) k d in
      let here : rank r.layout.now.shape (view.leads index) < length (offsets r.layout.now) = plan-inside r.layout.now plan view is k d below in
      subst (λ (n : ℕ). rank a.shape (view.leads index) < n) counted (subst (λ (l : List ℕ). rank l (view.leads index) < length (offsets r.layout.now)) shows.view.laid.shape here)

  pub plan-addresses : plan.offsets ≡ addresses s (viewed a view)
  plan-addresses =
      is.places ∙ (λ j. view_through (shows.view.laid.places j) (shows.view.laid.shape j) view.shape view.leads)
      ∙ offsets-at (item_size (buffer_of s a).descr) (start_at (buffer_of s a).descr a.path) a.places a.shape view.leads (indexes view.shape) inside

  pub plan-among : All (Contains a.places) (viewed a view).places
  plan-among = All-map (Contains a.places) (λ index. slice_index a.places (rank a.shape (view.leads index))) (indexes view.shape)
      (λ k d below. contains a.places (rank a.shape (view.leads (get_or (indexes view.shape) k d))) (inside k d below))
    where
      contains : (xs : List ℕ) (k : ℕ) → k < length xs → Contains xs (slice_index xs k)
      contains xs k below = Contains-get_or xs k 0 below

-- ---- the items that are gathered

pub given-plan : (layout : Layout) (plan : Planned) (there : Result View Refusal) → GivesPlan layout (Ok plan) there → (view : View) × (there ≡ Ok view) × IsPlanOf layout plan view
given-plan layout plan (Ok view) is = (view, refl, is)
given-plan layout plan (Err e) is = absurd is

pub gathered-bad : (s : State) (a : Array) (index : List (IndexItem (List ℕ))) (e : Refusal) → indexed a.shape (map (array_by_items s) index) ≡ Err e → gathered s a index ≡ Err e
unfolding gathered
gathered-bad s a index e bad = rw bad refl

pub gathered-large : (s : State) (a : Array) (index : List (IndexItem (List ℕ))) (view : View) → indexed a.shape (map (array_by_items s) index) ≡ Ok view → nat_le (count view.shape * item_size (descr_of s a)) max_bytes ≡ false → gathered s a index ≡ Err TooLarge
unfolding gathered
gathered-large s a index view good large = rw (good, large) refl

pub gathered-done : (s : State) (a : Array) (index : List (IndexItem (List ℕ))) (view : View) → indexed a.shape (map (array_by_items s) index) ≡ Ok view → nat_le (count view.shape * item_size (descr_of s a)) max_bytes ≡ true → gathered s a index ≡ Ok view
unfolding gathered
gathered-done s a index view good small = rw (good, small) refl

-- a plan of at most 2^28 bytes, and one of more
module _ (s : State) (a : Array) (r : ArrayRef) (shows : Shows s a r) (index : List (IndexItem (List ℕ))) (items : List (IndexItem IndexArray)) (items-are : items ≡ map (array_by_items s) index) where
  there-is : {X : Result View Refusal} → indexed r.layout.now.shape items ≡ X → indexed a.shape (map (array_by_items s) index) ≡ X
  there-is is = (λ i. indexed (sym shows.view.laid.shape i) (sym items-are i)) ∙ is

  pub gathers : (plan : Planned) → GivesPlan r.layout.now (Ok plan) (indexed r.layout.now.shape items) → length plan.offsets * item_size r.descr.now ≤ max_bytes → GivesPlan r.layout.now (Ok plan) (gathered s a index)
  gathers plan gives few =
      let given = given-plan r.layout.now plan (indexed r.layout.now.shape items) gives in
      let counted : length plan.offsets ≡ count given.0.shape = plan-counted r.layout.now plan given.0 given.2 ∙ ap count given.2.shape in
      let small : count given.0.shape * item_size (descr_of s a) ≤ max_bytes = subst (λ n. n ≤ max_bytes) (λ i. counted i * item_size (sym shows.descr i)) few in
      subst (GivesPlan r.layout.now (Ok plan)) (sym (gathered-done s a index given.0 (there-is given.1) (le-leb (count given.0.shape * item_size (descr_of s a)) max_bytes small))) given.2

  pub refuses : (e : Refusal) → GivesPlan r.layout.now (Err e) (indexed r.layout.now.shape items) → GivesPlan r.layout.now (Err e) (gathered s a index)
  refuses e gives = passed (indexed r.layout.now.shape items) (gathered s a index) e (λ bad. gathered-bad s a index e (there-is bad)) gives

  pub too-large : (plan : Planned) → GivesPlan r.layout.now (Ok plan) (indexed r.layout.now.shape items) → max_bytes < length plan.offsets * item_size r.descr.now → gathered s a index ≡ Err TooLarge
  too-large plan gives many =
      let given = given-plan r.layout.now plan (indexed r.layout.now.shape items) gives in
      let counted : length plan.offsets ≡ count given.0.shape = plan-counted r.layout.now plan given.0 given.2 ∙ ap count given.2.shape in
      let large : max_bytes < count given.0.shape * item_size (descr_of s a) = subst (λ n. max_bytes < n) (λ i. counted i * item_size (sym shows.descr i)) many in
      gathered-large s a index given.0 (there-is given.1) (lt-leb (count given.0.shape * item_size (descr_of s a)) max_bytes large)
