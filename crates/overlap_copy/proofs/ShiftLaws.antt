-- Items that are all moved by the same number of bytes, in the order of their addresses.
use Rattle.std.proofs.Common.{◌≡◌, ◌+◌, ◌-◌, ◌<◌, ◌≤◌, ℕ, ℤ, pos, ◌+ℤ◌, ◌*ℤ◌, ◌≤ℤ◌, List, [], ◌∷◌, ◌++◌, map, length, get_or, All, refl, sym, ap, subst, ◌∙◌, arith, length-append, get_or-append-add, nat_abs}
use Rattle.overlap_copy.proofs.Words.{flat_map, *ℤ_comm, *ℤ-zero, +ℤ_idr, ints, length-map, get_or-map, map-append, get_or_append_left, get_or_default, same_lists, recursion_from_All, All-head, numbers_from, natural, position, EachWithin, not_negative, Run, max_bytes, LieWithin, address_at, IsIndex, distance, run_offsets, length-run_offsets, place-at, run-ends, lie-within, runs-within, All-back, All-front, Assigns, CanMoveRun, IsLine, IsTurned, LiesApart, LieApart, place_in, source, sources, source_run, MayCome}
use Rattle.overlap_copy.proofs.MovingLaws.{nested-front, nested-back, IsMoving, moving_on}
use Rattle.overlap_copy.proofs.TurnLaws.{turned_within, add-nothing}
use Rattle.overlap_copy.proofs.LineLaws.{first_place}

-- ---- a run, from its first item to its last and in reverse

pub lies-from : (len item : ℕ) (run : Run) → EachWithin len run.offset run.step item run.count → LieWithin (run.count ∷ []) (run.step ∷ []) run.offset len item
lies-from len item run within = record {
  from_zero = λ index in'. let one = single index in' in subst (λ z. pos 0 ≤ℤ z) (sym one.2) (within.each one.0 one.1).0;
  within = λ index in'. let one = single index in' in subst (λ z. (z +ℤ pos item) ≤ℤ pos len) (sym one.2) (within.each one.0 one.1).1;
}
  where
    single : (index : List ℕ) → IsIndex (run.count ∷ []) index → (k : ℕ) × (k < run.count) × (address_at (run.step ∷ []) run.offset index ≡ position run.offset run.step k)
    single [] in' = absurd in'
    single (k ∷ []) in' = (k, in'.0, add-nothing (pos run.offset) (run.step *ℤ pos k) (pos k *ℤ run.step) (*ℤ_comm run.step (pos k)))
    single (k ∷ j ∷ index) in' = absurd in'.1

pub back-line : (run back : Run) → IsTurned run back → IsLine max_bytes 1 run → IsLine max_bytes 1 back
back-line run back t line = record {
  two = omega (arith, line.two, t.count);
  few = omega (arith, line.few, t.count);
  lies = lies-from max_bytes 1 back (turned_within max_bytes 1 run back t (lie-within max_bytes 1 run line.lies));
}

pub one-within : (len width : ℕ) (run : Run) → 1 ≤ run.count → EachWithin len run.offset run.step width run.count → run.offset + width ≤ len
one-within len width run some within =
    let first = place-at len width run 0 within (omega (arith, some)) in
    let ends = run-ends len width run within 0 0 (omega (arith, some, length-run_offsets run)) in
    omega (arith, ends, first, first_place run)

pub one-offset : (run : Run) → run.count ≡ 1 → run_offsets run ≡ run.offset ∷ []
one-offset run single =
    ap (λ n. map natural (numbers_from (pos run.offset) run.step n)) single
    ∙ ap (λ z. natural (pos run.offset +ℤ z) ∷ []) (*ℤ-zero run.step)
    ∙ ap (λ z. natural z ∷ []) (+ℤ_idr (pos run.offset))

-- ---- where the items of a run come from

moved-place : (at to from : ℕ) (z p q : ℤ) → to ≤ at + from → pos 0 ≤ℤ (pos at +ℤ z) → to ≤ nat_abs (pos at +ℤ z) + from → nat_abs (pos (at + from - to) +ℤ z) ≡ nat_abs (pos at +ℤ z) + from - to
moved-place at to from z p q low none low' =
    let there = not_negative (pos at +ℤ z) none in
    let sum = together at to from z (nat_abs (pos at +ℤ z)) low there low' in
    ap nat_abs sum
  where
    together : (at to from : ℕ) (z : ℤ) (n : ℕ) → to ≤ at + from → pos n ≡ pos at +ℤ z → to ≤ n + from → pos (at + from - to) +ℤ z ≡ pos (n + from - to)
    together at to from z n low is low' = omega (arith, ints, low, is, low')

module _ (len width to from : ℕ) (run : Run) (some : 1 ≤ run.count) (within : EachWithin len run.offset run.step width run.count) (come : MayCome len width to from (run_offsets run)) where
  place-of : (k : ℕ) → k < run.count → get_or (run_offsets run) k 0 ≡ place_in run k
  place-of k below = place-at len width run k within below

  listed : (k : ℕ) → k < run.count → k < length (run_offsets run)
  listed k below = omega (arith, below, length-run_offsets run)

  pub low-first : to ≤ run.offset + from
  low-first = omega (arith, come.low 0 0 (listed 0 (omega (arith, some))), place-of 0 (omega (arith, some)), first_place run)

  source-place : (k : ℕ) → k < run.count → place_in (source_run to from run) k ≡ source to from (place_in run k)
  source-place k below =
      moved-place run.offset to from (pos k *ℤ run.step) (pos 0) (pos 0) low-first (within.each k below).0 (omega (arith, come.low k 0 (listed k below), place-of k below))

  source-low : (k : ℕ) → k < run.count → pos 0 ≤ℤ position (source to from run.offset) run.step k
  source-low k below =
      let there = not_negative (position run.offset run.step k) (within.each k below).0 in
      sum run.offset (pos k *ℤ run.step) (place_in run k) low-first there (omega (arith, come.low k 0 (listed k below), place-of k below))
    where
      sum : (at : ℕ) (z : ℤ) (n : ℕ) → to ≤ at + from → pos n ≡ pos at +ℤ z → to ≤ n + from → pos 0 ≤ℤ (pos (at + from - to) +ℤ z)
      sum at z n low is low' = omega (arith, ints, low, is, low')

  source-each : (limit item : ℕ) → All (λ offset. source to from offset + item ≤ limit) (run_offsets run) → EachWithin limit (source to from run.offset) run.step item run.count
  source-each limit item ends = record {
    each = λ k below.
        let low = source-low k below in
        let there = not_negative (position (source to from run.offset) run.step k) low in
        let end = ends k 0 (listed k below) in
        (low, high (position (source to from run.offset) run.step k) (place_in (source_run to from run) k) there (omega (arith, end, source-place k below, ap (source to from) (place-of k below))));
  }
    where
      high : (z : ℤ) (n : ℕ) → pos n ≡ z → n + item ≤ limit → (z +ℤ pos item) ≤ℤ pos limit
      high z n is low = omega (arith, ints, is, low)

  pub source-within : EachWithin len (source to from run.offset) run.step width run.count
  source-within = source-each len width come.sources_are

  pub source-lies : LieWithin (run.count ∷ []) (run.step ∷ []) (source to from run.offset) max_bytes 1
  source-lies = lies-from max_bytes 1 (source_run to from run) (source-each max_bytes 1 come.begin)

  pub source-offsets : run_offsets (source_run to from run) ≡ sources to from (run_offsets run)
  source-offsets =
      same_lists (run_offsets (source_run to from run)) (sources to from (run_offsets run)) (length-run_offsets (source_run to from run) ∙ sym (length-run_offsets run) ∙ sym (length-map (run_offsets run) (source to from))) (λ k d below.
      let inside : k < run.count = omega (arith, below, length-run_offsets (source_run to from run)) in
      get_or_default (run_offsets (source_run to from run)) k d 0 below
      ∙ place-at len width (source_run to from run) k source-within inside
      ∙ source-place k inside
      ∙ ap (source to from) (sym (place-of k inside))
      ∙ sym (get_or-map (source to from) (run_offsets run) k 0 d (listed k inside)))

-- ---- fewer items

at-front : (xs ys : List ℕ) (k : ℕ) → k < length xs → (k < length (xs ++ ys)) × (get_or (xs ++ ys) k 0 ≡ get_or xs k 0)
at-front xs ys k below = (omega (arith, below, length-append xs ys), get_or_append_left xs ys 0 k below)

at-back : (xs ys : List ℕ) (k d : ℕ) → k < length ys → (length xs + k < length (xs ++ ys)) × (get_or (xs ++ ys) (length xs + k) d ≡ get_or ys k d)
at-back xs ys k d below = (omega (arith, below, length-append xs ys), get_or-append-add xs ys k d)

pub come-front : (len width to from : ℕ) (xs ys : List ℕ) → MayCome len width to from (xs ++ ys) → MayCome len width to from xs
come-front len width to from xs ys come = record {
  few = omega (arith, come.few, length-append xs ys);
  targets = All-front (λ o. o + width ≤ len) xs ys come.targets;
  low = All-front (λ o. to ≤ o + from) xs ys come.low;
  sources_are = All-front (λ o. source to from o + width ≤ len) xs ys come.sources_are;
  begin = All-front (λ o. source to from o + 1 ≤ max_bytes) xs ys come.begin;
  nested = nested-front xs ys width come.nested;
  unread = λ j k before below.
      let first = at-front xs ys j (omega (arith, before, below)) in
      let second = at-front xs ys k below in
      subst (λ a. width ≤ distance (source to from (get_or xs k 0)) a) first.1 (subst (λ b. width ≤ distance (source to from b) (get_or (xs ++ ys) j 0)) second.1 (come.unread j k before second.0));
}

pub come-back : (len width to from : ℕ) (xs ys : List ℕ) → MayCome len width to from (xs ++ ys) → MayCome len width to from ys
come-back len width to from xs ys come = record {
  few = omega (arith, come.few, length-append xs ys);
  targets = All-back (λ o. o + width ≤ len) xs ys come.targets;
  low = All-back (λ o. to ≤ o + from) xs ys come.low;
  sources_are = All-back (λ o. source to from o + width ≤ len) xs ys come.sources_are;
  begin = All-back (λ o. source to from o + 1 ≤ max_bytes) xs ys come.begin;
  nested = nested-back xs ys width come.nested;
  unread = λ j k before below.
      let first = at-back xs ys j 0 (omega (arith, before, below)) in
      let second = at-back xs ys k 0 below in
      subst (λ a. width ≤ distance (source to from (get_or ys k 0)) a) first.1 (subst (λ b. width ≤ distance (source to from b) (get_or (xs ++ ys) (length xs + j) 0)) second.1 (come.unread (length xs + j) (length xs + k) (omega (arith, before)) second.0));
}

pub sources-end : (len width to from : ℕ) (offsets : List ℕ) → MayCome len width to from offsets → All (λ o. o + width ≤ len) (sources to from offsets)
sources-end len width to from offsets come = λ k d below.
    let low : k < length offsets = omega (arith, below, length-map offsets (source to from)) in
    subst (λ o. o + width ≤ len) (sym (get_or-map (source to from) offsets k 0 d low)) (come.sources_are k 0 low)

-- items that are written first do not overlap those that are read later
pub apart-later : (len width to from : ℕ) (xs ys : List ℕ) → MayCome len width to from (xs ++ ys) → LieApart width xs (sources to from ys)
apart-later len width to from xs ys come =
    recursion_from_All (λ at. LiesApart width at (sources to from ys)) xs (λ j d below.
    recursion_from_All (λ offset. width ≤ distance offset (get_or xs j d)) (sources to from ys) (λ k e inside.
    let low : k < length ys = omega (arith, inside, length-map ys (source to from)) in
    let second = at-back xs ys k 0 low in
    let far = come.unread j (length xs + k) (omega (arith, below)) second.0 in
    let is = get_or-map (source to from) ys k 0 e low in
    subst (λ o. width ≤ distance o (get_or xs j d)) (sym is)
    (subst (λ a. width ≤ distance (source to from (get_or ys k 0)) a) (get_or_append_left xs ys 0 j below ∙ get_or_default xs j 0 d below)
    (subst (λ b. width ≤ distance (source to from b) (get_or (xs ++ ys) j 0)) second.1 far))))

-- ---- run by run

module _ (len width to from : ℕ) (left rest : List Run) (run : Run) (is : left ≡ run ∷ rest) (some : All (λ r. 1 ≤ r.count) left) (begin : All (λ r. LieWithin (r.count ∷ []) (r.step ∷ []) r.offset max_bytes 1) left) (come : MayCome len width to from (flat_map run_offsets left)) where
  all-come : MayCome len width to from (run_offsets run ++ flat_map run_offsets rest)
  all-come = subst (λ l. MayCome len width to from (flat_map run_offsets l)) is come

  next-some : 1 ≤ run.count
  next-some = All-head (λ r. 1 ≤ r.count) run rest (subst (All (λ r. 1 ≤ r.count)) is some)

  next-come : MayCome len width to from (run_offsets run)
  next-come = come-front len width to from (run_offsets run) (flat_map run_offsets rest) all-come

  pub later-come : MayCome len width to from (flat_map run_offsets rest)
  later-come = come-back len width to from (run_offsets run) (flat_map run_offsets rest) all-come

  next-lies : LieWithin (run.count ∷ []) (run.step ∷ []) run.offset max_bytes 1
  next-lies = All-head (λ r. LieWithin (r.count ∷ []) (r.step ∷ []) r.offset max_bytes 1) run rest (subst (All (λ r. LieWithin (r.count ∷ []) (r.step ∷ []) r.offset max_bytes 1)) is begin)

  next-within : EachWithin len run.offset run.step width run.count
  next-within =
      All-head (λ r. EachWithin len r.offset r.step width r.count) run rest (subst (All (λ r. EachWithin len r.offset r.step width r.count)) is (runs-within len width (λ r. r) left begin come.targets))

  pub next-start : run.offset ≤ max_bytes
  next-start = omega (arith, one-within max_bytes 1 run next-some (lie-within max_bytes 1 run next-lies))

  pub next-low : to ≤ run.offset + from
  next-low = low-first len width to from run next-some next-within next-come

  -- the run can be moved
  pub next-can : (block : List ℕ) → length block ≡ len → CanMoveRun run (source_run to from run) width block
  next-can block long = record {
    lie = record {
      count = refl;
      to_in = subst (λ n. EachWithin n run.offset run.step width run.count) (sym long) next-within;
      from_in = subst (λ n. EachWithin n (source to from run.offset) run.step width run.count) (sym long) (source-within len width to from run next-some next-within next-come);
    };
    some = next-some;
    few = omega (arith, next-come.few, length-run_offsets run);
    step = refl;
    to_limit = next-lies;
    from_limit = source-lies len width to from run next-some next-within next-come;
    nested = next-come.nested;
  }

  -- the run is moved
  pub run-moved : (old block block' whole : List ℕ) → Assigns (run_offsets run) (run_offsets (source_run to from run)) width block block block' → IsMoving (flat_map run_offsets left) (sources to from (flat_map run_offsets left)) width old block whole → IsMoving (flat_map run_offsets rest) (sources to from (flat_map run_offsets rest)) width old block' whole
  run-moved old block block' whole moved m =
      let xs = run_offsets run in
      let ys = flat_map run_offsets rest in
      let here = subst (λ os. Assigns xs os width block block block') (source-offsets len width to from run next-some next-within next-come) moved in
      let both = subst (λ l. IsMoving (flat_map run_offsets l) (sources to from (flat_map run_offsets l)) width old block whole) is m in
      moving_on xs ys (sources to from xs) (sources to from ys) width old block block' whole (sym (length-map xs (source to from))) (apart-later len width to from xs ys all-come) here (subst (λ os. IsMoving (xs ++ ys) os width old block whole) (map-append (source to from) xs ys) both)
