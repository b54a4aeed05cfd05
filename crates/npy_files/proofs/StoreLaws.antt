-- Files in memory: what is found by a name, and also after a file is put there.
use Rattle.std.proofs.Common.{◌≡◌, ◌<◌, ◌≤◌, ◌+◌, ℕ, zero, suc, Bool, true, false, List, [], ◌∷◌, ◌++◌, map, length, refl, sym, ap, ◌∙◌, cond, not, Some, None, slice_set, get_or, arith, position, is_some, nat_lt}
use Rattle.npy_files.proofs.Words.{slice_cmp, texts_ties, nat_list_cmp_total, get, insert, find, from_entries, get-from_entries, get-insert, same_map, from_entries_push, IsAntisymmetric, nat_cmp-IsAntisymmetric, slice_cmp-IsAntisymmetric, nat_cmp, eq_by_cmp, position_or_len, true≢false, ltb-false, bytes_eq-Decides, map-append, position-Some, StoredFile, named_bytes, is_called, files_of}

abbrev pub by_name : List ℕ → List ℕ → Bool
by_name a b = eq_by_cmp (slice_cmp nat_cmp) a b

-- the test in the code is that of the map
called-tie : (q : List ℕ) (f : StoredFile) (b : Bool) → is_called q f ≡ b → by_name q f.name.items ≡ b
called-tie q f b e = sym (texts_ties q f.name.items) ∙ e

pub called-same : (q : List ℕ) (f : StoredFile) → is_called q f ≡ true → q ≡ f.name.items
called-same q f e = (bytes_eq-Decides q f.name.items).0 e

-- the first file of this name
pub record IsFirst (q : List ℕ) (files : List StoredFile) (k : ℕ) (none : StoredFile) : Type 0 where
  pub below : k < length files
  pub called : is_called q (get_or files k none) ≡ true
  pub before : (j : ℕ) → j < k → is_called q (get_or files j none) ≡ false

first : (q : List ℕ) (files : List StoredFile) (k : ℕ) (none : StoredFile) → position (is_called q) files ≡ Some k → IsFirst q files k none
first q files k none e = let found = position-Some (is_called q) files k none e in record { below = found.0; called = found.1; before = found.2 }

later : (q : List ℕ) (f : StoredFile) (files : List StoredFile) (k : ℕ) (none : StoredFile) → IsFirst q (f ∷ files) (suc k) none → IsFirst q files k none
later q f files k none is = record { below = (let b = is.below in omega arith); called = is.called; before = λ j l. is.before (suc j) (omega arith) }

find-first : (q : List ℕ) (files : List StoredFile) (k : ℕ) (none : StoredFile) → IsFirst q files k none → find (slice_cmp nat_cmp) q (map named_bytes files) ≡ Some (get_or files k none).bytes.items
find-first q [] k none is = absurd (let b = is.below in omega arith)
find-first q (f ∷ files) zero none is = ap (λ t. cond t (Some f.bytes.items) (find (slice_cmp nat_cmp) q (map named_bytes files))) (called-tie q f true is.called)
find-first q (f ∷ files) (suc k) none is =
    ap (λ t. cond t (Some f.bytes.items) (find (slice_cmp nat_cmp) q (map named_bytes files))) (called-tie q f false (is.before 0 (omega arith)))
    ∙ find-first q files k none (later q f files k none is)

find-none : (q : List ℕ) (files : List StoredFile) → length files ≤ position_or_len (is_called q) files → find (slice_cmp nat_cmp) q (map named_bytes files) ≡ None
find-none q [] = λ none. refl
find-none q (f ∷ files) =
    elim (is_called q f) as (λ t. is_called q f ≡ t → length (f ∷ files) ≤ cond (not t) (1 + position_or_len (is_called q) files) 0 → find (slice_cmp nat_cmp) q (map named_bytes (f ∷ files)) ≡ None) [
      | true ↦ λ e past. absurd (omega (arith, past))
      | false ↦ λ e past. ap (λ t. cond t (Some f.bytes.items) (find (slice_cmp nat_cmp) q (map named_bytes files))) (called-tie q f false e) ∙ find-none q files (omega (arith, past))
    ] refl

pub absent : (q : List ℕ) (files : List StoredFile) → position (is_called q) files ≡ None → get (files_of files) q ≡ None
absent q files =
    elim (nat_lt (position_or_len (is_called q) files) (length files)) as (λ t. nat_lt (position_or_len (is_called q) files) (length files) ≡ t → cond t (Some (position_or_len (is_called q) files)) None ≡ None → get (files_of files) q ≡ None) [
      | true ↦ λ e n. absurd (not_None _ n)
      | false ↦ λ e n. get-from_entries nat_list_cmp_total (map named_bytes files) q ∙ find-none q files (ltb-false _ _ e)
    ] refl
  where
    not_None : (k : ℕ) → Some k ≡ None → ⊥
    not_None k e = true≢false (ap is_some e)

pub present : (q : List ℕ) (files : List StoredFile) (k : ℕ) (none : StoredFile) → position (is_called q) files ≡ Some k → get (files_of files) q ≡ Some (get_or files k none).bytes.items
present q files k none e = get-from_entries nat_list_cmp_total (map named_bytes files) q ∙ find-first q files k none (first q files k none e)

-- a repeated test, and two tests that exclude each other
shadowed : {A : Type 0} (b : Bool) (x y z : A) → cond b x z ≡ cond b x (cond b y z)
shadowed true x y z = refl
shadowed false x y z = refl

swapped : {A : Type 0} (a b : Bool) (x y z : A) → (a ≡ true → b ≡ true → ⊥) → cond a x (cond b y z) ≡ cond b y (cond a x z)
swapped true true x y z apart = absurd (apart refl refl)
swapped true false x y z apart = refl
swapped false b x y z apart = refl

pub tied_same : (a b : List ℕ) → eq_by_cmp (slice_cmp nat_cmp) a b ≡ true → a ≡ b
tied_same a b e = (bytes_eq-Decides a b).0 (texts_ties a b ∙ e)

pub ties : (a b : List ℕ) → a ≡ b → by_name a b ≡ true
ties a b e = sym (texts_ties a b) ∙ (bytes_eq-Decides a b).1 e

-- what is found by any name, once the first file of a name has other bytes
find-put : (q r : List ℕ) (files : List StoredFile) (k : ℕ) (none new : StoredFile) → IsFirst q files k none → new.name ≡ (get_or files k none).name → find (slice_cmp nat_cmp) r (map named_bytes (slice_set files k new)) ≡ cond (eq_by_cmp (slice_cmp nat_cmp) r q) (Some new.bytes.items) (find (slice_cmp nat_cmp) r (map named_bytes files))
find-put q r [] k none new is same = absurd (let b = is.below in omega arith)
find-put q r (f ∷ files) zero none new is same =
    let named : new.name.items ≡ q = ap (λ n. n.items) same ∙ sym (called-same q f is.called) in
    let before : f.name.items ≡ q = sym (called-same q f is.called) in
    let others = find (slice_cmp nat_cmp) r (map named_bytes files) in
    ap (λ n. cond (eq_by_cmp (slice_cmp nat_cmp) r n) (Some new.bytes.items) others) named
    ∙ shadowed (eq_by_cmp (slice_cmp nat_cmp) r q) (Some new.bytes.items) (Some f.bytes.items) others
    ∙ ap (λ n. cond (eq_by_cmp (slice_cmp nat_cmp) r q) (Some new.bytes.items) (cond (eq_by_cmp (slice_cmp nat_cmp) r n) (Some f.bytes.items) others)) (sym before)
find-put q r (f ∷ files) (suc k) none new is same =
    let rest = find-put q r files k none new (later q f files k none is) same in
    let others = find (slice_cmp nat_cmp) r (map named_bytes files) in
    ap (cond (eq_by_cmp (slice_cmp nat_cmp) r f.name.items) (Some f.bytes.items)) rest
    ∙ swapped (eq_by_cmp (slice_cmp nat_cmp) r f.name.items) (eq_by_cmp (slice_cmp nat_cmp) r q) (Some f.bytes.items) (Some new.bytes.items) others
    (λ a b. let one : q ≡ f.name.items = sym (tied_same r q b) ∙ tied_same r f.name.items a in
    true≢false (sym ((bytes_eq-Decides q f.name.items).1 one) ∙ is.before 0 (omega arith)))

pub exact : IsAntisymmetric (slice_cmp nat_cmp)
exact = slice_cmp-IsAntisymmetric nat_cmp-IsAntisymmetric

-- the files after one was overwritten
pub overwritten : (q : List ℕ) (files : List StoredFile) (k : ℕ) (none new : StoredFile) → position (is_called q) files ≡ Some k → new.name ≡ (get_or files k none).name → files_of (slice_set files k new) ≡ insert (files_of files) q new.bytes.items
overwritten q files k none new at same =
    same_map nat_list_cmp_total exact _ _ (λ r.
    get-from_entries nat_list_cmp_total (map named_bytes (slice_set files k new)) r
    ∙ find-put q r files k none new (first q files k none at) same
    ∙ ap (cond (eq_by_cmp (slice_cmp nat_cmp) r q) (Some new.bytes.items)) (sym (get-from_entries nat_list_cmp_total (map named_bytes files) r))
    ∙ sym (get-insert nat_list_cmp_total (files_of files) q new.bytes.items r))

-- the files after one was added
pub added : (files : List StoredFile) (new : StoredFile) → position (is_called new.name.items) files ≡ None → files_of (files ++ new ∷ []) ≡ insert (files_of files) new.name.items new.bytes.items
added files new none =
    ap from_entries (map-append named_bytes files (new ∷ []))
    ∙ from_entries_push nat_list_cmp_total exact (map named_bytes files) new.name.items new.bytes.items
    (sym (get-from_entries nat_list_cmp_total (map named_bytes files) new.name.items) ∙ absent new.name.items files none)
