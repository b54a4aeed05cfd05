-- Looking up, putting and removing names in a table.
use Rattle.std.proofs.Common.{◌≡◌, ◌+◌, ℕ, suc, Bool, true, false, List, [], ◌∷◌, take, drop, insert, map, refl, sym, ap, subst, ◌∙◌, cond, ◌||◌, not, Some, None, nat_eq, arith, ◌⊎◌, inl, inr}
use Rattle.name_store.proofs.Words.{or-false, same_from_decides, or_cases, or_left, or_right, AllByRecursion, list_any, position_or_len, take-append-drop, list_any-append, option_map, bytes_eq, nat_eq_equiv, bytes_eq-Decides, insert_entry, shift_remove_entry, lookup, keys_of, Array, find_array, put_array, without, is_in_use, array_at, named_array, Entry}

pub bytes_eq-sym : (xs ys : List ℕ) → bytes_eq xs ys ≡ bytes_eq ys xs
bytes_eq-sym xs ys =
    same_from_decides (bytes_eq xs ys) (bytes_eq ys xs) (bytes_eq-Decides xs ys) (λ is. sym ((bytes_eq-Decides ys xs).0 is), λ is. (bytes_eq-Decides ys xs).1 (sym is))

pub nat_itself : (n : ℕ) → nat_eq n n ≡ true
nat_itself n = (nat_eq_equiv).refl n

-- the test of keys tells whether a key is this name
abbrev pub TestsName : (List ℕ → Bool) → List ℕ → Type 0
TestsName test name = (k : List ℕ) → test k ≡ bytes_eq name k

module _ (test : List ℕ → Bool) (name : List ℕ) (is : TestsName test name) where
  flipped : (k : List ℕ) → bytes_eq k name ≡ test k
  flipped k = bytes_eq-sym k name ∙ sym (is k)

  pub find-lookup : (es : List (List ℕ × Entry)) → find_array (map named_array es) name ≡ option_map array_at (lookup test es)
  find-lookup [] = refl
  find-lookup (e ∷ es) =
      ap (λ t. cond t (Some (array_at e.1)) (find_array (map named_array es) name)) (flipped e.0)
      ∙ elim (test e.0) as (λ t. cond t (Some (array_at e.1)) (find_array (map named_array es) name) ≡ option_map array_at (cond t (Some e.1) (lookup test es))) [ true ↦ refl | false ↦ find-lookup es ]

  pub without-remove : (es : List (List ℕ × Entry)) → map named_array (shift_remove_entry test es) ≡ without (map named_array es) name
  without-remove [] = refl
  without-remove (e ∷ es) =
      elim (test e.0) as (λ t. map named_array (cond t es (e ∷ shift_remove_entry test es)) ≡ cond t (map named_array es) (named_array e ∷ without (map named_array es) name)) [ true ↦ refl | false ↦ ap (λ names. named_array e ∷ names) (without-remove es) ]
      ∙ ap (λ t. cond t (map named_array es) (named_array e ∷ without (map named_array es) name)) (sym (flipped e.0))

pub put-insert : (eq : List ℕ → List ℕ → Bool) (k : List ℕ) (v : Entry) → TestsName (eq k) k → (es : List (List ℕ × Entry)) →
    map named_array (insert_entry eq es k v) ≡ put_array (map named_array es) k (array_at v)
put-insert eq k v is [] = refl
put-insert eq k v is (e ∷ es) =
    elim (eq k e.0) as (λ t. eq k e.0 ≡ t → map named_array (cond t ((e.0, v) ∷ es) (e ∷ insert_entry eq es k v)) ≡ cond t ((k, array_at v) ∷ map named_array es) (named_array e ∷ put_array (map named_array es) k (array_at v))) [
      | true ↦ λ h. ap (λ (n : List ℕ). (n, array_at v) ∷ map named_array es) (sym ((bytes_eq-Decides k e.0).0 (sym (is e.0) ∙ h)))
      | false ↦ λ _. ap (λ names. named_array e ∷ names) (put-insert eq k v is es)
    ] refl
    ∙ ap (λ t. cond t ((k, array_at v) ∷ map named_array es) (named_array e ∷ put_array (map named_array es) k (array_at v))) (is e.0 ∙ bytes_eq-sym k e.0)

-- a property of all entries holds for one that is found, and for those that remain
pub all-lookup : (P : Entry → Type 0) (test : List ℕ → Bool) (es : List (List ℕ × Entry)) (v : Entry) → AllByRecursion (λ e. P e.1) es → lookup test es ≡ Some v → P v
all-lookup P test [] v all found = let no : ⊥ = cc in absurd no
all-lookup P test (e ∷ es) v all found =
    elim (test e.0) as (λ t. cond t (Some e.1) (lookup test es) ≡ Some v → P v) [
      | true ↦ λ h. let here : e.1 ≡ v = cc in subst P here all.0
      | false ↦ λ h. all-lookup P test es v all.1 h
    ] found

pub all-remove : (P : Entry → Type 0) (test : List ℕ → Bool) (es : List (List ℕ × Entry)) → AllByRecursion (λ e. P e.1) es → AllByRecursion (λ e. P e.1) (shift_remove_entry test es)
all-remove P test [] all = tt
all-remove P test (e ∷ es) all =
    elim (test e.0) as (λ t. AllByRecursion (λ (o : List ℕ × Entry). P o.1) (cond t es (e ∷ shift_remove_entry test es))) [ true ↦ all.1 | false ↦ (all.0, all-remove P test es all.1) ]

pub all-insert : (P : Entry → Type 0) (eq : List ℕ → List ℕ → Bool) (k : List ℕ) (v : Entry) (es : List (List ℕ × Entry)) → P v → AllByRecursion (λ e. P e.1) es → AllByRecursion (λ e. P e.1) (insert_entry eq es k v)
all-insert P eq k v [] new all = (new, tt)
all-insert P eq k v (e ∷ es) new all =
    elim (eq k e.0) as (λ t. AllByRecursion (λ (o : List ℕ × Entry). P o.1) (cond t ((e.0, v) ∷ es) (e ∷ insert_entry eq es k v))) [ true ↦ (new, all.1) | false ↦ (all.0, all-insert P eq k v es new all.1) ]

pub all-both : (P Q R : Entry → Type 0) → ((e : Entry) → P e → Q e → R e) → (es : List (List ℕ × Entry)) → AllByRecursion (λ e. P e.1) es → AllByRecursion (λ e. Q e.1) es → AllByRecursion (λ e. R e.1) es
all-both P Q R f [] p q = tt
all-both P Q R f (e ∷ es) p q = (f e.1 p.0 q.0, all-both P Q R f es p.1 q.1)

-- the buffer of each entry is in use
pub all-in_use : (es : List (List ℕ × Entry)) → AllByRecursion (λ e. is_in_use (map named_array es) e.1.number ≡ true) es
all-in_use es = within es (map named_array es) (λ q h. h)
  where
    within : (es : List (List ℕ × Entry)) (names : List (List ℕ × Array)) → ((q : ℕ) → is_in_use (map named_array es) q ≡ true → is_in_use names q ≡ true) → AllByRecursion (λ e. is_in_use names e.1.number ≡ true) es
    within [] names h = tt
    within (e ∷ es) names h = (h e.1.number (head e es), within es names (λ q later. h q (behind e es q later)))
      where
        head : (e : List ℕ × Entry) (es : List (List ℕ × Entry)) → is_in_use (map named_array (e ∷ es)) e.1.number ≡ true
        head e es = ap (λ t. t || is_in_use (map named_array es) e.1.number) (nat_itself e.1.number)

        behind : (e : List ℕ × Entry) (es : List (List ℕ × Entry)) (q : ℕ) → is_in_use (map named_array es) q ≡ true → is_in_use (map named_array (e ∷ es)) q ≡ true
        behind e es q later = elim (nat_eq e.1.number q) as (λ t. (t || is_in_use (map named_array es) q) ≡ true) [ true ↦ refl | false ↦ later ]

-- buffers that are in use after an array is put or removed
pub used-put : (names : List (List ℕ × Array)) (name : List ℕ) (array : Array) → is_in_use (put_array names name array) array.buffer ≡ true
used-put [] name array = ap (λ t. t || false) (nat_itself array.buffer)
used-put (e ∷ names) name array =
    elim (bytes_eq e.0 name) as (λ t. is_in_use (cond t ((name, array) ∷ names) (e ∷ put_array names name array)) array.buffer ≡ true) [
      | true ↦ ap (λ t. t || is_in_use names array.buffer) (nat_itself array.buffer)
      | false ↦ or_right (nat_eq e.1.buffer array.buffer) (is_in_use (put_array names name array) array.buffer) (used-put names name array)
    ]

-- the buffer of an array that is found is in use
pub found-used : (names : List (List ℕ × Array)) (name : List ℕ) (array : Array) → find_array names name ≡ Some array → is_in_use names array.buffer ≡ true
found-used [] name array found = let no : ⊥ = cc in absurd no
found-used (e ∷ names) name array found =
    elim (bytes_eq e.0 name) as (λ t. cond t (Some e.1) (find_array names name) ≡ Some array → is_in_use (e ∷ names) array.buffer ≡ true) [
      | true ↦ λ h. let here : e.1 ≡ array = cc in ap (λ t. t || is_in_use names array.buffer) (ap (λ (a : Array). nat_eq a.buffer array.buffer) here ∙ nat_itself array.buffer)
      | false ↦ λ h. or_right (nat_eq e.1.buffer array.buffer) (is_in_use names array.buffer) (found-used names name array h)
    ] found

-- and so is the buffer of an entry that is found
pub lookup-used : (test : List ℕ → Bool) (es : List (List ℕ × Entry)) (e : Entry) → lookup test es ≡ Some e → is_in_use (map named_array es) e.number ≡ true
lookup-used test es e was = all-lookup (λ x. is_in_use (map named_array es) x.number ≡ true) test es e (all-in_use es) was

-- a buffer that is in use after an array is put or removed was in use before, or it is the array's buffer
pub used-back-put : (names : List (List ℕ × Array)) (name : List ℕ) (array : Array) (q : ℕ) → is_in_use (put_array names name array) q ≡ true → (is_in_use names q ≡ true) ⊎ (nat_eq array.buffer q ≡ true)
used-back-put [] name array q used = inr (sym (or-false (nat_eq array.buffer q)) ∙ used)
used-back-put (e ∷ names) name array q used =
    elim (bytes_eq e.0 name) as (λ t. is_in_use (cond t ((name, array) ∷ names) (e ∷ put_array names name array)) q ≡ true → (is_in_use (e ∷ names) q ≡ true) ⊎ (nat_eq array.buffer q ≡ true)) [
      | true ↦ λ h. elim (or_cases (nat_eq array.buffer q) (is_in_use names q) h) [ inl own ↦ inr own | inr later ↦ inl (or_right (nat_eq e.1.buffer q) (is_in_use names q) later) ]
      | false ↦ λ h. elim (or_cases (nat_eq e.1.buffer q) (is_in_use (put_array names name array) q) h) [
        | inl here ↦ inl (or_left (nat_eq e.1.buffer q) (is_in_use names q) here)
        | inr later ↦ elim (used-back-put names name array q later) [ inl was ↦ inl (or_right (nat_eq e.1.buffer q) (is_in_use names q) was) | inr own ↦ inr own ]
      ]
    ] used

pub used-back-without : (names : List (List ℕ × Array)) (name : List ℕ) (q : ℕ) → is_in_use (without names name) q ≡ true → is_in_use names q ≡ true
used-back-without [] name q used = used
used-back-without (e ∷ names) name q used =
    elim (bytes_eq e.0 name) as (λ t. is_in_use (cond t names (e ∷ without names name)) q ≡ true → is_in_use (e ∷ names) q ≡ true) [
      | true ↦ λ h. or_right (nat_eq e.1.buffer q) (is_in_use names q) h
      | false ↦ λ h. elim (or_cases (nat_eq e.1.buffer q) (is_in_use (without names name) q) h) [
        | inl here ↦ or_left (nat_eq e.1.buffer q) (is_in_use names q) here
        | inr later ↦ or_right (nat_eq e.1.buffer q) (is_in_use names q) (used-back-without names name q later)
      ]
    ] used

-- a name that is inserted between others
module _ (names : List (List ℕ × Array)) (place : ℕ) (x : List ℕ × Array) (q : ℕ) where
  abbrev lies_in : List ℕ × Array → Bool
  lies_in entry = nat_eq entry.1.buffer q

  inserted-is : is_in_use (insert names place x) q ≡ (list_any lies_in (take place names) || (nat_eq x.1.buffer q || list_any lies_in (drop place names)))
  inserted-is = list_any-append lies_in (take place names) (x ∷ drop place names)

  split-is : is_in_use names q ≡ (list_any lies_in (take place names) || list_any lies_in (drop place names))
  split-is = ap (list_any lies_in) (sym (take-append-drop place names)) ∙ list_any-append lies_in (take place names) (drop place names)

  pub used-back-insert : is_in_use (insert names place x) q ≡ true → (is_in_use names q ≡ true) ⊎ (nat_eq x.1.buffer q ≡ true)
  used-back-insert used =
      elim (or_cases (list_any lies_in (take place names)) (nat_eq x.1.buffer q || list_any lies_in (drop place names)) (sym inserted-is ∙ used)) [
        | inl front ↦ inl (split-is ∙ or_left (list_any lies_in (take place names)) (list_any lies_in (drop place names)) front)
        | inr back ↦ elim (or_cases (nat_eq x.1.buffer q) (list_any lies_in (drop place names)) back) [
          | inl own ↦ inr own
          | inr later ↦ inl (split-is ∙ or_right (list_any lies_in (take place names)) (list_any lies_in (drop place names)) later)
        ]
      ]

  pub used-insert : nat_eq x.1.buffer q ≡ true → is_in_use (insert names place x) q ≡ true
  used-insert own =
      inserted-is
      ∙ or_right (list_any lies_in (take place names)) (nat_eq x.1.buffer q || list_any lies_in (drop place names)) (or_left (nat_eq x.1.buffer q) (list_any lies_in (drop place names)) own)

-- Binding a name and then unbinding it, and the other way round.

pub without-put : (names : List (List ℕ × Array)) (name : List ℕ) (array : Array) → find_array names name ≡ None → without (put_array names name array) name ≡ names
without-put [] name array none = ap (λ t. cond t [] ((name, array) ∷ [])) ((bytes_eq-Decides name name).1 refl)
without-put (e ∷ names) name array none =
    elim (bytes_eq e.0 name) as (λ t. bytes_eq e.0 name ≡ t → cond t (Some e.1) (find_array names name) ≡ None → without (cond t ((name, array) ∷ names) (e ∷ put_array names name array)) name ≡ e ∷ names) [
      | true ↦ λ _ h. let no : ⊥ = cc in absurd no
      | false ↦ λ is h. ap (λ t. cond t (put_array names name array) (e ∷ without (put_array names name array) name)) is ∙ ap (λ ns. e ∷ ns) (without-put names name array h)
    ] refl none

pub put-put : (names : List (List ℕ × Array)) (name : List ℕ) (array before : Array) → find_array names name ≡ Some before → put_array (put_array names name array) name before ≡ names
put-put [] name array before found = let no : ⊥ = cc in absurd no
put-put (e ∷ names) name array before found =
    elim (bytes_eq e.0 name) as (λ t. bytes_eq e.0 name ≡ t → cond t (Some e.1) (find_array names name) ≡ Some before → put_array (cond t ((name, array) ∷ names) (e ∷ put_array names name array)) name before ≡ e ∷ names) [
      | true ↦ λ is h.
          let here : e.1 ≡ before = cc in
          ap (λ t. cond t ((name, before) ∷ names) ((name, array) ∷ put_array names name before)) ((bytes_eq-Decides name name).1 refl)
          ∙ λ i. (sym ((bytes_eq-Decides e.0 name).0 is) i, sym here i) ∷ names
      | false ↦ λ is h. ap (λ t. cond t ((name, before) ∷ put_array names name array) (e ∷ put_array (put_array names name array) name before)) is ∙ ap (λ ns. e ∷ ns) (put-put names name array before h)
    ] refl found

-- an entry that is inserted at its former place restores the table
pub insert-removed : (test : List ℕ → Bool) (name : List ℕ) → TestsName test name → (es : List (List ℕ × Entry)) (e : Entry) (place : ℕ) → lookup test es ≡ Some e → place ≡ position_or_len test (keys_of es) →
    insert (map named_array (shift_remove_entry test es)) place (name, array_at e) ≡ map named_array es
insert-removed test name is [] e place was at = let no : ⊥ = cc in absurd no
insert-removed test name is (x ∷ es) e place was at =
    elim (test x.0) as (λ t. test x.0 ≡ t → cond t (Some x.1) (lookup test es) ≡ Some e → place ≡ cond (not t) (1 + position_or_len test (keys_of es)) 0 → insert (map named_array (cond t es (x ∷ shift_remove_entry test es))) place (name, array_at e) ≡ named_array x ∷ map named_array es) [
      | true ↦ λ passes h first.
          let here : x.1 ≡ e = cc in
          ap (λ n. insert (map named_array es) n (name, array_at e)) first
          ∙ λ i. ((bytes_eq-Decides name x.0).0 (sym (is x.0) ∙ passes) i, array_at (sym here i)) ∷ map named_array es
      | false ↦ λ _ h later.
          let rest : List (List ℕ × Array) = map named_array (shift_remove_entry test es) in
          let p : ℕ = position_or_len test (keys_of es) in
          let next : place ≡ suc p = omega (arith, later) in
          ap (λ n. insert (named_array x ∷ rest) n (name, array_at e)) next
          ∙ ap (λ ns. named_array x ∷ ns) (insert-removed test name is es e p h refl)
    ] refl was at
