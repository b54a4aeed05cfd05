-- The first name after another one, found by going through a list of files.
use Rattle.std.proofs.Common.{◌≡◌, ◌<◌, ◌≤◌, ◌+◌, ℕ, zero, suc, Bool, true, false, List, [], ◌∷◌, map, length, refl, sym, ap, subst, ◌∙◌, cond, Option, Some, None, IsSome, MatchOption, arith, ◌⊎◌, inl, inr, is_some}
use Rattle.npy_files.proofs.Words.{eq-or-lt_of_le, nat_cmp, is_lt, eq_by_cmp, ordering_reverse, slice_cmp, nat_list_cmp_total, find, get-from_entries, Ordering, Less, Equal, Greater, true≢false, false_from_ne_true, slice_get_within, StoredFile, comes_before, IsFirstAfter, IsNextName, named_bytes, files_of, IsNamed, IsFirstOf}
use Rattle.npy_files.proofs.StoreLaws.{tied_same, ties}

-- ---- the order of names

is-Less : (o : Ordering) → is_lt o ≡ true → o ≡ Less
is-Less Less e = refl
is-Less Equal e = absurd (true≢false (sym e))
is-Less Greater e = absurd (true≢false (sym e))

chained : (a b c : List ℕ) → comes_before a b ≡ true → comes_before b c ≡ true → comes_before a c ≡ true
chained a b c ab bc = ap is_lt (nat_list_cmp_total.trans a b c (is-Less (slice_cmp nat_cmp a b) ab) (is-Less (slice_cmp nat_cmp b c) bc))

not_itself : (a : List ℕ) → comes_before a a ≡ false
not_itself a =
    false_from_ne_true (comes_before a a) (λ before.
    let e = is-Less (slice_cmp nat_cmp a a) before in
    true≢false (sym before ∙ ap is_lt (nat_list_cmp_total.antisymm a a) ∙ ap (λ o. is_lt (ordering_reverse o)) e))

-- ---- one more place

file_or : StoredFile → Option StoredFile → StoredFile
file_or file None = file
file_or file (Some other) = other

same_name : (files : List StoredFile) (place : ℕ) (a b : List ℕ) → IsNamed files place a → IsNamed files place b → a ≡ b
unfolding file_or
same_name files place a b p q = sym p.2 ∙ ap (λ (o : Option StoredFile). (file_or p.0 o).name.items) (sym p.1 ∙ q.1) ∙ q.2

earlier_or_last : (place count : ℕ) → place < count + 1 → (place ≡ count) ⊎ (place < count)
earlier_or_last place count l = eq-or-lt_of_le (let le : place ≤ count = omega arith in le)

module _ (files : List StoredFile) (after : List ℕ) (count : ℕ) (name : List ℕ) (is : IsNamed files count name) where
  named : (place : ℕ) (other : List ℕ) → place ≡ count → IsNamed files place other → other ≡ name
  named place other e p = same_name files count other name (subst (λ (k : ℕ). IsNamed files k other) e p) is

  -- the name at the next place does not come after the other one
  pub passed : comes_before after name ≡ false → (best : Option ℕ) → IsFirstOf files after count best → IsFirstOf files after (count + 1) best
  passed not None old = λ place other l p.
      elim (earlier_or_last place count l) [
        | inl e ↦ ap (comes_before after) (named place other e p) ∙ not
        | inr below ↦ old place other below p
      ]
  passed not (Some best) old = (
    old.0,
    old.1,
    old.2,
    λ place other l p later.
        elim (earlier_or_last place count l) [
          | inl e ↦ absurd (true≢false (sym later ∙ ap (comes_before after) (named place other e p) ∙ not))
          | inr below ↦ old.3 place other below p later
        ],
  )

  -- the answer is whether the name comes before the best so far
  abbrev pub Tells : Option ℕ → Bool → Type 0
  Tells best answer = MatchOption best (answer ≡ true) (λ place. (first : List ℕ) → IsNamed files place first → answer ≡ comes_before name first)

  -- the name comes after the other one, and the best so far before the name
  pub kept : (best : Option ℕ) (answer : Bool) → answer ≡ false → Tells best answer → IsFirstOf files after count best → IsFirstOf files after (count + 1) best
  kept None answer not tells old = absurd (true≢false (sym tells ∙ not))
  kept (Some best) answer not tells old = (
    old.0,
    old.1,
    old.2,
    λ place other l p later.
        elim (earlier_or_last place count l) [
          | inl e ↦ ap (λ (a : List ℕ). comes_before a old.0) (named place other e p) ∙ sym (tells old.0 old.1) ∙ not
          | inr below ↦ old.3 place other below p later
        ],
  )

  -- the name is the first so far
  pub taken : comes_before after name ≡ true → (best : Option ℕ) (answer : Bool) → answer ≡ true → Tells best answer → IsFirstOf files after count best → IsFirstOf files after (count + 1) (Some count)
  taken after_it None answer so tells old = (
    name,
    is,
    after_it,
    λ place other l p later.
        elim (earlier_or_last place count l) [
          | inl e ↦ ap (λ (a : List ℕ). comes_before a name) (named place other e p) ∙ not_itself name
          | inr below ↦ absurd (true≢false (sym later ∙ old place other below p))
        ],
  )
  taken after_it (Some best) answer so tells old = (
    name,
    is,
    after_it,
    λ place other l p later.
        elim (earlier_or_last place count l) [
          | inl e ↦ ap (λ (a : List ℕ). comes_before a name) (named place other e p) ∙ not_itself name
          | inr below ↦ false_from_ne_true (comes_before other name) (λ before.
              true≢false (sym (chained other name old.0 before (sym (tells old.0 old.1) ∙ so)) ∙ old.3 place other below p later))
        ],
  )

-- ---- the names of the map

found_at : {X : Type 0} (b : Bool) (x y : Option X) → IsSome x → IsSome y → IsSome (cond b x y)
found_at true x y p q = p
found_at false x y p q = q

first_found : {X : Type 0} (b : Bool) (x : X) (y : Option X) → b ≡ true → IsSome (cond b (Some x) y)
first_found true x y e = refl
first_found false x y e = absurd (true≢false (sym e))

-- each file of a list is found by its name
listed : (files : List StoredFile) (place : ℕ) (name : List ℕ) → IsNamed files place name → IsSome (find (slice_cmp nat_cmp) name (map named_bytes files))
listed [] place name is = absurd (true≢false (sym (ap is_some is.1)))
listed (f ∷ files) zero name is =
    first_found (eq_by_cmp (slice_cmp nat_cmp) name f.name.items) f.bytes.items (find (slice_cmp nat_cmp) name (map named_bytes files))
    (ties name f.name.items (same_name (f ∷ files) 0 name f.name.items is (f, refl, refl)))
listed (f ∷ files) (suc place) name is =
    found_at (eq_by_cmp (slice_cmp nat_cmp) name f.name.items) (Some f.bytes.items) (find (slice_cmp nat_cmp) name (map named_bytes files)) refl (listed files place name is)

-- and what is found is a file of the list
named_there : (files : List StoredFile) (name : List ℕ) → IsSome (find (slice_cmp nat_cmp) name (map named_bytes files)) → (place : ℕ) × IsNamed files place name
named_there [] name = λ is. absurd (true≢false (sym is))
named_there (f ∷ files) name =
    let rest = find (slice_cmp nat_cmp) name (map named_bytes files) in
    elim (eq_by_cmp (slice_cmp nat_cmp) name f.name.items) as (λ b. eq_by_cmp (slice_cmp nat_cmp) name f.name.items ≡ b → IsSome (cond b (Some f.bytes.items) rest) → (place : ℕ) × IsNamed (f ∷ files) place name) [
      | true ↦ λ e is. (0, (f, refl, sym (tied_same name f.name.items e)))
      | false ↦ λ e is. let there = named_there files name is in (suc there.0, there.1)
    ] refl

below_length : (files : List StoredFile) (place : ℕ) (name : List ℕ) → IsNamed files place name → place < length files
below_length files place name is = slice_get_within files place is.0 is.1

-- the best of all is the first name of the map
pub next : (files : List StoredFile) (after : List ℕ) (place : ℕ) (name : List ℕ) → IsNamed files place name → IsFirstOf files after (length files) (Some place) → IsFirstAfter (files_of files) after name
next files after place name is best =
    let same = same_name files place best.0 name best.1 is in
    record {
      there = subst IsSome (sym (get-from_entries nat_list_cmp_total (map named_bytes files) name)) (listed files place name is);
      later = ap (comes_before after) (sym same) ∙ best.2;
      first = λ other there later.
          let at = named_there files other (subst IsSome (get-from_entries nat_list_cmp_total (map named_bytes files) other) there) in
          ap (comes_before other) (sym same) ∙ best.3 at.0 other (below_length files at.0 other at.1) at.1 later;
    }

pub no_next : (files : List StoredFile) (after : List ℕ) → IsFirstOf files after (length files) None → IsNextName (files_of files) after None
no_next files after best = λ name there.
    let at = named_there files name (subst IsSome (get-from_entries nat_list_cmp_total (map named_bytes files) name) there) in
    best at.0 name (below_length files at.0 name at.1) at.1
