-- Lists of entries, turn by turn.
use Rattle.std.proofs.Common.{◌≡◌, ◌<◌, ◌≤◌, ℕ, Bool, ◌⊎◌, true, false, inl, inr, List, [], ◌∷◌, ◌++◌, length, Option, Some, None, refl, ap, sym, ◌∙◌, arith, append_assoc, nat_lt, length-append, IsTrue, IfSome}
use Rattle.script_lang.proofs.Words.{Shortens, option_map, option_and_then, append-nil, lt-ltb, cases_lt, false≢true, Refusal, Syntax, OutOfMemory, symbol_at, is_at_end, line_end_at, by_rule, entry_first, comma_next, one_or_more, none_or_more, row}
use Rattle.script_lang.proofs.Turns.{one_turn, listed_goes_on, entries_goes_on, row_goes_on}

-- what has been read so far, in front of what is read from the rest
abbrev pub in_front : {A : Type 0} → List A → Option (List A × List ℕ) → Option (List A × List ℕ)
in_front read rest = option_map (λ r. (read ++ r.0, r.1)) rest

-- one more entry
more_in_front : {A : Type 0} (read : List A) (x : A) (rest : Option (List A × List ℕ)) → in_front read (option_and_then (λ others. Some (x ∷ others.0, others.1)) rest) ≡ in_front (read ++ x ∷ []) rest
more_in_front read x None = refl
more_in_front read x (Some r) = ap (λ xs. Some (xs, r.1)) (sym (append_assoc read (x ∷ []) r.0))

-- If a list is found, it has more than one entry.
abbrev pub Long : {A : Type 0} → Option (List A × List ℕ) → Type 0
Long list = IfSome list (λ r. IsTrue (nat_lt 1 (length r.0)))

long_in_front : {A : Type 0} (read : List A) (x : A) (rest : Option (List A × List ℕ)) → 1 ≤ length read → Long (in_front read (option_and_then (λ others. Some (x ∷ others.0, others.1)) rest))
long_in_front read x None full = tt
long_in_front read x (Some r) full = lt-ltb 1 (length (read ++ x ∷ r.0)) (omega (arith, length-append read (x ∷ r.0)))

-- If one more entry needs memory, which has run out, there is at least one entry already.
pub full_from_failed : {A : Type 0} (read : List A) → (length read < 1 → false ≡ true) → 1 ≤ length read
full_from_failed read room =
    elim (cases_lt (length read) 1) [ inl few ↦ absurd (false≢true (room few)) | inr many ↦ many ]

-- the condition on a value that may take memory, whatever it is
pub any_list : {A : Type 0} (o : Option A) → IfSome o (λ x. IsTrue true)
any_list None = tt
any_list (Some x) = refl

-- If an entry is refused, so is the whole list, with the same refusal.
pub failed_entry : {A B P : Type 0} (refusal : Refusal) (there : Option B) (whole : Option A) → ((refusal ≡ Syntax) × (there ≡ None)) ⊎ ((refusal ≡ OutOfMemory) × P) → (there ≡ None → whole ≡ None) → ((refusal ≡ Syntax) × (whole ≡ None)) ⊎ ((refusal ≡ OutOfMemory) × IfSome whole (λ x. IsTrue true))
failed_entry refusal there whole failed stops =
    elim failed [ inl misspelt ↦ inl (misspelt.0, stops misspelt.1) | inr full ↦ inr (full.0, any_list whole) ]

-- one turn of a list of entries separated by commas, with an optional trailing comma
module _ {A : Type 0} (entry_at : List ℕ → Option (A × List ℕ)) (shorter : Shortens entry_at) (closing : ℕ) (whole : Option (List A × List ℕ)) (read : List A) (rest : List ℕ) (is : whole ≡ in_front read (by_rule (none_or_more entry_at closing) rest)) where
  entries_turn : whole ≡ in_front read (none_or_more entry_at closing (by_rule (none_or_more entry_at closing)) rest)
  entries_turn = is ∙ ap (in_front read) (one_turn (none_or_more entry_at closing) (entries_goes_on entry_at shorter closing) rest)

  pub entries_closed : (end : List ℕ) → symbol_at closing rest ≡ Some end → whole ≡ Some (read, end)
  unfolding none_or_more
  entries_closed end ends = entries_turn ∙ rw ends (ap (λ xs. Some (xs, end)) (append-nil read))

  pub entries_no_entry : symbol_at closing rest ≡ None → entry_at rest ≡ None → whole ≡ None
  unfolding none_or_more one_or_more entry_first
  entries_no_entry no_end none = entries_turn ∙ rw (no_end, none) refl

  pub entries_last : (x : A) (after end : List ℕ) → symbol_at closing rest ≡ None → entry_at rest ≡ Some (x, after) → symbol_at closing after ≡ Some end → whole ≡ Some (read ++ x ∷ [], end)
  unfolding none_or_more one_or_more entry_first comma_next
  entries_last x after end no_end first ends = entries_turn ∙ rw (no_end, first, ends) refl

  pub entries_no_mark : (x : A) (after : List ℕ) → symbol_at closing rest ≡ None → entry_at rest ≡ Some (x, after) → symbol_at closing after ≡ None → symbol_at 44 after ≡ None → whole ≡ None
  unfolding none_or_more one_or_more entry_first comma_next
  entries_no_mark x after no_end first not_last no_comma = entries_turn ∙ rw (no_end, first, not_last, no_comma) refl

  pub entries_next : (x : A) (after next : List ℕ) → symbol_at closing rest ≡ None → entry_at rest ≡ Some (x, after) → symbol_at closing after ≡ None → symbol_at 44 after ≡ Some next → whole ≡ in_front (read ++ x ∷ []) (by_rule (none_or_more entry_at closing) next)
  unfolding none_or_more one_or_more entry_first comma_next
  entries_next x after next no_end first not_last comma = entries_turn ∙ rw (no_end, first, not_last, comma) (more_in_front read x (by_rule (none_or_more entry_at closing) next))

-- one turn of a list of items separated by commas, without a trailing comma
module _ {A : Type 0} (item_at : List ℕ → Option (A × List ℕ)) (shorter : Shortens item_at) (closing : ℕ) (whole : Option (List A × List ℕ)) (read : List A) (rest : List ℕ) (is : whole ≡ in_front read (by_rule (one_or_more item_at closing) rest)) where
  items_turn : whole ≡ in_front read (one_or_more item_at closing (by_rule (one_or_more item_at closing)) rest)
  items_turn = is ∙ ap (in_front read) (one_turn (one_or_more item_at closing) (listed_goes_on item_at shorter closing) rest)

  pub items_no_item : item_at rest ≡ None → whole ≡ None
  unfolding one_or_more entry_first
  items_no_item none = items_turn ∙ rw none refl

  pub items_long : (x : A) (after : List ℕ) → item_at rest ≡ Some (x, after) → 1 ≤ length read → Long whole
  unfolding one_or_more entry_first
  items_long x after first full = rw (items_turn, first) (long_in_front read x _ full)

  pub items_last : (x : A) (after end : List ℕ) → item_at rest ≡ Some (x, after) → symbol_at closing after ≡ Some end → whole ≡ Some (read ++ x ∷ [], end)
  unfolding one_or_more entry_first comma_next
  items_last x after end first ends = items_turn ∙ rw (first, ends) refl

  pub items_no_mark : (x : A) (after : List ℕ) → item_at rest ≡ Some (x, after) → symbol_at closing after ≡ None → symbol_at 44 after ≡ None → whole ≡ None
  unfolding one_or_more entry_first comma_next
  items_no_mark x after first no_end no_comma = items_turn ∙ rw (first, no_end, no_comma) refl

  pub items_next : (x : A) (after next : List ℕ) → item_at rest ≡ Some (x, after) → symbol_at closing after ≡ None → symbol_at 44 after ≡ Some next → whole ≡ in_front (read ++ x ∷ []) (by_rule (one_or_more item_at closing) next)
  unfolding one_or_more entry_first comma_next
  items_next x after next first no_end comma = items_turn ∙ rw (first, no_end, comma) (more_in_front read x (by_rule (one_or_more item_at closing) next))

-- one turn of a row of consecutive entries
module _ {A : Type 0} (entry_at : List ℕ → Option (A × List ℕ)) (shorter : Shortens entry_at) (ending : List ℕ → Option (List ℕ)) (whole : Option (List A × List ℕ)) (read : List A) (rest : List ℕ) (is : whole ≡ in_front read (by_rule (row entry_at ending) rest)) where
  row_turn : whole ≡ in_front read (row entry_at ending (by_rule (row entry_at ending)) rest)
  row_turn = is ∙ ap (in_front read) (one_turn (row entry_at ending) (row_goes_on entry_at shorter ending) rest)

  pub row_ends : (end : List ℕ) → ending rest ≡ Some end → whole ≡ Some (read, end)
  unfolding row
  row_ends end ends = row_turn ∙ rw ends (ap (λ xs. Some (xs, end)) (append-nil read))

  pub row_no_entry : ending rest ≡ None → entry_at rest ≡ None → whole ≡ None
  unfolding row entry_first
  row_no_entry no_end none = row_turn ∙ rw (no_end, none) refl

  pub row_next : (x : A) (after : List ℕ) → ending rest ≡ None → entry_at rest ≡ Some (x, after) → whole ≡ in_front (read ++ x ∷ []) (by_rule (row entry_at ending) after)
  unfolding row entry_first
  row_next x after no_end first = row_turn ∙ rw (no_end, first) (more_in_front read x (by_rule (row entry_at ending) after))

-- If only blanks remain, the line ends here.
pub ends_here : (bytes : List ℕ) (test : Bool) → test ≡ is_at_end bytes → test ≡ true → line_end_at bytes ≡ Some bytes
ends_here bytes test is ends = rw (sym is ∙ ends) refl

pub goes_on_here : (bytes : List ℕ) (test : Bool) → test ≡ is_at_end bytes → test ≡ false → line_end_at bytes ≡ None
goes_on_here bytes test is goes = rw (sym is ∙ goes) refl
