-- Whether a buffer is needed, and how many users it has.
use Rattle.std.proofs.Common.{◌≡◌, ◌+◌, ◌-◌, ◌^◌, ◌≤◌, ◌<◌, ℕ, zero, suc, Bool, true, false, List, [], ◌∷◌, ◌++◌, length, insert, map, refl, sym, ap, ◌∙◌, cond, ◌||◌, Option, Some, None, is_some, nat_eq, nat_lt, arith}
use Rattle.name_store.proofs.Words.{list_any, option_map, bytes_eq, lt-ltb, ltb-true, length-map, find_array, put_array, without, is_in_use, IsSound, one_at, users_in, pins, found_at, held_number, all_pins, users_of, users_at, Names, Array, named_array, slot_at, Change, Bind, Unbind, Write, Entry, Slot, Ring}

-- whether buffer `number` is needed to undo a change
abbrev pub needs : ℕ → Change → Bool
needs number (Bind key None) = false
needs number (Bind key (Some entry)) = nat_eq entry.number number
needs number (Unbind place key entry) = nat_eq entry.number number
needs number (Write written target items) = false

-- whether buffer `number` is needed by a name or a change
abbrev pub is_needed : Names → List Change → ℕ → Bool
is_needed names changes number = is_in_use names number || list_any (needs number) changes

-- A count is above zero if and only if there is something to count.

one-more : (t : Bool) (n : ℕ) (rest : Bool) → nat_lt 0 n ≡ rest → nat_lt 0 (cond t 1 0 + n) ≡ (t || rest)
one-more true n rest e = lt-ltb 0 (1 + n) (omega arith)
one-more false n rest e = ap (nat_lt 0) (let same : 0 + n ≡ n = omega arith in same) ∙ e

pub used-count : (q : ℕ) (names : Names) → nat_lt 0 (users_in q names) ≡ is_in_use names q
used-count q [] = refl
used-count q (e ∷ names) = one-more (nat_eq e.1.buffer q) (users_in q names) (is_in_use names q) (used-count q names)

pins-count : (q : ℕ) (c : Change) → pins q c ≡ cond (needs q c) 1 0
pins-count q (Bind key None) = refl
pins-count q (Bind key (Some e)) = refl
pins-count q (Unbind place key e) = refl
pins-count q (Write number target items) = refl

all-count : (q : ℕ) (cs : List Change) → nat_lt 0 (all_pins q cs) ≡ list_any (needs q) cs
all-count q [] = refl
all-count q (c ∷ cs) = ap (λ n. nat_lt 0 (n + all_pins q cs)) (pins-count q c) ∙ one-more (needs q c) (all_pins q cs) (list_any (needs q) cs) (all-count q cs)

either-count : (m n : ℕ) → nat_lt 0 (m + n) ≡ (nat_lt 0 m || nat_lt 0 n)
either-count zero n = ap (nat_lt 0) (let same : 0 + n ≡ n = omega arith in same)
either-count (suc m) n = lt-ltb 0 (suc m + n) (omega arith) ∙ sym (ap (λ t. t || nat_lt 0 n) (lt-ltb 0 (suc m) (omega arith)))

pub needed-count : (names : Names) (cs : List Change) (q : ℕ) → nat_lt 0 (users_in q names + all_pins q cs) ≡ is_needed names cs q
needed-count names cs q = either-count (users_in q names) (all_pins q cs) ∙ λ i. used-count q names i || all-count q cs i

-- a slot is occupied if and only if it has a user
pub there-count : (o : Option Slot) → is_some o ≡ nat_lt 0 (users_of o)
there-count None = refl
there-count (Some s) = sym (lt-ltb 0 s.users s.is_used)

pub there-used : (o : Option Slot) → is_some o ≡ true → 1 ≤ users_of o
there-used o there = omega (arith, ltb-true 0 (users_of o) (sym (there-count o) ∙ there))

pub needed-there : (names : Names) (cs : List Change) (slots : List (Option Slot)) → ((q : ℕ) → users_at slots q ≡ users_in q names + all_pins q cs) → (q : ℕ) → is_some (slot_at slots q) ≡ is_needed names cs q
needed-there names cs slots counted q = there-count (slot_at slots q) ∙ ap (nat_lt 0) (counted q) ∙ needed-count names cs q

-- a slot is occupied if and only if a name or a change needs it
pub occupied : (es : List (List ℕ × Entry)) (slots : List (Option Slot)) (ring : Ring Change) (spare : ℕ) → IsSound es slots ring spare → (q : ℕ) → is_some (slot_at slots q) ≡ is_needed (map named_array es) ring.items q
occupied es slots ring spare sound = needed-there (map named_array es) ring.items slots sound.counted

-- Names that are put, removed and inserted

abbrev pub number_of : Option Array → Option ℕ
number_of = option_map (λ (a : Array). a.buffer)

pub users-put : (q : ℕ) (names : Names) (name : List ℕ) (array : Array) → users_in q (put_array names name array) + found_at q (number_of (find_array names name)) ≡ users_in q names + one_at q array.buffer
users-put q [] name array = omega arith
users-put q (e ∷ names) name array =
    elim (bytes_eq e.0 name) as (λ t. users_in q (cond t ((name, array) ∷ names) (e ∷ put_array names name array)) + found_at q (number_of (cond t (Some e.1) (find_array names name))) ≡ users_in q (e ∷ names) + one_at q array.buffer) [
      | true ↦ omega arith
      | false ↦ omega (arith, users-put q names name array)
    ]

pub users-without : (q : ℕ) (names : Names) (name : List ℕ) → users_in q (without names name) + found_at q (number_of (find_array names name)) ≡ users_in q names
users-without q [] name = omega arith
users-without q (e ∷ names) name =
    elim (bytes_eq e.0 name) as (λ t. users_in q (cond t names (e ∷ without names name)) + found_at q (number_of (cond t (Some e.1) (find_array names name))) ≡ users_in q (e ∷ names)) [
      | true ↦ omega arith
      | false ↦ omega (arith, users-without q names name)
    ]

pub users-insert : (q : ℕ) (names : Names) (place : ℕ) (e : List ℕ × Array) → users_in q (insert names place e) ≡ users_in q names + one_at q e.1.buffer
users-insert q names zero e = omega arith
users-insert q [] (suc place) e = omega arith
users-insert q (x ∷ names) (suc place) e = omega (arith, users-insert q names place e)

-- a buffer has at most one user for each name and each change
pub users-few : (q : ℕ) (names : Names) → users_in q names ≤ length names
users-few q [] = omega arith
users-few q (e ∷ names) = elim (nat_eq e.1.buffer q) as (λ t. cond t 1 0 + users_in q names ≤ length (e ∷ names)) [ true ↦ omega (arith, users-few q names) | false ↦ omega (arith, users-few q names) ]

pub pins-few : (q : ℕ) (cs : List Change) → all_pins q cs ≤ length cs
pins-few q [] = omega arith
pins-few q (c ∷ cs) = omega (arith, one (held_number c), pins-few q cs)
  where
    one : (o : Option ℕ) → found_at q o ≤ 1
    one None = omega arith
    one (Some n) = elim (nat_eq n q) as (λ t. cond t 1 0 ≤ 1) [ true ↦ omega arith | false ↦ omega arith ]

pub pins-push : (q : ℕ) (cs : List Change) (c : Change) → all_pins q (cs ++ c ∷ []) ≡ all_pins q cs + pins q c
pins-push q [] c = omega arith
pins-push q (d ∷ cs) c = omega (arith, pins-push q cs c)

-- The users of each buffer after a change was made to the names and slots, and kept.
module _ (names names' : Names) (cs : List Change) (c : Change) (old now : List (Option Slot)) (counted : (q : ℕ) → users_at old q ≡ users_in q names + all_pins q cs) (made : (q : ℕ) → users_at now q + users_in q names ≡ users_at old q + users_in q names' + pins q c) where
  pub made-held : (q : ℕ) → all_pins q (cs ++ c ∷ []) ≤ users_at now q
  made-held q = omega (arith, counted q, made q, pins-push q cs c)

  pub kept-counted : (cs' : List Change) (after : List (Option Slot)) → ((q : ℕ) → users_at after q + all_pins q (cs ++ c ∷ []) ≡ users_at now q + all_pins q cs') → (q : ℕ) → users_at after q ≡ users_in q names' + all_pins q cs'
  kept-counted cs' after kept q = omega (arith, counted q, made q, kept q, pins-push q cs c)

-- a buffer has few enough users to count one more
pub users-small : (es : List (List ℕ × Entry)) (slots : List (Option Slot)) (ring : Ring Change) (spare : ℕ) → IsSound es slots ring spare → ring.capacity < 2 ^ 63 → (q : ℕ) → users_at slots q < 2 ^ 64 - 1
users-small es slots ring spare sound small q =
    omega (arith, sound.counted q, users-few q (map named_array es), pins-few q ring.items, length-map es named_array, sound.holds.few, sound.short, small)
