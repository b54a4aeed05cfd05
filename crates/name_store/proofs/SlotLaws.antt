-- Slots by number, and the buffers in them.
use Rattle.std.proofs.Common.{◌≡◌, ◌≢◌, ◌+◌, ◌<◌, ◌≤◌, ℕ, zero, suc, true, false, List, [], ◌∷◌, ◌++◌, length, map, refl, sym, ap, ◌∙◌, cond, Option, Some, None, is_some, nat_eq, slice_set, get_or, arith, MutBor}
use Rattle.name_store.proofs.Words.{eqb-suc-suc, eqb-suc-zero, eqb-zero-suc, option_copied_mut, option_map, unsigned_tied, ne_eqb, nat_cmp, eq_by_cmp, nat_cmp_total, get, find, from_entries, get-from_entries, get-retain_keys, nat_cmp-IsAntisymmetric, is_in_use, Names, numbered, past_buffer, past_buffers, named_array, slot_at, buffer_in, present, Change, Entry, Slot}
use Rattle.name_store.proofs.NameLaws.{nat_itself}

-- the slot of each number after one slot is set, or one is pushed
pub slot_at-set : (slots : List (Option Slot)) (n : ℕ) (s : Option Slot) (q : ℕ) → n < length slots → slot_at (slice_set slots n s) q ≡ cond (nat_eq q n) s (slot_at slots q)
slot_at-set [] n s q h = absurd (omega arith)
slot_at-set (x ∷ slots) zero s zero h = refl
slot_at-set (x ∷ slots) zero s (suc q) h = ap (λ t. cond t s (slot_at slots q)) (sym (eqb-suc-zero q))
slot_at-set (x ∷ slots) (suc n) s zero h = ap (λ t. cond t s x) (sym (eqb-zero-suc n))
slot_at-set (x ∷ slots) (suc n) s (suc q) h = slot_at-set slots n s q (omega arith) ∙ ap (λ t. cond t s (slot_at slots q)) (sym (eqb-suc-suc q n))

pub slot_at-push : (slots : List (Option Slot)) (s : Option Slot) (q : ℕ) → slot_at (slots ++ s ∷ []) q ≡ cond (nat_eq q (length slots)) s (slot_at slots q)
slot_at-push [] s zero = refl
slot_at-push [] s (suc q) = ap (λ t. cond t s None) (sym (eqb-suc-zero q))
slot_at-push (x ∷ slots) s zero = ap (λ t. cond t s x) (sym (eqb-zero-suc (length slots)))
slot_at-push (x ∷ slots) s (suc q) = slot_at-push slots s q ∙ ap (λ t. cond t s (slot_at slots q)) (sym (eqb-suc-suc q (length slots)))

pub slot_at-past : (slots : List (Option Slot)) (q : ℕ) → length slots ≤ q → slot_at slots q ≡ None
slot_at-past [] q h = refl
slot_at-past (x ∷ slots) zero h = absurd (omega arith)
slot_at-past (x ∷ slots) (suc q) h = slot_at-past slots q (omega arith)

pub occupied-within : (slots : List (Option Slot)) (q : ℕ) → is_some (slot_at slots q) ≡ true → q < length slots
occupied-within [] q there = let no : ⊥ = cc in absurd no
occupied-within (x ∷ slots) zero there = omega arith
occupied-within (x ∷ slots) (suc q) there = omega (arith, occupied-within slots q there)

pub slot_at-within : (slots : List (Option Slot)) (q : ℕ) (s : Slot) → slot_at slots q ≡ Some s → q < length slots
slot_at-within slots q s there = occupied-within slots q (ap is_some there)

pub slot_at-get_or : (slots : List (Option Slot)) (q : ℕ) (d : Option Slot) → q < length slots → get_or slots q d ≡ slot_at slots q
slot_at-get_or [] q d h = absurd (omega arith)
slot_at-get_or (x ∷ slots) zero d h = refl
slot_at-get_or (x ∷ slots) (suc q) d h = slot_at-get_or slots q d (omega arith)

-- borrowing an occupied slot to write to it gives its buffer
pub lent-some : (slots : List (Option Slot)) (n : ℕ) (d : Option Slot) (r : Option (MutBor Slot)) → n < length slots → option_copied_mut r ≡ get_or slots n d → is_some (slot_at slots n) ≡ true → is_some r ≡ true
lent-some slots n d None inside is there = let no : ⊥ = cc (ap is_some (is ∙ slot_at-get_or slots n d inside), there) in absurd no
lent-some slots n d (Some r) inside is there = refl

pub lent-there : (slots : List (Option Slot)) (n : ℕ) (d : Option Slot) (r : Option (MutBor Slot)) (s : MutBor Slot) → n < length slots → option_copied_mut r ≡ get_or slots n d → r ≡ Some s → slot_at slots n ≡ Some s.now
lent-there slots n d r s inside is lent = sym (is ∙ slot_at-get_or slots n d inside) ∙ ap option_copied_mut lent

-- the test of a key in a map of numbers is equality
apart : (q k : ℕ) → k ≢ q → eq_by_cmp nat_cmp q k ≡ false
apart q k ne = unsigned_tied q k ∙ ne_eqb q k (λ e. ne (sym e))

-- the slots numbered from `n` on have no number below `n`
find-below : (cs : List Change) (n : ℕ) (slots : List (Option Slot)) (q : ℕ) → q < n → find nat_cmp q (numbered cs n slots) ≡ None
find-below cs n [] q h = refl
find-below cs n (None ∷ slots) q h = find-below cs (suc n) slots q (omega arith)
find-below cs n (Some s ∷ slots) q h = rw (apart q n (λ e. let no : ⊥ = omega arith in no)) (find-below cs (suc n) slots q (omega arith))

find-numbered : (cs : List Change) (n : ℕ) (slots : List (Option Slot)) (q k : ℕ) → k ≡ n + q → find nat_cmp k (numbered cs n slots) ≡ option_map (past_buffer cs k) (slot_at slots q)
find-numbered cs n [] q k is = refl
find-numbered cs n (None ∷ slots) zero k is = find-below cs (suc n) slots k (omega (arith, is))
find-numbered cs n (None ∷ slots) (suc q) k is = find-numbered cs (suc n) slots q k (omega (arith, is))
find-numbered cs n (Some s ∷ slots) zero k is =
    let here : k ≡ n = omega (arith, is) in
    rw (unsigned_tied k n, ap (λ m. nat_eq m n) here ∙ nat_itself n) (ap (λ m. Some (past_buffer cs m s)) (sym here))
find-numbered cs n (Some s ∷ slots) (suc q) k is =
    rw (apart k n (λ e. let no : ⊥ = omega (arith, is, e) in no)) (find-numbered cs (suc n) slots q k (omega (arith, is)))

pub get-past : (cs : List Change) (names : Names) (slots : List (Option Slot)) (q : ℕ) → get (past_buffers cs names slots) q ≡ cond (is_in_use names q) (option_map (past_buffer cs q) (slot_at slots q)) None
get-past cs names slots q =
    get-retain_keys (from_entries (numbered cs 0 slots)) (is_in_use names) q (λ x e. ap (is_in_use names) (sym (nat_cmp-IsAntisymmetric q x e)))
    ∙ ap (λ o. cond (is_in_use names q) o None) (get-from_entries nat_cmp_total (numbered cs 0 slots) q ∙ find-numbered cs 0 slots q q (omega arith))

pub get-buffers : (names : List (List ℕ × Entry)) (slots : List (Option Slot)) (q : ℕ) → get (present names slots).buffers q ≡ cond (is_in_use (map named_array names) q) (option_map buffer_in (slot_at slots q)) None
get-buffers names slots q = get-past [] (map named_array names) slots q

pub get-used : (names : List (List ℕ × Entry)) (slots : List (Option Slot)) (q : ℕ) → is_in_use (map named_array names) q ≡ true → get (present names slots).buffers q ≡ option_map buffer_in (slot_at slots q)
get-used names slots q used = get-buffers names slots q ∙ ap (λ t. cond t (option_map buffer_in (slot_at slots q)) None) used
