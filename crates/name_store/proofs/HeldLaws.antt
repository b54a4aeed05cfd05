-- Slots after one of them is set: their contents and their users.
use Rattle.std.proofs.Common.{inl, inr, ◌≡◌, ◌+◌, ◌<◌, ◌≤◌, ℕ, Bool, true, false, List, length, refl, sym, ap, subst, ◌∙◌, cond, Option, Some, None, is_some, nat_eq, nat_lt, slice_set, arith}
use Rattle.name_store.proofs.Words.{cases_lt, option_map, nat_eq_equiv, eqb-true, ne_eqb, lt-ltb, one_at, users_of, users_at, slot_at, Slot, IsLowest, stand}
use Rattle.name_store.proofs.Needs.{there-count}
use Rattle.name_store.proofs.SlotLaws.{occupied-within, slot_at-set, slot_at-past}

pub one-when : (t : Bool) (q n : ℕ) → nat_eq q n ≡ t → one_at q n ≡ cond t 1 0
one-when t q n is = let flipped : nat_eq n q ≡ t = (nat_eq_equiv).symm n q ∙ is in λ i. cond (flipped i) 1 0

-- a property that holds for the slot that is set, and for all others
pub set-case : (P : Option Slot → Option Slot → ℕ → Type 0) (slots : List (Option Slot)) (n : ℕ) (cell : Option Slot) → n < length slots → P cell (slot_at slots n) 1 → ((o : Option Slot) → P o o 0) →
    (q : ℕ) → P (slot_at (slice_set slots n cell) q) (slot_at slots q) (one_at q n)
set-case P slots n cell inside here there q =
    elim (nat_eq q n) as (λ t. nat_eq q n ≡ t → slot_at (slice_set slots n cell) q ≡ cond t cell (slot_at slots q) → P (slot_at (slice_set slots n cell) q) (slot_at slots q) (one_at q n)) [
      | true ↦ λ same is.
          subst (λ k. P (slot_at (slice_set slots n cell) q) (slot_at slots q) k) (sym (one-when true q n same))
          (subst (λ o. P o (slot_at slots q) 1) (sym is) (subst (λ m. P cell (slot_at slots m) 1) (sym (eqb-true q n same)) here))
      | false ↦ λ other is.
          subst (λ k. P (slot_at (slice_set slots n cell) q) (slot_at slots q) k) (sym (one-when false q n other))
          (subst (λ o. P o (slot_at slots q) 0) (sym is) (there (slot_at slots q)))
    ] refl (slot_at-set slots n cell q inside)

pub used-some : (slots : List (Option Slot)) (n : ℕ) → 1 ≤ users_at slots n → is_some (slot_at slots n) ≡ true
used-some slots n used = there-count (slot_at slots n) ∙ lt-ltb 0 (users_at slots n) (omega (arith, used))

pub used-within : (slots : List (Option Slot)) (n : ℕ) → 1 ≤ users_at slots n → n < length slots
used-within slots n used = occupied-within slots n (used-some slots n used)

-- every occupied slot has a user
pub held-stand : (o : Option Slot) → option_map stand o ≡ cond (nat_lt 0 (users_of o)) (option_map stand o) None
held-stand None = refl
held-stand (Some s) = ap (λ t. cond t (Some (stand s)) None) (sym (lt-ltb 0 s.users s.is_used))

-- A slot was borrowed, and only its number of users may have changed.
module _ (slots : List (Option Slot)) (n : ℕ) (was now : Slot) (inside : n < length slots) (there : slot_at slots n ≡ Some was) where
  pub lent-stays : stand now ≡ stand was → (q : ℕ) → option_map stand (slot_at (slice_set slots n (Some now)) q) ≡ option_map stand (slot_at slots q)
  lent-stays same = set-case (λ new old _. option_map stand new ≡ option_map stand old) slots n (Some now) inside (ap Some same ∙ ap (option_map stand) (sym there)) (λ o. refl)

  pub lent-more : now.users ≡ was.users + 1 → (q : ℕ) → users_at (slice_set slots n (Some now)) q ≡ users_at slots q + one_at q n
  lent-more more = set-case (λ new old k. users_of new ≡ users_of old + k) slots n (Some now) inside (omega (arith, more, ap users_of there)) (λ o. omega arith)

  pub lent-fewer : now.users + 1 ≡ was.users → (q : ℕ) → users_at (slice_set slots n (Some now)) q + one_at q n ≡ users_at slots q
  lent-fewer fewer = set-case (λ new old k. users_of new + k ≡ users_of old) slots n (Some now) inside (omega (arith, fewer, ap users_of there)) (λ o. omega arith)

  pub lent-freed : stand now ≡ stand was → (q : ℕ) → option_map stand (slot_at (slice_set slots n (Some now)) q) ≡ cond (nat_lt 0 (users_at (slice_set slots n (Some now)) q)) (option_map stand (slot_at slots q)) None
  lent-freed same q = held-stand (slot_at (slice_set slots n (Some now)) q) ∙ ap (λ o. cond (nat_lt 0 (users_at (slice_set slots n (Some now)) q)) o None) (lent-stays same q)

-- Slots below `lowest`

pub lowest-within : (slots : List (Option Slot)) (low : ℕ) → IsLowest slots low → low ≤ length slots
lowest-within slots low h = elim (cases_lt (length slots) low) [
  | inl less ↦ let no : true ≡ false = sym (h.taken (length slots) less) ∙ ap is_some (slot_at-past slots (length slots) (omega arith)) in absurd cc
  | inr past ↦ past
]

-- every slot below `low` is still occupied after a slot is set to a buffer
pub lowest-lent : (slots : List (Option Slot)) (low n : ℕ) (now : Slot) → n < length slots → IsLowest slots low → IsLowest (slice_set slots n (Some now)) low
lowest-lent slots low n now inside h = record { taken = λ q less. set-case (λ new old _. is_some old ≡ true → is_some new ≡ true) slots n (Some now) inside (λ _. refl) (λ o some. some) q (h.taken q less) }

pub lowest-emptied : (slots : List (Option Slot)) (low n after : ℕ) → n < length slots → after ≤ low → after ≤ n → IsLowest slots low → IsLowest (slice_set slots n None) after
lowest-emptied slots low n after inside below apart h = record {
  taken = λ q less. ap is_some (slot_at-set slots n None q inside ∙ ap (λ t. cond t None (slot_at slots q)) (ne_eqb q n (λ same. omega (arith, less, apart, same)))) ∙ h.taken q (omega (arith, less, below));
}

-- the same if the numbers of users are unchanged
pub lowest-same : (slots after : List (Option Slot)) (low : ℕ) → ((q : ℕ) → users_at after q ≡ users_at slots q) → IsLowest slots low → IsLowest after low
lowest-same slots after low same h = record { taken = λ q less. there-count (slot_at after q) ∙ ap (nat_lt 0) (same q) ∙ sym (there-count (slot_at slots q)) ∙ h.taken q less }
