-- More turns than there are bytes do not change what a rule reads.
use Rattle.std.proofs.Common.{◌≡◌, ◌<◌, ℕ, zero, suc, List, ◌∷◌, length, Option, Some, None, refl, ap, arith, IfSome}
use Rattle.script_lang.proofs.Words.{ReaderOf, Shortens, option_and_then, ◌or_else◌, byte_at, symbol_at, length_at, integer_at, in_turns, by_rule, AnyTurns, closed, entry_first, comma_next, one_or_more, none_or_more, row, text_byte_at, literal_within, literal_at, line_end_at, index_item_at, EachListAnyTurns}
use Rattle.script_lang.proofs.Shorter.{Less, Few, weaker, symbol_shorter, length_shorter, integer_shorter, index_item_shorter, text_byte_shorter, literal_within_shorter, literal_shorter}

-- a rule that takes at least one byte before it goes on
abbrev pub GoesOn : {A : Type 0} → (ReaderOf A → ReaderOf A) → Type 0
GoesOn {A = A} rule = (f g : ReaderOf A) (bytes : List ℕ) → ((rest : List ℕ) → length rest < length bytes → f rest ≡ g rest) → rule f bytes ≡ rule g bytes

module _ {A : Type 0} (rule : ReaderOf A → ReaderOf A) (goes_on : GoesOn rule) where
  same_reading : (m n : ℕ) (bytes : List ℕ) → length bytes < m → length bytes < n → in_turns rule m bytes ≡ in_turns rule n bytes
  unfolding in_turns
  same_reading zero n bytes few more = absurd (omega (arith, few))
  same_reading (suc m) zero bytes few more = absurd (omega (arith, more))
  same_reading (suc m) (suc n) bytes few more = goes_on (in_turns rule m) (in_turns rule n) bytes (λ rest less. same_reading m n rest (omega arith) (omega arith))

  any_turns : AnyTurns rule
  unfolding by_rule
  any_turns turns bytes few = same_reading turns (suc (length bytes)) bytes few (omega arith)

  -- What the rule reads is what one turn of the rule reads, which goes on by the rule.
  pub one_turn : (bytes : List ℕ) → by_rule rule bytes ≡ rule (by_rule rule) bytes
  unfolding by_rule in_turns
  one_turn bytes = goes_on (in_turns rule (length bytes)) (by_rule rule) bytes (λ rest less. same_reading (length bytes) (suc (length rest)) rest less (omega arith))

others_same : {A B C : Type 0} (o : Option A) (f g : A → Option B) (next : A → B → Option C) → IfSome o (λ x. f x ≡ g x) → option_and_then (λ x. option_and_then (next x) (f x)) o ≡ option_and_then (λ x. option_and_then (next x) (g x)) o
others_same None f g next known = refl
others_same (Some x) f g next known = rw known refl

next_same : {A B : Type 0} (o : Option A) (f g : A → Option B) → IfSome o (λ x. f x ≡ g x) → option_and_then f o ≡ option_and_then g o
next_same None f g known = refl
next_same (Some x) f g known = known

module _ {A : Type 0} (entry_at : List ℕ → Option (A × List ℕ)) (shorter : Shortens entry_at) where
  first_same : (f g : List ℕ → Option (List A × List ℕ)) (bytes : List ℕ) → ((rest : List ℕ) → length rest < length bytes → f rest ≡ g rest) → entry_first entry_at f bytes ≡ entry_first entry_at g bytes
  unfolding entry_first
  first_same f g bytes same =
      others_same (entry_at bytes) (λ (first : A × List ℕ). f first.1) (λ (first : A × List ℕ). g first.1) (λ (first : A × List ℕ) (others : List A × List ℕ). Some (first.0 ∷ others.0, others.1))
      (weaker (Less (length bytes)) (λ (first : A × List ℕ). f first.1 ≡ g first.1) (entry_at bytes) (shorter bytes) (λ first less. same first.1 less))

  comma_same : (closing : ℕ) (f g : List ℕ → Option (List A × List ℕ)) (bytes : List ℕ) → ((rest : List ℕ) → length rest < length bytes → f rest ≡ g rest) → comma_next closing f bytes ≡ comma_next closing g bytes
  unfolding comma_next
  comma_same closing f g bytes same =
      ap (λ o. closed (symbol_at closing bytes) or_else o) (next_same (symbol_at 44 bytes) f g (weaker (Few (length bytes)) (λ (rest : List ℕ). f rest ≡ g rest) (symbol_at 44 bytes) (symbol_shorter 44 bytes) same))

  pub listed_goes_on : (closing : ℕ) → GoesOn (one_or_more entry_at closing)
  unfolding one_or_more
  listed_goes_on closing f g bytes same = first_same (comma_next closing f) (comma_next closing g) bytes (λ rest less. comma_same closing f g rest (λ next few. same next (omega arith)))

  pub entries_goes_on : (closing : ℕ) → GoesOn (none_or_more entry_at closing)
  unfolding none_or_more
  entries_goes_on closing f g bytes same = ap (λ o. closed (symbol_at closing bytes) or_else o) (listed_goes_on closing f g bytes same)

  pub row_goes_on : (ending : List ℕ → Option (List ℕ)) → GoesOn (row entry_at ending)
  unfolding row
  row_goes_on ending f g bytes same = ap (λ o. closed (ending bytes) or_else o) (first_same f g bytes same)

pub each_list_any_turns : EachListAnyTurns
each_list_any_turns = (
  any_turns (none_or_more length_at 41) (entries_goes_on length_at length_shorter 41),
  any_turns (none_or_more integer_at 41) (entries_goes_on integer_at integer_shorter 41),
  any_turns (one_or_more index_item_at 93) (listed_goes_on index_item_at index_item_shorter 93),
  any_turns (row text_byte_at (byte_at 39)) (row_goes_on text_byte_at text_byte_shorter (byte_at 39)),
  (λ depth. any_turns (none_or_more (literal_within depth) 41) (entries_goes_on (literal_within depth) (literal_within_shorter depth) 41)),
  any_turns (row literal_at line_end_at) (row_goes_on literal_at literal_shorter line_end_at),
)
