-- Lists of entries. A rule reads a list, given a reader for the list after the first entry.
use Rattle.std.specs.Prelude.{◌≡◌, ◌<◌, ℕ, zero, suc, List, [], ◌∷◌, length, Option, Some, None, IfSome}
use Rattle.script_lang.specs.Words.{option_map}
use Rattle.script_lang.specs.Readers.{ReaderOf, ◌or_else◌, two_parts}
use Rattle.script_lang.specs.Tokens.{symbol_at, behind}

-- what a rule reads if it may be applied at most `turns` times
unfoldable pub in_turns : {A : Type 0} → (ReaderOf A → ReaderOf A) → ℕ → ReaderOf A
in_turns rule zero bytes = None
in_turns rule (suc turns) bytes = rule (in_turns rule turns) bytes

-- What a rule reads. Each entry takes at least one byte, so one turn more than the number of bytes is enough.
unfoldable pub by_rule : {A : Type 0} → (ReaderOf A → ReaderOf A) → ReaderOf A
by_rule rule bytes = in_turns rule (suc (length bytes)) bytes

-- The rule reads the same in any number of turns above the number of bytes.
abbrev pub AnyTurns : {A : Type 0} → (ReaderOf A → ReaderOf A) → Type 0
AnyTurns rule = (turns : ℕ) (bytes : List ℕ) → length bytes < turns → in_turns rule turns bytes ≡ by_rule rule bytes

-- a reader takes at least one byte
abbrev pub Shortens : {A : Type 0} → ReaderOf A → Type 0
Shortens entry_at = (bytes : List ℕ) → IfSome (entry_at bytes) (λ r. length r.1 < length bytes)

-- the end of a list
abbrev pub closed : {A : Type 0} → Option (List ℕ) → Option (List A × List ℕ)
closed rest = option_map (λ bytes. ([], bytes)) rest

-- an entry, and the others after it
unfoldable pub entry_first : {A : Type 0} → ReaderOf A → ReaderOf (List A) → ReaderOf (List A)
entry_first entry_at others_at bytes = two_parts (λ first others. first ∷ others) entry_at others_at bytes

-- after an entry: the byte that closes the list, or a comma and the others
unfoldable pub comma_next : {A : Type 0} → ℕ → ReaderOf (List A) → ReaderOf (List A)
comma_next closing others_at bytes = closed (symbol_at closing bytes) or_else behind 44 others_at bytes

-- One or more entries, separated by commas, up to the byte that closes the list. A trailing comma is invalid.
unfoldable pub one_or_more : {A : Type 0} → ReaderOf A → ℕ → ReaderOf (List A) → ReaderOf (List A)
one_or_more entry_at closing others_at bytes = entry_first entry_at (comma_next closing others_at) bytes

-- Zero or more entries, separated by commas, up to the byte that closes the list. A trailing comma is allowed.
unfoldable pub none_or_more : {A : Type 0} → ReaderOf A → ℕ → ReaderOf (List A) → ReaderOf (List A)
none_or_more entry_at closing others_at bytes = closed (symbol_at closing bytes) or_else one_or_more entry_at closing others_at bytes

-- Zero or more consecutive entries, up to the end of the list.
unfoldable pub row : {A : Type 0} → ReaderOf A → (List ℕ → Option (List ℕ)) → ReaderOf (List A) → ReaderOf (List A)
row entry_at ending others_at bytes = closed (ending bytes) or_else entry_first entry_at others_at bytes
