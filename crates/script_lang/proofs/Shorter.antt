-- A reader leaves fewer bytes than it was given.
use Rattle.std.proofs.Common.{◌≡◌, ◌<◌, ◌≤◌, ℕ, zero, suc, Bool, true, false, List, [], ◌∷◌, length, Option, Some, None, arith, length-drop, nat_eq, codes, not, ◌==◌, subst, ℤ, nat_le, IfSome, if◌then◌else◌, ◌&&◌, ◌+◌, ◌*◌}
use Rattle.script_lang.proofs.Words.{Shortens, prefix_len, option_map, bytes_eq, eqb-suc-zero, IndexItem, ScalarLiteral, Literal, Scalar, ReaderOf, ◌>>=◌, ◌or_else◌, if_found, one_part, two_parts, only, behind, is_blank, is_ascii_digit, is_name_byte, unspaced, byte_at, symbol_at, front_at, front_of, bytes_mark_at, is_parted, word_at, keyword_at, is_name, name_at, number_at, length_at, integer_at, optional_integer_at, in_turns, by_rule, closed, entry_first, comma_next, one_or_more, none_or_more, row, hex_value, hex_digit_at, escape_at, is_plain, plain_byte_at, text_byte_at, byte_text_at, scalar_at, record_at, literal_within, literal_at, step_at, slice_at, ellipsis_at, index_item_at}
use Rattle.script_lang.proofs.Rooms.{after_step, after_known, mapped, chosen, tested}

-- fewer than `n` bytes remain: on their own, and after what is read
abbrev pub Few : ℕ → List ℕ → Type 0
Few n rest = length rest < n

abbrev pub Less : {A : Type 0} → ℕ → A × List ℕ → Type 0
Less n r = length r.1 < n

pub weaker : {A : Type 0} (P Q : A → Type 0) (o : Option A) → IfSome o P → ((x : A) → P x → Q x) → IfSome o Q
weaker P Q None known each = tt
weaker P Q (Some x) known each = each x known

either : {A : Type 0} (P : A → Type 0) (first second : Option A) → IfSome first P → IfSome second P → IfSome (first or_else second) P
either P None second one two = two
either P (Some x) second one two = one

found : {A B : Type 0} (Q : B → Type 0) (P : A → Type 0) (o : Option B) (next : B → Option A) (other : Option A) → IfSome o Q → ((x : B) → Q x → IfSome (next x) P) → IfSome other P → IfSome (if_found o next other) P
found Q P None next other known each otherwise = otherwise
found Q P (Some x) next other known each otherwise = each x known

-- reading from fewer bytes
within : {A : Type 0} (n : ℕ) (read : List ℕ → Option (A × List ℕ)) → Shortens read → (rest : List ℕ) → length rest ≤ n → IfSome (read rest) (Less n)
within n read shorter rest few = weaker (Less (length rest)) (Less n) (read rest) (shorter rest) (λ r less. omega arith)

-- A value of one part leaves what its part leaves, and one of two parts what the second leaves.
part_within : {A Z : Type 0} (n : ℕ) (make : A → Z) (read : ReaderOf A) (bytes : List ℕ) → IfSome (read bytes) (Less n) → IfSome (one_part make read bytes) (Less n)
part_within n make read bytes known = after_known (Less n) (Less n) (read bytes) _ known (λ part few. few)

parts_shorter : {A B Z : Type 0} (make : A → B → Z) (first : ReaderOf A) (second : ReaderOf B) → Shortens first → Shortens second → Shortens (two_parts make first second)
parts_shorter make first second one two bytes =
    after_known (Less (length bytes)) (Less (length bytes)) (first bytes) _ (one bytes) (λ a few. part_within (length bytes) (make a.0) second a.1 (within (length bytes) second two a.1 (omega arith)))

-- Tokens

byte_within : (n b : ℕ) (bytes : List ℕ) → length bytes ≤ n → IfSome (byte_at b bytes) (Few n)
byte_within n b [] few = tt
byte_within n b (c ∷ bytes) few = chosen (Few n) (nat_eq c b) (Some bytes) None (omega arith) tt

-- two bytes at once
pub two_within : (n b c : ℕ) (bytes : List ℕ) → length bytes ≤ n → IfSome (byte_at b bytes >>= byte_at c) (Few n)
two_within n b c bytes few = after_known (Few n) (Few n) (byte_at b bytes) (byte_at c) (byte_within n b bytes few) (λ rest fewer. byte_within n c rest (omega arith))

unspaced_length : (bytes : List ℕ) → length (unspaced bytes) ≤ length bytes
unspaced_length bytes = omega (arith, length-drop (prefix_len is_blank bytes) bytes)

symbol_within : (n b : ℕ) (bytes : List ℕ) → length bytes ≤ n → IfSome (symbol_at b bytes) (Few n)
symbol_within n b bytes few = byte_within n b (unspaced bytes) (omega (arith, unspaced_length bytes))

pub symbol_shorter : (b : ℕ) (bytes : List ℕ) → IfSome (symbol_at b bytes) (Few (length bytes))
symbol_shorter b bytes = symbol_within (length bytes) b bytes (omega arith)

front_cons : (n b : ℕ) (bytes : List ℕ) → IfSome (front_of n (b ∷ bytes)) (Less (length (b ∷ bytes)))
front_cons zero b bytes = tt
front_cons (suc n) b bytes = rw (eqb-suc-zero n) (omega (arith, length-drop n bytes))

front_shorter : (test : ℕ → Bool) → Shortens (front_at test)
front_shorter test [] = tt
front_shorter test (b ∷ bytes) = front_cons (prefix_len test (b ∷ bytes)) b bytes

number_shorter : Shortens number_at
unfolding number_at
number_shorter bytes =
    let P = Less {A = List ℕ} (length bytes) in
    part_within (length bytes) _ (only (λ digits. nat_le (length digits.0) 30 && is_parted digits.1) (front_at is_ascii_digit)) bytes (tested P (λ digits. nat_le (length digits.0) 30 && is_parted digits.1) (front_at is_ascii_digit) bytes (front_shorter is_ascii_digit bytes))

pub length_shorter : Shortens length_at
unfolding length_at
length_shorter bytes = within (length bytes) number_at number_shorter (unspaced bytes) (unspaced_length bytes)

pub integer_shorter : Shortens integer_at
unfolding integer_at
integer_shorter bytes =
    let P = Less {A = ℤ} (length bytes) in
    let after_sign : (rest : List ℕ) → Few (length bytes) rest → IfSome (number_at rest) (Less (length bytes)) = λ rest few. within (length bytes) number_at number_shorter rest (omega arith) in
    found (Few (length bytes)) P (symbol_at 45 bytes) _ _ (symbol_shorter 45 bytes) (λ rest few. part_within (length bytes) _ number_at rest (after_sign rest few))
    (found (Few (length bytes)) P (symbol_at 43 bytes) _ _ (symbol_shorter 43 bytes) (λ rest few. part_within (length bytes) _ number_at rest (after_sign rest few))
    (part_within (length bytes) _ length_at bytes (length_shorter bytes)))

word_shorter : Shortens word_at
unfolding word_at
word_shorter bytes =
    let P = Less {A = List ℕ} (length bytes) in
    tested P (λ word. is_parted word.1) (front_at is_name_byte) (unspaced bytes) (within (length bytes) (front_at is_name_byte) (front_shorter is_name_byte) (unspaced bytes) (unspaced_length bytes))

keyword_shorter : (keyword bytes : List ℕ) → IfSome (keyword_at keyword bytes) (Few (length bytes))
unfolding keyword_at
keyword_shorter keyword bytes =
    let P = Less {A = List ℕ} (length bytes) in
    mapped (Few (length bytes)) (λ (word : List ℕ × List ℕ). word.1) _ (tested P (λ word. bytes_eq word.0 keyword) word_at bytes (word_shorter bytes))

name_shorter : Shortens name_at
unfolding name_at
name_shorter bytes = tested (Less (length bytes)) (λ word. is_name word.0) word_at bytes (word_shorter bytes)

-- Index items

-- at most `n` bytes remain
abbrev AtMost : {A : Type 0} → ℕ → A × List ℕ → Type 0
AtMost n r = length r.1 ≤ n

-- An optional integer leaves at most as many bytes.
optional_integer_within : (n : ℕ) (bytes : List ℕ) → length bytes ≤ n → IfSome (optional_integer_at bytes) (AtMost n)
unfolding optional_integer_at
optional_integer_within n bytes few =
    found (Less (length bytes)) (AtMost n) (integer_at bytes) _ _ (integer_shorter bytes) (λ integer less. omega arith) few

step_within : (n : ℕ) (bytes : List ℕ) → length bytes ≤ n → IfSome (step_at bytes) (AtMost n)
step_within n bytes few =
    found (Few (length bytes)) (AtMost n) (symbol_at 58 bytes) _ _ (symbol_shorter 58 bytes) (λ rest less. optional_integer_within n rest (omega arith)) few

stop_within : (n : ℕ) (bytes : List ℕ) → length bytes ≤ n → IfSome (behind 58 optional_integer_at bytes) (Less n)
stop_within n bytes few =
    after_known (Few n) (Less n) (symbol_at 58 bytes) _ (symbol_within n 58 bytes few)
    (λ rest less. weaker (AtMost (length rest)) (Less n) (optional_integer_at rest) (optional_integer_within (length rest) rest (omega arith)) (λ stop most. omega arith))

slice_shorter : Shortens slice_at
unfolding slice_at
slice_shorter bytes =
    let n = length bytes in
    let P = Less {A = IndexItem (List ℕ)} n in
    after_known (AtMost n) P (optional_integer_at bytes) _ (optional_integer_within n bytes (omega arith))
    (λ start most. after_known (Less n) P (behind 58 optional_integer_at start.1) _ (stop_within n start.1 most)
    (λ stop less. after_known (Less n) P (step_at stop.1) _
    (weaker (AtMost (length stop.1)) (Less n) (step_at stop.1) (step_within (length stop.1) stop.1 (omega arith)) (λ step no_more. omega arith))
    (λ step few. few)))

ellipsis_shorter : (bytes : List ℕ) → IfSome (ellipsis_at bytes) (Few (length bytes))
unfolding ellipsis_at
ellipsis_shorter bytes =
    let P = Few (length bytes) in
    after_known P P (byte_at 46 (unspaced bytes) >>= byte_at 46) (byte_at 46) (two_within (length bytes) 46 46 (unspaced bytes) (unspaced_length bytes)) (λ rest few. byte_within (length bytes) 46 rest (omega arith))

pub index_item_shorter : Shortens index_item_at
unfolding index_item_at
index_item_shorter bytes =
    let P = Less {A = IndexItem (List ℕ)} (length bytes) in
    either P _ _ (either P _ _ (either P _ _ (either P _ _ (slice_shorter bytes)
    (part_within (length bytes) _ integer_at bytes (integer_shorter bytes)))
    (mapped P _ (ellipsis_at bytes) (ellipsis_shorter bytes)))
    (mapped P _ (keyword_at (codes "None") bytes) (keyword_shorter (codes "None") bytes)))
    (part_within (length bytes) _ name_at bytes (name_shorter bytes))

-- Lists

in_turns_shorter : {A : Type 0} (rule : (List ℕ → Option (A × List ℕ)) → List ℕ → Option (A × List ℕ)) → ((others_at : List ℕ → Option (A × List ℕ)) → Shortens others_at → Shortens (rule others_at)) → (turns : ℕ) → Shortens (in_turns rule turns)
unfolding in_turns
in_turns_shorter rule each zero bytes = tt
in_turns_shorter rule each (suc turns) bytes = each (in_turns rule turns) (in_turns_shorter rule each turns) bytes

closed_within : (A : Type 0) (n : ℕ) (rest : Option (List ℕ)) → IfSome rest (Few n) → IfSome (closed {A = A} rest) (Less n)
closed_within A n None known = tt
closed_within A n (Some end) known = known

module _ {A : Type 0} (entry_at : List ℕ → Option (A × List ℕ)) (shorter : Shortens entry_at) where
  first_shorter : (others_at : List ℕ → Option (List A × List ℕ)) → Shortens others_at → Shortens (entry_first entry_at others_at)
  unfolding entry_first
  first_shorter others_at others = parts_shorter (λ first rest. first ∷ rest) entry_at others_at shorter others

  comma_shorter : (closing : ℕ) (others_at : List ℕ → Option (List A × List ℕ)) → Shortens others_at → Shortens (comma_next closing others_at)
  unfolding comma_next
  comma_shorter closing others_at others bytes =
      let P = Less {A = List A} (length bytes) in
      either P _ _ (closed_within A (length bytes) (symbol_at closing bytes) (symbol_shorter closing bytes))
      (after_known (Few (length bytes)) P (symbol_at 44 bytes) others_at (symbol_shorter 44 bytes) (λ next few. within (length bytes) others_at others next (omega arith)))

  entries_shorter : (closing : ℕ) → Shortens (by_rule (none_or_more entry_at closing))
  unfolding by_rule none_or_more one_or_more
  entries_shorter closing bytes =
      in_turns_shorter (none_or_more entry_at closing)
      (λ others_at others rest. either (Less (length rest)) _ _ (closed_within A (length rest) (symbol_at closing rest) (symbol_shorter closing rest)) (first_shorter (comma_next closing others_at) (comma_shorter closing others_at others) rest))
      (suc (length bytes)) bytes

  row_shorter : (closing : ℕ) → Shortens (by_rule (row entry_at (byte_at closing)))
  unfolding by_rule row
  row_shorter closing bytes =
      in_turns_shorter (row entry_at (byte_at closing))
      (λ others_at others rest. either (Less (length rest)) _ _ (closed_within A (length rest) (byte_at closing rest) (byte_within (length rest) closing rest (omega arith))) (first_shorter others_at others rest))
      (suc (length bytes)) bytes

-- Literals

digit_behind : (b : ℕ) (bytes : List ℕ) (o : Option ℕ) → IfSome (option_map (λ (digit : ℕ). (digit, bytes)) o) (Less (length (b ∷ bytes)))
digit_behind b bytes None = tt
digit_behind b bytes (Some digit) = omega arith

digit_shorter : Shortens hex_digit_at
unfolding hex_digit_at
digit_shorter [] = tt
digit_shorter (b ∷ bytes) = digit_behind b bytes (hex_value b)

escape_shorter : Shortens escape_at
unfolding escape_at
escape_shorter bytes =
    let P = Less {A = ℕ} (length bytes) in
    after_known (Few (length bytes)) P (byte_at 120 bytes) _ (byte_within (length bytes) 120 bytes (omega arith))
    (λ digits few. within (length bytes) (two_parts (λ high low. high * 16 + low) hex_digit_at hex_digit_at) (parts_shorter _ hex_digit_at hex_digit_at digit_shorter digit_shorter) digits (omega arith))

plain_byte_shorter : Shortens plain_byte_at
plain_byte_shorter [] = tt
plain_byte_shorter (b ∷ bytes) = chosen (Less (length (b ∷ bytes))) (is_plain b) (Some (b, bytes)) None (omega arith) tt

pub text_byte_shorter : Shortens text_byte_at
unfolding text_byte_at
text_byte_shorter bytes =
    found (Few (length bytes)) (Less (length bytes)) (byte_at 92 bytes) escape_at (plain_byte_at bytes) (byte_within (length bytes) 92 bytes (omega arith))
    (λ rest few. within (length bytes) escape_at escape_shorter rest (omega arith)) (plain_byte_shorter bytes)

scalar_shorter : Shortens scalar_at
unfolding scalar_at bytes_mark_at byte_text_at
scalar_shorter bytes =
    let n = length bytes in
    let P = Less {A = ScalarLiteral} n in
    found (Few n) P (bytes_mark_at bytes) _ _ (two_within n 98 39 bytes (omega arith))
    (λ inside few. part_within n _ byte_text_at inside (within n byte_text_at (row_shorter text_byte_at text_byte_shorter 39) inside (omega arith)))
    (either P _ _ (either P _ _ (part_within n _ integer_at bytes (integer_shorter bytes))
    (mapped P _ (keyword_at (codes "True") bytes) (keyword_shorter (codes "True") bytes)))
    (mapped P _ (keyword_at (codes "False") bytes) (keyword_shorter (codes "False") bytes)))

scalar_literal_shorter : Shortens (λ bytes. one_part Scalar scalar_at (unspaced bytes))
scalar_literal_shorter bytes = part_within (length bytes) Scalar scalar_at (unspaced bytes) (within (length bytes) scalar_at scalar_shorter (unspaced bytes) (unspaced_length bytes))

record_shorter : (value_at : ReaderOf Literal) → Shortens value_at → Shortens (record_at value_at)
unfolding record_at
record_shorter value_at shorter bytes =
    part_within (length bytes) _ (only (λ values. not (length values.0 == 0)) (by_rule (none_or_more value_at 41))) bytes
    (tested (Less (length bytes)) (λ values. not (length values.0 == 0)) (by_rule (none_or_more value_at 41)) bytes (entries_shorter value_at shorter 41 bytes))

pub literal_within_shorter : (depth : ℕ) → Shortens (literal_within depth)
unfolding literal_within
literal_within_shorter zero bytes = scalar_literal_shorter bytes
literal_within_shorter (suc depth) bytes =
    found (Few (length bytes)) (Less (length bytes)) (symbol_at 40 bytes) (record_at (literal_within depth)) _ (symbol_shorter 40 bytes)
    (λ inside few. within (length bytes) (record_at (literal_within depth)) (record_shorter (literal_within depth) (literal_within_shorter depth)) inside (omega arith))
    (scalar_literal_shorter bytes)

pub literal_shorter : Shortens literal_at
unfolding literal_at
literal_shorter bytes = literal_within_shorter 4 bytes

-- An entry, and the comma after it, leave fewer bytes.
pub entry_behind : {A : Type 0} (entry_at : List ℕ → Option (A × List ℕ)) → Shortens entry_at → (rest : List ℕ) (x : A) (after : List ℕ) → entry_at rest ≡ Some (x, after) → length after < length rest
entry_behind entry_at shorter rest x after first = subst (λ o. IfSome o (Less (length rest))) first (shorter rest)

pub comma_behind : {A : Type 0} (entry_at : List ℕ → Option (A × List ℕ)) → Shortens entry_at → (rest : List ℕ) (x : A) (after next : List ℕ) → entry_at rest ≡ Some (x, after) → symbol_at 44 after ≡ Some next → length next < length rest
comma_behind entry_at shorter rest x after next first comma =
    let one = entry_behind entry_at shorter rest x after first in
    let two = subst (λ o. IfSome o (Few (length after))) comma (symbol_shorter 44 after) in
    omega arith
