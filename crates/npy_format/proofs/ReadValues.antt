-- Values that are written, and read back from their tokens.
use Rattle.std.proofs.Common.{◌≡◌, ℕ, zero, suc, ◌+◌, ◌-◌, ◌*◌, ◌^◌, ◌<◌, ◌≤◌, ◌&&◌, nat_le, Bool, true, false, List, [], ◌∷◌, ◌++◌, length, None, Ok, ◌∙◌, refl, sym, ap, subst, arith, codes, decimal, append_assoc}
use Rattle.npy_format.proofs.Words.{list_all, is_ascii_digit, nat_tests, and_parts, Little, Scalar, Byte, Int, size, width_size, Fields, no_more, scalar_field, record_field, is_field_name_byte, is_legal_name, InOrder, AreNamedWithin, names_of, depth, InOrder-within, some_depth, spelling, ◌>>=◌, digits-decimal, Token, is_plain_byte, Round, Square, Text, Literal, Plain, Row, all_listed_values, symbol_token_at, entries_in, tuple_in, list_in, literal_in, quoted, entry, gap, separated, in_brackets, entries}
use Rattle.npy_format.specs.Tokens as token
use Rattle.npy_format.proofs.ReadTokens.{Scans, scan_token, scan_space, scan_quoted}
use Rattle.npy_format.proofs.WrittenEntries.{in_brackets-separated}

-- the tokens of a text that are read as a value, followed by the tokens `toks`
pub record IsRead (depth : ℕ) (text : List ℕ) (value : Literal) (toks : List Token) : Type 0 where
  pub tokens : List Token
  pub scans : Scans text tokens
  pub reads : literal_in depth tokens ≡ Ok (value, toks)
  pub longer : length toks < length tokens
  pub no_square : None ≡ symbol_token_at 93 tokens
  pub no_round : None ≡ symbol_token_at 41 tokens

-- a text is a value, whatever follows it
abbrev pub IsValue : ℕ → List ℕ → Literal → Type 0
IsValue depth text value = (rest : List ℕ) (toks : List Token) → Scans rest toks → IsRead depth (text ++ rest) value toks

-- each text is the value at the same position
abbrev pub AreValues : ℕ → List (List ℕ) → List Literal → Type 0
AreValues depth [] [] = Unit {0}
AreValues depth (text ∷ texts) (value ∷ values) = IsValue depth text value × AreValues depth texts values
AreValues depth _ _ = ⊥

-- a string
pub quoted_value : (depth : ℕ) (text : List ℕ) → list_all (is_plain_byte 39) text ≡ true → IsValue depth (quoted text) (Plain (Text text))
unfolding literal_in
quoted_value depth text plain rest toks more =
    let joined : quoted text ++ rest ≡ 39 ∷ (text ++ (39 ∷ rest)) = ap (λ (l : List ℕ). 39 ∷ l) (append_assoc text (codes "'") rest) in
    record {
      tokens = token.Text text ∷ toks;
      scans = subst (λ (l : List ℕ). Scans l (token.Text text ∷ toks)) (sym joined) (scan_quoted text rest toks plain more);
      reads = refl;
      longer = omega arith;
      no_square = refl;
      no_round = refl;
    }

-- the tokens of a text that are read as values, separated by commas, up to the closing bracket
pub record AreRead (depth closing : ℕ) (text : List ℕ) (values : List Literal) (toks : List Token) : Type 0 where
  pub tokens : List Token
  pub scans : Scans text tokens
  pub reads : (turns : ℕ) → length tokens ≤ turns → entries_in (literal_in depth) closing turns tokens ≡ Ok (values, toks)
  pub longer : length toks < length tokens

-- the same for the values after the first one
record AreBehind (depth closing : ℕ) (text : List ℕ) (values : List Literal) (toks : List Token) : Type 0 where
  tokens : List Token
  scans : Scans text tokens
  reads : (first : Literal) (before : List Token) (turns : ℕ) → length tokens ≤ turns → None ≡ symbol_token_at closing before → literal_in depth before ≡ Ok (first, tokens) → entries_in (literal_in depth) closing (suc turns) before ≡ Ok (first ∷ values, toks)
  longer : length toks < length tokens

behind : (depth : ℕ) (texts : List (List ℕ)) (values : List Literal) (rest : List ℕ) (toks : List Token) → AreValues depth texts values → Scans rest toks → AreBehind depth 93 (separated false texts ++ (93 ∷ rest)) values toks
unfolding entries_in
behind depth [] [] rest toks are more = record {
  tokens = token.Symbol 93 ∷ toks;
  scans = scan_token 93 rest (token.Symbol 93) rest toks refl refl (omega arith) more;
  reads = λ first before turns few none reads. rw (← none, reads) refl;
  longer = omega arith;
}
behind depth (text ∷ texts) (value ∷ values) rest toks are more =
    let later = behind depth texts values rest toks are.1 more in
    let tail = separated false texts ++ (93 ∷ rest) in
    let one = are.0 tail later.tokens later.scans in
    let joined : separated false (text ∷ texts) ++ (93 ∷ rest) ≡ 44 ∷ (32 ∷ (text ++ tail)) = ap (λ (l : List ℕ). 44 ∷ (32 ∷ l)) (append_assoc text (separated false texts) (93 ∷ rest)) in
    record {
      tokens = token.Symbol 44 ∷ one.tokens;
      scans = subst (λ (l : List ℕ). Scans l (token.Symbol 44 ∷ one.tokens)) (sym joined) (scan_token 44 (32 ∷ (text ++ tail)) (token.Symbol 44) (32 ∷ (text ++ tail)) one.tokens refl refl (omega arith) (scan_space (text ++ tail) one.tokens one.scans));
      reads = λ first before turns few none reads. rw (← none, reads) (ap (λ others. others >>= λ r. Ok (first ∷ r.0, r.1)) (next later one turns (omega (arith, few))));
      longer = omega (arith, one.longer, later.longer);
    }
  where
    next : (later : AreBehind depth 93 (separated false texts ++ (93 ∷ rest)) values toks) (one : IsRead depth (text ++ (separated false texts ++ (93 ∷ rest))) value later.tokens) (turns : ℕ) → length one.tokens < turns → entries_in (literal_in depth) 93 turns one.tokens ≡ Ok (value ∷ values, toks)
    next later one zero few = absurd (omega (arith, few))
    next later one (suc turns) few = later.reads value one.tokens turns (omega (arith, few, one.longer)) one.no_square one.reads
behind depth _ _ rest toks are more = absurd are

-- a list
pub all_read : (depth : ℕ) (texts : List (List ℕ)) (values : List Literal) (rest : List ℕ) (toks : List Token) → AreValues depth texts values → Scans rest toks → AreRead depth 93 (separated true texts ++ (93 ∷ rest)) values toks
unfolding entries_in
all_read depth [] [] rest toks are more = record {
  tokens = token.Symbol 93 ∷ toks;
  scans = scan_token 93 rest (token.Symbol 93) rest toks refl refl (omega arith) more;
  reads = none_read;
  longer = omega arith;
}
  where
    none_read : (turns : ℕ) → suc (length toks) ≤ turns → entries_in (literal_in depth) 93 turns (token.Symbol 93 ∷ toks) ≡ Ok ([], toks)
    none_read zero few = absurd (omega (arith, few))
    none_read (suc turns) few = refl
all_read depth (text ∷ texts) (value ∷ values) rest toks are more =
    let later = behind depth texts values rest toks are.1 more in
    let tail = separated false texts ++ (93 ∷ rest) in
    let one = are.0 tail later.tokens later.scans in
    let joined : separated true (text ∷ texts) ++ (93 ∷ rest) ≡ text ++ tail = append_assoc text (separated false texts) (93 ∷ rest) in
    record {
      tokens = one.tokens;
      scans = subst (λ (l : List ℕ). Scans l one.tokens) (sym joined) one.scans;
      reads = next later one;
      longer = omega (arith, one.longer, later.longer);
    }
  where
    next : (later : AreBehind depth 93 (separated false texts ++ (93 ∷ rest)) values toks) (one : IsRead depth (text ++ (separated false texts ++ (93 ∷ rest))) value later.tokens) (turns : ℕ) → length one.tokens ≤ turns → entries_in (literal_in depth) 93 turns one.tokens ≡ Ok (value ∷ values, toks)
    next later one zero few = absurd (omega (arith, few, one.longer))
    next later one (suc turns) few = later.reads value one.tokens turns (omega (arith, few, one.longer)) one.no_square one.reads
all_read depth _ _ rest toks are more = absurd are

pub list_value : (depth : ℕ) (texts : List (List ℕ)) (values : List Literal) → AreValues depth texts values → IsValue (suc depth) (in_brackets texts) (Row Square (all_listed_values values))
unfolding literal_in list_in
list_value depth texts values are rest toks more =
    let all = all_read depth texts values rest toks are more in
    let tail = separated true texts ++ (93 ∷ rest) in
    let joined : in_brackets texts ++ rest ≡ 91 ∷ tail = ap (λ (l : List ℕ). l ++ rest) (in_brackets-separated texts) ∙ ap (λ (l : List ℕ). 91 ∷ l) (append_assoc (separated true texts) (codes "]") rest) in
    record {
      tokens = token.Symbol 91 ∷ all.tokens;
      scans = subst (λ (l : List ℕ). Scans l (token.Symbol 91 ∷ all.tokens)) (sym joined) (scan_token 91 tail (token.Symbol 91) tail all.tokens refl refl (omega arith) all.scans);
      reads = rw (all.reads (length all.tokens) (omega arith)) refl;
      longer = omega (arith, all.longer);
      no_square = refl;
      no_round = refl;
    }

-- an entry of a record
abbrev pub entry_literal : List ℕ → Literal → Literal
entry_literal name type = Row Round (all_listed_values (Plain (Text name) ∷ (type ∷ [])))

entry_joined : (name type rest : List ℕ) → entry name type ++ rest ≡ 40 ∷ (39 ∷ (name ++ (39 ∷ (44 ∷ (32 ∷ (type ++ (41 ∷ rest)))))))
entry_joined name type rest = simp append_assoc

pub entry_value : (depth : ℕ) (name text : List ℕ) (type : Literal) → list_all (is_plain_byte 39) name ≡ true → IsValue depth text type → IsValue (suc depth) (entry name text) (entry_literal name type)
unfolding literal_in tuple_in entries_in
entry_value depth name text type plain is rest toks more =
    let closed = scan_token 41 rest (token.Symbol 41) rest toks refl refl (omega arith) more in
    let one = is (41 ∷ rest) (token.Symbol 41 ∷ toks) closed in
    let behind = 44 ∷ (32 ∷ (text ++ (41 ∷ rest))) in
    let comma = scan_token 44 (32 ∷ (text ++ (41 ∷ rest))) (token.Symbol 44) (32 ∷ (text ++ (41 ∷ rest))) one.tokens refl refl (omega arith) (scan_space (text ++ (41 ∷ rest)) one.tokens one.scans) in
    let named = scan_quoted name behind (token.Symbol 44 ∷ one.tokens) plain comma in
    let inside = 39 ∷ (name ++ (39 ∷ behind)) in
    let all = token.Text name ∷ (token.Symbol 44 ∷ one.tokens) in
    record {
      tokens = token.Symbol 40 ∷ all;
      scans = subst (λ (l : List ℕ). Scans l (token.Symbol 40 ∷ all)) (sym (entry_joined name text rest)) (scan_token 40 inside (token.Symbol 40) inside all refl refl (omega arith) named);
      reads = rw (alone (length one.tokens) one.tokens one.longer one.no_round one.reads) refl;
      longer = omega (arith, one.longer);
      no_square = refl;
      no_round = refl;
    }
  where
    alone : (turns : ℕ) (tokens : List Token) → length (token.Symbol 41 ∷ toks) < turns → None ≡ symbol_token_at 41 tokens → literal_in depth tokens ≡ Ok (type, token.Symbol 41 ∷ toks) → entries_in (literal_in depth) 41 turns tokens ≡ Ok (type ∷ [], toks)
    alone zero tokens few none reads = absurd (omega (arith, few))
    alone (suc turns) tokens few none reads = rw (← none, reads) refl

-- ---- the entries of a record

abbrev pub gap_values : ℕ → List Literal
gap_values zero = []
gap_values (suc n) = entry_literal [] (Plain (Text (codes "|V" ++ decimal (suc n)))) ∷ []

abbrev pub entry_values : ℕ → Fields → ℕ → List Literal
entry_values from no_more bytes = gap_values (bytes - from)
entry_values from (scalar_field name at scalar rest) bytes = gap_values (at - from) ++ (entry_literal name (Plain (Text (spelling scalar))) ∷ entry_values (at + size scalar) rest bytes)
entry_values from (record_field name at width inner rest) bytes = gap_values (at - from) ++ (entry_literal name (Row Square (all_listed_values (entry_values 0 inner width))) ∷ entry_values (at + width) rest bytes)

AreValues-append : (depth : ℕ) (texts texts' : List (List ℕ)) (values values' : List Literal) → AreValues depth texts values → AreValues depth texts' values' → AreValues depth (texts ++ texts') (values ++ values')
AreValues-append depth [] texts' [] values' are are' = are'
AreValues-append depth (text ∷ texts) texts' (value ∷ values) values' are are' = (are.0, AreValues-append depth texts texts' values values' are.1 are')
AreValues-append depth _ texts' _ values' are are' = absurd are

all-weaker : (p q : ℕ → Bool) → ((b : ℕ) → p b ≡ true → q b ≡ true) → (xs : List ℕ) → list_all p xs ≡ true → list_all q xs ≡ true
all-weaker p q weaker [] all = refl
all-weaker p q weaker (x ∷ xs) all =
    let parts = and_parts (p x) (list_all p xs) all in
    rw (weaker x parts.0) (all-weaker p q weaker xs parts.1)

plain_digit : (b : ℕ) → is_ascii_digit b ≡ true → is_plain_byte 39 b ≡ true
plain_digit b is = grind (arith, nat_tests)

plain_name_byte : (b : ℕ) → is_field_name_byte b ≡ true → is_plain_byte 39 b ≡ true
plain_name_byte b is = grind (arith, nat_tests)

plain_decimal : (n : ℕ) → n < 2 ^ 64 → list_all (is_plain_byte 39) (decimal n) ≡ true
plain_decimal n small = all-weaker is_ascii_digit (is_plain_byte 39) plain_digit (decimal n) (digits-decimal n small)

plain_name : (name : List ℕ) → is_legal_name name ≡ true → list_all (is_plain_byte 39) name ≡ true
plain_name name legal =
    let parts = and_parts (nat_le 1 (length name) && nat_le (length name) 64) (list_all is_field_name_byte name) legal in
    all-weaker is_field_name_byte (is_plain_byte 39) plain_name_byte name parts.1

pub plain_spelling : (scalar : Scalar) → size scalar < 2 ^ 64 → list_all (is_plain_byte 39) (spelling scalar) ≡ true
plain_spelling (Byte true) small = plain_decimal 1 small
plain_spelling (Int true width Little) small = plain_decimal (width_size width) small
plain_spelling (Int false width Little) small = plain_decimal (width_size width) small
plain_spelling scalar small = plain_decimal (size scalar) small

gaps_are : (depth n : ℕ) → n < 2 ^ 64 → AreValues (suc depth) (gap n) (gap_values n)
gaps_are depth zero small = tt
gaps_are depth (suc n) small = (entry_value depth [] (quoted (codes "|V" ++ decimal (suc n))) (Plain (Text (codes "|V" ++ decimal (suc n)))) refl (quoted_value depth (codes "|V" ++ decimal (suc n)) (plain_decimal (suc n) small)), tt)

pub entries_are : (fields : Fields) (from bytes levels : ℕ) → InOrder from fields bytes → bytes ≤ 65536 → 2 * depth fields ≤ levels + 1 → list_all is_legal_name (names_of fields) ≡ true → AreNamedWithin fields → AreValues levels (entries from fields bytes) (entry_values from fields bytes)
entries_are fields from bytes zero order small deep names within = absurd (omega (arith, deep, some_depth fields))
entries_are no_more from bytes (suc levels) order small deep names within = gaps_are levels (bytes - from) (omega (arith, small))
entries_are (scalar_field name at scalar rest) from bytes (suc levels) order small deep names within =
    let ends = InOrder-within (at + size scalar) rest bytes order.2 in
    let legal = and_parts (is_legal_name name) (list_all is_legal_name (names_of rest)) names in
    AreValues-append (suc levels) (gap (at - from)) _ (gap_values (at - from)) _ (gaps_are levels (at - from) (omega (arith, small, ends))) (
      entry_value levels name (quoted (spelling scalar)) (Plain (Text (spelling scalar))) (plain_name name legal.0) (quoted_value levels (spelling scalar) (plain_spelling scalar (omega (arith, small, ends)))),
      entries_are rest (at + size scalar) bytes (suc levels) order.2 small deep legal.1 within,
    )
entries_are (record_field name at width inner rest) from bytes (suc zero) order small deep names within = absurd (omega (arith, deep, some_depth inner))
entries_are (record_field name at width inner rest) from bytes (suc (suc levels)) order small deep names within =
    let ends = InOrder-within (at + width) rest bytes order.3 in
    let legal = and_parts (is_legal_name name) (list_all is_legal_name (names_of rest)) names in
    AreValues-append (suc (suc levels)) (gap (at - from)) _ (gap_values (at - from)) _ (gaps_are (suc levels) (at - from) (omega (arith, small, ends))) (
      entry_value (suc levels) name (in_brackets (entries 0 inner width)) (Row Square (all_listed_values (entry_values 0 inner width))) (plain_name name legal.0)
          (list_value levels (entries 0 inner width) (entry_values 0 inner width) (entries_are inner 0 width levels order.2 (omega (arith, small, ends)) (omega (arith, deep)) within.0.named within.1)),
      entries_are rest (at + width) bytes (suc (suc levels)) order.3 small (omega (arith, deep)) legal.1 within.2,
    )
