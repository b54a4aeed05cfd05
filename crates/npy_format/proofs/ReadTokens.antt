-- The tokens of a written text.
use Rattle.std.proofs.Common.{◌≡◌, ℕ, zero, suc, ◌+◌, ◌^◌, ◌<◌, ◌≤◌, Bool, true, false, List, [], ◌∷◌, ◌++◌, length, get_or, take, drop, replicate, refl, sym, ap, subst, ◌∙◌, arith, codes, decimal, length-append, nat_eq, if◌then◌else◌}
use Rattle.npy_format.proofs.Words.{is_ascii_digit, is_ascii_alphabetic, list_all, prefix_len, take-append_seam, drop-append_seam, ne_eqb, and_parts, nat_tests, first_decimal, decimal_nonempty, decimal_digit, value_of, digits-decimal, value_of-decimal, max_items, Token, Symbol, Stray, is_space, is_quote, is_plain_byte, text_token, ended_text, is_integer, behind_long, integer_token, word_token, token_from, unspaced_text, first_token, tokens_in}
use Rattle.npy_format.specs.Tokens.{Text, Integer}

-- the tokens of a text, in any number of turns that is at least the number of its bytes
abbrev pub Scans : List ℕ → List Token → Type 0
Scans text toks = (turns : ℕ) → length text ≤ turns → tokens_in turns text ≡ toks

-- nothing but the end of the line
pub scan_end : Scans (codes "\n") []
scan_end zero few = absurd (omega (arith, few))
scan_end (suc turns) few = refl

-- a space is skipped
pub scan_space : (rest : List ℕ) (toks : List Token) → Scans rest toks → Scans (32 ∷ rest) toks
scan_space rest toks more zero few = absurd (omega (arith, few))
scan_space rest toks more (suc turns) few =
    let n = prefix_len is_space rest in
    let one : 1 + n ≡ suc n = omega arith in
    ap (λ (k : ℕ). first_token (tokens_in turns) (drop k (32 ∷ rest))) one ∙ more (suc turns) (omega (arith, few))

pub scan_spaces : (n : ℕ) (rest : List ℕ) (toks : List Token) → Scans rest toks → Scans (replicate n 32 ++ rest) toks
scan_spaces zero rest toks more = more
scan_spaces (suc n) rest toks more = scan_space (replicate n 32 ++ rest) toks (scan_spaces n rest toks more)

-- a token and those after it
pub scan_token : (b : ℕ) (rest : List ℕ) (token : Token) (behind : List ℕ) (toks : List Token) → is_space b ≡ false → token_from b rest ≡ (token, behind) → length behind ≤ length rest → Scans behind toks → Scans (b ∷ rest) (token ∷ toks)
scan_token b rest token behind toks begins is shorter more zero few = absurd (omega (arith, few))
scan_token b rest token behind toks begins is shorter more (suc turns) few =
    ap (λ (text : List ℕ). first_token (tokens_in turns) text) none
    ∙ ap (λ (t : Token × List ℕ). t.0 ∷ tokens_in turns t.1) is
    ∙ ap (λ (l : List Token). token ∷ l) (more turns (omega (arith, few, shorter)))
  where
    none : unspaced_text (b ∷ rest) ≡ b ∷ rest
    none = rw begins refl

-- bytes that pass a test, before a byte that does not
prefix_all : (p : ℕ → Bool) (xs : List ℕ) (b : ℕ) (rest : List ℕ) → list_all p xs ≡ true → p b ≡ false → prefix_len p (xs ++ (b ∷ rest)) ≡ length xs
prefix_all p [] b rest all stops = rw stops refl
prefix_all p (x ∷ xs) b rest all stops =
    let parts = and_parts (p x) (list_all p xs) all in
    rw parts.0 (omega (arith, prefix_all p xs b rest parts.1 stops))

-- a string between apostrophes
pub scan_quoted : (text rest : List ℕ) (toks : List Token) → list_all (is_plain_byte 39) text ≡ true → Scans rest toks → Scans (39 ∷ (text ++ (39 ∷ rest))) (Text text ∷ toks)
scan_quoted text rest toks plain more =
    let n = prefix_all (is_plain_byte 39) text 39 rest plain refl in
    let all = text ++ (39 ∷ rest) in
    let is : token_from 39 all ≡ (Text text, rest) =
    ap (λ (k : ℕ). ended_text (take k all) 39 (drop k all)) n ∙ (λ i. ended_text (take-append_seam text (39 ∷ rest) i) 39 (drop-append_seam text (39 ∷ rest) i)) in
    scan_token 39 all (Text text) rest toks refl is (omega (arith, length-append text (39 ∷ rest))) more

-- ---- numbers

-- the first digit of a number
pub record Digits (n : ℕ) : Type 0 where
  pub first : ℕ
  pub others : List ℕ
  pub is : decimal n ≡ first ∷ others
  pub digit : is_ascii_digit first ≡ true
  pub whole : is_integer (decimal n) ≡ true

pub digits_of : (n : ℕ) → n < 2 ^ 64 → Digits n
digits_of n small = of (decimal n) refl
  where
    of : (digits : List ℕ) → decimal n ≡ digits → Digits n
    of [] is = absurd (omega (arith, decimal_nonempty n small, ap length is))
    of (d ∷ digits) is =
        let all = subst (λ l. list_all is_ascii_digit l ≡ true) is (digits-decimal n small) in
        record { first = d; others = digits; is = is; digit = (and_parts (is_ascii_digit d) (list_all is_ascii_digit digits) all).0; whole = whole n small d digits is }
      where
        whole : (n : ℕ) → n < 2 ^ 64 → (d : ℕ) (digits : List ℕ) → decimal n ≡ d ∷ digits → is_integer (decimal n) ≡ true
        whole zero small d digits is = ap is_integer (decimal_digit 0 (omega arith))
        whole (suc n) small d digits is =
            let high : 48 < get_or (decimal (suc n)) 0 0 = first_decimal (suc n) (omega arith) small in
            let high' : 48 < d = subst (λ l. 48 < get_or l 0 0) is high in
            ap is_integer is ∙ rw (ne_eqb d 48 (λ same. omega (arith, same, high'))) refl

no_space : (d : ℕ) → is_ascii_digit d ≡ true → is_space d ≡ false
no_space d is = grind (arith, nat_tests)

chosen : (q t : Bool) (a b c : Token × List ℕ) → q ≡ false → t ≡ true → (if q then a else if t then b else c) ≡ b
chosen q t a b c first second = rw (first, second) refl

token_digit : (d : ℕ) (rest : List ℕ) → is_ascii_digit d ≡ true → token_from d rest ≡ integer_token (d ∷ rest)
token_digit d rest is = chosen (is_quote d) (is_ascii_digit d) (text_token d rest) (integer_token (d ∷ rest)) (if is_ascii_alphabetic d then word_token (d ∷ rest) else (Symbol d, rest)) (grind (arith, nat_tests)) is

-- a number before a byte that is neither a digit nor an `L`
pub scan_number : (n b : ℕ) (rest : List ℕ) (toks : List Token) → n ≤ max_items → is_ascii_digit b ≡ false → nat_eq b 76 ≡ false → Scans (b ∷ rest) toks → Scans (decimal n ++ (b ∷ rest)) (Integer n ∷ toks)
scan_number n b rest toks few stops short more =
    let small : n < 2 ^ 64 = omega (arith, few) in
    let parts = digits_of n small in
    let all = decimal n ++ (b ∷ rest) in
    let front : all ≡ parts.first ∷ (parts.others ++ (b ∷ rest)) = ap (λ (l : List ℕ). l ++ (b ∷ rest)) parts.is in
    let found : integer_token all ≡ (Integer n, b ∷ rest) = number in
    let is : token_from parts.first (parts.others ++ (b ∷ rest)) ≡ (Integer n, b ∷ rest) = token_digit parts.first (parts.others ++ (b ∷ rest)) parts.digit ∙ ap integer_token (sym front) ∙ found in
    subst (λ (text : List ℕ). Scans text (Integer n ∷ toks)) (sym front) (scan_token parts.first (parts.others ++ (b ∷ rest)) (Integer n) (b ∷ rest) toks (no_space parts.first parts.digit) is (omega (arith, length-append parts.others (b ∷ rest))) more)
  where
    number : integer_token (decimal n ++ (b ∷ rest)) ≡ (Integer n, b ∷ rest)
    number =
        let small : n < 2 ^ 64 = omega (arith, few) in
        let k = prefix_all is_ascii_digit (decimal n) b rest (digits-decimal n small) stops in
        let text = decimal n ++ (b ∷ rest) in
        let value = value_of-decimal n small in
        let whole = (digits_of n small).whole in
        ap (λ (m : ℕ). (if is_integer (take m text) then Integer (value_of (take m text)) else Stray, behind_long (drop m text))) k
        ∙ (λ i. (if is_integer (take-append_seam (decimal n) (b ∷ rest) i) then Integer (value_of (take-append_seam (decimal n) (b ∷ rest) i)) else Stray, behind_long (drop-append_seam (decimal n) (b ∷ rest) i)))
        ∙ rw (whole, value, short) refl
