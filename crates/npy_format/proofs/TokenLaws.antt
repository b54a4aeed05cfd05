-- The tokens of a text, one after another.
use Rattle.std.proofs.Common.{◌≡◌, ◌<◌, ◌≤◌, ◌+◌, ◌-◌, ℕ, zero, suc, Bool, true, false, List, [], ◌∷◌, length, take, drop, get_or, refl, ap, sym, ◌∙◌, arith, length-drop, nat_eq, if◌then◌else◌}
use Rattle.npy_format.proofs.Words.{take_all, is_ascii_digit, is_ascii_alphabetic, prefix_len, Token, Symbol, Stray, is_space, is_quote, is_plain_byte, ended_text, text_token, behind_long, integer_token, word_token, token_from, unspaced_text, first_token, tokens_in, tokens}
use Rattle.npy_format.specs.Tokens.{Text}

-- ---- a token takes at least one byte

chosen : {A : Type 0} (P : A → Type 0) (is : Bool) (a b : A) → P a → P b → P (if is then a else b)
chosen P true a b h k = h
chosen P false a b h k = k

shorter_drop : (n : ℕ) (xs : List ℕ) → length (drop n xs) ≤ length xs
shorter_drop n xs = omega (arith, length-drop n xs)

shorter_text : (quote : ℕ) (bytes : List ℕ) → length (text_token quote bytes).1 ≤ length bytes
shorter_text quote bytes = let n = prefix_len (is_plain_byte quote) bytes in ended (take n bytes) (drop n bytes) (shorter_drop n bytes)
  where
    ended : (plain rest : List ℕ) → length rest ≤ length bytes → length (ended_text plain quote rest).1 ≤ length bytes
    ended plain [] few = few
    ended plain (b ∷ rest) few = chosen (λ (t : Token × List ℕ). length t.1 ≤ length bytes) (nat_eq b quote) (Text plain, rest) (Stray, rest) (omega (arith, few)) (omega (arith, few))

shorter_long : (bytes : List ℕ) → length (behind_long bytes) ≤ length bytes
shorter_long [] = omega arith
shorter_long (b ∷ rest) = chosen (λ (l : List ℕ). length l ≤ suc (length rest)) (nat_eq b 76) rest (b ∷ rest) (omega arith) (omega arith)

-- after a byte that passes a test, and those after it that pass
shorter_front : (test : ℕ → Bool) (b : ℕ) (rest : List ℕ) → test b ≡ true → length (drop (prefix_len test (b ∷ rest)) (b ∷ rest)) ≤ length rest
shorter_front test b rest passes =
    let n = prefix_len test (b ∷ rest) in
    let some : n ≡ 1 + prefix_len test rest = rw passes refl in
    omega (arith, length-drop n (b ∷ rest), some)

shorter_integer : (b : ℕ) (rest : List ℕ) → is_ascii_digit b ≡ true → length (integer_token (b ∷ rest)).1 ≤ length rest
shorter_integer b rest digit = omega (arith, shorter_long (drop (prefix_len is_ascii_digit (b ∷ rest)) (b ∷ rest)), shorter_front is_ascii_digit b rest digit)

shorter_token : (b : ℕ) (rest : List ℕ) → length (token_from b rest).1 ≤ length rest
shorter_token b rest = quoted (is_quote b) (is_ascii_digit b) (is_ascii_alphabetic b) refl refl
  where
    quoted : (quote digit letter : Bool) → is_ascii_digit b ≡ digit → is_ascii_alphabetic b ≡ letter → length (if quote then text_token b rest else if digit then integer_token (b ∷ rest) else if letter then word_token (b ∷ rest) else (Symbol b, rest)).1 ≤ length rest
    quoted true digit letter d l = shorter_text b rest
    quoted false true letter d l = shorter_integer b rest d
    quoted false false true d l = shorter_front is_ascii_alphabetic b rest l
    quoted false false false d l = omega arith

-- ---- so there may be more turns than bytes

tokens_turns : (n m : ℕ) (bytes : List ℕ) → length bytes ≤ n → length bytes ≤ m → tokens_in n bytes ≡ tokens_in m bytes
tokens_turns zero zero bytes few few' = refl
tokens_turns (suc n) (suc m) bytes few few' = first (tokens_turns n m) (unspaced_text bytes) (shorter_drop (prefix_len is_space bytes) bytes)
  where
    first : ((later : List ℕ) → length later ≤ n → length later ≤ m → tokens_in n later ≡ tokens_in m later) → (text : List ℕ) → length text ≤ length bytes → first_token (tokens_in n) text ≡ first_token (tokens_in m) text
    first later [] less = refl
    first later (b ∷ rest) less =
        let t = token_from b rest in
        let shorter = shorter_token b rest in
        ap (λ (toks : List Token). t.0 ∷ toks) (later t.1 (omega (arith, few, less, shorter)) (omega (arith, few', less, shorter)))
tokens_turns _ _ [] few few' = refl
tokens_turns _ _ (b ∷ bytes) few few' = absurd (omega (arith, few, few'))

pub tokens_any_turns : (turns : ℕ) (text : List ℕ) → length text ≤ turns → tokens_in turns text ≡ tokens text
unfolding tokens
tokens_any_turns turns text few = tokens_turns turns (length text) text few (omega arith)

tokens_is : (text : List ℕ) → tokens text ≡ first_token tokens (unspaced_text text)
unfolding tokens
tokens_is text = tokens_turns (length text) (suc (length text)) text (omega arith) (omega arith) ∙ first (unspaced_text text) (shorter_drop (prefix_len is_space text) text)
  where
    first : (rest : List ℕ) → length rest ≤ length text → first_token (tokens_in (length text)) rest ≡ first_token tokens rest
    first [] less = refl
    first (b ∷ rest) less =
        let t = token_from b rest in
        let shorter = shorter_token b rest in
        ap (λ (later : List Token). t.0 ∷ later) (tokens_turns (length text) (length t.1) t.1 (omega (arith, less, shorter)) (omega arith))

pub tokens_none : (text rest : List ℕ) → rest ≡ unspaced_text text → length rest < 1 → tokens text ≡ []
tokens_none text rest is none = tokens_is text ∙ ap (first_token tokens) (sym is) ∙ empty rest none
  where
    empty : (l : List ℕ) → length l < 1 → first_token tokens l ≡ []
    empty [] few = refl
    empty (b ∷ l) few = absurd (omega (arith, few))

pub tokens_next : (text rest : List ℕ) (d : ℕ) (token : Token) (behind : List ℕ) → rest ≡ unspaced_text text → 1 ≤ length rest → (token, behind) ≡ token_from (get_or rest 0 d) (take (length rest - 1) (drop 1 rest)) → tokens text ≡ token ∷ tokens behind
tokens_next text rest d token behind is some next = tokens_is text ∙ ap (first_token tokens) (sym is) ∙ one rest some next
  where
    one : (l : List ℕ) → 1 ≤ length l → (token, behind) ≡ token_from (get_or l 0 d) (take (length l - 1) (drop 1 l)) → first_token tokens l ≡ token ∷ tokens behind
    one [] e n = absurd (omega (arith, e))
    one (b ∷ l) e n = ap (λ (r : Token × List ℕ). r.0 ∷ tokens r.1) (ap (token_from b) (sym (take_all (length (b ∷ l) - 1) l (omega arith))) ∙ sym n)

-- at most as many tokens as turns
few_in : (turns : ℕ) (text : List ℕ) → length (tokens_in turns text) ≤ turns
few_in zero text = omega arith
few_in (suc turns) text = first (few_in turns) (unspaced_text text)
  where
    first : ((later : List ℕ) → length (tokens_in turns later) ≤ turns) → (rest : List ℕ) → length (first_token (tokens_in turns) rest) ≤ suc turns
    first few [] = omega arith
    first few (b ∷ rest) = omega (arith, few (token_from b rest).1)

pub few_tokens : (text : List ℕ) → length (tokens text) ≤ length text
unfolding tokens
few_tokens text = few_in (length text) text
