-- Reading a header from the text that is written.
use Rattle.std.proofs.Common.{◌≡◌, ℕ, zero, suc, ◌-◌, ◌<◌, ◌≤◌, Bool, true, false, All, List, [], ◌∷◌, ◌++◌, length, replicate, codes, decimal, None, Ok, refl, sym, ap, subst, ◌∙◌, arith, append_assoc, nat_eq}
use Rattle.npy_format.proofs.Words.{is_ascii_digit, list_all, flat_map, All-head, All-tail, Descr, ◌>>=◌, max_items, IsShape, shape_text, shape_read, Token, is_plain_byte, tokens, Round, Text, Integer, Truth, Literal, Plain, Row, Pair, all_listed_values, symbol_token_at, entries_in, pair_in, tuple_in, literal_in, descr_in, integers_of, lengths_of, dictionary_of, header_of, header, written_descr, written_truth, written_text, IsSound}
use Rattle.npy_format.specs.Tokens as token
use Rattle.npy_format.proofs.ReadTokens.{Scans, scan_token, scan_space, scan_spaces, scan_end, scan_quoted, scan_number}
use Rattle.npy_format.proofs.ReadValues.{IsValue}
use Rattle.npy_format.proofs.ReadRecords.{written_value, descr_read, written_value_is}
use Rattle.npy_format.proofs.ValueLaws.{literals_of_listed}

-- ---- shapes

abbrev integers : List ℕ → List Literal
integers [] = []
integers (n ∷ shape) = Plain (Integer n) ∷ integers shape

integers_read : (shape : List ℕ) → integers_of (integers shape) ≡ Ok shape
integers_read [] = refl
integers_read (n ∷ shape) = ap (λ r. r >>= λ ns. Ok (n ∷ ns)) (integers_read shape)

abbrev more_text : List ℕ → List ℕ
more_text shape = flat_map (λ m. codes ", " ++ decimal m) shape

-- the lengths after the first one, up to the closing bracket
record AreBehind (shape rest : List ℕ) (toks : List Token) : Type 0 where
  tokens : List Token
  head : ℕ
  tail : List ℕ
  starts : more_text shape ++ (41 ∷ rest) ≡ head ∷ tail
  no_digit : is_ascii_digit head ≡ false
  no_long : nat_eq head 76 ≡ false
  scans : Scans (head ∷ tail) tokens
  longer : length toks < length tokens
  reads : (depth turns : ℕ) (first : Literal) (before : List Token) → length tokens ≤ turns → None ≡ symbol_token_at 41 before → literal_in depth before ≡ Ok (first, tokens) → entries_in (literal_in depth) 41 (suc turns) before ≡ Ok (first ∷ integers shape, toks)

-- a length and those after it
abbrev from_number : ℕ → List ℕ → List ℕ → List ℕ
from_number n shape rest = decimal n ++ (more_text shape ++ (41 ∷ rest))

number_scans : (n : ℕ) (shape rest : List ℕ) (toks : List Token) → n ≤ max_items → (later : AreBehind shape rest toks) → Scans (from_number n shape rest) (token.Integer n ∷ later.tokens)
number_scans n shape rest toks few later =
    subst (λ (l : List ℕ). Scans (decimal n ++ l) (token.Integer n ∷ later.tokens)) (sym later.starts) (scan_number n later.head later.tail later.tokens few later.no_digit later.no_long later.scans)

behind : (shape rest : List ℕ) (toks : List Token) → All (λ n. n ≤ max_items) shape → Scans rest toks → AreBehind shape rest toks
unfolding entries_in literal_in
behind [] rest toks few more = record {
  tokens = token.Symbol 41 ∷ toks;
  head = 41;
  tail = rest;
  starts = refl;
  no_digit = refl;
  no_long = refl;
  scans = scan_token 41 rest (token.Symbol 41) rest toks refl refl (omega arith) more;
  longer = omega arith;
  reads = λ depth turns first before enough none reads. rw (← none, reads) refl;
}
behind (n ∷ shape) rest toks few more =
    let later = behind shape rest toks (All-tail (λ m. m ≤ max_items) n shape few) more in
    let numbers = from_number n shape rest in
    let all = token.Integer n ∷ later.tokens in
    let scanned = number_scans n shape rest toks (All-head (λ m. m ≤ max_items) n shape few) later in
    record {
      tokens = token.Symbol 44 ∷ all;
      head = 44;
      tail = 32 ∷ numbers;
      starts = ap (λ (l : List ℕ). 44 ∷ (32 ∷ l)) (append_assoc (decimal n) (more_text shape) (41 ∷ rest));
      no_digit = refl;
      no_long = refl;
      scans = scan_token 44 (32 ∷ numbers) (token.Symbol 44) (32 ∷ numbers) all refl refl (omega arith) (scan_space numbers all scanned);
      longer = omega (arith, later.longer);
      reads = λ depth turns first before enough none reads. rw (← none, reads) (ap (λ others. others >>= λ r. Ok (first ∷ r.0, r.1)) (next later depth turns (omega (arith, enough))));
    }
  where
    next : (later : AreBehind shape rest toks) (depth turns : ℕ) → length (token.Integer n ∷ later.tokens) < turns → entries_in (literal_in depth) 41 turns (token.Integer n ∷ later.tokens) ≡ Ok (integers (n ∷ shape), toks)
    next later depth zero enough = absurd (omega (arith, enough))
    next later depth (suc turns) enough = later.reads depth turns (Plain (Integer n)) (token.Integer n ∷ later.tokens) (omega (arith, enough)) refl refl

abbrev shape_value : List ℕ → Literal
shape_value shape = Row Round (all_listed_values (integers shape))

-- a tuple of lengths
shape_scans : (depth : ℕ) (shape : List ℕ) → All (λ n. n ≤ max_items) shape → IsValue (suc depth) (shape_text shape) (shape_value shape)
unfolding entries_in tuple_in literal_in
shape_scans depth [] few rest toks more = record {
  tokens = token.Symbol 40 ∷ (token.Symbol 41 ∷ toks);
  scans = scan_token 40 (41 ∷ rest) (token.Symbol 40) (41 ∷ rest) (token.Symbol 41 ∷ toks) refl refl (omega arith) (scan_token 41 rest (token.Symbol 41) rest toks refl refl (omega arith) more);
  reads = refl;
  longer = omega arith;
  no_square = refl;
  no_round = refl;
}
shape_scans depth (n ∷ []) few rest toks more =
    let closed = scan_token 41 rest (token.Symbol 41) rest toks refl refl (omega arith) more in
    let comma = scan_token 44 (41 ∷ rest) (token.Symbol 44) (41 ∷ rest) (token.Symbol 41 ∷ toks) refl refl (omega arith) closed in
    let behind = 44 ∷ (41 ∷ rest) in
    let all = token.Integer n ∷ (token.Symbol 44 ∷ (token.Symbol 41 ∷ toks)) in
    let scanned = scan_number n 44 (41 ∷ rest) (token.Symbol 44 ∷ (token.Symbol 41 ∷ toks)) (All-head (λ m. m ≤ max_items) n [] few) refl refl comma in
    let joined : shape_text (n ∷ []) ++ rest ≡ 40 ∷ (decimal n ++ behind) = ap (λ (l : List ℕ). 40 ∷ l) (append_assoc (decimal n) (codes ",)") rest) in
    record {
      tokens = token.Symbol 40 ∷ all;
      scans = subst (λ (l : List ℕ). Scans l (token.Symbol 40 ∷ all)) (sym joined) (scan_token 40 (decimal n ++ behind) (token.Symbol 40) (decimal n ++ behind) all refl refl (omega arith) scanned);
      reads = refl;
      longer = omega arith;
      no_square = refl;
      no_round = refl;
    }
shape_scans depth (n ∷ m ∷ shape) few rest toks more =
    let few' = All-tail (λ k. k ≤ max_items) n (m ∷ shape) few in
    let later = behind shape rest toks (All-tail (λ k. k ≤ max_items) m shape few') more in
    let numbers = from_number m shape rest in
    let scanned = number_scans m shape rest toks (All-head (λ k. k ≤ max_items) m shape few') later in
    let behind-comma = token.Integer m ∷ later.tokens in
    let comma = scan_token 44 (32 ∷ numbers) (token.Symbol 44) (32 ∷ numbers) behind-comma refl refl (omega arith) (scan_space numbers behind-comma scanned) in
    let all = token.Integer n ∷ (token.Symbol 44 ∷ behind-comma) in
    let first = scan_number n 44 (32 ∷ numbers) (token.Symbol 44 ∷ behind-comma) (All-head (λ k. k ≤ max_items) n (m ∷ shape) few) refl refl comma in
    let inside = decimal n ++ (44 ∷ (32 ∷ numbers)) in
    let joined : shape_text (n ∷ m ∷ shape) ++ rest ≡ 40 ∷ inside = ap (λ (l : List ℕ). 40 ∷ l) (append_assoc (decimal n ++ more_text (m ∷ shape)) (codes ")") rest ∙ append_assoc (decimal n) (more_text (m ∷ shape)) (41 ∷ rest) ∙ ap (λ (l : List ℕ). decimal n ++ (44 ∷ (32 ∷ l))) (append_assoc (decimal m) (more_text shape) (41 ∷ rest))) in
    record {
      tokens = token.Symbol 40 ∷ all;
      scans = subst (λ (l : List ℕ). Scans l (token.Symbol 40 ∷ all)) (sym joined) (scan_token 40 inside (token.Symbol 40) inside all refl refl (omega arith) first);
      reads = rw (later.reads depth (length later.tokens) (Plain (Integer m)) behind-comma (omega arith) refl refl) refl;
      longer = omega (arith, later.longer);
      no_square = refl;
      no_round = refl;
    }

lengths_read : (shape : List ℕ) → lengths_of (shape_value shape) ≡ Ok shape
lengths_read shape = ap integers_of (literals_of_listed (integers shape)) ∙ integers_read shape

-- ---- the whole text

truth_scans : (truth : Bool) (rest : List ℕ) (toks : List Token) → Scans (44 ∷ rest) toks → Scans (written_truth truth ++ (44 ∷ rest)) (token.Truth truth ∷ toks)
truth_scans true rest toks more = scan_token 84 (codes "rue" ++ (44 ∷ rest)) (token.Truth true) (44 ∷ rest) toks refl refl (omega arith) more
truth_scans false rest toks more = scan_token 70 (codes "alse" ++ (44 ∷ rest)) (token.Truth false) (44 ∷ rest) toks refl refl (omega arith) more

-- a key and its colon
key_scans : (key rest : List ℕ) (toks : List Token) → list_all (is_plain_byte 39) key ≡ true → Scans rest toks → Scans (39 ∷ (key ++ (39 ∷ (58 ∷ (32 ∷ rest))))) (token.Text key ∷ (token.Symbol 58 ∷ toks))
key_scans key rest toks plain more =
    scan_quoted key (58 ∷ (32 ∷ rest)) (token.Symbol 58 ∷ toks) plain (scan_token 58 (32 ∷ rest) (token.Symbol 58) (32 ∷ rest) toks refl refl (omega arith) (scan_space rest toks more))

comma_scans : (rest : List ℕ) (toks : List Token) → Scans rest toks → Scans (44 ∷ (32 ∷ rest)) (token.Symbol 44 ∷ toks)
comma_scans rest toks more = scan_token 44 (32 ∷ rest) (token.Symbol 44) (32 ∷ rest) toks refl refl (omega arith) (scan_space rest toks more)

abbrev pair_of : List ℕ → Literal → Pair
pair_of key value = record { key = Plain (Text key); value = value }

-- The tokens of the dictionary are read as its three pairs.
pairs_read : (fortran : Bool) (element shape : Literal) (elements shapes : List Token) (k : ℕ)
    → literal_in 15 elements ≡ Ok (element, token.Symbol 44 ∷ (token.Text (codes "fortran_order") ∷ (token.Symbol 58 ∷ (token.Truth fortran ∷ (token.Symbol 44 ∷ (token.Text (codes "shape") ∷ (token.Symbol 58 ∷ shapes)))))))
    → literal_in 15 shapes ≡ Ok (shape, token.Symbol 44 ∷ (token.Symbol 125 ∷ []))
    → entries_in (pair_in (literal_in 15)) 125 (suc (suc (suc (suc k)))) (token.Text (codes "descr") ∷ (token.Symbol 58 ∷ elements)) ≡ Ok (pair_of (codes "descr") element ∷ (pair_of (codes "fortran_order") (Plain (Truth fortran)) ∷ (pair_of (codes "shape") shape ∷ [])), [])
unfolding entries_in pair_in literal_in
pairs_read fortran element shape elements shapes k reads reads' = rw (reads, reads') refl

dictionary_read : (inside : List Token) (pairs : List Pair) (k : ℕ) → length inside ≡ suc (suc (suc (suc k))) → entries_in (pair_in (literal_in 15)) 125 (suc (suc (suc (suc k)))) inside ≡ Ok (pairs, []) → dictionary_of (token.Symbol 123 ∷ inside) ≡ Ok pairs
dictionary_read inside pairs k long reads = rw (ap (λ n. entries_in (pair_in (literal_in 15)) 125 n inside) long ∙ reads) refl

said : (descr : Descr) (fortran : Bool) (shape : List ℕ) (element : Literal) → descr_in element ≡ Ok descr → IsShape shape
    → header_of (pair_of (codes "descr") element ∷ (pair_of (codes "fortran_order") (Plain (Truth fortran)) ∷ (pair_of (codes "shape") (shape_value shape) ∷ []))) ≡ Ok (record { descr = descr; fortran = fortran; shape = shape })
unfolding header_of
said descr fortran shape element reads is = rw (lengths_read shape, reads, shape_read shape is) refl

text_joined : (d b s rest : List ℕ) → (codes "{'descr': " ++ (d ++ (codes ", 'fortran_order': " ++ (b ++ (codes ", 'shape': " ++ (s ++ codes ", }")))))) ++ rest
    ≡ 123 ∷ (39 ∷ (codes "descr" ++ (39 ∷ (58 ∷ (32 ∷ (d ++ (44 ∷ (32 ∷ (39 ∷ (codes "fortran_order" ++ (39 ∷ (58 ∷ (32 ∷ (b ++ (44 ∷ (32 ∷ (39 ∷ (codes "shape" ++ (39 ∷ (58 ∷ (32 ∷ (s ++ (44 ∷ (32 ∷ (125 ∷ rest)))))))))))))))))))))))))
text_joined d b s rest = simp append_assoc

pub header_read : (descr : Descr) (fortran : Bool) (shape : List ℕ) (spaces : ℕ) → IsSound descr → IsShape shape → header (written_text descr fortran shape ++ (replicate spaces 32 ++ codes "\n")) ≡ Ok (record { descr = descr; fortran = fortran; shape = shape })
unfolding tokens
header_read descr fortran shape spaces sound is =
    let rest = replicate spaces 32 ++ codes "\n" in
    let end = scan_spaces spaces (codes "\n") [] scan_end in
    let brace = comma_scans (125 ∷ rest) (token.Symbol 125 ∷ []) (scan_token 125 rest (token.Symbol 125) rest [] refl refl (omega arith) end) in
    let shapes = shape_scans 14 shape is.lengths (44 ∷ (32 ∷ (125 ∷ rest))) (token.Symbol 44 ∷ (token.Symbol 125 ∷ [])) brace in
    let after-truth = shape_text shape ++ (44 ∷ (32 ∷ (125 ∷ rest))) in
    let third = comma_scans _ _ (key_scans (codes "shape") after-truth shapes.tokens refl shapes.scans) in
    let truth = truth_scans fortran _ _ third in
    let second = comma_scans _ _ (key_scans (codes "fortran_order") _ _ refl truth) in
    let elements = written_value_is descr 15 sound (omega arith) _ _ second in
    let first = key_scans (codes "descr") _ _ refl elements.scans in
    let inside = token.Text (codes "descr") ∷ (token.Symbol 58 ∷ elements.tokens) in
    let whole = scan_token 123 _ (token.Symbol 123) _ inside refl refl (omega arith) first in
    let text = written_text descr fortran shape ++ rest in
    let scanned = subst (λ (l : List ℕ). Scans l (token.Symbol 123 ∷ inside)) (sym (text_joined (written_descr descr) (written_truth fortran) (shape_text shape) rest)) whole in
    let k = length elements.tokens - 2 in
    let long : length inside ≡ suc (suc (suc (suc k))) = omega (arith, elements.longer) in
    let pairs = pairs_read fortran (written_value descr) (shape_value shape) elements.tokens shapes.tokens k elements.reads shapes.reads in
    ap (λ (l : List Token). dictionary_of l >>= header_of) (scanned (length text) (omega arith))
    ∙ ap (λ d. d >>= header_of) (dictionary_read inside _ k long pairs)
    ∙ said descr fortran shape (written_value descr) (descr_read descr sound) is
