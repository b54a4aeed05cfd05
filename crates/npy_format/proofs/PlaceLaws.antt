-- The values in tokens that were read before.
use Rattle.std.proofs.Common.{◌≡◌, ◌≢◌, ℕ, zero, suc, Bool, true, false, List, [], ◌∷◌, length, Option, Some, None, Result, Ok, Err, refl, ap, sym, ◌∙◌, arith, nat_eq, if◌then◌else◌}
use Rattle.npy_format.proofs.Words.{ok_or, eqb-true, Refusal, BadHeader, ◌>>=◌, bind_ok, Token, Text, Integer, Truth, Nothing, Dictionary, Round, Square, no_values, Literal, Plain, Row, all_listed_values, Read, symbol_token_at, if_read, list_end, entries_in, tuple_in, list_in, pairs_in, dictionary_in, bracketed, literal_in, behind_comma, StandIn, Stands, value_in}
use Rattle.npy_format.specs.Tokens as token
use Rattle.npy_format.proofs.GrammarLaws.{entries_less, literal_less}

-- a result has one value
pub same_read : {A B : Type 0} (a a' : A) (b b' : B) (r : Result (A × B) Refusal) → r ≡ Ok (a, b) → r ≡ Ok (a', b') → (a ≡ a') × (b ≡ b')
same_read {A} {B} a a' b b' r is is' = let same : (a, b) ≡ (a', b') = cc in (ap (λ (p : A × B). p.0) same, ap (λ (p : A × B). p.1) same)

-- ---- entries, one by one

-- A token is not two different symbols.
one_symbol : (b c : ℕ) → b ≢ c → (toks rest : List Token) → Some rest ≡ symbol_token_at b toks → None ≡ symbol_token_at c toks
one_symbol b c other (token.Symbol d ∷ toks) rest is = chosen (nat_eq d b) (nat_eq d c) refl refl is
  where
    chosen : (p q : Bool) → nat_eq d b ≡ p → nat_eq d c ≡ q → Some rest ≡ (if p then Some toks else None) → None ≡ (if q then Some toks else None)
    chosen p false e e' is = refl
    chosen false true e e' is = cc
    chosen true true e e' is = absurd (other (sym (eqb-true d b e) ∙ eqb-true d c e'))
one_symbol b c other _ rest is = refl

-- the first entry, and those after it
pub record Next (A : Type 0) (entry : List Token → Read A) (closing : ℕ) (toks : List Token) (xs : List A) : Type 0 where
  pub first : A
  pub after : List Token
  pub others : List A
  pub reads : entry toks ≡ Ok (first, after)
  pub is : xs ≡ first ∷ others
  pub more : StandIn A entry closing (behind_comma after) others
  pub alone : None ≡ symbol_token_at 44 after → others ≡ []

module _ {A : Type 0} (entry : List Token → Read A) (closing : ℕ) (toks : List Token) (xs : List A) where
  pub stand_closed : StandIn A entry closing toks xs → (end : List Token) → Some end ≡ symbol_token_at closing toks → xs ≡ []
  unfolding entries_in
  stand_closed s end ends = turn s.turns s.is
    where
      turn : (turns : ℕ) → entries_in entry closing turns toks ≡ Ok (xs, s.rest) → xs ≡ []
      turn zero is = cc
      turn (suc n) is = let e = rw (← ends) at is in sym (same_read [] xs end s.rest (Ok ([], end)) refl e).0

  pub stand_open : closing ≢ 44 → StandIn A entry closing toks xs → None ≡ symbol_token_at closing toks → Next A entry closing toks xs
  unfolding entries_in
  stand_open other s open' = turn s.turns s.is
    where
      -- after the first one
      late : (n : ℕ) (first : A × List Token) → entry toks ≡ Ok first → (others : List A × List Token) → xs ≡ first.0 ∷ others.0 → (end comma : Option (List Token)) → symbol_token_at closing first.1 ≡ end → symbol_token_at 44 first.1 ≡ comma
          → if_read end list_end (if_read comma (entries_in entry closing n) (Err BadHeader)) ≡ Ok others → Next A entry closing toks xs
      late n first reads others is (Some end) comma e e' got =
          let none = sym (same_read [] others.0 end others.1 (Ok ([], end)) refl got).0 in
          let no_comma = one_symbol closing 44 other first.1 end (sym e) in
          record {
            first = first.0;
            after = first.1;
            others = [];
            reads = reads;
            is = is ∙ ap (λ (l : List A). first.0 ∷ l) none;
            more = record { turns = suc zero; rest = end; is = rw (← no_comma, e) refl };
            alone = λ _. refl;
          }
      late n first reads others is None (Some next) e e' got = record {
        first = first.0;
        after = first.1;
        others = others.0;
        reads = reads;
        is = is;
        more = record { turns = n; rest = others.1; is = rw e' got };
        alone = λ none. (let wrong : None ≡ Some next = none ∙ e' in cc);
      }
      late n first reads others is None None e e' got = cc

      turn : (turns : ℕ) → entries_in entry closing turns toks ≡ Ok (xs, s.rest) → Next A entry closing toks xs
      turn zero is = cc
      turn (suc n) is =
          let e = rw (← open') at is in
          let first = bind_ok (entry toks) _ _ e in
          let others = bind_ok _ _ _ first.2 in
          let same = sym (same_read (first.0.0 ∷ others.0.0) xs others.0.1 s.rest (Ok (first.0.0 ∷ others.0.0, others.0.1)) refl others.2).0 in
          late n first.0 first.1 others.0 same (symbol_token_at closing first.0.1) (symbol_token_at 44 first.0.1) refl refl others.1

-- ---- what begins with a symbol

pub data Boxed (value : List Token → Read Literal) (b : ℕ) (toks : List Token) (v : Literal) : Type 0 where
  tuple_boxed : (vs : List Literal) → b ≡ 40 → v ≡ Row Round (all_listed_values vs) → StandIn Literal value 41 toks vs → Boxed value b toks v
  list_boxed : (vs : List Literal) → b ≡ 91 → v ≡ Row Square (all_listed_values vs) → StandIn Literal value 93 toks vs → Boxed value b toks v
  pairs_boxed : b ≡ 123 → v ≡ Plain Dictionary → Boxed value b toks v

-- what is read from a tuple after its first value
abbrev tuple_others : (List Token → Read Literal) → Literal → List Token → Read Literal
tuple_others value first behind = entries_in value 41 (length behind) behind >>= λ others. Ok (Row Round (all_listed_values (first ∷ others.0)), others.1)

abbrev tuple_behind : (List Token → Read Literal) → Literal × List Token → Read Literal
tuple_behind value first = ok_or (symbol_token_at 44 first.1) BadHeader >>= tuple_others value first.0

module _ (value : List Token → Read Literal) (b : ℕ) (toks : List Token) (v : Literal) (rest : List Token) where
  tuple_is : b ≡ 40 → tuple_in value toks ≡ Ok (v, rest) → Boxed value b toks v
  unfolding tuple_in entries_in
  tuple_is at is = go (symbol_token_at 41 toks) refl is
    where
      go : (o : Option (List Token)) → symbol_token_at 41 toks ≡ o → (if_read o (λ rest. Ok (Row Round no_values, rest)) (value toks >>= tuple_behind value)) ≡ Ok (v, rest) → Boxed value b toks v
      go (Some end) e got = let same = sym (same_read (Row Round no_values) v end rest (Ok (Row Round no_values, end)) refl got).0 in tuple_boxed [] at same (record { turns = suc zero; rest = end; is = rw e refl })
      go None e got =
          let first = bind_ok (value toks) _ _ got in
          let mark = bind_ok (ok_or (symbol_token_at 44 first.0.1) BadHeader) _ _ first.2 in
          let others = bind_ok (entries_in value 41 (length mark.0) mark.0) _ _ mark.2 in
          let row = Row Round (all_listed_values (first.0.0 ∷ others.0.0)) in
          let same = sym (same_read row v others.0.1 rest (Ok (row, others.0.1)) refl others.2).0 in
          let comma = some_mark (symbol_token_at 44 first.0.1) mark.0 mark.1 in
          let no_end = one_symbol 44 41 (λ wrong. omega (arith, wrong)) first.0.1 mark.0 (sym comma) in
          tuple_boxed (first.0.0 ∷ others.0.0) at same (record { turns = suc (length mark.0); rest = others.0.1; is = late first.0 mark.0 others.0 e first.1 no_end comma others.1 })
        where
          late : (first : Literal × List Token) (next : List Token) (others : List Literal × List Token) → symbol_token_at 41 toks ≡ None → value toks ≡ Ok first → None ≡ symbol_token_at 41 first.1 → symbol_token_at 44 first.1 ≡ Some next → entries_in value 41 (length next) next ≡ Ok others → entries_in value 41 (suc (length next)) toks ≡ Ok (first.0 ∷ others.0, others.1)
          late first next others e reads no_end comma got = rw (e, reads, ← no_end, comma, got) refl

          some_mark : (o : Option (List Token)) (x : List Token) → ok_or o BadHeader ≡ Ok x → o ≡ Some x
          some_mark None x is = cc
          some_mark (Some y) x is = let same : y ≡ x = cc in ap (λ (l : List Token). Some l) same

  list_is : b ≡ 91 → list_in value toks ≡ Ok (v, rest) → Boxed value b toks v
  unfolding list_in
  list_is at is =
      let values = bind_ok (entries_in value 93 (length toks) toks) _ _ is in
      let row = Row Square (all_listed_values values.0.0) in
      let same = sym (same_read row v values.0.1 rest (Ok (row, values.0.1)) refl values.2).0 in
      list_boxed values.0.0 at same (record { turns = length toks; rest = values.0.1; is = values.1 })

  pairs_is : b ≡ 123 → dictionary_in value toks ≡ Ok (v, rest) → Boxed value b toks v
  unfolding dictionary_in
  pairs_is at is =
      let pairs = bind_ok (pairs_in value toks) _ _ is in
      let same = sym (same_read (Plain Dictionary) v pairs.0.1 rest (Ok (Plain Dictionary, pairs.0.1)) refl pairs.2).0 in
      pairs_boxed at same

  boxed : bracketed value b toks ≡ Ok (v, rest) → Boxed value b toks v
  boxed is = chosen (nat_eq b 40) (nat_eq b 91) (nat_eq b 123) refl refl refl is
    where
      chosen : (p q r : Bool) → nat_eq b 40 ≡ p → nat_eq b 91 ≡ q → nat_eq b 123 ≡ r → (if p then tuple_in value toks else if q then list_in value toks else if r then dictionary_in value toks else Err BadHeader) ≡ Ok (v, rest) → Boxed value b toks v
      chosen true q r e e' e'' got = tuple_is (eqb-true b 40 e) got
      chosen false true r e e' e'' got = list_is (eqb-true b 91 e') got
      chosen false false true e e' e'' got = pairs_is (eqb-true b 123 e'') got
      chosen false false false e e' e'' got = cc

-- ---- what a value begins with

pub data Front (toks : List Token) (v : Literal) (rest : List Token) : Type 0 where
  text_front : (bytes : List ℕ) → toks ≡ token.Text bytes ∷ rest → v ≡ Plain (Text bytes) → Front toks v rest
  integer_front : (n : ℕ) → toks ≡ token.Integer n ∷ rest → v ≡ Plain (Integer n) → Front toks v rest
  truth_front : (truth : Bool) → toks ≡ token.Truth truth ∷ rest → v ≡ Plain (Truth truth) → Front toks v rest
  nothing_front : toks ≡ token.Nothing ∷ rest → v ≡ Plain Nothing → Front toks v rest
  boxed_front : (b : ℕ) (inside : List Token) → toks ≡ token.Symbol b ∷ inside → Boxed value_in b inside v → Front toks v rest

deeper : (depth closing : ℕ) (toks : List Token) (vs : List Literal) → StandIn Literal (literal_in depth) closing toks vs → StandIn Literal (literal_in (suc depth)) closing toks vs
deeper depth closing toks vs s = record { turns = s.turns; rest = s.rest; is = entries_less (literal_in depth) (literal_in (suc depth)) (literal_less depth) closing s.turns toks (vs, s.rest) s.is }

boxed_deeper : (depth b : ℕ) (toks : List Token) (v : Literal) → Boxed (literal_in depth) b toks v → Boxed (literal_in (suc depth)) b toks v
boxed_deeper depth b toks v (tuple_boxed vs at is s) = tuple_boxed vs at is (deeper depth 41 toks vs s)
boxed_deeper depth b toks v (list_boxed vs at is s) = list_boxed vs at is (deeper depth 93 toks vs s)
boxed_deeper depth b toks v (pairs_boxed at is) = pairs_boxed at is

front_is : (toks : List Token) (v : Literal) (rest : List Token) → value_in toks ≡ Ok (v, rest) → Front toks v rest
unfolding literal_in
front_is (token.Text bytes ∷ toks) v rest is = let p = same_read (Plain (Text bytes)) v toks rest (Ok (Plain (Text bytes), toks)) refl is in text_front bytes (ap (λ (l : List Token). token.Text bytes ∷ l) p.1) (sym p.0)
front_is (token.Integer n ∷ toks) v rest is = let p = same_read (Plain (Integer n)) v toks rest (Ok (Plain (Integer n), toks)) refl is in integer_front n (ap (λ (l : List Token). token.Integer n ∷ l) p.1) (sym p.0)
front_is (token.Truth truth ∷ toks) v rest is = let p = same_read (Plain (Truth truth)) v toks rest (Ok (Plain (Truth truth), toks)) refl is in truth_front truth (ap (λ (l : List Token). token.Truth truth ∷ l) p.1) (sym p.0)
front_is (token.Nothing ∷ toks) v rest is = let p = same_read (Plain Nothing) v toks rest (Ok (Plain Nothing, toks)) refl is in nothing_front (ap (λ (l : List Token). token.Nothing ∷ l) p.1) (sym p.0)
front_is (token.Symbol b ∷ toks) v rest is = boxed_front b toks refl (boxed_deeper 14 b toks v (boxed (literal_in 14) b toks v rest is))
front_is _ v rest is = cc

pub front_of : (toks : List Token) (v : Literal) → (s : Stands toks v) → Front toks v s.rest
front_of toks v s = front_is toks v s.rest s.is
