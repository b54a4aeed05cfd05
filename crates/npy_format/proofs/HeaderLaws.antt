-- What a header says, pair by pair.
use Rattle.std.proofs.Common.{◌≡◌, ◌⊎◌, ⊎_elim, ◌≢◌, ◌≤◌, ◌<◌, ◌+◌, ℕ, Bool, true, false, List, [], ◌∷◌, ◌++◌, length, Option, Some, None, Result, Ok, Err, refl, ap, sym, subst, ◌∙◌, arith, map, min, take, inl, inr, append_assoc, length-append, length-take, MatchOption, MatchResult, if◌then◌else◌}
use Rattle.npy_format.proofs.Words.{ok_or, is_some, append-nil, length-map, map-append, Refusal, BadHeader, OutOfMemory, ◌>>=◌, Answers, bind_ok, max_items, shape_of, shape_of-many, shape_of-capped, Token, Literal, Pair, Row, all_listed_values, Round, Read, symbol_token_at, pair_in, entries_in, is_key, value_under, integers_of, lengths_of, dictionary_of, behind, behind_comma, behind_entry, behind_key, behind_entries, string_at, integer_at, is_string_token, HasPairs, HasValues, Stands, shape_under, value_in, cases_lt, take-append-le, take_all}
use Rattle.npy_format.proofs.GrammarLaws.{Shortens, symbol_shorter}
use Rattle.npy_format.proofs.SkipLaws.{behind_ok}
use Rattle.npy_format.proofs.PlaceLaws.{front_of, stand_open, stand_closed, same_read}
use Rattle.npy_format.proofs.ValueLaws.{literals_of_listed}
use Rattle.npy_format.proofs.StandLaws.{text_is, next_stands, is_read, no_integer, integer_stands, integer_front_is, no_44}

comma_shorter : (toks : List Token) → length (behind_comma toks) ≤ length toks
comma_shorter toks = go (symbol_token_at 44 toks) refl
  where
    go : (o : Option (List Token)) → symbol_token_at 44 toks ≡ o → length (behind_comma toks) ≤ length toks
    go None is = rw is (omega arith)
    go (Some rest) is = rw is (omega (arith, symbol_shorter 44 toks rest (sym is)))

-- an entry takes at least one token
pub entry_shorter : {A : Type 0} (entry : List Token → Read A) (toks rest : List Token) → Shortens entry → behind_entry entry toks ≡ Ok rest → length rest < length toks
entry_shorter entry toks rest shortens reads =
    let after = bind_ok (behind (entry toks)) _ _ reads in
    let first = behind_ok (entry toks) after.0 after.1 in
    let same : behind_comma after.0 ≡ rest = cc in
    omega (arith, shortens toks (first.0, after.0) first.1, comma_shorter after.0, ap (λ (l : List Token). length l) same)

pub no_125 : let n : ℕ = 125 in n ≢ 44
no_125 wrong = omega (arith, wrong)

-- ---- the dictionary

pub no_token : {A : Type 0} (r : Option A) (P : Type 0) (Q : A → Type 0) → is_some r ≡ false → MatchOption r P Q → P
no_token None P Q none is = is
no_token (Some x) P Q none is = cc

pub dictionary_found : (toks inside rest : List Token) → Some inside ≡ symbol_token_at 123 toks → behind_entries (pair_in value_in) 125 inside ≡ Ok rest → rest ≡ [] → (pairs : List Pair) × (dictionary_of toks ≡ Ok pairs) × HasPairs inside pairs
dictionary_found toks inside rest opens reads ends =
    let pairs = behind_ok (entries_in (pair_in value_in) 125 (length inside) inside) rest reads in
    (pairs.0, whole pairs.0 pairs.1, record { turns = length inside; rest = rest; is = pairs.1 })
  where
    whole : (pairs : List Pair) → entries_in (pair_in value_in) 125 (length inside) inside ≡ Ok (pairs, rest) → dictionary_of toks ≡ Ok pairs
    whole pairs is = rw (← opens, is, ends) refl

-- a pair, its key and its value
pub pair_stands : (toks after : List Token) (p : Pair) → pair_in value_in toks ≡ Ok (p, after) → (colon : List Token) × Stands toks p.key × (behind_key value_in toks ≡ Ok colon) × Stands colon p.value
unfolding pair_in
pair_stands toks after p is =
    let key = bind_ok (value_in toks) _ _ is in
    let mark = bind_ok (ok_or (symbol_token_at 58 key.0.1) BadHeader) _ _ key.2 in
    let under = bind_ok (value_in mark.0) _ _ mark.2 in
    let pair : Pair = record { key = key.0.0; value = under.0.0 } in
    let same = (same_read pair p under.0.1 after (Ok (pair, under.0.1)) refl under.2).0 in (
      mark.0,
      subst (λ (p : Pair). Stands toks p.key) same (record { rest = key.0.1; is = key.1 }),
      ap (λ r. behind r >>= λ rest. ok_or (symbol_token_at 58 rest) BadHeader) key.1 ∙ mark.1,
      subst (λ (p : Pair). Stands mark.0 p.value) same (record { rest = under.0.1; is = under.1 }),
    )

-- What holds for every expected value and for every expected refusal, holds for the result of a call.
pub answered : {X : Type 0} (view : X → List Token) (r : Result X Refusal) (there : Result (List Token) Refusal) (P : X → Type 0) (Q : Refusal → Type 0) → Answers view r there → ((x : X) → there ≡ Ok (view x) → P x) → ((e : Refusal) → there ≡ Err e → Q e) → MatchResult r P Q
answered view (Ok x) there P Q is good bad = good x is
answered view (Err e) there P Q is good bad = bad e is

-- ---- the number of pairs

pub record PairsLeft (whole : List Pair) (count : ℕ) (toks : List Token) : Type 0 where
  pub left : List Pair
  pub stand : HasPairs toks left
  pub counted : length whole ≡ count + length left

module _ (whole : List Pair) (count : ℕ) (toks : List Token) (h : PairsLeft whole count toks) where
  pub count_ends : (end : List Token) → Some end ≡ symbol_token_at 125 toks → count ≡ length whole
  count_ends end ends =
      let none = stand_closed (pair_in value_in) 125 toks h.left h.stand end ends in
      omega (arith, h.counted, ap (λ (l : List Pair). length l) none)

  pub count_next : None ≡ symbol_token_at 125 toks → (rest : List Token) → behind_entry (pair_in value_in) toks ≡ Ok rest → PairsLeft whole (count + 1) rest
  count_next more rest reads =
      let next = next_stands (pair_in value_in) 125 no_125 toks h.left h.stand more rest reads in
      record { left = next.1; stand = next.5; counted = omega (arith, h.counted, ap (λ (l : List Pair). length l) next.4) }

  pub count_read : None ≡ symbol_token_at 125 toks → (e : Refusal) → behind_entry (pair_in value_in) toks ≡ Err e → ⊥
  count_read more e fails = is_read (pair_in value_in) 125 no_125 toks h.left h.stand more e fails

-- ---- the value under a key

pub record KeyLeft (key : List ℕ) (whole : List Pair) (toks : List Token) : Type 0 where
  pub left : List Pair
  pub stand : HasPairs toks left
  pub same : value_under key whole ≡ value_under key left

module _ (key : List ℕ) (whole : List Pair) (toks : List Token) (h : KeyLeft key whole toks) where
  pub key_ends : (end : List Token) → Some end ≡ symbol_token_at 125 toks → value_under key whole ≡ Err BadHeader
  key_ends end ends = h.same ∙ ap (value_under key) (stand_closed (pair_in value_in) 125 toks h.left h.stand end ends)

  module _ (more : None ≡ symbol_token_at 125 toks) where
    one : (p : Pair) × (others : List Pair) × (after : List Token) × (pair_in value_in toks ≡ Ok (p, after)) × (value_under key whole ≡ value_under key (p ∷ others)) × HasPairs (behind_comma after) others
    one =
        let next = stand_open (pair_in value_in) 125 toks h.left no_125 h.stand more in
        (next.first, next.others, next.after, next.reads, h.same ∙ ap (value_under key) next.is, next.more)

    pub key_read : (e : Refusal) → behind_entry (pair_in value_in) toks ≡ Err e → ⊥
    key_read e fails = is_read (pair_in value_in) 125 no_125 toks h.left h.stand more e fails

    pub key_next : is_string_token key (string_at toks) ≡ false → (rest : List Token) → behind_entry (pair_in value_in) toks ≡ Ok rest → KeyLeft key whole rest
    key_next other rest reads =
        let p = one in
        let at = pair_stands toks p.2 p.0 p.3 in
        let test : is_key key p.0 ≡ false = sym (text_is key (front_of toks p.0.key at.1)) ∙ other in
        let w : Ok (behind_comma p.2) ≡ Ok rest = rw p.3 at reads in
        let same : behind_comma p.2 ≡ rest = cc in
        record {
          left = p.1;
          stand = subst (λ (l : List Token). HasPairs l p.1) same p.5;
          same = p.4 ∙ ap (λ (b : Bool). if b then Ok p.0.value else value_under key p.1) test;
        }

    module _ (it : is_string_token key (string_at toks) ≡ true) where
      pub key_found : (place : List Token) → behind_key value_in toks ≡ Ok place → (value : Literal) × (value_under key whole ≡ Ok value) × Stands place value
      key_found place reads =
          let p = one in
          let at = pair_stands toks p.2 p.0 p.3 in
          let test : is_key key p.0 ≡ true = sym (text_is key (front_of toks p.0.key at.1)) ∙ it in
          let w : Ok at.0 ≡ Ok place = sym at.2 ∙ reads in
          let same : at.0 ≡ place = cc in
          (p.0.value, p.4 ∙ ap (λ (b : Bool). if b then Ok p.0.value else value_under key p.1) test, subst (λ (l : List Token). Stands l p.0.value) same at.3)

      pub key_no_fault : (e : Refusal) → behind_key value_in toks ≡ Err e → ⊥
      key_no_fault e fails =
          let p = one in
          let at = pair_stands toks p.2 p.0 p.3 in
          let w : Ok at.0 ≡ Err e = sym at.2 ∙ fails in cc

-- ---- lengths

abbrev held_length : ℕ → ℕ
held_length n = min n (max_items + 1)

-- the lengths so far, of which the code holds at most 65, and the values that are left
pub record LengthsLeft (values : List Literal) (axes : List ℕ) (toks : List Token) : Type 0 where
  pub left : List Literal
  pub stand : HasValues 41 toks left
  pub before : List ℕ
  pub same : integers_of values ≡ (integers_of left >>= λ ns. Ok (before ++ ns))
  pub held : axes ≡ take 65 (map held_length before)

shape_held : (axes before : List ℕ) → axes ≡ take 65 (map held_length before) → shape_of before ≡ shape_of axes
shape_held axes before held =
    let all = map held_length before in
    let many = length-map before held_length in
    elim (cases_lt 64 (length before)) [
      | inl more ↦ shape_of-many before more ∙ sym (shape_of-many axes (omega (arith, more, many, ap (λ (l : List ℕ). length l) held, length-take 65 all)))
      | inr few ↦ sym (ap shape_of (held ∙ take_all 65 all (omega (arith, few, many))) ∙ shape_of-capped (max_items + 1) before (omega arith))
    ]

module _ (values : List Literal) (axes : List ℕ) (toks : List Token) (h : LengthsLeft values axes toks) where
  pub lengths_good : (end : List Token) → Some end ≡ symbol_token_at 41 toks → (integers_of values >>= λ ns. Ok (shape_of ns)) ≡ Ok (shape_of axes)
  lengths_good end ends =
      let none = stand_closed value_in 41 toks h.left h.stand end ends in
      ap (λ (r : Result (List ℕ) Refusal). r >>= λ ns. Ok (shape_of ns)) (h.same ∙ ap (λ (l : List Literal). integers_of l >>= λ ns. Ok (h.before ++ ns)) none)
      ∙ ap (λ r. Ok r) (ap shape_of (append-nil h.before) ∙ shape_held axes h.before h.held)

  pub lengths_bad : None ≡ integer_at toks → None ≡ symbol_token_at 41 toks → (integers_of values >>= λ ns. Ok (shape_of ns)) ≡ Err BadHeader
  lengths_bad none open' =
      let next = stand_open value_in 41 toks h.left no_44 h.stand open' in
      let refused = no_integer none next.others (front_of toks next.first (record { rest = next.after; is = next.reads })) in
      ap (λ (r : Result (List ℕ) Refusal). r >>= λ ns. Ok (shape_of ns)) (h.same ∙ ap (λ (r : Result (List ℕ) Refusal). r >>= λ ns. Ok (h.before ++ ns)) (ap integers_of next.is ∙ refused))

  module _ (found : ℕ × List Token) (is : Some found ≡ integer_at toks) where
    lengths_on : (axes' : List ℕ) → axes' ≡ take 65 (map held_length (h.before ++ found.0 ∷ [])) → LengthsLeft values axes' (behind_comma found.1)
    lengths_on axes' held =
        let front = integer_front_is toks found is in
        let open' : None ≡ symbol_token_at 41 toks = rw front refl in
        let next = stand_open value_in 41 toks h.left no_44 h.stand open' in
        let stands = integer_stands found is (front_of toks next.first (record { rest = next.after; is = next.reads })) in
        record {
          left = next.others;
          stand = subst (λ (l : List Token). HasValues 41 (behind_comma l) next.others) stands.1 next.more;
          before = h.before ++ found.0 ∷ [];
          same = h.same
              ∙ ap (λ (l : List Literal). integers_of l >>= λ ns. Ok (h.before ++ ns)) (next.is ∙ ap (λ (x : Literal). x ∷ next.others) stands.0)
              ∙ pushed (integers_of next.others) h.before found.0;
          held = held;
        }
      where
        pushed : (r : Result (List ℕ) Refusal) (before : List ℕ) (n : ℕ) → ((r >>= λ ns. Ok (n ∷ ns)) >>= λ ns. Ok (before ++ ns)) ≡ (r >>= λ ns. Ok ((before ++ n ∷ []) ++ ns))
        pushed (Ok ns) before n = ap (λ (l : List ℕ). Ok l) (sym (append_assoc before (n ∷ []) ns))
        pushed (Err e) before n = refl

    pub length_held : length axes ≤ 64 → LengthsLeft values (axes ++ held_length found.0 ∷ []) (behind_comma found.1)
    length_held few =
        let all = map held_length h.before in
        let one = held_length found.0 ∷ [] in
        let whole : axes ≡ all = h.held ∙ take_all 65 all (omega (arith, few, ap (λ (l : List ℕ). length l) h.held, length-take 65 all)) in
        lengths_on (axes ++ one) (ap (λ (l : List ℕ). l ++ one) whole ∙ sym (take_all 65 (all ++ one) (omega (arith, few, ap (λ (l : List ℕ). length l) whole, length-append all one))) ∙ ap (take 65) (sym (map-append held_length h.before (found.0 ∷ []))))

    pub length_dropped : 64 < length axes → LengthsLeft values axes (behind_comma found.1)
    length_dropped many =
        let all = map held_length h.before in
        let long : 65 ≤ length all = omega (arith, many, ap (λ (l : List ℕ). length l) h.held, length-take 65 all) in
        lengths_on axes (h.held ∙ sym (take-append-le 65 all (held_length found.0 ∷ []) long) ∙ ap (take 65) (sym (map-append held_length h.before (found.0 ∷ []))))

pub shape_inside : (v : Literal) (values : List Literal) → v ≡ Row Round (all_listed_values values) → shape_under v ≡ (integers_of values >>= λ ns. Ok (shape_of ns))
shape_inside v values is = ap shape_under is ∙ ap (λ (l : List Literal). integers_of l >>= λ ns. Ok (shape_of ns)) (literals_of_listed values)

pub shape_found : (tuple : Literal) (shape : Result (List ℕ) Refusal) → shape_under tuple ≡ Ok shape → (found : List ℕ) × (lengths_of tuple ≡ Ok found) × (shape_of found ≡ shape)
shape_found tuple shape is =
    let found = bind_ok (lengths_of tuple) _ _ is in
    let same : shape_of found.0 ≡ shape = cc in
    (found.0, found.1, same)

pub no_lengths : (tuple : Literal) (e : Refusal) → shape_under tuple ≡ Err e → lengths_of tuple ≡ Err e
no_lengths tuple e = refused (lengths_of tuple)
  where
    refused : (r : Result (List ℕ) Refusal) → (r >>= λ ns. Ok (shape_of ns)) ≡ Err e → r ≡ Err e
    refused (Ok ns) is = cc
    refused (Err e') is = let same : e' ≡ e = cc in ap (λ (x : Refusal). Err x) same

-- the refusal of the first of two steps is that of both
pub or_refused : {X Y : Type 0} (e : Refusal) (r : Result X Refusal) (f : X → Result Y Refusal) → (e ≡ OutOfMemory) ⊎ (r ≡ Err e) → (e ≡ OutOfMemory) ⊎ ((r >>= f) ≡ Err e)
or_refused e r f = ⊎_elim inl (λ is. inr (ap (λ r. r >>= f) is))
