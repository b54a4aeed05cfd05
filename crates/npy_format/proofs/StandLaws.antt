-- What is found when a text is read a second time.
use Rattle.std.proofs.Common.{◌≡◌, ◌≢◌, ℕ, true, false, List, [], ◌∷◌, Bool, Option, Some, None, Result, Ok, Err, refl, ap, sym, subst, ◌∙◌, arith, option_copied}
use Rattle.npy_format.proofs.Words.{Bor, is_some, option_map, Refusal, BadHeader, BadDescriptor, DescriptorLeftOut, Structure, Partial, Token, tokens, Text, Integer, Truth, Nothing, Dictionary, Round, Square, Literal, Plain, Row, all_listed_values, Read, symbol_token_at, literal_in, pad_in, type_in, descr_in, is_string, truth_of, integers_of, lengths_of, behind_comma, behind_entry, string_at, integer_at, truth_at, is_string_token, pad_at, StandIn, HasValues, Stands, value_in, name_and_type, entry_parts}
use Rattle.npy_format.specs.Tokens as token
use Rattle.npy_format.proofs.ValueLaws.{literals_of_listed}
use Rattle.npy_format.proofs.PlaceLaws.{stand_open, stand_closed, Front, text_front, integer_front, truth_front, nothing_front, boxed_front, tuple_boxed, list_boxed, pairs_boxed, front_of, same_read}

-- a symbol that comes next, or not
pub symbol_open : (r : Option (Bor (List ℕ))) (there : Option (List Token)) → is_some r ≡ false → option_map tokens (option_copied r) ≡ there → None ≡ there
symbol_open None there none is = is
symbol_open (Some x) there none is = cc

pub symbol_closed : (r : Option (Bor (List ℕ))) (there : Option (List Token)) → is_some r ≡ true → option_map tokens (option_copied r) ≡ there → (end : List Token) × (Some end ≡ there)
symbol_closed None there some is = cc
symbol_closed (Some x) there some is = (tokens x.now, is)

-- What holds for each kind of value, holds for what begins in any of these ways.
module _ {toks : List Token} {v : Literal} {rest : List Token} (P : List Token → Literal → List Token → Type 0)
    (text : (bytes : List ℕ) → P (token.Text bytes ∷ rest) (Plain (Text bytes)) rest)
    (integer : (n : ℕ) → P (token.Integer n ∷ rest) (Plain (Integer n)) rest)
    (truth : (b : Bool) → P (token.Truth b ∷ rest) (Plain (Truth b)) rest)
    (nothing : P (token.Nothing ∷ rest) (Plain Nothing) rest)
    (tuple : (inside : List Token) (vs : List Literal) → HasValues 41 inside vs → P (token.Symbol 40 ∷ inside) (Row Round (all_listed_values vs)) rest)
    (list : (inside : List Token) (vs : List Literal) → HasValues 93 inside vs → P (token.Symbol 91 ∷ inside) (Row Square (all_listed_values vs)) rest)
    (pairs : (inside : List Token) → P (token.Symbol 123 ∷ inside) (Plain Dictionary) rest) where
  by_kind : Front toks v rest → P toks v rest
  by_kind (text_front bytes e e') = rw (e, e') (text bytes)
  by_kind (integer_front n e e') = rw (e, e') (integer n)
  by_kind (truth_front b e e') = rw (e, e') (truth b)
  by_kind (nothing_front e e') = rw (e, e') nothing
  by_kind (boxed_front b inside e (tuple_boxed vs at e' st)) = rw (e, at, e') (tuple inside vs st)
  by_kind (boxed_front b inside e (list_boxed vs at e' st)) = rw (e, at, e') (list inside vs st)
  by_kind (boxed_front b inside e (pairs_boxed at e')) = rw (e, at, e') (pairs inside)

-- ---- plain values

module _ {toks : List Token} {v : Literal} {rest : List Token} where
  pub text_is : (key : List ℕ) → Front toks v rest → is_string_token key (string_at toks) ≡ is_string key v
  text_is key = by_kind (λ toks v rest. is_string_token key (string_at toks) ≡ is_string key v)
      (λ bytes. refl) (λ n. refl) (λ b. refl) refl (λ inside vs st. refl) (λ inside vs st. refl) (λ inside. refl)

  pub truth_is : Front toks v rest → truth_at toks ≡ truth_of v
  truth_is = by_kind (λ toks v rest. truth_at toks ≡ truth_of v)
      (λ bytes. refl) (λ n. refl) (λ b. refl) refl (λ inside vs st. refl) (λ inside vs st. refl) (λ inside. refl)

  pub pad_is : (p : Partial) → Front toks v rest → pad_at p (string_at toks) ≡ pad_in p v
  pad_is p = by_kind (λ toks v rest. pad_at p (string_at toks) ≡ pad_in p v)
      (λ bytes. refl) (λ n. refl) (λ b. refl) refl (λ inside vs st. refl) (λ inside vs st. refl) (λ inside. refl)

  -- ---- types

  pub string_stands : (found : List ℕ × List Token) → Some found ≡ string_at toks → Front toks v rest → v ≡ Plain (Text found.0)
  string_stands found is front = by_kind (λ toks v rest. Some found ≡ string_at toks → v ≡ Plain (Text found.0))
      (λ bytes is. let same : found ≡ (bytes, rest) = cc in ap (λ (f : List ℕ × List Token). Plain (Text f.0)) (sym same))
      (λ n is. cc) (λ b is. cc) (λ is. cc) (λ inside vs st is. cc) (λ inside vs st is. cc) (λ inside is. cc) front is

  pub list_stands : (inside : List Token) → Some inside ≡ symbol_token_at 91 toks → Front toks v rest → (vs : List Literal) × (v ≡ Row Square (all_listed_values vs)) × HasValues 93 inside vs
  list_stands inside is front = by_kind (λ toks v rest. Some inside ≡ symbol_token_at 91 toks → (vs : List Literal) × (v ≡ Row Square (all_listed_values vs)) × HasValues 93 inside vs)
      (λ bytes is. cc) (λ n is. cc) (λ b is. cc) (λ is. cc) (λ inside' vs st is. cc)
      (λ inside' vs st is. let same : inside ≡ inside' = cc in (vs, refl, subst (λ (l : List Token). HasValues 93 l vs) (sym same) st))
      (λ inside' is. cc) front is

  pub tuple_stands : (inside : List Token) → Some inside ≡ symbol_token_at 40 toks → Front toks v rest → (vs : List Literal) × (v ≡ Row Round (all_listed_values vs)) × HasValues 41 inside vs
  tuple_stands inside is front = by_kind (λ toks v rest. Some inside ≡ symbol_token_at 40 toks → (vs : List Literal) × (v ≡ Row Round (all_listed_values vs)) × HasValues 41 inside vs)
      (λ bytes is. cc) (λ n is. cc) (λ b is. cc) (λ is. cc)
      (λ inside' vs st is. let same : inside ≡ inside' = cc in (vs, refl, subst (λ (l : List Token). HasValues 41 l vs) (sym same) st))
      (λ inside' vs st is. cc) (λ inside' is. cc) front is

  pub no_type : None ≡ string_at toks → None ≡ symbol_token_at 91 toks → Front toks v rest → ((within : List Literal → Result Structure Refusal) → type_in within v ≡ Err DescriptorLeftOut) × (descr_in v ≡ Err BadDescriptor)
  no_type no_text no_list front = by_kind (λ toks v rest. None ≡ string_at toks → None ≡ symbol_token_at 91 toks → ((within : List Literal → Result Structure Refusal) → type_in within v ≡ Err DescriptorLeftOut) × (descr_in v ≡ Err BadDescriptor))
      (λ bytes no_text no_list. cc) (λ n no_text no_list. (λ within. refl, refl)) (λ b no_text no_list. (λ within. refl, refl)) (λ no_text no_list. (λ within. refl, refl))
      (λ inside vs st no_text no_list. (λ within. refl, refl)) (λ inside vs st no_text no_list. cc) (λ inside no_text no_list. (λ within. refl, refl)) front no_text no_list

  pub no_tuple : None ≡ symbol_token_at 40 toks → Front toks v rest → (entry_parts v ≡ None) × (lengths_of v ≡ Err BadHeader)
  no_tuple none front = by_kind (λ toks v rest. None ≡ symbol_token_at 40 toks → (entry_parts v ≡ None) × (lengths_of v ≡ Err BadHeader))
      (λ bytes none. (refl, refl)) (λ n none. (refl, refl)) (λ b none. (refl, refl)) (λ none. (refl, refl))
      (λ inside vs st none. cc) (λ inside vs st none. (refl, refl)) (λ inside none. (refl, refl)) front none

  -- No value begins with a closing round bracket.
  pub no_end : Front toks v rest → None ≡ symbol_token_at 41 toks
  no_end = by_kind (λ toks v rest. None ≡ symbol_token_at 41 toks)
      (λ bytes. refl) (λ n. refl) (λ b. refl) refl (λ inside vs st. refl) (λ inside vs st. refl) (λ inside. refl)

  pub no_name : None ≡ string_at toks → (others : List Literal) → Front toks v rest → name_and_type (v ∷ others) ≡ None
  no_name none others front = by_kind (λ toks v rest. None ≡ string_at toks → name_and_type (v ∷ others) ≡ None)
      (λ bytes none. cc) (λ n none. refl) (λ b none. refl) (λ none. refl) (λ inside vs st none. refl) (λ inside vs st none. refl) (λ inside none. refl) front none

  pub no_integer : None ≡ integer_at toks → (others : List Literal) → Front toks v rest → integers_of (v ∷ others) ≡ Err BadHeader
  no_integer none others front = by_kind (λ toks v rest. None ≡ integer_at toks → integers_of (v ∷ others) ≡ Err BadHeader)
      (λ bytes none. refl) (λ n none. cc) (λ b none. refl) (λ none. refl) (λ inside vs st none. refl) (λ inside vs st none. refl) (λ inside none. refl) front none

  pub integer_stands : (found : ℕ × List Token) → Some found ≡ integer_at toks → Front toks v rest → (v ≡ Plain (Integer found.0)) × (rest ≡ found.1) × (None ≡ symbol_token_at 41 toks)
  integer_stands found is front = by_kind (λ toks v rest. Some found ≡ integer_at toks → (v ≡ Plain (Integer found.0)) × (rest ≡ found.1) × (None ≡ symbol_token_at 41 toks))
      (λ bytes is. cc)
      (λ n is. let same : found ≡ (n, rest) = cc in (ap (λ (f : ℕ × List Token). Plain (Integer f.0)) (sym same), ap (λ (f : ℕ × List Token). f.1) (sym same), refl))
      (λ b is. cc) (λ is. cc) (λ inside vs st is. cc) (λ inside vs st is. cc) (λ inside is. cc) front is

-- ---- entries

pub comma_is : (toks next : List Token) → Some next ≡ symbol_token_at 44 toks → behind_comma toks ≡ next
comma_is toks next is = rw (← is) refl

-- If the tokens begin with entries, and not with their end, one entry is read.
module _ {A : Type 0} (entry : List Token → Read A) (closing : ℕ) (other : closing ≢ 44) (toks : List Token) (xs : List A) (s : StandIn A entry closing toks xs) (open' : None ≡ symbol_token_at closing toks) where
  pub is_read : (e : Refusal) → behind_entry entry toks ≡ Err e → ⊥
  is_read e fails =
      let next = stand_open entry closing toks xs other s open' in
      let w = rw next.reads at fails in cc

  pub next_stands : (rest : List Token) → behind_entry entry toks ≡ Ok rest → (x : A) × (others : List A) × (after : List Token) × (entry toks ≡ Ok (x, after)) × (xs ≡ x ∷ others) × StandIn A entry closing rest others
  next_stands rest reads =
      let next = stand_open entry closing toks xs other s open' in
      let w : Ok (behind_comma next.after) ≡ Ok rest = rw next.reads at reads in
      let same : behind_comma next.after ≡ rest = cc in
      (next.first, next.others, next.after, next.reads, next.is, subst (λ (l : List Token). StandIn A entry closing l next.others) same next.more)

-- ---- entries of a record, a tuple of a name and a type

text_front_is : (toks : List Token) (found : List ℕ × List Token) → Some found ≡ string_at toks → toks ≡ token.Text found.0 ∷ found.1
text_front_is (token.Text bytes ∷ toks) found is = let same : found ≡ (bytes, toks) = cc in ap (λ (f : List ℕ × List Token). token.Text f.0 ∷ f.1) (sym same)
text_front_is _ found is = cc

pub no_44 : let n : ℕ = 41 in n ≢ 44
no_44 wrong = omega (arith, wrong)

module _ (inside : List Token) (vs : List Literal) (s : HasValues 41 inside vs) where
  pub nameless : None ≡ string_at inside → name_and_type vs ≡ None
  nameless none = go (symbol_token_at 41 inside) refl
    where
      go : (o : Option (List Token)) → symbol_token_at 41 inside ≡ o → name_and_type vs ≡ None
      go (Some end) e = ap name_and_type (stand_closed value_in 41 inside vs s end (sym e))
      go None e =
          let next = stand_open value_in 41 inside vs no_44 s (sym e) in
          ap name_and_type next.is ∙ no_name none next.others (front_of inside next.first (record { rest = next.after; is = next.reads }))

  -- a name that comes first, and the values after it
  pub named : (found : List ℕ × List Token) → Some found ≡ string_at inside → (others : List Literal) × (vs ≡ Plain (Text found.0) ∷ others) × HasValues 41 (behind_comma found.1) others × (None ≡ symbol_token_at 44 found.1 → others ≡ [])
  unfolding literal_in
  named found is =
      let front = text_front_is inside found is in
      let open' : None ≡ symbol_token_at 41 inside = rw front refl in
      let next = stand_open value_in 41 inside vs no_44 s open' in
      let same = same_read (Plain (Text found.0)) next.first found.1 next.after (Ok (Plain (Text found.0), found.1)) refl (ap value_in (sym front) ∙ next.reads) in
      let first = sym same.0 in
      let after = sym same.1 in
      (next.others, next.is ∙ ap (λ (x : Literal). x ∷ next.others) first, subst (λ (l : List Token). HasValues 41 (behind_comma l) next.others) after next.more, λ none. next.alone (none ∙ ap (symbol_token_at 44) (sym after)))

module _ (kind : List Token) (others : List Literal) (s : HasValues 41 kind others) where
  pub untyped : (e : Refusal) → behind_entry value_in kind ≡ Err e → others ≡ []
  untyped e fails = go (symbol_token_at 41 kind) refl
    where
      go : (o : Option (List Token)) → symbol_token_at 41 kind ≡ o → others ≡ []
      go (Some end) e' = stand_closed value_in 41 kind others s end (sym e')
      go None e' = absurd (is_read value_in 41 no_44 kind others s (sym e') e fails)

  pub typed : (rest : List Token) → behind_entry value_in kind ≡ Ok rest → (type : Literal) × (later : List Literal) × (others ≡ type ∷ later) × Stands kind type × HasValues 41 rest later
  typed rest reads = go (value_in kind) refl
    where
      go : (r : Read Literal) → value_in kind ≡ r → (type : Literal) × (later : List Literal) × (others ≡ type ∷ later) × Stands kind type × HasValues 41 rest later
      go (Err e) e' = let w = rw e' at reads in cc
      go (Ok x) e' =
          let stands : Stands kind x.0 = record { rest = x.1; is = e' } in
          let next = next_stands value_in 41 no_44 kind others s (no_end (front_of kind x.0 stands)) rest reads in
          (next.0, next.1, next.4, record { rest = next.2; is = next.3 }, next.5)

-- If values remain and their end does not come next, there is one more.
pub many : (rest : List Token) (later : List Literal) → HasValues 41 rest later → None ≡ symbol_token_at 41 rest → (x : Literal) × (more : List Literal) × (later ≡ x ∷ more)
many rest later s open' = let next = stand_open value_in 41 rest later no_44 s open' in (next.first, next.others, next.is)

-- the parts of an entry
module _ (toks : List Token) (v : Literal) (s : Stands toks v) (inside : List Token) (opens : Some inside ≡ symbol_token_at 40 toks) where
  parts_of : (vs : List Literal) → v ≡ Row Round (all_listed_values vs) → entry_parts v ≡ name_and_type vs
  parts_of vs is = ap entry_parts is ∙ ap name_and_type (literals_of_listed vs)

  pub parts_nameless : None ≡ string_at inside → entry_parts v ≡ None
  parts_nameless none = let row = tuple_stands inside opens (front_of toks v s) in parts_of row.0 row.1 ∙ nameless inside row.0 row.2 none

  module _ (found : List ℕ × List Token) (name : Some found ≡ string_at inside) where
    parts_from : (others : List Literal) × HasValues 41 (behind_comma found.1) others × (None ≡ symbol_token_at 44 found.1 → others ≡ []) × (entry_parts v ≡ name_and_type (Plain (Text found.0) ∷ others))
    parts_from =
        let row = tuple_stands inside opens (front_of toks v s) in
        let next = named inside row.0 row.2 found name in
        (next.0, next.2, next.3, parts_of row.0 row.1 ∙ ap name_and_type next.1)

    pub parts_alone : None ≡ symbol_token_at 44 found.1 → entry_parts v ≡ None
    parts_alone none = let p = parts_from in p.3 ∙ ap (λ (l : List Literal). name_and_type (Plain (Text found.0) ∷ l)) (p.2 none)

    module _ (kind : List Token) (comma : Some kind ≡ symbol_token_at 44 found.1) where
      parts_behind : (others : List Literal) × HasValues 41 kind others × (entry_parts v ≡ name_and_type (Plain (Text found.0) ∷ others))
      parts_behind = let p = parts_from in (p.0, subst (λ (l : List Token). HasValues 41 l p.0) (comma_is found.1 kind comma) p.1, p.3)

      pub parts_untyped : (e : Refusal) → behind_entry value_in kind ≡ Err e → entry_parts v ≡ None
      parts_untyped e fails = let p = parts_behind in p.2 ∙ ap (λ (l : List Literal). name_and_type (Plain (Text found.0) ∷ l)) (untyped kind p.0 p.1 e fails)

      module _ (rest : List Token) (reads : behind_entry value_in kind ≡ Ok rest) where
        pub parts_many : None ≡ symbol_token_at 41 rest → entry_parts v ≡ None
        parts_many none =
            let p = parts_behind in
            let t = typed kind p.0 p.1 rest reads in
            let third = many rest t.1 t.4 none in
            p.2 ∙ ap (λ (l : List Literal). name_and_type (Plain (Text found.0) ∷ l)) (t.2 ∙ ap (λ (l : List Literal). t.0 ∷ l) third.2)

        pub parts_two : (end : List Token) → Some end ≡ symbol_token_at 41 rest → (type : Literal) × (entry_parts v ≡ Some (found.0, type)) × Stands kind type
        parts_two end ends =
            let p = parts_behind in
            let t = typed kind p.0 p.1 rest reads in
            (t.0, p.2 ∙ ap (λ (l : List Literal). name_and_type (Plain (Text found.0) ∷ l)) (t.2 ∙ ap (λ (l : List Literal). t.0 ∷ l) (stand_closed value_in 41 rest t.1 t.4 end ends)), t.3)

-- ---- the integers of a tuple

pub integer_front_is : (toks : List Token) (found : ℕ × List Token) → Some found ≡ integer_at toks → toks ≡ token.Integer found.0 ∷ found.1
integer_front_is (token.Integer n ∷ toks) found is = let same : found ≡ (n, toks) = cc in ap (λ (f : ℕ × List Token). token.Integer f.0 ∷ f.1) (sym same)
integer_front_is _ found is = cc
