-- Laws of literals for a text that is read a second time.
use Rattle.std.proofs.Common.{◌≡◌, ◌<◌, ◌≤◌, ℕ, zero, suc, Bool, true, false, List, [], ◌∷◌, length, Option, Some, None, Result, Ok, Err, refl, ap, sym, ◌∙◌, arith, nat_eq, if◌then◌else◌}
use Rattle.npy_format.proofs.Words.{ok_or, Refusal, BadHeader, ◌>>=◌, Token, Literal, Read, symbol_token_at, if_read, list_end, entries_in, tuple_in, list_in, pair_in, dictionary_in, bracketed, literal_in}
use Rattle.npy_format.specs.Tokens as token

-- ---- what is read at a depth is read at a greater depth

abbrev Less : {A : Type 0} → Result A Refusal → Result A Refusal → Type 0
Less {A} r r' = (y : A) → r ≡ Ok y → r' ≡ Ok y

found_less : {A B : Type 0} (o : Option B) (next next' : B → Result A Refusal) (other other' : Result A Refusal) → ((b : B) → Less (next b) (next' b)) → Less other other' → Less (if_read o next other) (if_read o next' other')
found_less None next next' other other' h k = k
found_less (Some b) next next' other other' h k = h b

bind_less : {A B : Type 0} (r r' : Result A Refusal) (f f' : A → Result B Refusal) → Less r r' → ((x : A) → Less (f x) (f' x)) → Less (r >>= f) (r' >>= f')
bind_less (Ok x) r' f f' h k y is = ap (λ s. s >>= f') (h x refl) ∙ k x y is
bind_less (Err e) r' f f' h k y is = cc

choose_less : {A : Type 0} (b : Bool) (r r' s s' : Result A Refusal) → Less r r' → Less s s' → Less (if b then r else s) (if b then r' else s')
choose_less true r r' s s' h k = h
choose_less false r r' s s' h k = k

pub entries_less : {A : Type 0} (entry entry' : List Token → Read A) → ((toks : List Token) → Less (entry toks) (entry' toks)) → (closing turns : ℕ) (toks : List Token) → Less (entries_in entry closing turns toks) (entries_in entry' closing turns toks)
unfolding entries_in
entries_less entry entry' h closing zero toks = λ y is. is
entries_less entry entry' h closing (suc turns) toks =
    found_less (symbol_token_at closing toks) _ _ _ _ (λ b y is. is)
    (bind_less (entry toks) (entry' toks) _ _ (h toks) (λ first. bind_less _ _ _ _
    (found_less (symbol_token_at closing first.1) _ _ _ _ (λ b y is. is) (found_less (symbol_token_at 44 first.1) _ _ _ _ (λ b. entries_less entry entry' h closing turns b) (λ y is. is)))
    (λ others y is. is)))

module _ (value value' : List Token → Read Literal) (h : (toks : List Token) → Less (value toks) (value' toks)) where
  tuple_less : (toks : List Token) → Less (tuple_in value toks) (tuple_in value' toks)
  unfolding tuple_in
  tuple_less toks = found_less (symbol_token_at 41 toks) _ _ _ _ (λ b y is. is)
      (bind_less (value toks) (value' toks) _ _ (h toks) (λ first. bind_less _ _ _ _ (λ y is. is)
      (λ rest. bind_less _ _ _ _ (entries_less value value' h 41 (length rest) rest) (λ others y is. is))))

  list_less : (toks : List Token) → Less (list_in value toks) (list_in value' toks)
  unfolding list_in
  list_less toks = bind_less _ _ _ _ (entries_less value value' h 93 (length toks) toks) (λ values y is. is)

  pair_less : (toks : List Token) → Less (pair_in value toks) (pair_in value' toks)
  unfolding pair_in
  pair_less toks = bind_less (value toks) (value' toks) _ _ (h toks) (λ key. bind_less _ _ _ _ (λ y is. is)
      (λ rest. bind_less (value rest) (value' rest) _ _ (h rest) (λ under y is. is)))

  dictionary_less : (toks : List Token) → Less (dictionary_in value toks) (dictionary_in value' toks)
  unfolding dictionary_in
  dictionary_less toks = bind_less _ _ _ _ (entries_less (pair_in value) (pair_in value') pair_less 125 (length toks) toks) (λ pairs y is. is)

  bracketed_less : (b : ℕ) (toks : List Token) → Less (bracketed value b toks) (bracketed value' b toks)
  bracketed_less b toks = choose_less (nat_eq b 40) _ _ _ _ (tuple_less toks) (choose_less (nat_eq b 91) _ _ _ _ (list_less toks) (choose_less (nat_eq b 123) _ _ _ _ (dictionary_less toks) (λ y is. is)))

pub literal_less : (depth : ℕ) (toks : List Token) → Less (literal_in depth toks) (literal_in (suc depth) toks)
unfolding literal_in
literal_less zero (token.Symbol b ∷ rest) = λ y is. cc
literal_less (suc depth) (token.Symbol b ∷ rest) = bracketed_less (literal_in depth) (literal_in (suc depth)) (literal_less depth) b rest
literal_less depth _ = λ y is. is

-- ---- what is read takes at least one token

pub symbol_shorter : (b : ℕ) (toks rest : List Token) → Some rest ≡ symbol_token_at b toks → length toks ≡ suc (length rest)
symbol_shorter b (token.Symbol c ∷ toks) rest is = chosen (nat_eq c b) is
  where
    chosen : (same : Bool) → Some rest ≡ (if same then Some toks else None) → suc (length toks) ≡ suc (length rest)
    chosen true is = let e : toks ≡ rest = cc in ap (λ (l : List Token). suc (length l)) e
    chosen false is = cc
symbol_shorter b _ rest is = cc

-- if something is read, fewer than `n` tokens remain
abbrev Leaves : {A : Type 0} → ℕ → Read A → Type 0
Leaves {A} n r = (y : A × List Token) → r ≡ Ok y → length y.1 < n

abbrev pub Shortens : {A : Type 0} → (List Token → Read A) → Type 0
Shortens entry = (toks : List Token) → Leaves (length toks) (entry toks)

found_leaves : {A B : Type 0} (n : ℕ) (o : Option B) (next : B → Read A) (other : Read A) → ((b : B) → Some b ≡ o → Leaves n (next b)) → Leaves n other → Leaves n (if_read o next other)
found_leaves n None next other h k = k
found_leaves n (Some b) next other h k = h b refl

bind_leaves : {A B : Type 0} (n : ℕ) (r : Read B) (f : B × List Token → Read A) → Leaves n r → ((x : B × List Token) → length x.1 < n → Leaves n (f x)) → Leaves n (r >>= f)
bind_leaves n (Ok x) f h k = k x (h x refl)
bind_leaves n (Err e) f h k = λ y is. cc

mark_leaves : {A : Type 0} (n b : ℕ) (toks : List Token) (f : List Token → Read A) → length toks < n → ((rest : List Token) → length rest < n → Leaves n (f rest)) → Leaves n (ok_or (symbol_token_at b toks) BadHeader >>= f)
mark_leaves n b toks f less k = go (symbol_token_at b toks) refl
  where
    go : (o : Option (List Token)) → symbol_token_at b toks ≡ o → Leaves n (ok_or o BadHeader >>= f)
    go None is = λ y e. cc
    go (Some rest) is = k rest (omega (arith, less, symbol_shorter b toks rest (sym is)))

choose_leaves : {A : Type 0} (n : ℕ) (b : Bool) (r s : Read A) → Leaves n r → Leaves n s → Leaves n (if b then r else s)
choose_leaves n true r s h k = h
choose_leaves n false r s h k = k

-- the remaining tokens are these
ends_leaves : {A : Type 0} (n : ℕ) (x : A) (rest : List Token) → length rest < n → Leaves n (Ok (x, rest))
ends_leaves n x rest less y is = let e : rest ≡ y.1 = cc in omega (arith, less, ap (λ (l : List Token). length l) e)

weaker_leaves : {A : Type 0} (n m : ℕ) (r : Read A) → n ≤ m → Leaves n r → Leaves m r
weaker_leaves n m r le h y is = omega (arith, le, h y is)

err_leaves : {A : Type 0} (n : ℕ) (e : Refusal) → Leaves {A = A} n (Err e)
err_leaves n e y is = cc

pub entries_leaves : {A : Type 0} (entry : List Token → Read A) → Shortens entry → (closing turns : ℕ) → Shortens (entries_in entry closing turns)
unfolding entries_in
entries_leaves entry h closing zero toks = err_leaves _ _
entries_leaves entry h closing (suc turns) toks =
    let n = length toks in
    found_leaves n (symbol_token_at closing toks) list_end _ (λ b is. ends_leaves n [] b (omega (arith, symbol_shorter closing toks b is)))
    (bind_leaves n (entry toks) _ (h toks) (λ first less. bind_leaves n _ _
    (found_leaves n (symbol_token_at closing first.1) list_end _ (λ b is. ends_leaves n [] b (omega (arith, less, symbol_shorter closing first.1 b is)))
    (found_leaves n (symbol_token_at 44 first.1) _ _ (λ b is. weaker_leaves (length b) n _ (omega (arith, less, symbol_shorter 44 first.1 b is)) (entries_leaves entry h closing turns b)) (err_leaves n BadHeader)))
    (λ others less'. ends_leaves n (first.0 ∷ others.0) others.1 less')))

module _ (value : List Token → Read Literal) (h : Shortens value) where
  tuple_leaves : Shortens (tuple_in value)
  unfolding tuple_in
  tuple_leaves toks =
      let n = length toks in
      found_leaves n (symbol_token_at 41 toks) _ _ (λ b is. ends_leaves n _ b (omega (arith, symbol_shorter 41 toks b is)))
      (bind_leaves n (value toks) _ (h toks) (λ first less. mark_leaves n 44 first.1 _ less
      (λ rest less'. bind_leaves n _ _ (weaker_leaves (length rest) n _ (omega (arith, less')) (entries_leaves value h 41 (length rest) rest)) (λ others less''. ends_leaves n _ others.1 less''))))

  list_leaves : Shortens (list_in value)
  unfolding list_in
  list_leaves toks = bind_leaves (length toks) _ _ (entries_leaves value h 93 (length toks) toks) (λ values less. ends_leaves (length toks) _ values.1 less)

  pub pair_leaves : Shortens (pair_in value)
  unfolding pair_in
  pair_leaves toks =
      let n = length toks in
      bind_leaves n (value toks) _ (h toks) (λ key less. mark_leaves n 58 key.1 _ less
      (λ rest less'. bind_leaves n _ _ (weaker_leaves (length rest) n _ (omega (arith, less')) (h rest)) (λ under less''. ends_leaves n _ under.1 less'')))

  dictionary_leaves : Shortens (dictionary_in value)
  unfolding dictionary_in
  dictionary_leaves toks = bind_leaves (length toks) _ _ (entries_leaves (pair_in value) pair_leaves 125 (length toks) toks) (λ pairs less. ends_leaves (length toks) _ pairs.1 less)

  bracketed_leaves : (b : ℕ) → Shortens (bracketed value b)
  bracketed_leaves b toks = choose_leaves _ (nat_eq b 40) _ _ (tuple_leaves toks) (choose_leaves _ (nat_eq b 91) _ _ (list_leaves toks) (choose_leaves _ (nat_eq b 123) _ _ (dictionary_leaves toks) (err_leaves _ _)))

pub literal_leaves : (depth : ℕ) → Shortens (literal_in depth)
unfolding literal_in
literal_leaves depth (token.Text bytes ∷ rest) = ends_leaves _ _ rest (omega arith)
literal_leaves depth (token.Integer n ∷ rest) = ends_leaves _ _ rest (omega arith)
literal_leaves depth (token.Truth truth ∷ rest) = ends_leaves _ _ rest (omega arith)
literal_leaves depth (token.Nothing ∷ rest) = ends_leaves _ _ rest (omega arith)
literal_leaves (suc depth) (token.Symbol b ∷ rest) = weaker_leaves (length rest) (suc (length rest)) _ (omega arith) (bracketed_leaves (literal_in depth) (literal_leaves depth) b rest)
literal_leaves _ _ = err_leaves _ _
