-- The tokens after entries, read turn by turn, and after a value in brackets.
use Rattle.std.proofs.Common.{◌≡◌, ◌<◌, ◌≤◌, ◌-◌, ℕ, zero, suc, Bool, true, false, List, [], ◌∷◌, length, Option, Some, None, Ok, Err, refl, ap, ◌∙◌, arith}
use Rattle.npy_format.proofs.Words.{ok_or, Refusal, BadHeader, ◌>>=◌, bind_same, Token, Literal, Pair, HeaderAnyTurns, Read, symbol_token_at, if_read, list_end, entries_in, tuple_in, list_in, pair_in, dictionary_in, bracketed, literal_in, behind, behind_entries, behind_key, behind_one, behind_all}
use Rattle.npy_format.specs.Tokens as token
use Rattle.npy_format.proofs.GrammarLaws.{Shortens, symbol_shorter, pair_leaves, literal_leaves}
use Rattle.npy_format.proofs.TokenLaws.{tokens_any_turns}

pub behind_ok : {A : Type 0} (r : Read A) (rest : List Token) → behind r ≡ Ok rest → (x : A) × (r ≡ Ok (x, rest))
behind_ok (Ok x) rest is = let same : x.1 ≡ rest = cc in (x.0, ap (λ (l : List Token). Ok (x.0, l)) same)
behind_ok (Err e) rest is = cc

pub behind_err : {A : Type 0} (r : Read A) (refusal : Refusal) → behind r ≡ Err refusal → r ≡ Err refusal
behind_err (Ok x) refusal is = cc
behind_err (Err e) refusal is = let same : e ≡ refusal = cc in ap (λ (e : Refusal). Err e) same

behind_other : {A B : Type 0} (r : Read A) (f : A → B) → behind (r >>= λ x. Ok (f x.0, x.1)) ≡ behind r
behind_other (Ok x) f = refl
behind_other (Err e) f = refl

found_same : {A B : Type 0} (o : Option B) (next next' : B → A) (other : A) → ((b : B) → Some b ≡ o → next b ≡ next' b) → if_read o next other ≡ if_read o next' other
found_same None next next' other h = refl
found_same (Some b) next next' other h = h b refl

module _ {A : Type 0} (entry : List Token → Read A) (shortens : Shortens entry) (none : entry [] ≡ Err BadHeader) where
  -- Any number of turns that is at least the number of tokens reads the same.
  pub entries_turns : (closing n m : ℕ) (toks : List Token) → length toks ≤ n → length toks ≤ m → entries_in entry closing n toks ≡ entries_in entry closing m toks
  unfolding entries_in
  entries_turns closing zero zero toks few few' = refl
  entries_turns closing (suc n) (suc m) toks few few' =
      ap (if_read (symbol_token_at closing toks) list_end) (bind_same (entry toks) _ _ (λ first is. ap (λ (r : Read (List A)). r >>= λ others. Ok (first.0 ∷ others.0, others.1))
      (ap (if_read (symbol_token_at closing first.1) list_end) (found_same (symbol_token_at 44 first.1) _ _ (Err BadHeader) (λ b at.
      entries_turns closing n m b (omega (arith, few, shortens toks first is, symbol_shorter 44 first.1 b at)) (omega (arith, few', shortens toks first is, symbol_shorter 44 first.1 b at)))))))
  entries_turns closing _ _ [] few few' = rw none refl
  entries_turns closing _ _ (t ∷ toks) few few' = absurd (omega (arith, few, few'))

  module _ (closing : ℕ) (toks : List Token) where
    begins : behind_entries entry closing toks ≡ behind (entries_in entry closing (suc (length toks)) toks)
    begins = ap (λ (r : Read (List A)). behind r) (entries_turns closing (length toks) (suc (length toks)) toks (omega arith) (omega arith))

    pub skip_shorter : (after : List Token) → behind (entry toks) ≡ Ok after → length after < length toks
    skip_shorter after reads = let first = behind_ok (entry toks) after reads in shortens toks (first.0, after) first.1

    -- the first entry, and those after it
    pub entries_step : behind_entries entry closing toks ≡ if_read (symbol_token_at closing toks) (λ end. Ok end)
        (behind (entry toks) >>= λ after. if_read (symbol_token_at closing after) (λ end. Ok end) (if_read (symbol_token_at 44 after) (behind_entries entry closing) (Err BadHeader)))
    unfolding entries_in
    entries_step = begins ∙ first (symbol_token_at closing toks) (entry toks) (shortens toks)
      where
        others : (after : List Token) → length after < length toks → (end comma : Option (List Token)) → ((b : List Token) → Some b ≡ comma → length after ≡ suc (length b))
            → behind (if_read end list_end (if_read comma (entries_in entry closing (length toks)) (Err BadHeader))) ≡ if_read end (λ end. Ok end) (if_read comma (behind_entries entry closing) (Err BadHeader))
        others after less (Some end) comma shorter = refl
        others after less None None shorter = refl
        others after less None (Some next) shorter = ap (λ (r : Read (List A)). behind r) (entries_turns closing (length toks) (length next) next (omega (arith, less, shorter next refl)) (omega arith))

        first : (end : Option (List Token)) (r : Read A) → ((y : A × List Token) → r ≡ Ok y → length y.1 < length toks)
            → behind (if_read end list_end (r >>= λ x. if_read (symbol_token_at closing x.1) list_end (if_read (symbol_token_at 44 x.1) (entries_in entry closing (length toks)) (Err BadHeader)) >>= λ xs. Ok (x.0 ∷ xs.0, xs.1)))
            ≡ if_read end (λ end. Ok end) (behind r >>= λ after. if_read (symbol_token_at closing after) (λ end. Ok end) (if_read (symbol_token_at 44 after) (behind_entries entry closing) (Err BadHeader)))
        first (Some end) r less = refl
        first None (Err e) less = refl
        first None (Ok x) less = behind_other _ (λ xs. x.0 ∷ xs) ∙ others x.1 (less x refl) (symbol_token_at closing x.1) (symbol_token_at 44 x.1) (symbol_shorter 44 x.1)

-- ---- in brackets

module _ (value : List Token → Read Literal) (toks : List Token) where
  pub tuple_next : (after next : List Token) → None ≡ symbol_token_at 41 toks → behind (value toks) ≡ Ok after → Some next ≡ symbol_token_at 44 after → behind (tuple_in value toks) ≡ behind_entries value 41 next
  unfolding tuple_in
  tuple_next after next no_end reads comma =
      let first = behind_ok (value toks) after reads in
      rw (← no_end, first.1, ← comma) (behind_other (entries_in value 41 (length next) next) _)

  pub list_skipped : behind (list_in value toks) ≡ behind_entries value 93 toks
  unfolding list_in
  list_skipped = behind_other (entries_in value 93 (length toks) toks) _

  pub dictionary_skipped : behind (dictionary_in value toks) ≡ behind_entries (pair_in value) 125 toks
  unfolding dictionary_in
  dictionary_skipped = behind_other (entries_in (pair_in value) 125 (length toks) toks) _

  pub pair_skipped : behind (pair_in value toks) ≡ (behind_key value toks >>= λ rest. behind (value rest))
  unfolding pair_in
  pair_skipped = key (value toks)
    where
      colon : (k : Literal × List Token) (o : Option (List Token)) → behind {A = Pair} (ok_or o BadHeader >>= λ rest. value rest >>= λ u. Ok (record { key = k.0; value = u.0 }, u.1)) ≡ (ok_or o BadHeader >>= λ rest. behind (value rest))
      colon k None = refl
      colon k (Some rest) = behind_other (value rest) _

      key : (r : Read Literal) → behind {A = Pair} (r >>= λ k. ok_or (symbol_token_at 58 k.1) BadHeader >>= λ rest. value rest >>= λ u. Ok (record { key = k.0; value = u.0 }, u.1)) ≡ (behind r >>= (λ rest. ok_or (symbol_token_at 58 rest) BadHeader) >>= λ rest. behind (value rest))
      key (Err e) = refl
      key (Ok k) = colon k (symbol_token_at 58 k.1)

-- ---- what the readers need

pub no_literal : (depth : ℕ) → literal_in depth [] ≡ Err BadHeader
unfolding literal_in
no_literal depth = refl

pub no_pair : (depth : ℕ) → pair_in (literal_in depth) [] ≡ Err BadHeader
unfolding pair_in literal_in
no_pair depth = refl

-- brackets, if a level is left for them
pub skip_symbol : (depth b : ℕ) (toks rest : List Token) → 0 < depth → toks ≡ token.Symbol b ∷ rest → literal_in depth toks ≡ bracketed (literal_in (depth - 1)) b rest
unfolding literal_in
skip_symbol depth b toks rest some is = let more : depth ≡ suc (depth - 1) = omega (arith, some) in rw is (ap (λ (n : ℕ). literal_in n (token.Symbol b ∷ rest)) more)

-- ---- entries, which are pairs or values

module _ (depth : ℕ) where
  pub all_step : (is_pair : Bool) (closing : ℕ) (toks : List Token) → behind_all depth is_pair closing toks ≡ if_read (symbol_token_at closing toks) (λ end. Ok end)
      (behind_one depth is_pair toks >>= λ after. if_read (symbol_token_at closing after) (λ end. Ok end) (if_read (symbol_token_at 44 after) (behind_all depth is_pair closing) (Err BadHeader)))
  all_step true = entries_step (pair_in (literal_in depth)) (pair_leaves (literal_in depth) (literal_leaves depth)) (no_pair depth)
  all_step false = entries_step (literal_in depth) (literal_leaves depth) (no_literal depth)

  pub one_shorter : (is_pair : Bool) (toks after : List Token) → behind_one depth is_pair toks ≡ Ok after → length after < length toks
  one_shorter true = skip_shorter (pair_in (literal_in depth)) (pair_leaves (literal_in depth) (literal_leaves depth)) (no_pair depth) 125
  one_shorter false = skip_shorter (literal_in depth) (literal_leaves depth) (no_literal depth) 125

-- More turns read the same.
pub header_any_turns : HeaderAnyTurns
header_any_turns = (
  tokens_any_turns,
  (λ depth.
      let value = literal_leaves depth in (
        (λ turns toks few. entries_turns (literal_in depth) value (no_literal depth) 41 turns (length toks) toks few (omega arith)),
        (λ turns toks few. entries_turns (literal_in depth) value (no_literal depth) 93 turns (length toks) toks few (omega arith)),
        (λ turns toks few. entries_turns (pair_in (literal_in depth)) (pair_leaves (literal_in depth) value) (no_pair depth) 125 turns (length toks) toks few (omega arith)),
      )),
)
