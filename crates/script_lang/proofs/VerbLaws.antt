-- To look up a word that passes a test, the rows whose words fail the test may be left out of the table.
use Rattle.std.proofs.Common.{◌≡◌, ℕ, Bool, true, false, List, [], ◌∷◌, ◌<◌, length, nat_lt, filter, Some, None, inl, inr, refl, sym, ◌∙◌, ap, if◌then◌else◌}
use Rattle.script_lang.proofs.Words.{bytes_eq, cases_Bool, false_from_ne_true, false≢true, bytes_eq-Decides, lt-ltb, Verb, beside, verbs, verb_of}

pub beside-filtered : (test : List ℕ → Bool) (rows : List (List ℕ × Verb)) (word : List ℕ) → test word ≡ true → beside rows word ≡ beside (filter (λ row. test row.0) rows) word
unfolding beside
beside-filtered test [] word passes = refl
beside-filtered test (row ∷ rows) word passes =
    let later = beside-filtered test rows word passes in
    elim (cases_Bool (test row.0)) [
      | inl kept ↦ rw kept (ap (λ rest. if bytes_eq row.0 word then Some row.1 else rest) later)
      | inr left ↦
          let other : bytes_eq row.0 word ≡ false = false_from_ne_true _ (λ same. false≢true (sym left ∙ ap test ((bytes_eq-Decides row.0 word).0 same) ∙ passes)) in
          rw (left, other) later
    ]

-- No verb has fewer than two letters.
pub no_short_verb : (word : List ℕ) → length word < 2 → verb_of word ≡ None
unfolding verb_of beside
no_short_verb word short = beside-filtered (λ w. nat_lt (length w) 2) verbs word (lt-ltb (length word) 2 short)
