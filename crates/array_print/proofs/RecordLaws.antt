-- A record whose fields are pushed one after another.
use Rattle.std.proofs.Common.{Option, ◌≡◌, ℕ, zero, suc, ◌+◌, ◌-◌, ◌<◌, ◌≤◌, List, [], ◌++◌, codes, length, take, get_or, sym, subst, ◌∙◌, ap, arith, append_assoc, take_all}
use Rattle.array_print.proofs.Words.{append-nil, SendsPart, in_parentheses, join_texts, lead, part-longer, record_end}
use Rattle.array_print.specs.declared.bands.Room.{Room}
use Rattle.array_print.specs.inside.Pushed.{Held}
use Rattle.array_print.proofs.PushLaws.{held-more, held-same, part-after}
use Rattle.array_print.proofs.LeafLaws.{joined-take-more}

-- the texts after the first ones
joined-rest : (separator : List ℕ) (texts : List (List ℕ)) (d k : ℕ) → k + d ≡ length texts → (rest : List ℕ) × (join_texts separator texts ≡ join_texts separator (take k texts) ++ rest)
joined-rest separator texts zero k all = ([], ap (join_texts separator) (sym (take_all k texts (omega (arith, all)))) ∙ sym (append-nil (join_texts separator (take k texts))))
joined-rest separator texts (suc d) k all =
    let r = joined-rest separator texts d (k + 1) (omega (arith, all)) in
    let more = lead k separator ++ get_or texts k [] in (
      more ++ r.0,
      r.1 ∙ ap (λ o. o ++ r.0) (joined-take-more separator texts k (omega (arith, all)) ∙ append_assoc (join_texts separator (take k texts)) (lead k separator) (get_or texts k [])) ∙ append_assoc (join_texts separator (take k texts)) more r.0,
    )

module _ (texts : List (List ℕ)) where
  -- the opening parenthesis, and the first `k` texts
  abbrev pub so_far : ℕ → List ℕ
  so_far k = codes "(" ++ join_texts (codes ", ") (take k texts)

  abbrev pub comma : ℕ → List ℕ
  comma k = lead k (codes ", ")

  -- no more texts will be sent
  pub cut : (w w' : Option (List ℕ)) (old : List ℕ) (k : ℕ) → k ≤ length texts → SendsPart w w' (old ++ so_far k) → SendsPart w w' (old ++ in_parentheses texts)
  cut w w' old k most part =
      let r = joined-rest (codes ", ") texts (length texts - k) k (omega arith) in
      let end = record_end (length texts) in
      let whole : so_far k ++ (r.0 ++ end) ≡ in_parentheses texts = sym (append_assoc (so_far k) r.0 end) ∙ ap (λ t. (codes "(" ++ t) ++ end) (sym r.1) in
      subst (λ t. SendsPart w w' (old ++ t)) whole (part-longer w w' old (so_far k) (r.0 ++ end) part)

  -- one more text
  one-more : (k : ℕ) → k < length texts → so_far k ++ (comma k ++ get_or texts k []) ≡ so_far (k + 1)
  one-more k below = sym (append_assoc (so_far k) (comma k) (get_or texts k [])) ∙ ap (λ t. codes "(" ++ t) (sym (joined-take-more (codes ", ") texts k below))

  module _ {w w1 : Option (List ℕ)} {old held : Room} (k : ℕ) (below : k < length texts) (sent : Held (so_far k) w w1 old held) where
    -- a fault in the next text, or in the comma before it
    cut-next : (w' : Option (List ℕ)) → SendsPart w1 w' (held.text.items ++ (comma k ++ get_or texts k [])) → SendsPart w w' (old.text.items ++ in_parentheses texts)
    cut-next w' fault =
        cut w w' old.text.items (k + 1) (omega (arith, below)) (subst (λ t. SendsPart w w' (old.text.items ++ t)) (one-more k below) (part-after sent w' (comma k ++ get_or texts k []) fault))

    pub cut-before : (w' : Option (List ℕ)) → SendsPart w1 w' (held.text.items ++ comma k) → SendsPart w w' (old.text.items ++ in_parentheses texts)
    cut-before w' fault = cut-next w' (part-longer w1 w' held.text.items (comma k) (get_or texts k []) fault)

    module _ {w2 : Option (List ℕ)} {led : Room} (text : List ℕ) (leads : Held (comma k) w1 w2 held led) (is : get_or texts k [] ≡ text) where
      -- the next text is sent
      pub sent-more : {w3 : Option (List ℕ)} {new : Room} → Held text w2 w3 led new → Held (so_far (k + 1)) w w3 old new
      sent-more next = held-same (ap (λ t. so_far k ++ (comma k ++ t)) (sym is) ∙ one-more k below) (held-more sent (held-more leads next))

      pub cut-within : (w' : Option (List ℕ)) → SendsPart w2 w' (led.text.items ++ text) → SendsPart w w' (old.text.items ++ in_parentheses texts)
      cut-within w' fault = cut-next w' (subst (λ t. SendsPart w1 w' (held.text.items ++ (comma k ++ t))) (sym is) (part-after leads w' text fault))

  -- all texts
  pub whole-record : (k n : ℕ) → k ≡ length texts → n ≡ length texts → so_far k ++ record_end n ≡ in_parentheses texts
  whole-record k n all count = ap (λ t. (codes "(" ++ join_texts (codes ", ") t) ++ record_end n) (take_all k texts (omega (arith, all))) ∙ ap (λ m. (codes "(" ++ join_texts (codes ", ") texts) ++ record_end m) count
