-- Laws of maps of bytes.
use Rattle.std.proofs.Common.{◌≡◌, ◌↔◌, inl, inr, ℕ, ◌+◌, ◌-◌, ◌<◌, ◌≤◌, Bool, true, false, ◌||◌, List, ◌∷◌, length, get_or, set, IsTrue, nat_eq, nat_lt, refl, sym, ap, ◌∙◌, arith}
use Rattle.overlap_copy.proofs.Words.{list_any, both_ways, cases_eq, eq-eqb, ne_eqb, lt-ltb, ltb-true, or_right, get_or-set_same, get_or-set_other, IsMarkedUpTo}

-- ---- the byte at one more offset is marked

pub mark_more : (marks : List Bool) (start o i : ℕ) (rest : List ℕ) → start ≤ o → o < start + length marks → (get_or (set marks (o - start) true) i false || list_any (nat_eq (start + i)) rest) ≡ (get_or marks i false || list_any (nat_eq (start + i)) (o ∷ rest))
mark_more marks start o i rest low high =
    elim (cases_eq i (o - start)) [
      | inl same ↦
          let now : get_or (set marks (o - start) true) i false ≡ true = ap (λ k. get_or (set marks (o - start) true) k false) same ∙ get_or-set_same marks (o - start) true false (omega arith) in
          let here : nat_eq (start + i) o ≡ true = eq-eqb (start + i) o (omega arith) in
          ap (λ b. b || list_any (nat_eq (start + i)) rest) now
          ∙ sym (ap (λ b. get_or marks i false || (b || list_any (nat_eq (start + i)) rest)) here ∙ or_right (get_or marks i false) true refl)
      | inr other ↦
          let now : get_or (set marks (o - start) true) i false ≡ get_or marks i false = get_or-set_other marks (o - start) i true false other in
          let elsewhere : nat_eq (start + i) o ≡ false = ne_eqb (start + i) o (λ e. other (omega (arith, e))) in
          ap (λ b. b || list_any (nat_eq (start + i)) rest) now
          ∙ sym (ap (λ b. get_or marks i false || (b || list_any (nat_eq (start + i)) rest)) elsewhere)
    ]

-- ---- marks are made wider

-- the first `i` places are done, and the marks before `i` extend over `left` places more
pub record Widens (old now : List Bool) (width i left : ℕ) : Type 0 where
  pub rest : (k : ℕ) → i ≤ k → get_or now k false ≡ get_or old k false
  pub done : (k : ℕ) → k < i → IsTrue (get_or now k false) ↔ IsMarkedUpTo old width k
  pub all : (j : ℕ) → j < i → IsTrue (get_or old j false) → j + width ≤ i + left
  pub some : 0 < left → (j : ℕ) × (j < i) × (i + left ≤ j + width) × IsTrue (get_or old j false)

module _ (old now : List Bool) (width i left here : ℕ) (wide : 1 ≤ width) (inside : i < length now) (so_far : Widens old now width i left) where
  -- how far the marks up to `i` extend, with `goes-set` if the mark at `i` is set and `goes-clear` if it is not
  abbrev Goes : Type 0
  Goes = ((j : ℕ) → j < i + 1 → IsTrue (get_or old j false) → j + width ≤ i + here) × (0 < here → (j : ℕ) × (j < i + 1) × (i + here ≤ j + width) × IsTrue (get_or old j false))

  goes-set : IsTrue (get_or now i false) → here ≡ width → Goes
  goes-set set' is = (
    λ j below marked. omega (arith, below, is),
    λ more. (i, omega arith, omega (arith, is), sym (so_far.rest i (omega arith)) ∙ set'),
  )

  goes-clear : get_or now i false ≡ false → here ≡ left → Goes
  goes-clear clear is = (
    λ j below marked.
        elim (cases_eq j i) [
          | inl same ↦ absurd (both_ways (get_or old j false) (ap (λ k. get_or old k false) same ∙ sym (so_far.rest i (omega arith)) ∙ clear) marked)
          | inr other ↦ omega (arith, is, so_far.all j (omega (arith, below, other)) marked)
        ],
    λ more. let from = so_far.some (omega (arith, more, is)) in (from.0, omega (arith, from.1), omega (arith, is, from.2), from.3),
  )

  at_i : (k : ℕ) → k ≡ i → get_or (set now i (nat_lt 0 here)) k false ≡ nat_lt 0 here
  at_i k same = ap (λ m. get_or (set now i (nat_lt 0 here)) m false) same ∙ get_or-set_same now i (nat_lt 0 here) false inside

  widens-next : Goes → Widens old (set now i (nat_lt 0 here)) width (i + 1) (here - 1)
  widens-next goes = record {
    rest = λ k after. get_or-set_other now i k (nat_lt 0 here) false (λ e. absurd (omega (arith, e, after))) ∙ so_far.rest k (omega (arith, after));
    done = λ k below.
        elim (cases_eq k i) [
          | inl same ↦ (
            λ marked.
                let more = ltb-true 0 here (sym (at_i k same) ∙ marked) in
                let from = goes.1 more in
                record { at = from.0; up_to = omega (arith, from.1, same); near = omega (arith, from.2, more, same); marked = from.3 },
            λ near. at_i k same ∙ lt-ltb 0 here (omega (arith, same, near.near, goes.0 near.at (omega (arith, near.up_to, same)) near.marked)),
          )
          | inr other ↦
              let before = so_far.done k (omega (arith, below, other)) in
              let kept = get_or-set_other now i k (nat_lt 0 here) false other in
              (λ marked. before.0 (sym kept ∙ marked), λ near. kept ∙ before.1 near)
        ];
    all = λ j below marked. omega (arith, goes.0 j below marked);
    some = λ more. let from = goes.1 (omega (arith, more)) in (from.0, from.1, omega (arith, more, from.2), from.3);
  }

  pub widens-next_set : IsTrue (get_or now i false) → here ≡ width → Widens old (set now i (nat_lt 0 here)) width (i + 1) (here - 1)
  widens-next_set set' is = widens-next (goes-set set' is)

  pub widens-next_clear : get_or now i false ≡ false → here ≡ left → Widens old (set now i (nat_lt 0 here)) width (i + 1) (here - 1)
  widens-next_clear clear is = widens-next (goes-clear clear is)
