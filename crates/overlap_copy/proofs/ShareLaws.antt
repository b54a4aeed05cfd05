-- Laws of the map of bytes that finds shared bytes.
use Rattle.std.proofs.Common.{◌≡◌, ◌↔◌, inl, inr, ℕ, ◌+◌, ◌-◌, ◌<◌, ◌≤◌, Bool, false, ◌&&◌, ◌||◌, List, ◌++◌, length, get_or, take, drop, replicate, All, IsTrue, nat_eq, nat_le, sym, ap, ◌∙◌, arith}
use Rattle.overlap_copy.proofs.Words.{list_any, cases_lt, eq-eqb, eqb-true, le-leb, lt-leb, and_left, false_from_ne_true, get_or-replicate, get_or_past, length-replicate, take-append-le, take_all, Any-from_list_any, list_any-from_Any, holds_byte, IsMarkedUpTo, is_marked, is_end_marked, same_test}
use Rattle.overlap_copy.proofs.OverlapLaws.{all_at, held_from_test, test_from_held}

-- a vector that is written through a slice
pub refilled : (n : ℕ) (xs ws : List Bool) → length ws ≡ n → take n (ws ++ drop (length ws) xs) ≡ ws
refilled n xs ws same = take-append-le n ws (drop (length ws) xs) (omega (arith, same)) ∙ take_all n ws (omega (arith, same))

-- no byte of a new map is marked
pub none-clear : (len k : ℕ) (clear : List Bool) → clear ≡ replicate len false → get_or clear k false ≡ false
none-clear len k clear is =
    ap (λ l. get_or l k false) is
    ∙ elim (cases_lt k len) [
      | inl inside ↦ get_or-replicate len k false false inside
      | inr past ↦ get_or_past (replicate len false) k false (omega (arith, past, length-replicate len false))
    ]

-- the first byte of each item is marked, and then each mark is made as wide as an item
pub held-marks : (xs : List ℕ) (width start len : ℕ) (clear first wide : List Bool) → All (λ p. start ≤ p) xs → ((i : ℕ) → get_or clear i false ≡ false)
    → ((i : ℕ) → i < len → get_or first i false ≡ (get_or clear i false || list_any (nat_eq (start + i)) xs)) → ((i : ℕ) → i < len → IsTrue (get_or wide i false) ↔ IsMarkedUpTo first width i)
    → (i : ℕ) → i < len → get_or wide i false ≡ holds_byte xs width (start + i)
held-marks xs width start len clear first wide low none firsts wides i inside =
    same_test (get_or wide i false) (holds_byte xs width (start + i))
    (λ marked.
    let near = (wides i inside).0 marked in
    let there = sym (ap (λ b. b || list_any (nat_eq (start + near.at)) xs) (none near.at)) ∙ sym (firsts near.at (omega (arith, inside, near.up_to))) ∙ near.marked in
    let found = Any-from_list_any (nat_eq (start + near.at)) xs there in
    let is : start + near.at ≡ found.1 = eqb-true (start + near.at) found.1 found.4 in
    test_from_held xs width (start + i) found.1 (found.0, found.2, found.3) (omega (arith, is, near.up_to)) (omega (arith, is, near.near)))
    (λ held.
    let item = held_from_test xs width (start + i) held in
    let p = item.0 in
    let after : start ≤ p = all_at (λ x. start ≤ x) xs item.1.0 p low item.1.1 item.1.2 in
    let there = list_any-from_Any (nat_eq (start + (p - start))) xs (item.1.0, p, item.1.1, item.1.2, eq-eqb (start + (p - start)) p (omega (arith, after))) in
    (wides i inside).1
    (record {
      at = p - start;
      up_to = omega (arith, after, item.2);
      near = omega (arith, after, item.3);
      marked = firsts (p - start) (omega (arith, after, item.2, inside)) ∙ ap (λ b. b || list_any (nat_eq (start + (p - start))) xs) (none (p - start)) ∙ there;
    }))

module _ (xs : List ℕ) (width start len : ℕ) (marks : List Bool) (long : length marks ≡ len) (low : All (λ p. start ≤ p) xs) (high : All (λ p. p + width ≤ start + len) xs)
    (held : (i : ℕ) → i < len → get_or marks i false ≡ holds_byte xs width (start + i)) where
  -- the test of the map is right for all bytes, even those outside of it
  is_marked-held : (byte : ℕ) → is_marked marks start byte ≡ holds_byte xs width byte
  is_marked-held byte =
      elim (cases_lt byte start) [
        | inl below ↦
            and_left (nat_le start byte) (get_or marks (byte - start) false) (lt-leb start byte below)
            ∙ sym (false_from_ne_true (holds_byte xs width byte) (λ yes'.
            let item = held_from_test xs width byte yes' in
            absurd (omega (arith, below, item.2, all_at (λ x. start ≤ x) xs item.1.0 item.0 low item.1.1 item.1.2))))
        | inr above ↦
            let back : start + (byte - start) ≡ byte = omega (arith, above) in
            ap (λ t. t && get_or marks (byte - start) false) (le-leb start byte above)
            ∙ elim (cases_lt (byte - start) len) [
              | inl inside ↦ held (byte - start) inside ∙ ap (holds_byte xs width) back
              | inr past ↦
                  get_or_past marks (byte - start) false (omega (arith, long, past))
                  ∙ sym (false_from_ne_true (holds_byte xs width byte) (λ yes'.
                  let item = held_from_test xs width byte yes' in
                  absurd (omega (arith, past, above, item.3, all_at (λ x. x + width ≤ start + len) xs item.1.0 item.0 high item.1.1 item.1.2))))
            ]
      ]

  pub ends-held : (ys : List ℕ) (other : ℕ) → list_any (is_end_marked marks start other) ys ≡ list_any (λ q. holds_byte xs width (q + other - 1)) ys
  ends-held ys other = λ i. list_any (λ q. is_marked-held (q + other - 1) i) ys
