-- Laws of the strides taken from the entries at unit indexes.
use Rattle.std.proofs.Common.{◌≡◌, ℕ, ◌+◌, ◌*◌, ◌/◌, ◌<◌, ◌≤◌, nat_le, true, pos, ◌-ℤ◌, List, [], ◌∷◌, ◌++◌, length, get_or, drop, sym, ◌∙◌, ap, arith, mul_comm, mul-div_cancel, mul-le-mul_right}
use Rattle.reshape_rule.proofs.Words.{cond-true, nat_tests, drop_more, append_assoc, count, printed_stride, printed_strides, count-drop, factors_pos}

-- the number of items of the axes after axis k
pub record Later (lengths : List ℕ) (k items : ℕ) : Type 0 where
  pub len : 0 < get_or lengths k 0
  pub some : 0 < items / get_or lengths k 0
  pub is : items / get_or lengths k 0 ≡ count (drop (k + 1) lengths)
  pub whole : items ≡ get_or lengths k 0 * count (drop (k + 1) lengths)

pub later : (lengths : List ℕ) (k items : ℕ) → k < length lengths → 0 < items → items ≡ count (drop k lengths) → Later lengths k items
later lengths k items below some is =
    let n = get_or lengths k 0 in
    let c = count (drop (k + 1) lengths) in
    let whole : items ≡ n * c = is ∙ count-drop lengths k below in
    let both = factors_pos n c (omega arith) in
    let step : items / n ≡ c = ap (λ x. x / n) (whole ∙ mul_comm n c) ∙ mul-div_cancel c both.0 in
    record { len = both.0; some = omega (arith, both.1); is = step; whole = whole }

pub pushed_onto : {A : Type 0} (made new rest all : List A) (x : A) (left : List A) → new ≡ made ++ x ∷ [] → left ≡ x ∷ rest → made ++ left ≡ all → new ++ rest ≡ all
pushed_onto made new rest all x left is next so_far = ap (λ m. m ++ rest) is ∙ append_assoc made (x ∷ []) rest ∙ ap (λ l. made ++ l) (sym next) ∙ so_far

-- one more stride
pub printed-more : (lengths list : List ℕ) (k items : ℕ) → k < length lengths → Later lengths k items → printed_strides (drop k lengths) list ≡ printed_stride (get_or lengths k 0) (items / get_or lengths k 0) list ∷ printed_strides (drop (k + 1) lengths) list
printed-more lengths list k items below l =
    ap (λ s. printed_strides s list) (drop_more lengths k 0 below) ∙ ap (λ c. printed_stride (get_or lengths k 0) c list ∷ printed_strides (drop (k + 1) lengths) list) (sym l.is)

pub later-below : (lengths : List ℕ) (k items total : ℕ) → Later lengths k items → items ≤ total → items / get_or lengths k 0 ≤ total
later-below lengths k items total l low =
    let c = count (drop (k + 1) lengths) in
    let grown : 1 * c ≤ get_or lengths k 0 * c = mul-le-mul_right c l.len in
    omega (arith, l.is, l.whole)

pub stride-long : (len place first at : ℕ) (list : List ℕ) → 2 ≤ len → get_or list 0 0 ≡ first → at ≡ get_or list place 0 → pos at -ℤ pos first ≡ printed_stride len place list
stride-long len place first at list long is entry =
    let test : nat_le 2 len ≡ true = grind (arith, nat_tests) in
    ap (λ a. pos a -ℤ pos first) entry ∙ ap (λ f. pos (get_or list place 0) -ℤ pos f) (sym is) ∙ sym (cond-true (nat_le 2 len) _ _ test)
