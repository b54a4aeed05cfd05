-- Laws of strides and steps.
use Rattle.std.proofs.Common.{◌≡◌, ℕ, zero, suc, ◌+◌, ◌*◌, ◌<◌, ℤ, pos, negsuc, neg_ℤ, unsigned_abs, ◌+ℤ◌, ◌*ℤ◌, sym, ap, ◌∙◌, arith, zero-mul}
use Rattle.view_ops.proofs.Words.{ints, by_lt_z, negsuc-*ℤ-pos, pos-*ℤ-negsuc, negsuc-*ℤ-negsuc, pos-natural, cancel, product_back, product_forth, abs_pos, Progression, run_number, IsRunWithin}

-- ---- a stride along a run

neg_times : (m k : ℕ) → neg_ℤ (pos m) *ℤ pos k ≡ neg_ℤ (pos (m * k))
neg_times zero k = ap pos (zero-mul k) ∙ sym (ap (λ n. neg_ℤ (pos n)) (zero-mul k))
neg_times (suc m) k = negsuc-*ℤ-pos m k

sum_forth : (a x f b k : ℕ) → x ≡ f + b * k → a * x ≡ a * f + a * b * k
sum_forth a x f b k is = ap (λ y. a * y) is ∙ grind arith

forth_number : (x f b k : ℕ) → pos x ≡ pos f +ℤ pos b *ℤ pos k → x ≡ f + b * k
forth_number x f b k is = omega (arith, ints)

back_number : (x f b k : ℕ) → pos x ≡ pos f +ℤ negsuc b *ℤ pos k → f ≡ x + suc b * k
back_number x f b k is =
    let p = negsuc-*ℤ-pos b k in
    omega (arith, ints)

-- The stride along a run is its step times the stride of the axis.
pub stride_along : (s t : ℤ) (x f k : ℕ) → pos x ≡ pos f +ℤ t *ℤ pos k → s *ℤ pos f +ℤ (s *ℤ t) *ℤ pos k ≡ s *ℤ pos x
stride_along (pos a) (pos b) x f k is =
    let sum = sum_forth a x f b k (forth_number x f b k is) in
    ap pos (sym sum)
stride_along (negsuc a) (pos b) x f k is =
    let sum = sum_forth (suc a) x f b k (forth_number x f b k is) in
    let p = negsuc-*ℤ-pos a b in
    let q = ap (λ z. z *ℤ pos k) p ∙ neg_times (suc a * b) k in
    let r = negsuc-*ℤ-pos a f in
    let e = negsuc-*ℤ-pos a x in
    omega (arith, ints)
stride_along (pos a) (negsuc b) x f k is =
    let sum = sum_forth a f x (suc b) k (back_number x f b k is) in
    let p = pos-*ℤ-negsuc a b in
    let q = ap (λ z. z *ℤ pos k) p ∙ neg_times (a * suc b) k in
    omega (arith, ints)
stride_along (negsuc a) (negsuc b) x f k is =
    let sum = sum_forth (suc a) f x (suc b) k (back_number x f b k is) in
    let q = ap (λ z. z *ℤ pos k) (negsuc-*ℤ-negsuc a b) in
    let r = negsuc-*ℤ-pos a f in
    let e = negsuc-*ℤ-pos a x in
    omega (arith, ints)

-- ---- the numbers of a run

pub run_number-is : (run : Progression) (n k : ℕ) → IsRunWithin run n → k < run.count → pos (run_number run k) ≡ pos run.first +ℤ run.step *ℤ pos k
run_number-is run n k within low = pos-natural (pos run.first +ℤ run.step *ℤ pos k) (within.from_zero k low)

same_steps : (x y f p q : ℤ) → x ≡ f +ℤ p → y ≡ f +ℤ q → x ≡ y → p ≡ q
same_steps x y f p q first second same = omega (arith, ints)

-- No number is repeated.
pub run-one : (run : Progression) (n k l : ℕ) → IsRunWithin run n → k < run.count → l < run.count → run_number run k ≡ run_number run l → k ≡ l
run-one run n k l within low-k low-l same =
    let steps = same_steps (pos (run_number run k)) (pos (run_number run l)) (pos run.first) (run.step *ℤ pos k) (run.step *ℤ pos l) (run_number-is run n k within low-k) (run_number-is run n l within low-l) (ap pos same) in
    cancel k l (unsigned_abs run.step) (abs_pos run.step within.moves) (by_lt_z run.step (pos 0)
    (λ below. let p = product_back run.step k below in let q = product_back run.step l below in omega (arith, ints))
    (λ above. let p = product_forth run.step k above in let q = product_forth run.step l above in omega (arith, ints)))
