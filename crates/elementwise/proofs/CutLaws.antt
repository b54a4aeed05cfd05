-- Casts of byte strings, and of numbers.
use Rattle.std.proofs.Common.{◌≡◌, ◌+◌, ◌-◌, ◌*◌, ◌≤◌, ◌++◌, inl, inr, true, false, ℕ, zero, suc, List, [], ◌∷◌, map, length, min, take, drop, replicate, sym, ap, subst, ◌∙◌, All, arith, refl, append-nil}
use Rattle.elementwise.proofs.Words.{false≢true, take-take, All-head, All-rest, Descr, Scalar, Byte, Int, Bytes, IsNumber, is_text, LeavesInOrder, padded, without_nuls, item_at, length-item_at, items_at, item_size, multiples, row-multiples, ScalarDescr, BoolScalar, can_cast_scalar, IsCut, cast_items, leaf_from, source, AreItems}
use Rattle.elementwise.proofs.EncodedLaws.{all-encoded, cut}
use Rattle.elementwise.proofs.NulLaws.{text_pushed}
use Rattle.elementwise.proofs.RowLaws.{kept}

-- byte strings of `n` bytes, each of which is one of `m` bytes, cast
texts-cast : (m n : ℕ) (other offsets bytes : List ℕ) → length bytes ≡ length offsets * n → items_at (multiples n (length offsets)) n bytes ≡ map (leaf_from (source (ScalarDescr (Bytes m)) 0) (Bytes n) other) offsets → LeavesInOrder (ScalarDescr (Bytes n)) →
    AreItems (ScalarDescr (Bytes n)) (cast_items (ScalarDescr (Bytes m)) (ScalarDescr (Bytes n)) other offsets) bytes
texts-cast m n other offsets bytes long each apart =
    all-encoded (ScalarDescr (Bytes m)) (ScalarDescr (Bytes n)) other offsets bytes long refl
    (elim [
      | zero ↦ λ low. record { written = (λ i. items_at (row-multiples n (length offsets) i) n bytes) ∙ each }
      | suc k ↦ λ low. absurd (omega (arith, low))
    ])
    1
    (record {
      zeros = λ at width fits gap j low.
          let none : width ≡ 0 = elim (gap 0 (omega arith) (omega arith)) [ inl before ↦ omega (arith, before) | inr after ↦ omega (arith, fits, after) ] in
          (λ i. item_at (at + j * n) (none i) bytes) ∙ λ i. replicate (sym none i) 0;
    })
    apart
    (elim [ zero ↦ λ low. omega arith | suc k ↦ λ low. absurd (omega (arith, low)) ])

-- one of them: the bytes that are kept, then NULs
text-cast : (m n kept o : ℕ) (other : List ℕ) → o + m ≤ length other → kept ≡ min m n → item_at o kept other ++ replicate (n - kept) 0 ≡ leaf_from (source (ScalarDescr (Bytes m)) 0) (Bytes n) other o
text-cast m n kept o other inside is =
    let item = item_at o m other in
    let at : o ≡ o + 0 = omega arith in
    ap (λ front. front ++ replicate (n - kept) 0) (sym (take-take kept m (drop o other) (omega (arith, is))))
    ∙ text_pushed n kept item (is ∙ ap (λ long. min long n) (sym (length-item_at o m other inside)))
    ∙ λ i. padded n (without_nuls (take n (without_nuls (item_at (at i) m other))))

module _ (m n : ℕ) (shorter : n ≤ m) (other : List ℕ) where
  cut-each : (os : List ℕ) → All (λ o. o + m ≤ length other) os → items_at os n other ≡ map (leaf_from (source (ScalarDescr (Bytes m)) 0) (Bytes n) other) os
  cut-each [] inside = refl
  cut-each (o ∷ os) inside =
      let none : n - n ≡ 0 = omega arith in
      let first = sym (append-nil (item_at o n other)) ∙ (λ i. item_at o n other ++ replicate (sym none i) 0) ∙ text-cast m n n o other (All-head (λ o. o + m ≤ length other) o os inside) (omega (arith, shorter)) in
      let rest = cut-each os (All-rest (λ o. o + m ≤ length other) o os (o ∷ os) refl inside) in
      λ i. first i ∷ rest i

  texts-cut : (offsets bytes : List ℕ) → All (λ o. o + m ≤ length other) offsets → length bytes ≡ length offsets * n → items_at (multiples n (length offsets)) n bytes ≡ items_at offsets n other → LeavesInOrder (ScalarDescr (Bytes n)) →
      AreItems (ScalarDescr (Bytes n)) (cast_items (ScalarDescr (Bytes m)) (ScalarDescr (Bytes n)) other offsets) bytes
  texts-cut offsets bytes inside long same = texts-cast m n other offsets bytes long (same ∙ cut-each offsets inside)

-- the first bytes of items are those of the cast items
pub first-bytes-cast : (from to : Descr) (other offsets bytes : List ℕ) → IsCut from to → All (λ o. o + item_size from ≤ length other) offsets → length bytes ≡ length offsets * item_size to →
    items_at (multiples (item_size to) (length offsets)) (item_size to) bytes ≡ items_at offsets (item_size to) other → LeavesInOrder to → AreItems to (cast_items from to other offsets) bytes
first-bytes-cast from to other offsets bytes cut inside long same apart =
    subst (λ d. AreItems to (cast_items d to other offsets) bytes) (sym cut.from_is)
    (subst (λ d. AreItems d (cast_items (ScalarDescr (Bytes cut.width)) d other offsets) bytes) (sym cut.to_is)
    (texts-cut cut.width cut.target cut.shorter other offsets bytes
    (subst (λ (d : Descr). All (λ o. o + item_size d ≤ length other) offsets) cut.from_is inside)
    (subst (λ (d : Descr). length bytes ≡ length offsets * item_size d) cut.to_is long)
    (subst (λ (d : Descr). items_at (multiples (item_size d) (length offsets)) (item_size d) bytes ≡ items_at offsets (item_size d) other) cut.to_is same)
    (subst LeavesInOrder cut.to_is apart)))

-- ---- scalars that are not byte strings

pub no_text : (s : Scalar) → is_text s ≡ false → IsNumber s
no_text BoolScalar is = tt
no_text (Byte signed) is = tt
no_text (Int signed width order) is = tt
no_text (Bytes n) is = absurd (false≢true (sym is))

-- only numbers can be cast to numbers
pub numbers_cast : (s t : Scalar) → can_cast_scalar s t ≡ true → IsNumber t → IsNumber s
numbers_cast BoolScalar t can is = tt
numbers_cast (Byte signed) t can is = tt
numbers_cast (Int signed width order) t can is = tt
numbers_cast (Bytes n) BoolScalar can is = absurd (false≢true can)
numbers_cast (Bytes n) (Byte signed) can is = absurd (false≢true can)
numbers_cast (Bytes n) (Int signed width order) can is = absurd (false≢true can)
numbers_cast (Bytes n) (Bytes m) can is = is
