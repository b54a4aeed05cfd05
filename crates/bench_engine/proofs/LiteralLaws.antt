-- Literals as operands.
use Rattle.std.proofs.Common.{◌≡◌, ◌⊎◌, ℕ, zero, suc, ℤ, Bool, true, false, not, List, [], ◌∷◌, length, map, replicate, IfOk, Result, Ok, Err, refl, sym, ap, ◌∙◌, subst, inl, inr, arith}
use Rattle.bench_engine.proofs.Words.{is_ok, false≢true, length-map, map-map, Refusal, OutOfMemory, NotForThisKind, Descr, Scalar, Byte, Int, Gives, ◌>>=◌, check, same_answer, item_size, item_from, LeafValue, number, C, count, offsets, length-offsets, IsShape, can_stretch, common_shape, can-itself, stretched-self, is_text, compared_type, promote, scalar_of, integer_compared_result, bytes_compared_result, compared_item, pairwise, Items, Owned, offsets_in, is_castable, item_value, BinOp, Comparison, Operation, Binary, Compare, ScalarLiteral, Boolean, Literal, ScalarDescr, RecordDescr, BoolScalar, BytesScalar, Integer, Bytes, OperandValues, one_item, literal_value, literal_scalar, operand_of_literal, compared_literal, literal_values, operation_scalar, operation_with, Stands, OwnStands, held, IsInCOrder, Meets}
use Rattle.script_lang.specs.declared.literal.Literal.TheVariants as literal
use Rattle.bench_engine.proofs.Copies.{made-held}
use Rattle.bench_engine.proofs.LegalLaws.{legal-common}
use Rattle.bench_engine.proofs.OperandLaws.{one-stands}
use Rattle.bench_engine.proofs.StretchLaws.{none-fits}
use Rattle.bench_engine.proofs.WorkLaws.{same_refusal, worked-done}

-- ---- a comparison with the value of a literal

-- the type and the shape of a comparison with a literal: bools of the same shape, if the scalar passes a test
abbrev pub truths_of : (Scalar → Bool) → Descr → List ℕ → Result (Descr × List ℕ) Refusal
truths_of test d t = scalar_of d >>= (λ from. check (test from) NotForThisKind >>= (λ _. Ok (ScalarDescr BoolScalar, t)))

castable-integer : (s : Scalar) (z : ℤ) → not (is_text s) ≡ is_castable s (Integer z)
castable-integer BoolScalar z = refl
castable-integer (Byte signed) z = refl
castable-integer (Int signed width order) z = refl
castable-integer (BytesScalar n) z = refl

castable-boolean : (s : Scalar) (b : Bool) → not (is_text s) ≡ is_castable s (Boolean b)
castable-boolean BoolScalar b = refl
castable-boolean (Byte signed) b = refl
castable-boolean (Int signed width order) b = refl
castable-boolean (BytesScalar n) b = refl

castable-bytes : (s : Scalar) (bytes : List ℕ) → is_text s ≡ is_castable s (Bytes bytes)
castable-bytes BoolScalar bytes = refl
castable-bytes (Byte signed) bytes = refl
castable-bytes (Int signed width order) bytes = refl
castable-bytes (BytesScalar n) bytes = refl

truths-same : (test other : Scalar → Bool) (d : Descr) (t : List ℕ) → ((s : Scalar) → test s ≡ other s) → truths_of test d t ≡ truths_of other d t
truths-same test other (ScalarDescr s) t same = ap (λ b. check b NotForThisKind >>= (λ _. Ok (ScalarDescr BoolScalar, t))) (same s)
truths-same test other (RecordDescr r) t same = refl

pub integers-are : (z : ℤ) (d : Descr) (t : List ℕ) → integer_compared_result d t ≡ truths_of (λ s. is_castable s (Integer z)) d t
unfolding integer_compared_result
integers-are z d t = truths-same (λ s. not (is_text s)) (λ s. is_castable s (Integer z)) d t (λ s. castable-integer s z)

pub booleans-are : (b : Bool) (d : Descr) (t : List ℕ) → integer_compared_result d t ≡ truths_of (λ s. is_castable s (Boolean b)) d t
unfolding integer_compared_result
booleans-are b d t = truths-same (λ s. not (is_text s)) (λ s. is_castable s (Boolean b)) d t (λ s. castable-boolean s b)

pub bytes-are : (bytes : List ℕ) (d : Descr) (t : List ℕ) → bytes_compared_result d t ≡ truths_of (λ s. is_castable s (Bytes bytes)) d t
unfolding bytes_compared_result
bytes-are bytes d t = truths-same is_text (λ s. is_castable s (Bytes bytes)) d t (λ s. castable-bytes s bytes)

-- items compared with one repeated value
pairwise-one : {A B : Type 0} (f : A → A → B) (xs : List A) (y : A) (n : ℕ) → length xs ≡ n → pairwise f xs (replicate n y) ≡ map (λ x. f x y) xs
pairwise-one f [] y zero long = refl
pairwise-one f [] y (suc n) long = absurd (omega (arith, long))
pairwise-one f (x ∷ xs) y zero long = absurd (omega (arith, long))
pairwise-one f (x ∷ xs) y (suc n) long = λ i. f x y ∷ pairwise-one f xs y n (omega (arith, long)) i

-- values of the same scalar can be compared
own-compared : (s : Scalar) → compared_type s s ≡ Ok BoolScalar
unfolding compared_type
own-compared BoolScalar = refl
own-compared (Byte signed) = refl
own-compared (Int signed width order) = refl
own-compared (BytesScalar n) = refl

own-scalar : (c : Comparison) (d : Descr) (s : Scalar) → scalar_of d ≡ Ok s → operation_scalar (Compare c) d d ≡ Ok BoolScalar
unfolding operation_scalar
own-scalar c d s is = rw is (own-compared s)

compared-some : (d : Descr) (l : ScalarLiteral) (s : Scalar) → scalar_of d ≡ Ok s → is_castable s l ≡ true → compared_literal d (literal.Scalar l) ≡ Ok (one_item d (literal_value l ∷ []))
unfolding compared_literal
compared-some d l s is can = rw (is, can) refl

compared-none : (d : Descr) (l : ScalarLiteral) (s : Scalar) → scalar_of d ≡ Ok s → is_castable s l ≡ false → compared_literal d (literal.Scalar l) ≡ Err NotForThisKind
unfolding compared_literal
compared-none d l s is none = rw (is, none) refl

compared-bad : (d : Descr) (l : ScalarLiteral) (e : Refusal) → scalar_of d ≡ Err e → compared_literal d (literal.Scalar l) ≡ Err e
unfolding compared_literal
compared-bad d l e bad = rw bad refl

module _ (c : Comparison) (v : OperandValues) (x : Items) (sv : Stands v x) (legal : IsShape x.layout.now.shape) (l : ScalarLiteral) where
  abbrev there : Result (Descr × List ℕ) Refusal
  there = truths_of (λ s. is_castable s l) x.descr.now x.layout.now.shape

  abbrev one : List LeafValue
  one = literal_value l ∷ []

  common : common_shape (v.shape ∷ [] ∷ []) ≡ Ok x.layout.now.shape
  common = ap (λ (shape : List ℕ). common_shape (shape ∷ [] ∷ [])) sv.shape ∙ legal-common x.layout.now.shape [] legal (none-fits x.layout.now.shape)

  all-items : v.stretched_to x.layout.now.shape ≡ map (item_from x.descr.now x.block.now) (offsets x.layout.now)
  all-items = sv.items x.layout.now.shape (ap (λ (shape : List ℕ). can_stretch shape x.layout.now.shape) sv.shape ∙ can-itself x.layout.now.shape) ∙ ap (map (item_from x.descr.now x.block.now)) (stretched-self x.layout.now)

  compared-items : pairwise (compared_item c) (v.stretched_to x.layout.now.shape) (replicate (count x.layout.now.shape) one) ≡ map (λ offset. compared_item c (item_from x.descr.now x.block.now offset) one) (offsets x.layout.now)
  compared-items =
      pairwise-one (compared_item c) (v.stretched_to x.layout.now.shape) one (count x.layout.now.shape) (ap length all-items ∙ length-map (offsets x.layout.now) (item_from x.descr.now x.block.now) ∙ length-offsets x.layout.now)
      ∙ ap (map (λ item. compared_item c item one)) all-items
      ∙ map-map (λ item. compared_item c item one) (item_from x.descr.now x.block.now) (offsets x.layout.now)

  literal-held : (o : Owned) (s : Scalar) → scalar_of x.descr.now ≡ Ok s → is_castable s l ≡ true → o.descr ≡ ScalarDescr BoolScalar → o.layout.shape ≡ x.layout.now.shape → IsInCOrder o →
      map (item_from o.descr o.block) (offsets o.layout) ≡ map (λ offset. compared_item c (item_from x.descr.now x.block.now offset) one) (offsets x.layout.now) → operation_with (Compare c) v (compared_literal v.descr (literal.Scalar l)) ≡ Ok (held o)
  literal-held o s is can typed shaped order items =
      ap (operation_with (Compare c) v) (compared-some v.descr l s (ap scalar_of sv.descr ∙ is) can)
      ∙ worked-done (Compare c) v (one_item v.descr one) BoolScalar x.layout.now.shape (own-scalar c v.descr s (ap scalar_of sv.descr ∙ is)) common
      ∙ ap Ok (made-held C (ScalarDescr BoolScalar) x.layout.now.shape (pairwise (compared_item c) (v.stretched_to x.layout.now.shape) (replicate (count x.layout.now.shape) one)) o typed shaped
      (order ∙ λ i. offsets_in C (item_size (typed i)) (shaped i))
      (ap (λ (d : Descr). map (item_from d o.block) (offsets o.layout)) (sym typed) ∙ items ∙ sym compared-items))

  same-parts : {A B : Type 0} (a a' : A) (b b' : B) → ◌≡◌ {A = A × B} (a, b) (a', b') → (a ≡ a') × (b ≡ b')
  same-parts a a' b b' same = (ap (λ p. p.0) same, ap (λ p. p.1) same)

  by-scalar : (result : Result Owned Refusal) (from : Result Scalar Refusal) → scalar_of x.descr.now ≡ from → Gives {Y = Descr × List ℕ} (λ o. (o.descr, o.layout.shape)) result (from >>= (λ s. check (is_castable s l) NotForThisKind >>= (λ _. Ok (ScalarDescr BoolScalar, x.layout.now.shape)))) →
      IfOk result IsInCOrder → IfOk result (λ o. map (item_from o.descr o.block) (offsets o.layout) ≡ map (λ offset. compared_item c (item_from x.descr.now x.block.now offset) one) (offsets x.layout.now)) → Gives held result (operation_with (Compare c) v (compared_literal v.descr (literal.Scalar l)))
  by-scalar (Ok o) (Err e) is gives order items = absurd (false≢true (ap is_ok gives))
  by-scalar (Err e) from is (inl lacks) order items = inl lacks
  by-scalar (Err e) (Err e') is (inr bad) order items =
      inr (ap (operation_with (Compare c) v) (compared-bad v.descr l e' (ap scalar_of sv.descr ∙ is)) ∙ same_refusal e' e bad)
  by-scalar (Ok o) (Ok s) is gives order items = by-test (is_castable s l) refl gives
    where
      by-test : (b : Bool) → is_castable s l ≡ b → ◌≡◌ {A = Result (Descr × List ℕ) Refusal} (check b NotForThisKind >>= (λ _. Ok (ScalarDescr BoolScalar, x.layout.now.shape))) (Ok (o.descr, o.layout.shape)) → operation_with (Compare c) v (compared_literal v.descr (literal.Scalar l)) ≡ Ok (held o)
      by-test true can found =
          let parts = same-parts (ScalarDescr BoolScalar) o.descr x.layout.now.shape o.layout.shape (same_answer {X = Descr × List ℕ} (ScalarDescr BoolScalar, x.layout.now.shape) (o.descr, o.layout.shape) found) in
          literal-held o s is can (sym parts.0) (sym parts.1) order items
      by-test false none found = absurd (false≢true (ap is_ok found))
  by-scalar (Err e) (Ok s) is (inr bad) order items = by-test (is_castable s l) refl bad
    where
      by-test : (b : Bool) → is_castable s l ≡ b → ◌≡◌ {A = Result (Descr × List ℕ) Refusal} (check b NotForThisKind >>= (λ _. Ok (ScalarDescr BoolScalar, x.layout.now.shape))) (Err e) → (e ≡ OutOfMemory) ⊎ (operation_with (Compare c) v (compared_literal v.descr (literal.Scalar l)) ≡ Err e)
      by-test true can found = absurd (false≢true (sym (ap is_ok found)))
      by-test false none found =
          inr (ap (operation_with (Compare c) v) (compared-none v.descr l s (ap scalar_of sv.descr ∙ is) none) ∙ same_refusal NotForThisKind e found)

  pub literal-gives : (result : Result Owned Refusal) → Gives {Y = Descr × List ℕ} (λ o. (o.descr, o.layout.shape)) result there → IfOk result IsInCOrder →
      IfOk result (λ o. map (item_from o.descr o.block) (offsets o.layout) ≡ map (λ offset. compared_item c (item_from x.descr.now x.block.now offset) one) (offsets x.layout.now)) → Gives held result (operation_with (Compare c) v (compared_literal v.descr (literal.Scalar l)))
  literal-gives result gives order items = by-scalar result (scalar_of x.descr.now) refl gives order items

pub compared-record : (c : Comparison) (v : OperandValues) (l : Literal) → ((s : ScalarLiteral) → l ≡ literal.Scalar s → ⊥) → operation_with (Compare c) v (compared_literal v.descr l) ≡ Err NotForThisKind
unfolding compared_literal
compared-record c v (literal.Scalar s) not-scalar = absurd (not-scalar s refl)
compared-record c v (literal.Record values) not-scalar = refl

-- a comparison with a number is the same as one with an equal number
pub number-items : (c : Comparison) (x : Items) (z n : ℤ) (result : Result Owned Refusal) → z ≡ n →
    IfOk result (λ o. map (item_from o.descr o.block) (offsets o.layout) ≡ map (λ offset. compared_item c (item_from x.descr.now x.block.now offset) (number z ∷ [])) (offsets x.layout.now)) →
    IfOk result (λ o. map (item_from o.descr o.block) (offsets o.layout) ≡ map (λ offset. compared_item c (item_from x.descr.now x.block.now offset) (number n ∷ [])) (offsets x.layout.now))
number-items c x z n result is items =
    subst (λ (z : ℤ). IfOk result (λ o. map (item_from o.descr o.block) (offsets o.layout) ≡ map (λ offset. compared_item c (item_from x.descr.now x.block.now offset) (number z ∷ [])) (offsets x.layout.now))) is items

-- ---- the item of a literal in an operation

pub literal-record : (op : BinOp) (d : Descr) (l : Literal) (e : Refusal) → scalar_of d ≡ Err e → operand_of_literal op d l ≡ Err e
unfolding operand_of_literal
literal-record op d l e bad = rw bad refl

pub literal-other : (op : BinOp) (d : Descr) (l : Literal) (s : Scalar) (e : Refusal) → scalar_of d ≡ Ok s → literal_scalar s l ≡ Err e → operand_of_literal op d l ≡ Err e
unfolding operand_of_literal
literal-other op d l s e is bad = rw (is, bad) refl

pub literal-type : (op : BinOp) (d : Descr) (l : Literal) (s own : Scalar) (e : Refusal) → scalar_of d ≡ Ok s → literal_scalar s l ≡ Ok own → promote op s own ≡ Err e → operand_of_literal op d l ≡ Err e
unfolding operand_of_literal
literal-type op d l s own e is good bad = rw (is, good, bad) refl

pub literal-range : (op : BinOp) (d : Descr) (l : Literal) (s own to : Scalar) (e : Refusal) → scalar_of d ≡ Ok s → literal_scalar s l ≡ Ok own → promote op s own ≡ Ok to → item_value (ScalarDescr own) l ≡ Err e → operand_of_literal op d l ≡ Err e
unfolding operand_of_literal
literal-range op d l s own to e is good typed bad = rw (is, good, typed, bad) refl

pub literal-done : (op : BinOp) (d : Descr) (l : Literal) (s own to : Scalar) (item : List LeafValue) → scalar_of d ≡ Ok s → literal_scalar s l ≡ Ok own → promote op s own ≡ Ok to → item_value (ScalarDescr own) l ≡ Ok item → operand_of_literal op d l ≡ Ok (one_item (ScalarDescr own) item)
unfolding operand_of_literal
literal-done op d l s own to item is good typed there = rw (is, good, typed, there) refl

-- an owned array with this one item is the literal as an operand
pub single-gives : (op : BinOp) (d : Descr) (l : Literal) (s own to : Scalar) (result : Result Owned Refusal) → scalar_of d ≡ Ok s → literal_scalar s l ≡ Ok own → promote op s own ≡ Ok to → IfOk result (λ o. o.descr ≡ ScalarDescr own) → IfOk result (λ o. o.layout.shape ≡ []) →
    IfOk result (λ o. offsets o.layout ≡ 0 ∷ []) → Gives (λ o. item_from o.descr o.block 0) result (item_value (ScalarDescr own) l) → Meets OwnStands result (operand_of_literal op d l)
single-gives op d l s own to (Ok o) is good kind typed shaped laid item =
    subst (Meets OwnStands (Ok o)) (sym (literal-done op d l s own to (item_from o.descr o.block 0) is good kind item))
    (one-stands (ScalarDescr own) (item_from o.descr o.block 0) o typed shaped (ap (map (item_from o.descr o.block)) laid))
single-gives op d l s own to (Err e) is good kind typed shaped laid (inl lacks) = inl lacks
single-gives op d l s own to (Err e) is good kind typed shaped laid (inr bad) = inr (literal-range op d l s own to e is good kind bad)

-- ---- a literal is one item, without axes

then-each : {X Y : Type 0} (P : Y → Type 0) (r : Result X Refusal) (f : X → Result Y Refusal) → ((x : X) → IfOk (f x) P) → IfOk (r >>= f) P
then-each P (Ok x) f all = all x
then-each P (Err e) f all = tt

abbrev pub IsOneItem : OperandValues → Type 0
IsOneItem w = (descr : Descr) × (item : List LeafValue) × (w ≡ one_item descr item)

worked-one : (op : BinOp) (d : Descr) (l : Literal) → IfOk (operand_of_literal op d l) IsOneItem
unfolding operand_of_literal
worked-one op d l =
    then-each IsOneItem (scalar_of d) _ (λ s. then-each IsOneItem (literal_scalar s l) _ (λ own. then-each IsOneItem (promote op s own) _ (λ to. then-each IsOneItem (item_value (ScalarDescr own) l) _ (λ item. (ScalarDescr own, item, refl)))))

compared-one : (d : Descr) (l : Literal) → IfOk (compared_literal d l) IsOneItem
unfolding compared_literal
compared-one d (literal.Record values) = tt
compared-one d (literal.Scalar l) =
    then-each IsOneItem (scalar_of d) _ (λ s. then-each IsOneItem (check (is_castable s l) NotForThisKind) _ (λ _. (d, literal_value l ∷ [], refl)))

pub literal-one : (op : Operation) (d : Descr) (l : Literal) → IfOk (literal_values op d l) IsOneItem
literal-one (Binary op) d l = worked-one op d l
literal-one (Compare c) d l = compared-one d l
