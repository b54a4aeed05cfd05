-- Promoted types and results.
use Rattle.std.proofs.Common.{◌≡◌, ◌*◌, ℕ, max, nat_le, Bool, true, false, cond, Result, Ok, Err, List, [], ◌∷◌, refl, sym, subst, ◌∙◌, arith, not, ◌&&◌, ◌||◌, ◌==◌}
use Rattle.elementwise.proofs.Words.{false≢true, not-true, Refusal, NotForThisKind, NeedsFloats, Little, Two, Four, Eight, Scalar, Byte, Int, Bytes, Descr, ◌>>=◌, check, same_answer, check_passed, check_test, IsNumber, size, common_shape, BinOp, UnOp, is_bool, is_text, is_signed, little, BoolScalar, ScalarDescr, can_cast, integer_type, mixed_type, common_integers, common_type, is_division, promote, promote_one, serves_bools, serves_one, scalar_of, binary_result, unary_result, IsNative}

-- ---- native types

integer-native : (signed : Bool) (n : ℕ) → IsNative (integer_type signed n)
integer-native signed n = elim (n == 1) as (λ t. IsNative (cond t (Byte signed) (cond (n == 2) (Int signed Two Little) (cond (n == 4) (Int signed Four Little) (Int signed Eight Little))))) [
  | true ↦ tt
  | false ↦ elim (n == 2) as (λ t. IsNative (cond t (Int signed Two Little) (cond (n == 4) (Int signed Four Little) (Int signed Eight Little)))) [
    | true ↦ refl
    | false ↦ elim (n == 4) as (λ t. IsNative (cond t (Int signed Four Little) (Int signed Eight Little))) [ true ↦ refl | false ↦ refl ]
  ]
]

pub little-native : (s : Scalar) → is_text s ≡ false → IsNative (little s)
little-native BoolScalar is = tt
little-native (Byte signed) is = tt
little-native (Int signed width order) is = refl
little-native (Bytes n) is = absurd (false≢true (sym is))

-- the type, if there is one, is native
abbrev pub AnswersNative : Result Scalar Refusal → Type 0
AnswersNative (Ok s) = IsNative s
AnswersNative (Err e) = Unit {0}

mixed-native : (m n : ℕ) → AnswersNative (mixed_type m n)
mixed-native m n = elim (nat_le (2 * m) 8) as (λ t. AnswersNative (check t NeedsFloats >>= (λ _. Ok (integer_type true (max (2 * m) n))))) [ true ↦ integer-native true (max (2 * m) n) | false ↦ tt ]

integers-native : (l r : Scalar) → AnswersNative (common_integers l r)
integers-native l r = elim (is_signed l) as (λ t. AnswersNative (cond t (cond (is_signed r) (Ok (integer_type true (max (size l) (size r)))) (mixed_type (size r) (size l))) (cond (is_signed r) (mixed_type (size l) (size r)) (Ok (integer_type false (max (size l) (size r))))))) [
  | true ↦ elim (is_signed r) as (λ t. AnswersNative (cond t (Ok (integer_type true (max (size l) (size r)))) (mixed_type (size r) (size l)))) [ true ↦ integer-native true (max (size l) (size r)) | false ↦ mixed-native (size r) (size l) ]
  | false ↦ elim (is_signed r) as (λ t. AnswersNative (cond t (mixed_type (size l) (size r)) (Ok (integer_type false (max (size l) (size r)))))) [ true ↦ mixed-native (size l) (size r) | false ↦ integer-native false (max (size l) (size r)) ]
]

pub common-native : (l r : Scalar) → is_text l ≡ false → is_text r ≡ false → AnswersNative (common_type l r)
common-native l r is is' = elim (is_bool l) as (λ t. AnswersNative (cond t (Ok (little r)) (cond (is_bool r) (Ok (little l)) (common_integers l r)))) [
  | true ↦ little-native r is'
  | false ↦ elim (is_bool r) as (λ t. AnswersNative (cond t (Ok (little l)) (common_integers l r))) [ true ↦ little-native l is | false ↦ integers-native l r ]
]

-- a native scalar is little-endian
pub native-little : (s : Scalar) → IsNative s → little s ≡ s
native-little BoolScalar native = refl
native-little (Byte signed) native = refl
native-little (Int signed width order) native = λ i. Int signed width (sym native i)
native-little (Bytes n) never = absurd never

-- ---- the checks that passed

neither : (a b : Bool) → (a || b) ≡ false → (a ≡ false) × (b ≡ false)
neither false b is = (refl, is)
neither true b is = absurd (false≢true (sym is))

-- what is known of a promoted type
pub record IsPromoted (op : BinOp) (l r s : Scalar) : Type 0 where
  pub native : IsNative s
  pub no_division : is_division op ≡ false
  pub left : is_text l ≡ false
  pub right : is_text r ≡ false

pub promoted : (op : BinOp) (l r s : Scalar) → promote op l r ≡ Ok s → IsPromoted op l r s
unfolding promote
promoted op l r s found =
    let texts = not (is_text l || is_text r) in
    let bools = serves_bools op || not (is_bool l && is_bool r) in
    let after = check bools NotForThisKind >>= (λ _. check (not (is_division op)) NeedsFloats >>= (λ _. common_type l r)) in
    let next = check_passed texts NotForThisKind after s found in
    let last = check_passed bools NotForThisKind (check (not (is_division op)) NeedsFloats >>= (λ _. common_type l r)) s next in
    let is = check_passed (not (is_division op)) NeedsFloats (common_type l r) s last in
    let both = neither (is_text l) (is_text r) (not-true (is_text l || is_text r) (check_test texts NotForThisKind after s found)) in
    record {
      native = subst AnswersNative is (common-native l r both.0 both.1);
      no_division = not-true (is_division op) (check_test (not (is_division op)) NeedsFloats (common_type l r) s last);
      left = both.0;
      right = both.1;
    }

-- a number can be cast to any scalar of numbers
can_number : (from to : Scalar) → is_text from ≡ false → IsNumber to → can_cast (ScalarDescr from) (ScalarDescr to) ≡ true
can_number (Bytes n) to is number = absurd (false≢true (sym is))
can_number from (Bytes n) is never = absurd never
can_number BoolScalar BoolScalar is number = refl
can_number BoolScalar (Byte signed) is number = refl
can_number BoolScalar (Int signed width order) is number = refl
can_number (Byte sign) BoolScalar is number = refl
can_number (Byte sign) (Byte signed) is number = refl
can_number (Byte sign) (Int signed width order) is number = refl
can_number (Int sign w o) BoolScalar is number = refl
can_number (Int sign w o) (Byte signed) is number = refl
can_number (Int sign w o) (Int signed width order) is number = refl

-- a scalar that differs only in its byte order
pub number-read : (read s : Scalar) → little read ≡ s → IsNative s → IsNumber read
number-read BoolScalar s same native = tt
number-read (Byte signed) s same native = tt
number-read (Int signed width order) s same native = tt
number-read (Bytes n) s same native = subst IsNative (sym same) native

pub can-number : (d : Descr) (from to : Scalar) → d ≡ ScalarDescr from → is_text from ≡ false → IsNumber to → can_cast d (ScalarDescr to) ≡ true
can-number d from to is kind number = (λ i. can_cast (is i) (ScalarDescr to)) ∙ can_number from to kind number

-- ---- results

module _ (op : BinOp) (l : Descr) (shape : List ℕ) (r : Descr) (other : List ℕ) where
  pub left_refused : (e : Refusal) → scalar_of l ≡ Err e → binary_result op l shape r other ≡ Err e
  unfolding binary_result
  left_refused e is = rw is refl

  pub right_refused : (a : Scalar) (e : Refusal) → scalar_of l ≡ Ok a → scalar_of r ≡ Err e → binary_result op l shape r other ≡ Err e
  unfolding binary_result
  right_refused a e is is' = rw (is, is') refl

  pub promotion_refused : (a b : Scalar) (e : Refusal) → scalar_of l ≡ Ok a → scalar_of r ≡ Ok b → promote op a b ≡ Err e → binary_result op l shape r other ≡ Err e
  unfolding binary_result
  promotion_refused a b e is is' there = rw (is, is', there) refl

  pub shapes_refused : (a b s : Scalar) (e : Refusal) → scalar_of l ≡ Ok a → scalar_of r ≡ Ok b → promote op a b ≡ Ok s → common_shape (shape ∷ other ∷ []) ≡ Err e → binary_result op l shape r other ≡ Err e
  unfolding binary_result
  shapes_refused a b s e is is' there common = rw (is, is', there, common) refl

  pub all_given : (a b s : Scalar) (c : List ℕ) → scalar_of l ≡ Ok a → scalar_of r ≡ Ok b → promote op a b ≡ Ok s → common_shape (shape ∷ other ∷ []) ≡ Ok c → binary_result op l shape r other ≡ Ok (ScalarDescr s, c)
  unfolding binary_result
  all_given a b s c is is' there common = rw (is, is', there, common) refl

-- ---- for one operand

serves-number : (op : UnOp) (s : Scalar) → serves_one op s ≡ true → is_text s ≡ false
serves-number op s is = grind (arith, is)

pub promoted_one : (op : UnOp) (a s : Scalar) → promote_one op a ≡ Ok s → IsNative s × (is_text a ≡ false)
unfolding promote_one
promoted_one op a s found =
    let is = serves-number op a (check_test (serves_one op a) NotForThisKind (Ok (little a)) s found) in
    (subst IsNative (same_answer (little a) s (check_passed (serves_one op a) NotForThisKind (Ok (little a)) s found)) (little-native a is), is)

module _ (op : UnOp) (d : Descr) (shape : List ℕ) where
  pub operand_refused : (e : Refusal) → scalar_of d ≡ Err e → unary_result op d shape ≡ Err e
  unfolding unary_result
  operand_refused e is = rw is refl

  pub kind_refused : (a : Scalar) (e : Refusal) → scalar_of d ≡ Ok a → promote_one op a ≡ Err e → unary_result op d shape ≡ Err e
  unfolding unary_result
  kind_refused a e is there = rw (is, there) refl

  pub one_given : (a s : Scalar) → scalar_of d ≡ Ok a → promote_one op a ≡ Ok s → unary_result op d shape ≡ Ok (ScalarDescr s, shape)
  unfolding unary_result
  one_given a s is there = rw (is, there) refl
