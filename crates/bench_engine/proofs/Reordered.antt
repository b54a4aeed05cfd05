-- Items that are changed in another order, each with its place.
use Rattle.std.proofs.Common.{◌≡◌, ◌<◌, ℕ, suc, true, List, [], ◌∷◌, length, map, Result, Ok, Err, refl, sym, ap, subst, ◌∙◌, arith}
use Rattle.bench_engine.proofs.Words.{zip, swap, IsPermutation, length-map, IsPermutation-refl, IsPermutation-trans, IsPermutation-swap, IsPermutation-map, IsPermutation-keeps, map-map, firsts-zip, seconds-zip, Refusal, Descr, Scalar, ◌>>=◌, LeafValue, IsShape, map-swap, can_stretch, stretched-ok, cast_item, same_kind, scalar_of, pairwise, Operation, ScalarDescr, OperandValues, operation_scalar, operation_item, updated_items}
use Rattle.bench_engine.proofs.LegalLaws.{legal-common}
use Rattle.bench_engine.proofs.Updates.{changed-type, changed-record, changed-kind, changed-done}
use Rattle.bench_engine.proofs.WorkLaws.{worked-done}

abbrev pub Item : Type 0
Item = List LeafValue

-- ---- lists in another order

-- a reordering of mapped elements is a reordering of the elements
lifted : {X Y : Type 0} (f : X → Y) (d : X) (xs : List X) (ys : List Y) → IsPermutation (map f xs) ys → (xs' : List X) × IsPermutation xs xs' × (map f xs' ≡ ys)
lifted {X} {Y} f d xs ys same = IsPermutation-keeps (map f xs) (λ l. (xs' : List X) × IsPermutation xs xs' × (map f xs' ≡ l)) (xs, IsPermutation-refl xs, refl) step ys same
  where
    step : (l : List Y) (i j : ℕ) → i < length l → j < length l → (xs' : List X) × IsPermutation xs xs' × (map f xs' ≡ l) → (xs' : List X) × IsPermutation xs xs' × (map f xs' ≡ swap l i j)
    step l i j in_i in_j h =
        let long : length h.0 ≡ length l = sym (length-map h.0 f) ∙ ap length h.2 in
        let at_i : i < length h.0 = omega (arith, long, in_i) in
        let at_j : j < length h.0 = omega (arith, long, in_j) in
        (swap h.0 i j, IsPermutation-trans xs h.0 (swap h.0 i j) h.1 (IsPermutation-swap h.0 (swap h.0 i j) i j at_i at_j refl), map-swap f h.0 i j d at_i at_j ∙ ap (λ a. swap a i j) h.2)

abbrev Pair : Type 0
Pair = ℕ × ℕ

zip-firsts : (f : ℕ → ℕ) (ps os : List ℕ) → zip (map f ps) os ≡ map (λ (p : Pair). (f p.0, p.1)) (zip ps os)
zip-firsts f [] os = refl
zip-firsts f (p ∷ ps) [] = refl
zip-firsts f (p ∷ ps) (o ∷ os) = λ i. (f p, o) ∷ zip-firsts f ps os i

taken-apart : (pairs : List Pair) → zip (map (λ (p : Pair). p.0) pairs) (map (λ (p : Pair). p.1) pairs) ≡ pairs
taken-apart [] = refl
taken-apart (p ∷ pairs) = λ i. p ∷ taken-apart pairs i

pub zip-itself : (os : List ℕ) → zip os os ≡ map (λ o. (o, o)) os
zip-itself [] = refl
zip-itself (o ∷ os) = λ i. (o, o) ∷ zip-itself os i

-- a reordering of offsets, each paired with another number, is one of their places
pub places-moved : (f : ℕ → ℕ) (places os ats ats' os' : List ℕ) → ats ≡ map f places → length os' ≡ length ats' → IsPermutation (zip ats os) (zip ats' os') →
    (places' : List ℕ) × (ats' ≡ map f places') × IsPermutation (zip places os) (zip places' os')
places-moved f places os ats ats' os' are long same =
    let made : Pair → Pair = λ p. (f p.0, p.1) in
    let h = lifted made (0, 0) (zip places os) (zip ats' os') (subst (λ l. IsPermutation l (zip ats' os')) (ap (λ l. zip l os) are ∙ zip-firsts f places os) same) in
    let firsts : map f (map (λ (p : Pair). p.0) h.0) ≡ ats' =
    map-map f (λ (p : Pair). p.0) h.0 ∙ sym (map-map (λ (p : Pair). p.0) made h.0) ∙ ap (map (λ (p : Pair). p.0)) h.2 ∙ firsts-zip ats' os' long in
    let seconds : map (λ (p : Pair). p.1) h.0 ≡ os' =
    sym (map-map (λ (p : Pair). p.1) made h.0) ∙ ap (map (λ (p : Pair). p.1)) h.2 ∙ seconds-zip ats' os' long in (
      map (λ (p : Pair). p.0) h.0,
      sym firsts,
      subst (IsPermutation (zip places os)) (sym (taken-apart h.0) ∙ ap (zip (map (λ (p : Pair). p.0) h.0)) seconds) h.1,
    )

-- ---- an operation on items

-- the type of the result, if it may be written back
abbrev typed : Operation → Descr → Descr → Result Scalar Refusal
typed op d e = operation_scalar op d e >>= (λ s. scalar_of d >>= (λ from. same_kind s from >>= (λ _. Ok s)))

abbrev worked : Operation → Descr → List Item → List Item → Scalar → Result (List Item) Refusal
worked op d xs ys s = Ok (map (cast_item (ScalarDescr s) d) (pairwise (operation_item op s) xs ys))

as-typed : (op : Operation) (d : Descr) (v w : OperandValues) → v.descr ≡ d → IsShape v.shape → can_stretch w.shape v.shape ≡ true →
    updated_items op d v w ≡ (typed op d w.descr >>= worked op d (v.stretched_to v.shape) (w.stretched_to v.shape))
as-typed op d v w same legal can = by-type (operation_scalar op d w.descr) refl
  where
    by-kind : (s from : Scalar) (r : Result (Unit {0}) Refusal) → operation_scalar op d w.descr ≡ Ok s → scalar_of d ≡ Ok from → same_kind s from ≡ r → updated_items op d v w ≡ (typed op d w.descr >>= worked op d (v.stretched_to v.shape) (w.stretched_to v.shape))
    by-kind s from (Err e) good own bad = changed-kind op d v w s from e good own bad ∙ rw (good, own, bad) refl
    by-kind s from (Ok u) good own kind =
        changed-done op d v w s from _ _ good own kind (stretched-ok w.shape v.shape can) (worked-done op v w s v.shape (ap (λ (d : Descr). operation_scalar op d w.descr) same ∙ good) (legal-common v.shape w.shape legal can))
        ∙ rw (good, own, kind) refl

    by-own : (s : Scalar) (r : Result Scalar Refusal) → operation_scalar op d w.descr ≡ Ok s → scalar_of d ≡ r → updated_items op d v w ≡ (typed op d w.descr >>= worked op d (v.stretched_to v.shape) (w.stretched_to v.shape))
    by-own s (Err e) good bad = changed-record op d v w s e good bad ∙ rw (good, bad) refl
    by-own s (Ok from) good own = by-kind s from (same_kind s from) good own refl

    by-type : (r : Result Scalar Refusal) → operation_scalar op d w.descr ≡ r → updated_items op d v w ≡ (typed op d w.descr >>= worked op d (v.stretched_to v.shape) (w.stretched_to v.shape))
    by-type (Err e) bad = changed-type op d v w e bad ∙ rw bad refl
    by-type (Ok s) good = by-own s (scalar_of d) good refl

-- new items, each paired with its place: made of the item at the place and the item of the other operand
beside : (h : ℕ → Item) (f : Item → Item → Item) (c : Item → Item) (g : ℕ → Item) (places os : List ℕ) →
    zip places (map c (pairwise f (map h places) (map g os))) ≡ map (λ (p : Pair). (p.0, c (f (h p.0) (g p.1)))) (zip places os)
beside h f c g [] os = refl
beside h f c g (p ∷ places) [] = refl
beside h f c g (p ∷ places) (o ∷ os) = λ i. (p, c (f (h p) (g o))) ∷ beside h f c g places os i

as-many : (h : ℕ → Item) (f : Item → Item → Item) (c : Item → Item) (g : ℕ → Item) (places os : List ℕ) → length os ≡ length places → length (map c (pairwise f (map h places) (map g os))) ≡ length places
as-many h f c g [] os long = refl
as-many h f c g (p ∷ places) [] long = absurd (omega (arith, long))
as-many h f c g (p ∷ places) (o ∷ os) long = ap suc (as-many h f c g places os (omega (arith, long)))

-- the same items, with their places, in another order; or the same refusal
abbrev pub Reorders : List ℕ → List ℕ → Result (List Item) Refusal → Result (List Item) Refusal → Type 0
Reorders places places' (Ok new) (Ok new') = (length new ≡ length places) × (length new' ≡ length places') × IsPermutation (zip places new) (zip places' new')
Reorders places places' (Err e) (Err e') = e' ≡ e
Reorders places places' _ _ = ⊥

-- the items of the other operand are made of numbers that are paired with the places
pub updates-reorder : (op : Operation) (d : Descr) (v w v' w' : OperandValues) (h g : ℕ → Item) (places os places' os' : List ℕ) → v.descr ≡ d → v'.descr ≡ d → w'.descr ≡ w.descr → IsShape v.shape → IsShape v'.shape → can_stretch w.shape v.shape ≡ true → can_stretch w'.shape v'.shape ≡ true →
    v.stretched_to v.shape ≡ map h places → w.stretched_to v.shape ≡ map g os → v'.stretched_to v'.shape ≡ map h places' → w'.stretched_to v'.shape ≡ map g os' → length os ≡ length places → length os' ≡ length places' → IsPermutation (zip places os) (zip places' os') →
    Reorders places places' (updated_items op d v w) (updated_items op d v' w')
updates-reorder op d v w v' w' h g places os places' os' same same' type legal legal' can can' vs ws vs' ws' long long' moved =
    subst (λ (p : Result (List Item) Refusal × Result (List Item) Refusal). Reorders places places' p.0 p.1) (λ i. (sym first i, sym second i)) (by-type (typed op d w.descr))
  where
    first : updated_items op d v w ≡ (typed op d w.descr >>= worked op d (map h places) (map g os))
    first = as-typed op d v w same legal can ∙ λ i. typed op d w.descr >>= worked op d (vs i) (ws i)

    second : updated_items op d v' w' ≡ (typed op d w.descr >>= worked op d (map h places') (map g os'))
    second = as-typed op d v' w' same' legal' can' ∙ λ i. typed op d (type i) >>= worked op d (vs' i) (ws' i)

    by-type : (r : Result Scalar Refusal) → Reorders places places' (r >>= worked op d (map h places) (map g os)) (r >>= worked op d (map h places') (map g os'))
    by-type (Err e) = refl
    by-type (Ok s) =
        let f = operation_item op s in
        let c = cast_item (ScalarDescr s) d in
        let made : Pair → ℕ × Item = λ p. (p.0, c (f (h p.0) (g p.1))) in (
          as-many h f c g places os long,
          as-many h f c g places' os' long',
          subst (λ l. IsPermutation l (zip places' (map c (pairwise f (map h places') (map g os'))))) (sym (beside h f c g places os))
              (subst (IsPermutation (map made (zip places os))) (sym (beside h f c g places' os')) (IsPermutation-map made (zip places os) (zip places' os') moved)),
        )
