-- Results for operands that were cast.
use Rattle.std.proofs.Common.{ℤ, ◌≡◌, true, ℕ, List, [], ◌∷◌, map, refl, ap, ◌∙◌}
use Rattle.elementwise.proofs.Words.{false≢true, map-map, Scalar, Byte, Int, Bytes, Descr, LeafValue, number, IsNumber, wrap, number_of, item_from, Layout, offsets, BinOp, UnOp, little, stretched-self, BoolScalar, ScalarDescr, RecordDescr, can_cast, cast_item, binary, unary, value_in, number_as, binary_item, unary_item, pairwise, stretched_items}
use Rattle.elementwise.proofs.LeafLaws.{cast_number}

-- the byte order of a scalar makes no difference to wrapping
wrap-little : (s : Scalar) (z : ℤ) → wrap s z ≡ wrap (little s) z
wrap-little BoolScalar z = refl
wrap-little (Byte signed) z = refl
wrap-little (Int signed width order) z = refl
wrap-little (Bytes n) z = refl

-- the number in an item that is cast
cast_as : (d : Descr) (s : Scalar) (item : List LeafValue) → IsNumber s → can_cast d (ScalarDescr s) ≡ true → number_of (value_in (cast_item d (ScalarDescr s) item)) ≡ number_as (little s) item
cast_as (ScalarDescr from) s item is can = ap number_of (cast_number s (value_in item) is) ∙ wrap-little s (number_of (value_in item))
cast_as (RecordDescr structure) s item is can = absurd (false≢true can)

pub combined : (op : BinOp) (s : Scalar) (d d' : Descr) (xs ys : List (List LeafValue)) → IsNumber s → can_cast d (ScalarDescr s) ≡ true → can_cast d' (ScalarDescr s) ≡ true →
    pairwise (λ x y. number (binary op (little s) (number_of (value_in (cast_item d (ScalarDescr s) x))) (number_of (value_in (cast_item d' (ScalarDescr s) y)))) ∷ []) xs ys ≡ pairwise (binary_item op (ScalarDescr (little s))) xs ys
combined op s d d' xs ys is can can' = λ i. pairwise (λ x y. number (binary op (little s) (cast_as d s x is can i) (cast_as d' s y is can' i)) ∷ []) xs ys

pub pairwise-same : {A B : Type 0} (f : A → A → B) (xs : List A) → pairwise f xs xs ≡ map (λ x. f x x) xs
pairwise-same f [] = refl
pairwise-same f (x ∷ xs) = ap (λ rest. f x x ∷ rest) (pairwise-same f xs)

pub changed : (op : UnOp) (s : Scalar) (d : Descr) (l : Layout) (block : List ℕ) → IsNumber s → can_cast d (ScalarDescr s) ≡ true →
    pairwise (λ x y. number (unary op (little s) (number_of (value_in (cast_item d (ScalarDescr s) y)))) ∷ []) (stretched_items d block l l.shape) (stretched_items d block l l.shape) ≡ map (λ offset. unary_item op (ScalarDescr (little s)) (item_from d block offset)) (offsets l)
changed op s d l block is can =
    let seen = stretched_items d block l l.shape in
    pairwise-same (λ (x y : List LeafValue). number (unary op (little s) (number_of (value_in (cast_item d (ScalarDescr s) y)))) ∷ []) seen
    ∙ (λ i. map (λ x. number (unary op (little s) (cast_as d s x is can i)) ∷ []) seen)
    ∙ (λ i. map (unary_item op (ScalarDescr (little s))) (map (item_from d block) (stretched-self l i)))
    ∙ map-map (unary_item op (ScalarDescr (little s))) (item_from d block) (offsets l)
