-- Laws of shapes and indexes with their axes reversed.
use Rattle.std.specs.Prelude.{◌≡◌, ℕ, ◌*◌, List, [], ◌∷◌, ◌++◌, reverse}
use Rattle.std.proofs.Common.{refl, sym, ◌∙◌, ap, mul_comm, mul_assoc, mul-one, one-mul}
use Rattle.shape_strides.specs.Words.{reverse-reverse, reverse_onto}
use Rattle.shape_strides.specs.Indexes.{count, IsIndex}
use Rattle.shape_strides.specs.IndexLaws.{IsIndex-append}

pub reverse-cons : {X : Type 0} (x : X) (xs : List X) → reverse (x ∷ xs) ≡ reverse xs ++ x ∷ []
reverse-cons x xs = reverse_onto xs x []

pub count-append : (shape shape' : List ℕ) → count (shape ++ shape') ≡ count shape * count shape'
count-append [] shape' = sym (one-mul (count shape'))
count-append (n ∷ shape) shape' = ap (λ c. n * c) (count-append shape shape') ∙ sym (mul_assoc n (count shape) (count shape'))

pub count-reverse : (shape : List ℕ) → count (reverse shape) ≡ count shape
count-reverse [] = refl
count-reverse (n ∷ shape) =
    let last : count (n ∷ []) ≡ n = mul-one n in
    ap count (reverse-cons n shape) ∙ count-append (reverse shape) (n ∷ []) ∙ ap (λ c. count (reverse shape) * c) last ∙ ap (λ c. c * n) (count-reverse shape) ∙ mul_comm (count shape) n

pub IsIndex-reverse : (shape index : List ℕ) → IsIndex shape index → IsIndex (reverse shape) (reverse index)
IsIndex-reverse [] [] in' = tt
IsIndex-reverse (n ∷ shape) (k ∷ index) in' =
    rw (reverse-cons n shape, reverse-cons k index) (IsIndex-append (reverse shape) (n ∷ []) (reverse index) (k ∷ []) (IsIndex-reverse shape index in'.1) (in'.0, tt))
IsIndex-reverse _ _ in' = absurd in'

-- The reverse of an index of the reversed shape is an index of the shape.
pub IsIndex-from_reverse : (shape index : List ℕ) → IsIndex (reverse shape) index → IsIndex shape (reverse index)
IsIndex-from_reverse shape index in' = rw (← reverse-reverse shape) (IsIndex-reverse (reverse shape) index in')
