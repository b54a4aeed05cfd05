-- Turning literals into the values of a tuple or a list and back gives the same literals.
use Rattle.std.proofs.Common.{◌≡◌, List, [], ◌∷◌, refl, ap}
use Rattle.npy_format.proofs.Words.{Literal, Plain, Row, all_listed_values, value_literals}

pub literals_of_listed : (literals : List Literal) → value_literals (all_listed_values literals) ≡ literals
literals_of_listed [] = refl
literals_of_listed (Plain plain ∷ literals) = ap (λ ls. Plain plain ∷ ls) (literals_of_listed literals)
literals_of_listed (Row brackets inner ∷ literals) = ap (λ ls. Row brackets inner ∷ ls) (literals_of_listed literals)
