-- Comparisons: numbers are compared by value, and byte strings byte by byte.
use Rattle.std.specs.Prelude.{ℕ, nat_lt, ◌==◌, int_lt, Bool, true, false, not, ◌&&◌, ◌||◌, List, [], ◌∷◌}
use Rattle.elementwise.specs.Words.{LeafValue, number, text, Comparison, Equal, NotEqual, Less, LessOrEqual, Greater, GreaterOrEqual}

-- whether a byte string is below another: the first byte that differs decides, and a prefix is below the longer string
abbrev pub text_below : List ℕ → List ℕ → Bool
text_below [] [] = false
text_below [] (b ∷ ys) = true
text_below (a ∷ xs) [] = false
text_below (a ∷ xs) (b ∷ ys) = nat_lt a b || (a == b && text_below xs ys)

-- whether a value is below another of the same kind
abbrev pub below : LeafValue → LeafValue → Bool
below (number a) (number b) = int_lt a b
below (text a) (text b) = text_below a b
below _ _ = false

-- The result of a comparison, given whether the first value is below the second, and whether it is above. If it is
-- neither, they are equal.
abbrev pub says : Comparison → Bool → Bool → Bool
says Equal is_below is_above = not (is_below || is_above)
says NotEqual is_below is_above = is_below || is_above
says Less is_below is_above = is_below
says LessOrEqual is_below is_above = not is_above
says Greater is_below is_above = is_above
says GreaterOrEqual is_below is_above = not is_below

abbrev pub compared : Comparison → LeafValue → LeafValue → Bool
compared comparison x y = says comparison (below x y) (below y x)
