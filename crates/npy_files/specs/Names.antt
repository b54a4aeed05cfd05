-- The names that files of a store may have.
use Rattle.std.specs.Prelude.{◌++◌, ◌==◌, ℕ, Bool, false, not, List, [], ◌∷◌, codes}

-- whether a file of the store may have this name. Names that begin with a dot are hidden.
abbrev pub is_user_name : List ℕ → Bool
is_user_name [] = false
is_user_name (first ∷ rest) = not (first == 46)

-- the hidden name under which a file is written first
abbrev pub hidden_name : List ℕ → List ℕ
hidden_name name = 46 ∷ name ++ codes ".part"
