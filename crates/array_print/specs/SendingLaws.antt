-- Laws of texts that are sent part by part.
use Rattle.std.specs.Prelude.{◌≡◌, ℕ, List, [], ◌++◌, Option, drop, length, ◌-◌, ◌≤◌}
use Rattle.std.proofs.Common.{Some, None, append_assoc, take, take_all, length-drop, arith, refl, ap, sym, ◌∙◌}
use Rattle.array_print.specs.Words.{append-nil, take-append-drop, Appends}
use Rattle.array_print.specs.Sending.{Sends, SendsPart}

pub appends_then : (a b c : Option (List ℕ)) (x y : List ℕ) → Appends a b x → Appends b c y → Appends a c (x ++ y)
appends_then None b c x y p q = tt
appends_then (Some xs) None c x y p q = absurd p
appends_then (Some xs) (Some ys) None x y p q = absurd q
appends_then (Some xs) (Some ys) (Some zs) x y p q = q ∙ ap (λ t. t ++ y) p ∙ append_assoc xs x y

pub appends_nothing : (a : Option (List ℕ)) → Appends a a []
appends_nothing None = tt
appends_nothing (Some xs) = sym (append-nil xs)

-- after the first `n` elements of a slice come as many as are left
pub rest_of : (xs : List ℕ) (n : ℕ) → take (length xs - n) (drop n xs) ≡ drop n xs
rest_of xs n = let short : length (drop n xs) ≤ length xs - n = omega (arith, length-drop n xs) in take_all _ _ short

pub split_later : (all gone rest : List ℕ) (n : ℕ) → all ≡ gone ++ rest → all ≡ (gone ++ take n rest) ++ take (length rest - n) (drop n rest)
split_later all gone rest n e = e ∙ ap (λ r. gone ++ r) (sym (take-append-drop n rest)) ∙ sym (append_assoc gone (take n rest) (drop n rest)) ∙ ap (λ r. (gone ++ take n rest) ++ r) (sym (rest_of rest n))

-- nothing was written yet
pub sends-none : (w : Option (List ℕ)) (text : List ℕ) → Sends w w text text
sends-none w text = ([], refl, appends_nothing w)

-- more of the text is written
pub sends-then : (a b c : Option (List ℕ)) (rest rest' text : List ℕ) → Sends a b rest text → Sends b c rest' rest → Sends a c rest' text
sends-then a b c rest rest' text first second =
    (first.0 ++ second.0, first.1 ∙ ap (λ t. first.0 ++ t) second.1 ∙ sym (append_assoc first.0 second.0 rest'), appends_then a b c first.0 second.0 first.2 second.2)

-- one text after another
pub sends-more : (a b c : Option (List ℕ)) (held held' held'' x y : List ℕ) → Sends a b held' (held ++ x) → Sends b c held'' (held' ++ y) → Sends a c held'' (held ++ (x ++ y))
sends-more a b c held held' held'' x y first second =
    let grown : Sends a b (held' ++ y) (held ++ (x ++ y)) =
    (first.0, sym (append_assoc held x y) ∙ ap (λ t. t ++ y) first.1 ∙ append_assoc first.0 held' y, first.2) in
    sends-then a b c (held' ++ y) held'' (held ++ (x ++ y)) grown second

-- a fault in a text, or in what comes after it
pub part-longer : (a b : Option (List ℕ)) (held x y : List ℕ) → SendsPart a b (held ++ x) → SendsPart a b (held ++ (x ++ y))
part-longer a b held x y part =
    (part.0 ++ y, (part.1.0, sym (append_assoc held x y) ∙ ap (λ t. t ++ y) part.1.1 ∙ append_assoc part.1.0 part.0 y, part.1.2))

pub part-then : (a b c : Option (List ℕ)) (held held' x y : List ℕ) → Sends a b held' (held ++ x) → SendsPart b c (held' ++ y) → SendsPart a c (held ++ (x ++ y))
part-then a b c held held' x y first part = (part.0, sends-more a b c held held' part.0 x y first part.1)
