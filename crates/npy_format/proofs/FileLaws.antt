-- The parts of a file, one after another.
use Rattle.std.proofs.Common.{◌≡◌, ◌⊎◌, ◌+◌, ℕ, true, List, [], ◌∷◌, ◌++◌, length, take, drop, Ok, refl, sym, ap, ◌∙◌, inl, inr, arith, length-append, append_assoc, replicate, codes}
use Rattle.npy_format.proofs.Words.{length-replicate, little_bytes, spaces_after, padded_text, with_length, magic, begins_well, split_front, length_bytes, text_behind, split_header}

pub header_split : (file version rest field behind : List ℕ) (width : ℕ) → begins_well file ≡ true → split_front 2 (drop 6 file) ≡ Ok (version, rest) → length_bytes version ≡ Ok width → split_front width rest ≡ Ok (field, behind) → split_header file ≡ text_behind field behind
unfolding split_header
header_split file version rest field behind width well one two three = rw (well, one, two, three) refl

-- the lowest `width` of eight bytes
pub low_bytes : (width n : ℕ) (rest : List ℕ) → (width ≡ 2) ⊎ (width ≡ 4) → take width (little_bytes 8 n ++ rest) ≡ little_bytes width n
low_bytes width n rest (inl two) = rw two refl
low_bytes width n rest (inr four) = rw four refl

pub length-padded : (before : ℕ) (text : List ℕ) → length (padded_text before text) ≡ length text + spaces_after (before + length text) + 1
length-padded before text =
    let n = spaces_after (before + length text) in
    omega (arith, length-append text (replicate n 32 ++ codes "\n"), length-append (replicate n 32) (codes "\n"), length-replicate {A = ℕ} n 32)

regroup : (old m t s : List ℕ) (v z e : ℕ) (f : List ℕ) → ((((((old ++ m) ++ v ∷ []) ++ z ∷ []) ++ f) ++ t) ++ s) ++ e ∷ [] ≡ old ++ (m ++ (v ∷ (z ∷ (f ++ (t ++ (s ++ e ∷ []))))))
regroup old m t s v z e f = simp append_assoc

-- a header is written, part by part
pub header_pushed : (old a b c d e f g text : List ℕ) (version width spaces len : ℕ) → spaces ≡ spaces_after (8 + width + length text) → len ≡ length text + spaces + 1
    → a ≡ old ++ magic → b ≡ a ++ version ∷ [] → c ≡ b ++ 0 ∷ [] → d ≡ c ++ little_bytes width len → e ≡ d ++ text → f ≡ e ++ replicate spaces 32 → g ≡ f ++ 10 ∷ []
    → g ≡ old ++ (magic ++ (version ∷ (0 ∷ with_length width (padded_text (8 + width) text))))
header_pushed old a b c d e f g text version width spaces len is-spaces is-len is-a is-b is-c is-d is-e is-f is-g =
    let all : len ≡ length (padded_text (8 + width) text) = is-len ∙ ap (λ (n : ℕ). length text + n + 1) is-spaces ∙ sym (length-padded (8 + width) text) in
    rw (is-g, is-f, is-e, is-d, is-c, is-b, is-a) (regroup old magic text (replicate spaces 32) version 0 10 (little_bytes width len)
    ∙ (λ i. old ++ (magic ++ (version ∷ (0 ∷ (little_bytes width (all i) ++ (text ++ (replicate (is-spaces i) 32 ++ 10 ∷ []))))))))
