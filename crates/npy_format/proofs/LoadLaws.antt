-- Splitting a written file into its parts again.
use Rattle.std.proofs.Common.{◌≡◌, ℕ, ◌+◌, ◌-◌, ◌%◌, ◌^◌, ◌<◌, ◌≤◌, List, [], ◌∷◌, ◌++◌, length, drop, replicate, codes, Ok, refl, sym, ap, ◌∙◌, arith, append_assoc, length-append, inl, inr, if◌then◌else◌}
use Rattle.npy_format.proofs.Words.{take-append_seam, drop-append_seam, mod-lt, le-leb, lt-ltb, le-ltb, cases_lt, append-nil, little_bytes, little_number, little_number-reads_back, length-bytes_low_first, magic, max_header, split_front, length_bytes, text_behind, split_header, max_short_text, spaces_after, padded_text, with_length, written_header}
use Rattle.npy_format.proofs.FileLaws.{header_split, length-padded}

pub front_split : (front back : List ℕ) → split_front (length front) (front ++ back) ≡ Ok (front, back)
front_split front back = rw (le-leb (length front) (length (front ++ back)) (omega (arith, length-append front back)), take-append_seam front back, drop-append_seam front back) refl

-- the header after its length
text_split : (width : ℕ) (text items : List ℕ) → length text < 256 ^ width → length text ≤ max_header → text_behind (little_bytes width (length text)) (text ++ items) ≡ Ok (text, items)
text_split width text items fits few =
    let field = little_bytes width (length text) in
    let wide : length field ≡ width = length-bytes_low_first 0 width (length text) in
    let value : little_number (length field) field ≡ length text =
    ap (λ (n : ℕ). little_number n field) wide ∙ ap (little_number width) (sym (append-nil field)) ∙ little_number-reads_back width (length text) [] fits in
    rw (value, le-leb (length text) max_header few) (front_split text items)

version_split : (version width : ℕ) (text items : List ℕ) → length_bytes (version ∷ (0 ∷ [])) ≡ Ok width → length text < 256 ^ width → length text ≤ max_header
    → split_header ((magic ++ (version ∷ (0 ∷ with_length width text))) ++ items) ≡ Ok (text, items)
version_split version width text items is fits few =
    let field = little_bytes width (length text) in
    let rest = with_length width text ++ items in
    let file = (magic ++ (version ∷ (0 ∷ with_length width text))) ++ items in
    let wide : length field ≡ width = length-bytes_low_first 0 width (length text) in
    let two : split_front 2 (drop 6 file) ≡ Ok (version ∷ (0 ∷ []), rest) = front_split (version ∷ (0 ∷ [])) rest in
    let three : split_front width rest ≡ Ok (field, text ++ items) = ap (λ (n : ℕ). split_front n rest) (sym wide) ∙ ap (split_front (length field)) (append_assoc field text items) ∙ front_split field (text ++ items) in
    header_split file (version ∷ (0 ∷ [])) rest field (text ++ items) width refl two is three
    ∙ text_split width text items fits few

-- A header that is written is found again.
pub written_split : (text items : List ℕ) → length text + 65 ≤ max_header → (spaces : ℕ) × (split_header (written_header text ++ items) ≡ Ok (text ++ (replicate spaces 32 ++ codes "\n"), items))
written_split text items few = elim (cases_lt max_short_text (length text)) [
  | inl long ↦
      let padded = length-padded 12 text in
      let most : spaces_after (12 + length text) < 64 = mod-lt (64 - (12 + length text + 1) % 64) (omega arith) in (
        spaces_after (12 + length text),
        (λ i. split_header ((if lt-ltb max_short_text (length text) long i then magic ++ (2 ∷ (0 ∷ with_length 4 (padded_text 12 text))) else magic ++ (1 ∷ (0 ∷ with_length 2 (padded_text 10 text)))) ++ items))
            ∙ version_split 2 4 (padded_text 12 text) items refl (omega (arith, padded, most, few)) (omega (arith, padded, most, few)),
      )
  | inr short ↦
      let padded = length-padded 10 text in
      let most : spaces_after (10 + length text) < 64 = mod-lt (64 - (10 + length text + 1) % 64) (omega arith) in
      let fits : length (padded_text 10 text) < 256 ^ 2 = omega (arith, padded, short) in (
        spaces_after (10 + length text),
        (λ i. split_header ((if le-ltb max_short_text (length text) short i then magic ++ (2 ∷ (0 ∷ with_length 4 (padded_text 12 text))) else magic ++ (1 ∷ (0 ∷ with_length 2 (padded_text 10 text)))) ++ items))
            ∙ version_split 1 2 (padded_text 10 text) items refl fits (omega (arith, padded, most, few)),
      )
]
