-- Files in two parts, the first of which contains the header.
use Rattle.std.proofs.Common.{◌≡◌, ◌⊎◌, ◌<◌, ◌≤◌, ℕ, Bool, true, false, List, [], ◌∷◌, ◌++◌, length, take, drop, Ok, Err, refl, sym, ap, ◌∙◌, arith, length-append, length-take, nat_le, inl, inr, if◌then◌else◌}
use Rattle.npy_format.proofs.Words.{le-leb, leb-true, cases_lt, bytes_eq-Decides, take-append-le, drop-append-le, append-nil, bytes_eq, little_number, Refusal, BadMagic, Truncated, TooLarge, check, bind_ok, magic, max_header, split_front, begins_well, length_bytes, text_behind, split_header, load, load_behind}
use Rattle.npy_format.proofs.FileLaws.{header_split}

checked : (test : Bool) (refusal : Refusal) (u : Unit {0}) → check test refusal ≡ Ok u → test ≡ true
checked true refusal u e = refl
checked false refusal u e = absurd cc

-- bytes that are split, and more bytes after them
cut : (n : ℕ) (bytes : List ℕ) (parts : List ℕ × List ℕ) → split_front n bytes ≡ Ok parts → (n ≤ length bytes) × ((take n bytes, drop n bytes) ≡ parts)
cut n bytes parts e = by_test (nat_le n (length bytes)) refl e
  where
    by_test : (t : Bool) → nat_le n (length bytes) ≡ t → (if t then Ok (take n bytes, drop n bytes) else Err Truncated) ≡ Ok parts → (n ≤ length bytes) × ((take n bytes, drop n bytes) ≡ parts)
    by_test true low is = (leb-true n (length bytes) low, cc)
    by_test false low is = absurd cc

cut_more : (n : ℕ) (bytes more front back : List ℕ) → split_front n bytes ≡ Ok (front, back) → split_front n (bytes ++ more) ≡ Ok (front, back ++ more)
cut_more n bytes more front back e =
    let it = cut n bytes (front, back) e in
    let low = it.0 in
    rw (le-leb n (length (bytes ++ more)) (omega (arith, low, length-append bytes more)), take-append-le n bytes more low, drop-append-le n bytes more low)
    (ap (λ (p : List ℕ × List ℕ). Ok (p.0, p.1 ++ more)) it.1)

well_more : (bytes more : List ℕ) → begins_well bytes ≡ true → begins_well (bytes ++ more) ≡ true
well_more bytes more well = by_length (cases_lt (length bytes) 6)
  where
    by_length : (length bytes < 6) ⊎ (6 ≤ length bytes) → begins_well (bytes ++ more) ≡ true
    by_length (inr long) = ap (λ l. bytes_eq l magic) (take-append-le 6 bytes more long) ∙ well
    by_length (inl short) =
        let same : take 6 bytes ≡ magic = (bytes_eq-Decides (take 6 bytes) magic).0 well in
        absurd (omega (arith, length-take 6 bytes, ap length same, short))

behind_more : (field bytes more text behind : List ℕ) → text_behind field bytes ≡ Ok (text, behind) → text_behind field (bytes ++ more) ≡ Ok (text, behind ++ more)
behind_more field bytes more text behind e =
    let n = little_number (length field) field in
    let low = bind_ok (check (nat_le n max_header) TooLarge) (λ _. split_front n bytes) (text, behind) e in
    rw (checked (nat_le n max_header) TooLarge low.0 low.1) (cut_more n bytes more text behind low.2)

-- A header that is found in a file is also found if more bytes follow.
pub header_more : (file more text behind : List ℕ) → split_header file ≡ Ok (text, behind) → split_header (file ++ more) ≡ Ok (text, behind ++ more)
unfolding split_header
header_more file more text behind e =
    let one = bind_ok (check (begins_well file) BadMagic) _ (text, behind) e in
    let well = checked (begins_well file) BadMagic one.0 one.1 in
    let two = bind_ok (split_front 2 (drop 6 file)) _ (text, behind) one.2 in
    let three = bind_ok (length_bytes two.0.0) _ (text, behind) two.2 in
    let four = bind_ok (split_front three.0 two.0.1) _ (text, behind) three.2 in
    let same : take 6 file ≡ magic = (bytes_eq-Decides (take 6 file) magic).0 well in
    let long : 6 ≤ length file = omega (arith, length-take 6 file, ap length same) in
    header_split (file ++ more) two.0.0 (two.0.1 ++ more) four.0.0 (four.0.1 ++ more) three.0 (well_more file more well)
    (ap (split_front 2) (drop-append-le 6 file more long) ∙ cut_more 2 (drop 6 file) more two.0.0 two.0.1 two.1)
    three.1 (cut_more three.0 two.0.1 more four.0.0 four.0.1 four.1)
    ∙ behind_more four.0.0 four.0.1 more text behind four.2

-- To load a file is to load the bytes after its header.
pub load_split : (file text behind : List ℕ) → split_header file ≡ Ok (text, behind) → load file ≡ load_behind text behind
unfolding load
load_split file text behind is = rw is refl

-- items with nothing after them
pub nothing_behind : (items rest block : List ℕ) → items ++ rest ≡ block → length rest ≡ 0 → block ≡ items
nothing_behind items [] block is none = sym is ∙ append-nil items
nothing_behind items (b ∷ rest) block is none = absurd (omega (arith, none))

pub empty : (bytes : List ℕ) → length bytes < 1 → bytes ≡ []
empty [] none = refl
empty (b ∷ bytes) none = absurd (omega (arith, none))
