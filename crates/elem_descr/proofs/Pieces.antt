-- The pieces of a text, from its first byte and the pieces of the rest.
use Rattle.std.proofs.Common.{◌&&◌, ◌≡◌, ℕ, Bool, true, false, not, List, [], ◌∷◌, ◌++◌, take, drop, Option, Some, None, Result, Ok, Err, if◌then◌else◌, refl, sym, ap, ◌∙◌, arith}
use Rattle.elem_descr.proofs.Words.{is_ascii_digit, list_all, prefix_len, option_map, nat_tests, and_parts, Refusal, BadDescriptor, DescriptorLeftOut, is_legal_name, is_one_of, is_empty, Behind, nothing, between_colons, lone_colon, Piece, letter, opening, brace, stray, digit_onto, letter_onto, byte_onto, is_colon, cut_at_colons, pieces_between, pieces, is_opened, name_at}
use Rattle.elem_descr.proofs.Fronts.{one_more, some_left}

-- the name up to the next colon, and the text after the colon, if there is one
abbrev pub name_end : List ℕ → Option (List ℕ × List ℕ)
name_end [] = None
name_end (b ∷ text) = if is_colon b then Some ([], text) else option_map (λ r. (b ∷ r.0, r.1)) (name_end text)

-- what follows a letter if a colon comes next, and the remaining text
abbrev pub behind_colon : Option (List ℕ × List ℕ) → Behind × List ℕ
behind_colon None = (lone_colon, [])
behind_colon (Some r) = (between_colons r.0, r.1)

-- what follows a letter if a text comes next, and the remaining text
abbrev pub behind : List ℕ → Behind × List ℕ
behind [] = (nothing, [])
behind (b ∷ text) = if is_colon b then behind_colon (name_end text) else (nothing, b ∷ text)

-- ---- names

if_map : {X Y : Type 0} (t : Bool) (f : X → Y) (x : X) → option_map f (if t then None else Some x) ≡ (if t then None else Some (f x))
if_map true f x = refl
if_map false f x = refl

abbrev no_colon_in : ℕ → Bool
no_colon_in b = not (is_colon b)

front_ends : (text : List ℕ) → (let n = prefix_len no_colon_in text in if is_empty (drop n text) then None else Some (take n text, drop 1 (drop n text))) ≡ name_end text
front_ends [] = refl
front_ends (b ∷ text) = by_first (is_colon b) refl (front_ends text)
  where
    by_first : (t : Bool) → is_colon b ≡ t → (let m = prefix_len no_colon_in text in if is_empty (drop m text) then None else Some (take m text, drop 1 (drop m text))) ≡ name_end text → (let n = prefix_len no_colon_in (b ∷ text) in if is_empty (drop n (b ∷ text)) then None else Some (take n (b ∷ text), drop 1 (drop n (b ∷ text)))) ≡ name_end (b ∷ text)
    by_first true e later = rw (e, some_left b text) refl
    by_first false e later =
        let n = prefix_len no_colon_in text in
        rw (e, one_more n) (sym (if_map (is_empty (drop n text)) (λ (r : List ℕ × List ℕ). (b ∷ r.0, r.1)) (take n text, drop 1 (drop n text))) ∙ ap (option_map (λ (r : List ℕ × List ℕ). (b ∷ r.0, r.1))) later)

abbrev pub ended_name : Option (List ℕ × List ℕ) → Result (List ℕ × List ℕ) Refusal
ended_name None = Err BadDescriptor
ended_name (Some r) = if is_legal_name r.0 then Ok r else Err DescriptorLeftOut

pub name_at-ended : (text : List ℕ) → name_at text ≡ ended_name (name_end text)
name_at-ended text =
    let n = prefix_len no_colon_in text in
    by_end (is_empty (drop n text)) (take n text) (drop 1 (drop n text)) ∙ ap ended_name (front_ends text)
  where
    by_end : (t : Bool) (front rest : List ℕ) → (if t then Err BadDescriptor else if is_legal_name front then Ok (front, rest) else Err DescriptorLeftOut) ≡ ended_name (if t then None else Some (front, rest))
    by_end true front rest = refl
    by_end false front rest = refl

-- ---- colons

-- a text cut at the end of a name
abbrev cut_of : List ℕ → Option (List ℕ × List ℕ) → List ℕ × List (List ℕ)
cut_of text None = (text, [])
cut_of text (Some r) = (r.0, (cut_at_colons r.1).0 ∷ (cut_at_colons r.1).1)

cut_grows : (b : ℕ) (text : List ℕ) (end : Option (List ℕ × List ℕ)) → (b ∷ (cut_of text end).0, (cut_of text end).1) ≡ cut_of (b ∷ text) (option_map (λ r. (b ∷ r.0, r.1)) end)
cut_grows b text None = refl
cut_grows b text (Some r) = refl

cut_ends : (text : List ℕ) → cut_at_colons text ≡ cut_of text (name_end text)
cut_ends [] = refl
cut_ends (b ∷ text) = by_first (is_colon b) refl (cut_ends text)
  where
    by_first : (t : Bool) → is_colon b ≡ t → cut_at_colons text ≡ cut_of text (name_end text) → cut_at_colons (b ∷ text) ≡ cut_of (b ∷ text) (name_end (b ∷ text))
    by_first true e later = rw e refl
    by_first false e later = rw e (ap (λ (cut : List ℕ × List (List ℕ)). (b ∷ cut.0, cut.1)) later ∙ cut_grows b text (name_end text))

-- a colon, and the name after it
pub pieces-colon : (b : ℕ) (text : List ℕ) → is_colon b ≡ true → pieces (b ∷ text) ≡ stray (behind_colon (name_end text)).0 ∷ pieces (behind_colon (name_end text)).1
pieces-colon b text e = rw e (ap (λ (cut : List ℕ × List (List ℕ)). pieces_between [] (cut.0 ∷ cut.1)) (cut_ends text) ∙ by_end (name_end text))
  where
    by_end : (end : Option (List ℕ × List ℕ)) → pieces_between [] ((cut_of text end).0 ∷ (cut_of text end).1) ≡ stray (behind_colon end).0 ∷ pieces (behind_colon end).1
    by_end None = refl
    by_end (Some r) = refl

-- any other byte
pub pieces-byte : (b : ℕ) (text : List ℕ) → is_colon b ≡ false → pieces (b ∷ text) ≡ byte_onto b (pieces text)
pieces-byte b text e = rw e (onto (cut_at_colons text).0 (cut_at_colons text).1)
  where
    onto : (bytes : List ℕ) (parts : List (List ℕ)) → pieces_between (b ∷ bytes) parts ≡ byte_onto b (pieces_between bytes parts)
    onto bytes [] = refl
    onto bytes (part ∷ []) = refl
    onto bytes (part ∷ (next ∷ more)) = refl

-- ---- a letter and what follows it

-- the first piece of some pieces, and those after it; a letter before them is a piece of its own
abbrev First : List Piece → Type 0
First some = (piece : Piece) × (more : List Piece) × (some ≡ piece ∷ more) × ((b : ℕ) → letter_onto b some ≡ letter [] b nothing ∷ some)

digit_first : (d : ℕ) (more : List Piece) → First (digit_onto d more)
digit_first d [] = (letter [] d nothing, [], refl, λ b. refl)
digit_first d (letter digits c name ∷ more) = (letter (d ∷ digits) c name, more, refl, λ b. refl)
digit_first d (opening digits ∷ more) = (opening (d ∷ digits), more, refl, λ b. refl)
digit_first d (brace ∷ more) = (letter [] d nothing, brace ∷ more, refl, λ b. refl)
digit_first d (stray name ∷ more) = (letter [] d nothing, stray name ∷ more, refl, λ b. refl)

letter_first : (c : ℕ) (more : List Piece) → First (letter_onto c more)
letter_first c [] = (letter [] c nothing, [], refl, λ b. refl)
letter_first c (letter digits d name ∷ more) = (letter [] c nothing, letter digits d name ∷ more, refl, λ b. refl)
letter_first c (opening digits ∷ more) = (letter [] c nothing, opening digits ∷ more, refl, λ b. refl)
letter_first c (brace ∷ more) = by_test (is_one_of (84 ∷ []) c)
  where
    by_test : (t : Bool) → First (if t then opening [] ∷ more else letter [] c nothing ∷ (brace ∷ more))
    by_test true = (opening [], more, refl, λ b. refl)
    by_test false = (letter [] c nothing, brace ∷ more, refl, λ b. refl)
letter_first c (stray name ∷ more) = (letter [] c name, more, refl, λ b. refl)

left_false : (x : Bool) → (x && true) ≡ false → x ≡ false
left_false true e = e
left_false false e = refl

byte_behind : (b c : ℕ) (more : List Piece) → (is_one_of (84 ∷ []) b && is_one_of (123 ∷ []) c) ≡ false → letter_onto b (byte_onto c more) ≡ letter [] b nothing ∷ byte_onto c more
byte_behind b c more bare = by_tests (is_one_of (123 ∷ []) c) (is_ascii_digit c) bare
  where
    by_tests : (brac digit : Bool) → (is_one_of (84 ∷ []) b && brac) ≡ false → letter_onto b (if brac then brace ∷ more else if digit then digit_onto c more else letter_onto c more) ≡ letter [] b nothing ∷ (if brac then brace ∷ more else if digit then digit_onto c more else letter_onto c more)
    by_tests true digit bare = let other = left_false (is_one_of (84 ∷ []) b) bare in rw other refl
    by_tests false true bare = (digit_first c more).3 b
    by_tests false false bare = (letter_first c more).3 b

pub behind-colon : (b : ℕ) (text : List ℕ) → is_colon b ≡ true → behind (b ∷ text) ≡ behind_colon (name_end text)
behind-colon b text e = rw e refl

pub behind-other : (b : ℕ) (text : List ℕ) → is_colon b ≡ false → behind (b ∷ text) ≡ (nothing, b ∷ text)
behind-other b text e = rw e refl

-- a piece and those after it
abbrev joined : (Behind → Piece) → Behind × List ℕ → List Piece
joined piece s = piece s.0 ∷ pieces s.1

letter_then : (b : ℕ) (text : List ℕ) → (is_one_of (84 ∷ []) b && is_opened text) ≡ false → letter_onto b (pieces text) ≡ letter [] b (behind text).0 ∷ pieces (behind text).1
letter_then b [] bare = refl
letter_then b (c ∷ text) bare = by_first (is_colon c) refl
  where
    by_first : (t : Bool) → is_colon c ≡ t → letter_onto b (pieces (c ∷ text)) ≡ letter [] b (behind (c ∷ text)).0 ∷ pieces (behind (c ∷ text)).1
    by_first true e = ap (letter_onto b) (pieces-colon c text e) ∙ ap (joined (letter [] b)) (sym (behind-colon c text e))
    by_first false e =
        ap (letter_onto b) (pieces-byte c text e)
        ∙ byte_behind b c (pieces text) bare
        ∙ ap (λ (more : List Piece). letter [] b nothing ∷ more) (sym (pieces-byte c text e))
        ∙ ap (joined (letter [] b)) (sym (behind-other c text e))

pub pieces-letter : (b : ℕ) (text : List ℕ) → is_colon b ≡ false → is_one_of (123 ∷ []) b ≡ false → is_ascii_digit b ≡ false → (is_one_of (84 ∷ []) b && is_opened text) ≡ false → pieces (b ∷ text) ≡ letter [] b (behind text).0 ∷ pieces (behind text).1
pieces-letter b text colon brac digit bare =
    let bare_byte : byte_onto b (pieces text) ≡ letter_onto b (pieces text) = rw (brac, digit) refl in
    pieces-byte b text colon ∙ bare_byte ∙ letter_then b text bare

pub pieces-opening : (text : List ℕ) → pieces (84 ∷ (123 ∷ text)) ≡ opening [] ∷ pieces text
pieces-opening text = pieces-byte 84 (123 ∷ text) refl ∙ ap (byte_onto 84) (pieces-byte 123 text refl)

-- ---- digits

pieces-digit : (d : ℕ) (text : List ℕ) → is_ascii_digit d ≡ true → pieces (d ∷ text) ≡ digit_onto d (pieces text)
pieces-digit d text e =
    let colon : is_colon d ≡ false = grind (arith, nat_tests) in
    let brac : is_one_of (123 ∷ []) d ≡ false = grind (arith, nat_tests) in
    pieces-byte d text colon ∙ rw (brac, e) refl

-- digits before a piece that takes them
pub pieces-digits : (piece : List ℕ → Piece) → ((d : ℕ) (digits : List ℕ) (more : List Piece) → digit_onto d (piece digits ∷ more) ≡ piece (d ∷ digits) ∷ more) →
    (digits text : List ℕ) (more : List Piece) → list_all is_ascii_digit digits ≡ true → pieces text ≡ piece [] ∷ more → pieces (digits ++ text) ≡ piece digits ∷ more
pieces-digits piece takes [] text more all is = is
pieces-digits piece takes (d ∷ digits) text more all is =
    let h = and_parts (is_ascii_digit d) (list_all is_ascii_digit digits) all in
    pieces-digit d (digits ++ text) h.0 ∙ ap (digit_onto d) (pieces-digits piece takes digits text more h.1 is) ∙ takes d digits more

-- pieces before which a digit counts nothing
abbrev pub CountsNothing : List Piece → Type 0
CountsNothing more = (d : ℕ) → digit_onto d more ≡ letter [] d nothing ∷ more

pub record LastDigit (text : List ℕ) : Type 0 where
  pub digits : List ℕ
  pub last : ℕ
  pub more : List Piece
  pub digit : is_ascii_digit last ≡ true
  pub is : pieces text ≡ letter digits last nothing ∷ more

pub last_digit : (d : ℕ) (digits text : List ℕ) → list_all is_ascii_digit (d ∷ digits) ≡ true → CountsNothing (pieces text) → LastDigit (d ∷ (digits ++ text))
last_digit d [] text all nothing_counted =
    let h = and_parts (is_ascii_digit d) true all in
    record { digits = []; last = d; more = pieces text; digit = h.0; is = pieces-digit d text h.0 ∙ nothing_counted d }
last_digit d (e ∷ digits) text all nothing_counted =
    let h = and_parts (is_ascii_digit d) (list_all is_ascii_digit (e ∷ digits)) all in
    let later = last_digit e digits text h.1 nothing_counted in
    record { digits = d ∷ later.digits; last = later.last; more = later.more; digit = later.digit; is = pieces-digit d (e ∷ (digits ++ text)) h.0 ∙ ap (digit_onto d) later.is }

-- ---- a byte other than a colon begins a piece

pub some_piece : (b : ℕ) (text : List ℕ) → is_colon b ≡ false → (piece : Piece) × (more : List Piece) × (pieces (b ∷ text) ≡ piece ∷ more)
some_piece b text e = let first = by_tests (is_one_of (123 ∷ []) b) (is_ascii_digit b) (pieces text) in (first.0, first.1, pieces-byte b text e ∙ first.2)
  where
    by_tests : (brac digit : Bool) (more : List Piece) → (piece : Piece) × (rest : List Piece) × ((if brac then brace ∷ more else if digit then digit_onto b more else letter_onto b more) ≡ piece ∷ rest)
    by_tests true digit more = (brace, more, refl)
    by_tests false true more = let first = digit_first b more in (first.0, first.1, first.2)
    by_tests false false more = let first = letter_first b more in (first.0, first.1, first.2)
