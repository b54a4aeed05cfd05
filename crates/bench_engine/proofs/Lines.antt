-- Bytes that are split at newlines, and more bytes after them.
use Rattle.std.proofs.Common.{◌≡◌, ◌≢◌, ◌<◌, ◌≤◌, ◌+◌, ℕ, true, false, List, [], ◌∷◌, ◌++◌, length, map, refl, sym, ap, ◌∙◌, cond, arith, nat_eq, take, get_or, Some, None, nat_lt, one-add, subst, take_all, not, drop, append_assoc, add-one, drop-cons, suc}
use Rattle.bench_engine.proofs.Words.{cond_some, position, position_or_len, flat_map, eqb-true, eqb-false, ltb-false, map-append, append-nil, take-append-drop, All-nil, All-cons, All-head, All-tail, All-append, position-Some, flat_map-append, IsUnbroken, Splits, trimmed, if_any, AreWholeLines, AreLines}

-- the pieces, each with its newline
abbrev with_newlines : List (List ℕ) → List ℕ
with_newlines pieces = flat_map (λ piece. piece ++ 10 ∷ []) pieces

-- ---- splits

-- bytes without a newline
pub splits-one : (bytes : List ℕ) → IsUnbroken bytes → Splits bytes [] bytes
splits-one bytes unbroken = record { joined = refl; pieces_unbroken = All-nil IsUnbroken; rest_unbroken = unbroken }

-- more bytes, which are split together with the rest
pub splits-on : (bytes more : List ℕ) (pieces later : List (List ℕ)) (rest rest' : List ℕ) → Splits bytes pieces rest → Splits (rest ++ more) later rest' → Splits (bytes ++ more) (pieces ++ later) rest'
splits-on bytes more pieces later rest rest' first then = record {
  joined = ap (λ b. b ++ more) first.joined ∙ append_assoc (with_newlines pieces) rest more ∙ ap (λ b. with_newlines pieces ++ b) then.joined ∙ sym (append_assoc (with_newlines pieces) (with_newlines later) rest')
      ∙ ap (λ b. b ++ rest') (sym (flat_map-append (λ (piece : List ℕ). piece ++ 10 ∷ []) pieces later));
  pieces_unbroken = All-append IsUnbroken pieces later first.pieces_unbroken then.pieces_unbroken;
  rest_unbroken = then.rest_unbroken;
}

-- more bytes without a newline
pub splits-more : (bytes more : List ℕ) (pieces : List (List ℕ)) (rest : List ℕ) → Splits bytes pieces rest → IsUnbroken more → Splits (bytes ++ more) pieces (rest ++ more)
splits-more bytes more pieces rest first unbroken =
    subst (λ (all : List (List ℕ)). Splits (bytes ++ more) all (rest ++ more)) (append-nil pieces)
    (splits-on bytes more pieces [] rest (rest ++ more) first (splits-one (rest ++ more) (All-append (λ b. b ≢ 10) rest more first.rest_unbroken unbroken)))

-- a piece, its newline, and more
splits-newline : (piece more : List ℕ) (later : List (List ℕ)) (rest : List ℕ) → IsUnbroken piece → Splits more later rest → Splits (piece ++ 10 ∷ more) (piece ∷ later) rest
splits-newline piece more later rest unbroken then = record {
  joined = ap (λ m. piece ++ 10 ∷ m) then.joined ∙ regrouped piece (with_newlines later) rest;
  pieces_unbroken = All-cons IsUnbroken piece later unbroken then.pieces_unbroken;
  rest_unbroken = then.rest_unbroken;
}
  where
    regrouped : (piece later rest : List ℕ) → piece ++ 10 ∷ (later ++ rest) ≡ ((piece ++ 10 ∷ []) ++ later) ++ rest
    regrouped piece later rest = simp append_assoc

-- a newline, and more bytes
pub splits-then : (bytes more : List ℕ) (pieces later : List (List ℕ)) (rest rest' : List ℕ) → Splits bytes pieces rest → Splits more later rest' → Splits (bytes ++ 10 ∷ more) (pieces ++ rest ∷ later) rest'
splits-then bytes more pieces later rest rest' first then =
    splits-on bytes (10 ∷ more) pieces (rest ∷ later) rest rest' first (splits-newline rest more later rest' first.rest_unbroken then)

splits-byte : (b : ℕ) (bytes : List ℕ) (pieces : List (List ℕ)) (rest : List ℕ) → b ≢ 10 → Splits bytes pieces rest → (more : List (List ℕ)) × (rest' : List ℕ) × Splits (b ∷ bytes) more rest'
splits-byte b bytes [] rest other s = ([], b ∷ rest, record { joined = ap (λ l. b ∷ l) s.joined; pieces_unbroken = All-nil IsUnbroken; rest_unbroken = All-cons (λ b. b ≢ 10) b rest other s.rest_unbroken })
splits-byte b bytes (piece ∷ pieces) rest other s = (
  (b ∷ piece) ∷ pieces,
  rest,
  record {
    joined = ap (λ l. b ∷ l) s.joined;
    pieces_unbroken = All-cons IsUnbroken (b ∷ piece) pieces (All-cons (λ b. b ≢ 10) b piece other (All-head IsUnbroken piece pieces s.pieces_unbroken)) (All-tail IsUnbroken piece pieces s.pieces_unbroken);
    rest_unbroken = s.rest_unbroken;
  },
)

-- all bytes can be split
pub splits : (bytes : List ℕ) → (pieces : List (List ℕ)) × (rest : List ℕ) × Splits bytes pieces rest
splits [] = ([], [], splits-one [] (All-nil (λ b. b ≢ 10)))
splits (b ∷ bytes) =
    let s = splits bytes in
    elim (nat_eq b 10) as (λ t. nat_eq b 10 ≡ t → (pieces : List (List ℕ)) × (rest : List ℕ) × Splits (b ∷ bytes) pieces rest) [
      | true ↦ λ newline. ([] ∷ s.0, s.1, subst (λ (c : ℕ). Splits (c ∷ bytes) ([] ∷ s.0) s.1) (sym (eqb-true b 10 newline)) (splits-newline [] bytes s.0 s.1 (All-nil (λ b. b ≢ 10)) s.2))
      | false ↦ λ other. splits-byte b bytes s.0 s.1 (eqb-false b 10 other) s.2
    ] refl

-- ---- lines

-- more lines follow those of the pieces
pub whole_lines-on : (bytes more : List ℕ) (pieces : List (List ℕ)) (rest : List ℕ) (lines : List (List ℕ)) → Splits bytes pieces rest → AreWholeLines (rest ++ more) lines → AreWholeLines (bytes ++ more) (map trimmed pieces ++ lines)
whole_lines-on bytes more pieces rest lines first then =
    (pieces ++ then.0, then.1, splits-on bytes more pieces then.0 rest then.1 first then.2, ap (λ l. map trimmed pieces ++ l) then.3 ∙ sym (map-append trimmed pieces then.0))

pub lines-on : (bytes more : List ℕ) (pieces : List (List ℕ)) (rest : List ℕ) (lines : List (List ℕ)) → Splits bytes pieces rest → AreLines (rest ++ more) lines → AreLines (bytes ++ more) (map trimmed pieces ++ lines)
lines-on bytes more pieces rest lines first then = (
  pieces ++ then.0,
  then.1,
  splits-on bytes more pieces then.0 rest then.1 first then.2,
  ap (λ l. map trimmed pieces ++ l) then.3 ∙ sym (map-append trimmed pieces (then.0 ++ if_any then.1)) ∙ ap (λ l. map trimmed l) (sym (append_assoc pieces then.0 (if_any then.1))),
)

-- no more bytes follow, and the rest has the last line
pub lines-end : (bytes : List ℕ) (pieces : List (List ℕ)) (rest : List ℕ) (lines : List (List ℕ)) → Splits bytes pieces rest → AreLines rest lines → AreLines bytes (map trimmed pieces ++ lines)
lines-end bytes pieces rest lines first then =
    subst (λ (b : List ℕ). AreLines b (map trimmed pieces ++ lines)) (append-nil bytes) (lines-on bytes [] pieces rest lines first (subst (λ (b : List ℕ). AreLines b lines) (sym (append-nil rest)) then))

-- the one line of a piece that is not empty
pub lines-one : (piece : List ℕ) → IsUnbroken piece → 0 < length piece → AreLines piece (trimmed piece ∷ [])
lines-one [] unbroken some = absurd (omega arith)
lines-one (b ∷ bytes) unbroken some = ([], b ∷ bytes, splits-one (b ∷ bytes) unbroken, refl)

pub lines-none : AreLines [] []
lines-none = ([], [], splits-one [] (All-nil (λ b. b ≢ 10)), refl)

-- the lines that a newline ends are a prefix of the lines of a longer script
pub lines-front : (bytes more : List ℕ) (lines : List (List ℕ)) → AreWholeLines bytes lines → (later : List (List ℕ)) × AreLines (bytes ++ more) (lines ++ later)
lines-front bytes more lines whole =
    let s = splits (whole.1 ++ more) in
    let later = map trimmed (s.0 ++ if_any s.1) in
    (later, subst (λ (l : List (List ℕ)). AreLines (bytes ++ more) (l ++ later)) (sym whole.3) (lines-on bytes more whole.0 whole.1 later whole.2 (s.0, s.1, s.2, refl)))

-- ---- the first newline

-- the bytes before the first newline
before_newline : (bytes : List ℕ) → IsUnbroken (take (position_or_len (λ b. nat_eq b 10) bytes) bytes)
before_newline [] = All-nil (λ b. b ≢ 10)
before_newline (b ∷ bytes) =
    elim (nat_eq b 10) as (λ t. nat_eq b 10 ≡ t → IsUnbroken (take (cond (not t) (1 + position_or_len (λ x. nat_eq x 10) bytes) 0) (b ∷ bytes))) [
      | true ↦ λ _. All-nil (λ b. b ≢ 10)
      | false ↦ λ other. rw one-add (All-cons (λ b. b ≢ 10) b (take (position_or_len (λ x. nat_eq x 10) bytes) bytes) (eqb-false b 10 other) (before_newline bytes))
    ] refl

-- the bytes up to the first newline contain no other
pub first_newline : (bytes : List ℕ) (end : ℕ) → position (λ b. nat_eq b 10) bytes ≡ Some end → (end < length bytes) × IsUnbroken (take end bytes) × (get_or bytes end 10 ≡ 10)
first_newline bytes end is =
    let at = position-Some (λ b. nat_eq b 10) bytes end 10 is in
    (at.0, subst (λ n. IsUnbroken (take n bytes)) (cond_some (nat_lt (position_or_len (λ b. nat_eq b 10) bytes) (length bytes)) (position_or_len (λ b. nat_eq b 10) bytes) end is).1 (before_newline bytes), eqb-true _ _ at.1)

nowhere : (q n : ℕ) → cond (nat_lt q n) (Some q) None ≡ None → n ≤ q
nowhere q n is =
    elim (nat_lt q n) as (λ t. nat_lt q n ≡ t → cond t (Some q) None ≡ None → n ≤ q) [
      | true ↦ λ _ e. cc
      | false ↦ λ no e. ltb-false q n no
    ] refl is

-- no newline at all
pub no_newline : (bytes : List ℕ) → position (λ b. nat_eq b 10) bytes ≡ None → IsUnbroken bytes
no_newline bytes none =
    subst IsUnbroken (take_all _ bytes (nowhere (position_or_len (λ b. nat_eq b 10) bytes) (length bytes) none)) (before_newline bytes)

-- the bytes before a newline, the newline, and the bytes after it
at_newline : (bytes : List ℕ) (end : ℕ) → end < length bytes → get_or bytes end 10 ≡ 10 → bytes ≡ take end bytes ++ 10 ∷ drop (end + 1) bytes
at_newline bytes end here is = sym (take-append-drop end bytes) ∙ ap (λ d. take end bytes ++ d) (rw add-one (drop-cons bytes end 10 here ∙ ap (λ b. b ∷ drop (suc end) bytes) is))

-- a newline in the last part of some bytes
pub newline_in_rest : (bytes taken rest : List ℕ) (end : ℕ) → bytes ≡ taken ++ rest → end < length rest → get_or rest end 10 ≡ 10 → bytes ≡ (taken ++ take end rest) ++ 10 ∷ drop (end + 1) rest
newline_in_rest bytes taken rest end is here newline = is ∙ ap (λ r. taken ++ r) (at_newline rest end here newline) ∙ sym (append_assoc taken (take end rest) (10 ∷ drop (end + 1) rest))
