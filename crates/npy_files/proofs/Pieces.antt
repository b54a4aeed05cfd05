-- Bytes that are read piece by piece.
use Rattle.std.proofs.Common.{◌≡◌, ◌≤◌, ◌+◌, ◌-◌, ◌++◌, ℕ, List, length, take, drop, sym, ap, ◌∙◌, arith, append_assoc, length-append, length-drop, take-append-drop}
use Rattle.npy_files.proofs.Words.{take_all, take_at, length-take-le, put_mid}

-- a piece replaces the end of some bytes, and the first of its bytes were read
module _ (bytes piece rest next : List ℕ) (at count : ℕ) (within : at ≤ length bytes) (long : length piece ≡ length bytes - at) (few : count ≤ length piece) (taken : rest ≡ take count piece ++ next) where
  abbrev tail : List ℕ
  tail = drop (length bytes - at) (drop at bytes)

  pub put_length : length (put_mid at (length bytes - at) bytes piece) ≡ length bytes
  put_length = omega (arith, within, long, length-append (take at bytes) (piece ++ tail), length-append piece tail, length-take-le at bytes within, length-drop (length bytes - at) (drop at bytes), length-drop at bytes)

  pub rest_length : length rest ≡ count + length next
  rest_length = ap length taken ∙ length-append (take count piece) next ∙ ap (λ n. n + length next) (length-take-le count piece few)

  pub read_on : (before : List ℕ) → before ≡ take at bytes ++ rest → before ≡ take (at + count) (put_mid at (length bytes - at) bytes piece) ++ next
  read_on before same =
      let front = take at bytes ++ take count piece in
      let cut : put_mid at (length bytes - at) bytes piece ≡ front ++ (drop count piece ++ tail) =
      ap (λ p. take at bytes ++ (p ++ tail)) (sym (take-append-drop count piece)) ∙ ap (λ l. take at bytes ++ l) (append_assoc (take count piece) (drop count piece) tail) ∙ sym (append_assoc (take at bytes) (take count piece) (drop count piece ++ tail)) in
      let size : length front ≡ at + count = omega (arith, length-append (take at bytes) (take count piece), length-take-le at bytes within, length-take-le count piece few) in
      same ∙ ap (λ r. take at bytes ++ r) taken ∙ sym (append_assoc (take at bytes) (take count piece) next)
      ∙ ap (λ l. l ++ next) (sym (ap (take (at + count)) cut ∙ take_at front (drop count piece ++ tail) (at + count) size))

-- bytes that are cut in two
pub cut_read : (front seen rest whole now block : List ℕ) (cut : ℕ) → whole ≡ front ++ rest → seen ≡ front → now ≡ take cut front → block ≡ take (length seen - cut) (drop cut seen) ++ rest → now ++ block ≡ whole
cut_read front seen rest whole now block cut is same here behind =
    let all : take (length seen - cut) (drop cut seen) ≡ drop cut front = take_all (length seen - cut) (drop cut seen) (omega (arith, length-drop cut seen)) ∙ ap (drop cut) same in
    ap (λ l. l ++ block) here ∙ ap (λ l. take cut front ++ l) (behind ∙ ap (λ l. l ++ rest) all) ∙ sym (append_assoc (take cut front) (drop cut front) rest) ∙ ap (λ l. l ++ rest) (take-append-drop cut front) ∙ sym is
