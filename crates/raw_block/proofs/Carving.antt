-- The memory of a block, as words and as bytes. Assumes `Logic`.
use Rattle.std.proofs.Common.{◌≡◌, ℕ, ◌+◌, ◌-◌, ◌*◌, ◌/◌, List, [], ◌∷◌, length, refl, sym, w8, arith}
use Rattle.raw_block.proofs.Words.{Ura, full_share, ent, sep, wand, apply∗, Fml, fwand, froom, Ty, ty_int, ty_array, Logic, sem, ‵, raw, ◌⊛◌, ◌$◌, ◌∵◌, !, qed, by, move, use1, use2, split, frame, assume, rewrite, bytes, bytes-room, past, past_bytes, room_cut, room_glue, unwritten, words, IsSizeFor}

abbrev byte : Ty
byte = ty_int w8

module _ {M : Type 1} {𝓤 : Ura M} (𝓛 : Logic 𝓤) (b o : ℕ) where
  open 𝓛 use {H}

  -- the first bytes of a new block, and what restores the block from them
  pub carve : (len size : ℕ) → IsSizeFor size len → ent 𝓤 (H.room (words size) b o) (sep 𝓤 (sem 𝓛 (unwritten b o len)) (sem 𝓛 (fwand (unwritten b o len) (froom (words size) b o))))
  carve len size asked =
      let even = asked.1 in let le = asked.0 in let rest : ℕ = size - len in let parts : size ≡ len + rest = omega arith in let same : size * 1 ≡ size / 16 * 16 = omega arith in
      let All : Fml = unwritten b o size in let Whole : Fml = froom (words size) b o in let Rest : Fml = unwritten b (past byte len o) rest in
      qed 𝓛 (‵ Whole ∷ []) ∵ use1 𝓛 (‵ All ⊛ raw (wand 𝓤 (sem 𝓛 All) (sem 𝓛 Whole))) (𝓛.laws.room_as (words size) (ty_array byte size) b o same tt) $ split ! $
      rewrite ! 0 (λ (n : ℕ). ‵ (unwritten b o n)) parts refl $ use1 𝓛 (‵ (unwritten b o len) ⊛ ‵ Rest) (room_cut 𝓛 byte len rest b o) $ split ! $ frame ! $
      assume ! (‵ (unwritten b o len)) $ move ! (0 ∷ 1 ∷ []) $ use2 𝓛 (‵ (unwritten b o (len + rest))) (room_glue 𝓛 byte len rest b o) $
      rewrite ! 0 (λ (n : ℕ). ‵ (unwritten b o n)) (sym parts) refl $ by ! (apply∗ 𝓤 (sem 𝓛 All) (sem 𝓛 Whole))

  -- bytes and the room after them together are room for all
  pub blank : (xs : List ℕ) (n : ℕ) → ent 𝓤 (sep 𝓤 (sem 𝓛 (bytes full_share xs b o)) (sem 𝓛 (unwritten b (o + length xs) n))) (sem 𝓛 (unwritten b o (length xs + n)))
  blank xs n = qed 𝓛 (‵ (bytes full_share xs b o) ∷ ‵ (unwritten b (o + length xs) n) ∷ []) ∵ use1 𝓛 (‵ (unwritten b o (length xs))) (bytes-room 𝓛 xs b o) $
      move ! (1 ∷ []) $ rewrite ! 0 (λ (k : ℕ). ‵ (unwritten b k n)) (sym (past_bytes (length xs) o)) refl $ move ! (1 ∷ 0 ∷ []) $ by ! (room_glue 𝓛 byte (length xs) n b o)
