-- The owner of the bytes after other bytes are written to them. Assumes `Logic`.
use Rattle.std.proofs.Common.{◌≡◌, ℕ, ◌+◌, ◌^◌, ◌<◌, List, [], ◌∷◌, length, refl, sym, arith}
use Rattle.raw_block.proofs.Words.{drop_l, take_front, Ura, full_share, ent, sep, Fml, fsep, Val, Logic, sem, ‵, ◌$◌, ◌∵◌, !, qed, done, move, use1, fsplit3, fjoin, fpack, flt_i, rewrite, cells, u8, whole_out, mem, cell_at, part_of, Ptr, block_ptr, bytes, shape, Struct, refill, with_items, unwritten, bytes_own, R, the_type}

-- the owner, if `ws` was written to the slice last
abbrev pub written : R.Denot → List ℕ → R.Denot
written h ws = with_items h (refill (length h.items) h.items ws)

-- everything that the owner has except its bytes
abbrev pub Rest : R.Denot → List Val → ℕ → ℕ → ℕ → ℕ → Fml
Rest h us rb ro b o = fsep (unwritten b (o + length h.items) h.room) (fsep ((Struct (shape the_type)).own_val tt us) (cell_at full_share R.mir us rb ro))

module _ {M : Type 1} {𝓤 : Ura M} (𝓛 : Logic 𝓤) (h : R.Denot) (us : List Val) (rb ro b o : ℕ) where
  pub back : h.at ≡ block_ptr b o → length h.items + h.room < 2 ^ 63 → (ws : List ℕ) → length ws ≡ length h.items
      → ent 𝓤 (sep 𝓤 (sem 𝓛 (cells (mem u8) ws b o)) (sem 𝓛 (Rest h us rb ro b o))) (sem 𝓛 ((mem R).own_at (written h ws) rb ro))
  unfolding part_of
  back e small ws same =
      let all : refill (length h.items) h.items ws ≡ ws = take_front ws (drop_l (length ws) h.items) (length h.items) same in
      qed 𝓛 (‵ (cells (mem u8) ws b o) ∷ ‵ (Rest h us rb ro b o) ∷ []) ∵ use1 𝓛 (‵ (bytes full_share ws b o)) (whole_out 𝓛 u8 ws b o) $
      move ! (1 ∷ []) $ fsplit3 ! $ rewrite ! 0 (λ (k : ℕ). ‵ (unwritten b (o + k) h.room)) (sym same) refl $ move ! (3 ∷ 0 ∷ []) $ fjoin ! $
      flt_i ! (length ws + h.room) (2 ^ 63) (omega arith) $ fjoin ! $ rewrite ! 0 (λ (l : List ℕ). ‵ (bytes_own (block_ptr b o) l h.room)) (sym all) refl $
      rewrite ! 0 (λ (p : Ptr). ‵ (bytes_own p (written h ws).items h.room)) (sym e) refl $ move ! (1 ∷ 0 ∷ []) $ fjoin ! $ move ! (1 ∷ 0 ∷ []) $ fjoin ! $
      fpack ! (List Val) (λ vs. fsep (cell_at full_share R.mir vs rb ro) (R.own_val (written h ws) vs)) us $ done !
