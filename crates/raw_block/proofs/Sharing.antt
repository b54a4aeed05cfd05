-- A `&` to the owner of the bytes is a `&` to each of them. Assumes `Logic`.
use Rattle.std.proofs.Common.{ℕ, ◌+◌, ◌^◌, List, [], ◌∷◌, length}
use Rattle.raw_block.proofs.Words.{Ura, full_share, Fml, ftrue, ffalse, fsep, flt, Logic, u8, part_at, shared_of, ShrLaws, said, beside_shr_laws, said_shr_laws, elements_shared, elements_shr_laws, u8-field, u8-copy, Lends, Lends-both, Lends-first, Lends-nothing, Lends-said, Lends-false, Sharable, copy_shared, Ptr, block_ptr, null_ptr, bytes, unwritten, bytes_own, bytes_lent}

u8_shared : Sharable u8-field
u8_shared = copy_shared u8-field u8-copy

pub bytes_lent_laws : (p : Ptr) (xs : List ℕ) (n : ℕ) → ShrLaws (bytes_lent p xs n)
bytes_lent_laws (block_ptr b o) xs n = beside_shr_laws (said (flt (length xs + n) (2 ^ 63))) (elements_shared u8 xs b o) (said_shr_laws (flt (length xs + n) (2 ^ 63)) tt) (elements_shr_laws u8 u8_shared.shr_laws xs b o)
bytes_lent_laws null_ptr xs n = said_shr_laws ffalse tt

module _ {M : Type 1} {𝓤 : Ura M} (𝓛 : Logic 𝓤) where
  Lends-bytes : (xs : List ℕ) (b o : ℕ) → Lends 𝓛 (bytes full_share xs b o) (elements_shared u8 xs b o) []
  Lends-bytes [] b o = Lends-nothing 𝓛 ftrue []
  Lends-bytes (x ∷ xs) b o = Lends-both 𝓛 (part_at u8 full_share x b o) (bytes full_share xs b (o + 1)) (shared_of u8 x b o) (elements_shared u8 xs b (o + 1)) []
      (λ κ ts. u8_shared.shares M 𝓤 𝓛 x κ ts b o) (Lends-bytes xs b (o + 1))

  pub Lends-owned : (p : Ptr) (xs : List ℕ) (n : ℕ) → Lends 𝓛 (bytes_own p xs n) (bytes_lent p xs n) []
  Lends-owned (block_ptr b o) xs n =
      let few : Fml = flt (length xs + n) (2 ^ 63) in let rest : Fml = unwritten b (o + length xs) n in
      Lends-both 𝓛 few (fsep (bytes full_share xs b o) rest) (said few) (elements_shared u8 xs b o) [] (Lends-said 𝓛 few tt []) (Lends-first 𝓛 (bytes full_share xs b o) rest (elements_shared u8 xs b o) [] (Lends-bytes xs b o))
  Lends-owned null_ptr xs n = Lends-false 𝓛 (said ffalse) []
