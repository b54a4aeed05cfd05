-- Items that are appended to bytes, one after the other.
use Rattle.std.proofs.Common.{◌≡◌, ◌+◌, ◌*◌, ℕ, zero, suc, List, [], ◌∷◌, ◌++◌, length, replicate, refl, ap, ◌∙◌, append_assoc, length-append, arith}
use Rattle.std.proofs.lemmas.List.{replicate-append-replicate}
use Rattle.raw_block.proofs.Words.{AreAppended, suc-mul, joined}
use Rattle.raw_block.specs.declared.base.Bytes.{Bytes}

-- an item that was written after the bytes was appended to them
pub written : (n : ℕ) (item item' : List ℕ) (old new : Bytes) → (new.at ≡ old.at) × (new.items ≡ old.items ++ item') × (new.room + n ≡ old.room) → item' ≡ item → length item ≡ n → AreAppended n item old new
written n item item' old new is same long =
    let items : new.items ≡ old.items ++ item = is.1 ∙ ap (λ l. old.items ++ l) same in record {
      begin = is.0;
      items = items;
      count = ap length items ∙ length-append old.items item ∙ omega (arith, long);
      left = omega (arith, is.2);
    }

-- the same bytes, said in other words
pub said_otherwise : (m n : ℕ) (xs ys : List ℕ) (old new : Bytes) → AreAppended m xs old new → m ≡ n → xs ≡ ys → AreAppended n ys old new
said_otherwise m n xs ys old new is few same = record {
  begin = is.begin;
  items = is.items ∙ ap (λ l. old.items ++ l) same;
  count = is.count ∙ ap (λ k. length old.items + k) few;
  left = omega (arith, is.left, few);
}

-- one more item
pub one_more : (item : ℕ → List ℕ) (width k : ℕ) (old now new : Bytes) → AreAppended (k * width) (joined item k) old now → AreAppended width (item k) now new → AreAppended ((k + 1) * width) (joined item (k + 1)) old new
one_more item width k old now new is last =
    let next : suc k ≡ k + 1 = omega arith in
    let more : k * width + width ≡ (k + 1) * width = omega (arith, ap (λ m. m * width) next, suc-mul k width) in record {
      begin = last.begin ∙ is.begin;
      items = last.items ∙ ap (λ l. l ++ item k) is.items ∙ append_assoc old.items (joined item k) (item k) ∙ ap (λ m. old.items ++ joined item m) next;
      count = omega (arith, last.count, is.count, more);
      left = omega (arith, last.left, is.left, more);
    }

-- zeros, one by one
pub joined_zeros : (n : ℕ) → joined (λ _. 0 ∷ []) n ≡ replicate n 0
joined_zeros zero = refl
joined_zeros (suc n) = let next : n + 1 ≡ suc n = omega arith in ap (λ l. l ++ (0 ∷ [])) (joined_zeros n) ∙ replicate-append-replicate n 1 0 ∙ ap (λ m. replicate m 0) next
