-- Results that are appended to a block.
use Rattle.std.proofs.Common.{◌≡◌, ◌+◌, ◌*◌, ◌<◌, ◌≤◌, ◌++◌, ℕ, suc, List, [], sym, ap, ◌∙◌, append-nil, append_assoc, arith, suc-mul, mul-le-mul_right}
use Rattle.elementwise.proofs.Words.{AreAdded, joined}

-- the same, in other words
pub added-as : (n n' : ℕ) (bytes bytes' : List ℕ) (old new : List ℕ × ℕ) → AreAdded n bytes old new → n ≡ n' → bytes ≡ bytes' → AreAdded n' bytes' old new
added-as n n' bytes bytes' old new is few same = record { bytes = is.bytes ∙ ap (λ l. old.0 ++ l) same; left = omega (arith, is.left, few) }

-- bytes, and then more
pub added-more : (m n : ℕ) (xs ys : List ℕ) (old now new : List ℕ × ℕ) → AreAdded m xs old now → AreAdded n ys now new → AreAdded (m + n) (xs ++ ys) old new
added-more m n xs ys old now new is more = record {
  bytes = more.bytes ∙ ap (λ l. l ++ ys) is.bytes ∙ append_assoc old.0 xs ys;
  left = omega (arith, is.left, more.left);
}

-- ---- results of one width

pub none-added : (width : ℕ) (old : List ℕ × ℕ) → AreAdded (0 * width) [] old old
none-added width old = record { bytes = sym (append-nil old.0); left = omega arith }

pub one-more : (item : ℕ → List ℕ) (width k : ℕ) (old now new : List ℕ × ℕ) → AreAdded (k * width) (joined item k) old now → AreAdded width (item k) now new → AreAdded ((k + 1) * width) (joined item (k + 1)) old new
one-more item width k old now new is last =
    let next : suc k ≡ k + 1 = omega arith in
    let more : k * width + width ≡ (k + 1) * width = omega (arith, ap (λ m. m * width) next, suc-mul k width) in
    added-as (k * width + width) ((k + 1) * width) (joined item k ++ item k) (joined item (k + 1)) old new (added-more (k * width) width (joined item k) (item k) old now new is last) more (ap (joined item) next)

-- there is room for each of `n` results
pub room-for : (width n k left room : ℕ) → k < n → n * width ≤ room → k * width + left ≡ room → width ≤ left
room-for width n k left room low fits is = let most : suc k * width ≤ n * width = mul-le-mul_right width low in omega (arith, most, suc-mul k width, fits, is)
