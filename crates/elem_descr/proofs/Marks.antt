-- The blanks and marks at the front of a text, one by one.
use Rattle.std.proofs.Common.{◌≡◌, ◌<◌, ◌+◌, ℕ, List, length, drop, get_or, Some, None, refl, add-one, drop-cons}
use Rattle.elem_descr.proofs.Words.{Mark, after, marked}

pub marked_more : (mark next : Mark) (text : List ℕ) (i : ℕ) → i < length text → after mark (get_or text i 0) ≡ Some next → marked mark (drop i text) ≡ marked next (drop (i + 1) text)
marked_more mark next text i within e = rw (drop-cons text i 0, e, add-one) refl

pub marked_stops : (mark : Mark) (text : List ℕ) (i : ℕ) → i < length text → after mark (get_or text i 0) ≡ None → marked mark (drop i text) ≡ (mark, drop i text)
marked_stops mark text i within e = rw (drop-cons text i 0, e) refl
