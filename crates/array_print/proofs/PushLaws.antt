-- Texts that are pushed one after another.
use Rattle.std.proofs.Common.{Option, Result, Ok, Err, OnErr, ◌≡◌, ◌≤◌, ◌+◌, ℕ, List, [], ◌++◌, min, vec_capacity, append_assoc, ap, refl, sym, subst, ◌∙◌, arith}
use Rattle.array_print.proofs.Words.{Appends, append-nil, appends_nothing, on_err_weaker, on_ok_weaker, part-then, sends-more, Sends, SendsPart}
use Rattle.array_print.specs.declared.bands.Room.{Room}
use Rattle.array_print.specs.inside.Pushed.{Held, Pushes}

-- a text that is appended while nothing is sent
pub held-made : (w : Option (List ℕ)) (text : List ℕ) (old new : Room) → new.text.items ≡ old.text.items ++ text → new.sent ≡ old.sent → vec_capacity old.text ≤ vec_capacity new.text → Held text w w old new
held-made w text old new made none grows = record { sends = ([], sym made, appends_nothing w); unsent = λ is. made; later = omega (arith, none); room = grows }

-- a text after which some of it, and what was held before, is sent
pub held-sent : {w w' : Option (List ℕ)} {text : List ℕ} (gone : List ℕ) (old new : Room) → Appends w w' gone → old.text.items ++ text ≡ gone ++ new.text.items → new.sent ≡ min (old.sent + 1) 18446744073709551615 → old.sent ≤ 18446744073709551615 → vec_capacity old.text ≤ vec_capacity new.text → Held text w w' old new
held-sent {w} {w'} {text} gone old new sent all counted small grows = record {
  sends = (gone, all, sent);
  unsent = λ is. absurd (omega (arith, is.0, is.1, counted));
  later = omega (arith, counted, small);
  room = grows;
}

-- nothing is appended
pub held-none : (w : Option (List ℕ)) (old : Room) → Held [] w w old old
held-none w old = held-made w [] old old (sym (append-nil old.text.items)) refl (omega arith)

-- the same, with the same text and count after it
pub held-end : {text : List ℕ} {w w' : Option (List ℕ)} {old mid : Room} (new : Room) → Held text w w' old mid → new.text ≡ mid.text → new.sent ≡ mid.sent → Held text w w' old new
held-end {text} {w} {w'} {old} {mid} new held same count = record {
  sends = subst (λ t. Sends w w' t.items (old.text.items ++ text)) (sym same) held.sends;
  unsent = λ is. ap (λ t. t.items) same ∙ held.unsent (is.0, sym count ∙ is.1);
  later = omega (arith, held.later, count);
  room = subst (λ t. vec_capacity old.text ≤ vec_capacity t) (sym same) held.room;
}

pub held-same : {a b : List ℕ} {w w' : Option (List ℕ)} {old new : Room} → a ≡ b → Held a w w' old new → Held b w w' old new
held-same {a} {b} {w} {w'} {old} {new} same held = subst (λ t. Held t w w' old new) same held

pub pushes-same : {A E : Type 0} {a b : List ℕ} {r : Result A E} {w w' : Option (List ℕ)} {old new : Room} → a ≡ b → Pushes a r w w' old new → Pushes b r w w' old new
pushes-same {A} {E} {a} {b} {r} {w} {w'} {old} {new} same pushed = subst (λ t. Pushes t r w w' old new) same pushed

module _ {a : List ℕ} {w w1 : Option (List ℕ)} {old mid : Room} (first : Held a w w1 old mid) where
  -- a second text
  pub held-more : {b : List ℕ} {w2 : Option (List ℕ)} {new : Room} → Held b w1 w2 mid new → Held (a ++ b) w w2 old new
  held-more {b} {w2} {new} second = record {
    sends = sends-more w w1 w2 old.text.items mid.text.items new.text.items a b first.sends second.sends;
    unsent = λ is.
        let same : mid.sent ≡ old.sent = omega (arith, first.later, second.later, is.1) in
        let late = second.unsent (omega (arith, is.0, same), is.1 ∙ sym same) in
        late ∙ ap (λ t. t ++ b) (first.unsent (is.0, same)) ∙ append_assoc old.text.items a b;
    later = omega (arith, first.later, second.later);
    room = omega (arith, first.room, second.room);
  }

  -- a fault in a second text
  pub part-after : (w2 : Option (List ℕ)) (b : List ℕ) → SendsPart w1 w2 (mid.text.items ++ b) → SendsPart w w2 (old.text.items ++ (a ++ b))
  part-after w2 b part = part-then w w1 w2 old.text.items mid.text.items a b first.sends part

-- a second text, after one that was pushed
pub then : {A E : Type 0} {a b : List ℕ} {r : Result A E} {w w1 w2 : Option (List ℕ)} {old mid new : Room} → Held a w w1 old mid → Pushes b r w1 w2 mid new → Pushes (a ++ b) r w w2 old new
then {A} {E} {a} {b} {r} {w} {w1} {w2} first second = record {
  ok = on_ok_weaker r (held-more first) second.ok;
  err = on_err_weaker r (part-after first w2 b) second.err;
  room = omega (arith, first.room, second.room);
}

-- a fault, whichever it is
pub failed : {A E P : Type 0} (r : Result A E) → P → OnErr r P
failed (Ok x) part = cc
failed (Err e) part = part
