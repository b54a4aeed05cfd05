-- Texts that are appended to what is held.
use Rattle.std.specs.Prelude.{◌≡◌, ◌<◌, ◌≤◌, ◌++◌, ℕ, List, OnErr, OnOk, Option, Result, vec_capacity}
use Rattle.array_print.specs.Sending.{Sends, SendsPart}
use Rattle.array_print.specs.declared.bands.Room.{Room}

-- Nothing was sent between two counts of how often text was sent. The greatest count says nothing.
abbrev pub IsUnsent : ℕ → ℕ → Type 0
IsUnsent before after = (before < 18446744073709551615) × (after ≡ before)

-- The text was appended, and a first part of what is held by then may be sent. If nothing was, all is held.
pub record Held (text : List ℕ) (written written' : Option (List ℕ)) (old new : Room) : Type 0 where
  pub sends : Sends written written' new.text.items (old.text.items ++ text)
  pub unsent : IsUnsent old.sent new.sent → new.text.items ≡ old.text.items ++ text
  pub later : old.sent ≤ new.sent
  pub room : vec_capacity old.text ≤ vec_capacity new.text

-- The text was appended. After a fault, a part was sent.
pub record Pushes {A E : Type 0} (text : List ℕ) (result : Result A E) (written written' : Option (List ℕ)) (old new : Room) : Type 0 where
  pub ok : OnOk result (Held text written written' old new)
  pub err : OnErr result (SendsPart written written' (old.text.items ++ text))
  pub room : vec_capacity old.text ≤ vec_capacity new.text
