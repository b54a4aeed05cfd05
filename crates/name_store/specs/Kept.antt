-- The kept states, computed from the present state by undoing the changes, the newest first. The names and the buffers
-- are computed separately, and so are the bytes of each buffer.
use Rattle.name_store.specs.Words.{FinMap, from_entries, retain_keys, nat_cmp, items_in, multiples, assigned}
use Rattle.std.specs.Prelude.{insert, ℕ, List, [], ◌∷◌, Some, None, nat_eq, if◌then◌else◌, Option, suc, length}
use Rattle.name_store.specs.States.{Array, Buffer}
use Rattle.name_store.specs.Arrays.{put_array, without, is_in_use}
use Rattle.name_store.specs.Targets.{target_offsets}
use Rattle.name_store.specs.Entries.{array_at}
use Rattle.name_store.specs.declared.change.Change.{Change}
use Rattle.name_store.specs.declared.change.Change.TheVariants.{Bind, Unbind, Write}
use Rattle.name_store.specs.declared.target.OldItems.{OldItems}
use Rattle.name_store.specs.declared.slot.Slot.{Slot}

abbrev pub Names : Type 0
Names = List (List ℕ × Array)

-- the names before a change, if these are the names after it
abbrev pub names_before : Change → Names → Names
names_before (Bind key None) names = without names key
names_before (Bind key (Some entry)) names = put_array names key (array_at entry)
names_before (Unbind place key entry) names = insert names place (key, array_at entry)
names_before (Write number target items) names = names

-- `bytes` after the old items, which are adjacent in a block of their own, are written to the offsets
abbrev pub with_old : List ℕ → OldItems → List ℕ → List ℕ
with_old offsets items bytes = assigned offsets (multiples items.width (length offsets)) items.width items.block bytes

-- the bytes of buffer `number` before a change, if these are its bytes after it
abbrev pub bytes_before : Change → ℕ → List ℕ → List ℕ
bytes_before (Bind key earlier) number bytes = bytes
bytes_before (Unbind place key entry) number bytes = bytes
bytes_before (Write written target items) number bytes =
    if nat_eq number written then with_old (target_offsets target) items bytes else bytes

-- the number of old bytes that are kept to undo a change
abbrev pub patch_size : Change → ℕ
patch_size (Bind key earlier) = 0
patch_size (Unbind place key entry) = 0
patch_size (Write number target items) = length items.block

-- the names before all of the changes, which are ordered from the oldest to the newest
abbrev pub past_names : List Change → Names → Names
past_names [] names = names
past_names (change ∷ changes) names = names_before change (past_names changes names)

abbrev pub past_bytes : List Change → ℕ → List ℕ → List ℕ
past_bytes [] number bytes = bytes
past_bytes (change ∷ changes) number bytes = bytes_before change number (past_bytes changes number bytes)

abbrev pub past_buffer : List Change → ℕ → Slot → Buffer
past_buffer changes number s = record { descr = s.descr; items = items_in s.descr s.items (past_bytes changes number s.block) }

-- the buffers in the slots, the first of which has this number, as they were before the changes
abbrev pub numbered : List Change → ℕ → List (Option Slot) → List (ℕ × Buffer)
numbered changes number [] = []
numbered changes number (None ∷ slots) = numbered changes (suc number) slots
numbered changes number (Some slot ∷ slots) = (number, past_buffer changes number slot) ∷ numbered changes (suc number) slots

-- the buffers that these names use, as they were before the changes
abbrev pub past_buffers : List Change → Names → List (Option Slot) → FinMap nat_cmp Buffer
past_buffers changes names slots = retain_keys (from_entries (numbered changes 0 slots)) (is_in_use names)

-- the state before each change
abbrev pub kept_states : List Change → Names → List (Option Slot) → List (Names × FinMap nat_cmp Buffer)
kept_states [] names slots = []
kept_states (change ∷ changes) names slots =
    let past = past_names (change ∷ changes) names in (past, past_buffers (change ∷ changes) past slots) ∷ kept_states changes names slots
