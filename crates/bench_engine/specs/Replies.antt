-- The texts of replies.
use Rattle.std.specs.Prelude.{◌≡◌, ℕ, Bool, false, if◌then◌else◌, List, [], ◌∷◌, ◌++◌, Option, Some, None, codes, decimal}
use Rattle.bench_engine.specs.Words.{flat_map, Refusal, Descr, spelling, written_format, item_size, shape_text, first_address, printed_strides, is_c_contiguous, is_f_contiguous, strides_text, refusal_text, State, ScalarDescr, RecordDescr}
use Rattle.bench_engine.specs.declared.replies.Origin.{Origin}
use Rattle.bench_engine.specs.declared.replies.Origin.TheVariants.{New, View, Copy}

-- the answer to a command, and whether it was accepted
pub record Reply : Type 0 where
  pub text : List ℕ
  pub accepted : Bool

-- the reply for a refusal
abbrev pub refusal : Refusal → Reply
refusal r = record { text = refusal_text r; accepted = false }

-- There is no reply and `out` is empty, or `out` is the text of the one reply, which is accepted or refused.
abbrev pub Tells : List Reply → Option Bool → List ℕ → Type 0
Tells replies None out = (replies ≡ []) × (out ≡ [])
Tells replies (Some accepted) out = (reply : Reply) × (replies ≡ reply ∷ []) × (reply.accepted ≡ accepted) × (out ≡ reply.text)

-- an element type: a scalar as its type string, a record as its format text
abbrev pub descr_text : Descr → List ℕ
descr_text (ScalarDescr scalar) = spelling scalar
descr_text (RecordDescr structure) = written_format (RecordDescr structure)

-- X DESCR SHAPE
abbrev pub array_words : List ℕ → Descr → List ℕ → List ℕ
array_words name descr shape = name ++ codes " " ++ descr_text descr ++ codes " " ++ shape_text shape

abbrev pub origin_word : Origin → List ℕ
origin_word New = codes "new"
origin_word View = codes "view"
origin_word Copy = codes "copy"

-- ok X DESCR SHAPE ORIGIN
abbrev pub bound_text : List ℕ → Descr → List ℕ → Origin → List ℕ
bound_text name descr shape origin = codes "ok " ++ array_words name descr shape ++ codes " " ++ origin_word origin

abbrev pub yes_or_no : Bool → List ℕ
yes_or_no is = if is then codes "yes" else codes "no"

-- the memory orders in which items of this size, at these addresses, are contiguous: CF, C, F, or - for none
abbrev pub order_text : ℕ → List ℕ → List ℕ → List ℕ
order_text item shape addresses =
    if is_c_contiguous item addresses then (if is_f_contiguous item shape addresses then codes "CF" else codes "C")
    else if is_f_contiguous item shape addresses then codes "F" else codes "-"

-- strides SHAPE at N order O write W, for items of this size at these addresses
abbrev pub layout_words : ℕ → List ℕ → List ℕ → Bool → List ℕ
layout_words item shape addresses writable =
    codes "strides " ++ strides_text (printed_strides shape addresses) ++ codes " at " ++ decimal (first_address addresses)
    ++ codes " order " ++ order_text item shape addresses ++ codes " write " ++ yes_or_no writable

-- info X DESCR SHAPE strides SHAPE at N order O write W
abbrev pub info_text : List ℕ → Descr → List ℕ → List ℕ → Bool → List ℕ
info_text name descr shape addresses writable =
    codes "info " ++ array_words name descr shape ++ codes " " ++ layout_words (item_size descr) shape addresses writable

-- shares yes or shares no
abbrev pub shares_text : Bool → List ℕ
shares_text is = codes "shares " ++ yes_or_no is

-- names X Y .., for all bound names
abbrev pub names_text : State → List ℕ
names_text s = codes "names" ++ flat_map (λ entry. codes " " ++ entry.0) s.names

-- format TEXT
abbrev pub format_text : Descr → List ℕ
format_text descr = codes "format " ++ written_format descr
