-- The text of fields, written one after another.
use Rattle.std.proofs.Common.{◌≡◌, ◌≤◌, ◌<◌, ◌+◌, ◌-◌, ℕ, List, ◌++◌, length, get_or, drop, refl, sym, ap, ◌∙◌, append_assoc}
use Rattle.elem_descr.proofs.Words.{at_drop_all, Field, Descr, ScalarDescr, RecordDescr, Fields, listed, before, item_size, written_pad, written_name, written_fields, written_format, rest_at}

written_before : (from : ℕ) (name : List ℕ) (at : ℕ) (descr : Descr) (rest : Fields) (bytes : ℕ) → written_fields from (before name at descr rest) bytes ≡ written_pad (at - from) ++ (written_format descr ++ (written_name name ++ written_fields (at + item_size descr) rest bytes))
written_before from name at (ScalarDescr scalar) rest bytes = refl
written_before from name at (RecordDescr structure) rest bytes = refl

regroup : (a b c d e : List ℕ) → (((a ++ b) ++ c) ++ d) ++ e ≡ a ++ (b ++ (c ++ (d ++ e)))
regroup a b c d e = simp append_assoc

-- a field, its padding and its name are written
pub one_written : (from bytes : ℕ) (fields : List Field) (field : Field) (i : ℕ) (text padded spelled whole : List ℕ) → i < length fields → field ≡ get_or fields i field → padded ≡ text ++ written_pad (field.at - from) → spelled ≡ padded ++ written_format field.descr → text ++ written_fields from (listed (drop i fields)) bytes ≡ whole → (spelled ++ written_name field.name) ++ written_fields (field.at + item_size field.descr) (listed (drop (i + 1) fields)) bytes ≡ whole
one_written from bytes fields field i text padded spelled whole l is pad descr more =
    let rest = listed (drop (i + 1) fields) in
    let here = ap (λ (fs : List Field). written_fields from (listed fs) bytes) (rest_at fields field i l is) ∙ written_before from field.name field.at field.descr rest bytes in
    let joined = regroup text (written_pad (field.at - from)) (written_format field.descr) (written_name field.name) (written_fields (field.at + item_size field.descr) rest bytes) in
    rw (descr, pad) (joined ∙ ap (λ (t : List ℕ). text ++ t) (sym here) ∙ more)

-- all fields are written
pub all_written : (from bytes : ℕ) (fields : List Field) (i : ℕ) → length fields ≤ i → written_fields from (listed (drop i fields)) bytes ≡ written_pad (bytes - from)
all_written from bytes fields i l = at_drop_all (λ (fs : List Field). written_fields from (listed fs) bytes) fields i l
