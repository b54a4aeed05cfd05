-- The entries of a list, written one after another.
use Rattle.std.proofs.Common.{◌≡◌, ◌≤◌, ◌<◌, ◌+◌, ◌-◌, ℕ, zero, suc, Bool, true, false, ◌&&◌, List, [], ◌∷◌, ◌++◌, codes, decimal, length, get_or, drop, refl, sym, ap, ◌∙◌, append_assoc, nat_eq, arith}
use Rattle.npy_format.proofs.Words.{and-false, at_drop_all, flat_map, ne_eqb, Field, Descr, Fields, listed, before, item_size, rest_at, ScalarDescr, RecordDescr, quoted, opened_entry, entry, gap, entry_separator, separated, in_brackets, entries, written_descr}

entries_before : (from : ℕ) (name : List ℕ) (at : ℕ) (descr : Descr) (rest : Fields) (bytes : ℕ) → entries from (before name at descr rest) bytes ≡ gap (at - from) ++ (entry name (written_descr descr) ∷ entries (at + item_size descr) rest bytes)
entries_before from name at (ScalarDescr scalar) rest bytes = refl
entries_before from name at (RecordDescr structure) rest bytes = refl

after_gap : (first : Bool) (text rest : List ℕ) → entry_separator first ++ (text ++ (codes ", " ++ rest)) ≡ (entry_separator first ++ (text ++ [])) ++ (codes ", " ++ rest)
after_gap first text rest = sym (append_assoc (entry_separator first) (text ++ []) (codes ", " ++ rest) ∙ ap (λ t. entry_separator first ++ t) (append_assoc text [] (codes ", " ++ rest)))

-- a gap, and an entry after it
separated_gap : (first : Bool) (n : ℕ) (text : List ℕ) (texts : List (List ℕ)) → separated first (gap n ++ (text ∷ texts)) ≡ separated first (gap n) ++ (entry_separator (first && nat_eq n 0) ++ (text ++ separated false texts))
separated_gap true zero text texts = refl
separated_gap false zero text texts = refl
separated_gap first (suc n) text texts =
    let other : nat_eq (suc n) 0 ≡ false = ne_eqb (suc n) 0 (λ same. omega (arith, same)) in
    let rest = text ++ separated false texts in
    after_gap first (entry [] (quoted (codes "|V" ++ decimal (suc n)))) rest
    ∙ ap (λ b. separated first (gap (suc n)) ++ (entry_separator b ++ rest)) (sym (and-false first) ∙ ap (λ b. first && b) (sym other))

regroup : (a b c d e f g : List ℕ) → ((((a ++ b) ++ (c ++ d)) ++ e) ++ f) ++ g ≡ a ++ (b ++ (c ++ ((d ++ (e ++ f)) ++ g)))
regroup a b c d e f g = simp append_assoc

-- a field and the gap before it are written
pub one_written : (from bytes : ℕ) (fields : List Field) (field : Field) (i : ℕ) (first next : Bool) (text padded named spelled whole : List ℕ) → i < length fields → field ≡ get_or fields i field
    → padded ≡ text ++ separated first (gap (field.at - from)) → next ≡ (first && nat_eq (field.at - from) 0)
    → named ≡ padded ++ (entry_separator next ++ opened_entry field.name) → spelled ≡ named ++ written_descr field.descr
    → text ++ separated first (entries from (listed (drop i fields)) bytes) ≡ whole
    → (spelled ++ codes ")") ++ separated false (entries (field.at + item_size field.descr) (listed (drop (i + 1) fields)) bytes) ≡ whole
one_written from bytes fields field i first next text padded named spelled whole l is pad is_next name descr more =
    let rest = listed (drop (i + 1) fields) in
    let left = entries (field.at + item_size field.descr) rest bytes in
    let whole_entry = entry field.name (written_descr field.descr) in
    let here = ap (λ (fs : List Field). entries from (listed fs) bytes) (rest_at fields field i l is) ∙ entries_before from field.name field.at field.descr rest bytes in
    let g = field.at - from in
    let joined = regroup text (separated first (gap g)) (entry_separator next) (opened_entry field.name) (written_descr field.descr) (codes ")") (separated false left) in
    rw (descr, name, pad) (joined
    ∙ ap (λ (b : Bool). text ++ (separated first (gap g) ++ (entry_separator b ++ (whole_entry ++ separated false left)))) is_next
    ∙ ap (λ (t : List ℕ). text ++ t) (sym (separated_gap first g whole_entry left) ∙ ap (separated first) (sym here))
    ∙ more)

-- all fields are written
pub all_written : (from bytes : ℕ) (fields : List Field) (i : ℕ) → length fields ≤ i → entries from (listed (drop i fields)) bytes ≡ gap (bytes - from)
all_written from bytes fields i l = at_drop_all (λ (fs : List Field). entries from (listed fs) bytes) fields i l

separated_later : (texts : List (List ℕ)) → flat_map (λ later. codes ", " ++ later) texts ≡ separated false texts
separated_later [] = refl
separated_later (text ∷ texts) = ap (λ (l : List ℕ). 44 ∷ (32 ∷ (text ++ l))) (separated_later texts)

-- entries in brackets, one after another
pub in_brackets-separated : (texts : List (List ℕ)) → in_brackets texts ≡ codes "[" ++ (separated true texts ++ codes "]")
in_brackets-separated [] = refl
in_brackets-separated (text ∷ texts) = ap (λ (l : List ℕ). codes "[" ++ (text ++ l ++ codes "]")) (separated_later texts)

closed : (before brackets texts : List ℕ) → ((before ++ brackets) ++ texts) ++ codes "]" ≡ before ++ (brackets ++ (texts ++ codes "]"))
closed before brackets texts = simp append_assoc

-- the list is written
pub list_written : (from bytes : ℕ) (fields : List Field) (i : ℕ) (first : Bool) (before text all : List ℕ) → length fields ≤ i → all ≡ text ++ separated first (gap (bytes - from))
    → text ++ separated first (entries from (listed (drop i fields)) bytes) ≡ (before ++ codes "[") ++ separated true (entries 0 (listed fields) bytes) → all ++ codes "]" ≡ before ++ in_brackets (entries 0 (listed fields) bytes)
list_written from bytes fields i first before text all l last so_far =
    ap (λ (t : List ℕ). t ++ codes "]") (last ∙ ap (λ (es : List (List ℕ)). text ++ separated first es) (sym (all_written from bytes fields i l)) ∙ so_far)
    ∙ closed before (codes "[") (separated true (entries 0 (listed fields) bytes))
    ∙ ap (λ (t : List ℕ). before ++ t) (sym (in_brackets-separated (entries 0 (listed fields) bytes)))

joined : (a b c d e f g : List ℕ) → (((((([] ++ a) ++ b) ++ c) ++ d) ++ e) ++ f) ++ g ≡ a ++ (b ++ (c ++ (d ++ (e ++ (f ++ g)))))
joined a b c d e f g = simp append_assoc

-- seven texts, one after another
pub seven_written : (a b c d e f g t u v w x y z n : List ℕ) → n ≡ [] → t ≡ n ++ a → u ≡ t ++ b → v ≡ u ++ c → w ≡ v ++ d → x ≡ w ++ e → y ≡ x ++ f → z ≡ y ++ g → z ≡ a ++ (b ++ (c ++ (d ++ (e ++ (f ++ g)))))
seven_written a b c d e f g t u v w x y z n is-n is-t is-u is-v is-w is-x is-y is-z = rw (is-z, is-y, is-x, is-w, is-v, is-u, is-t, is-n) (joined a b c d e f g)
