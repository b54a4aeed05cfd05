-- The value of `undo` is a number from 0 to 64.
use Rattle.std.proofs.Common.{◌≡◌, ◌≤◌, ◌<◌, ℕ, zero, suc, true, false, List, [], ◌∷◌, ◌++◌, length, Option, Some, None, Result, Ok, refl, sym, ap, subst, ◌∙◌, inl, inr, arith, codes, slice_index, unwrap_or, ◌||◌}
use Rattle.std.specs.Prelude.{pos, option_map, option_and_then, slice_get}
use Rattle.std.specs.List.{All, slice_index_or}
use Rattle.std.specs.Str.{bytes_eq}
use Rattle.std.specs.Str.Parse.{ParsesUnsigned, digits_value, without_leading_plus}
use Rattle.std.specs.Borrow.{Bor}
use Rattle.std.proofs.lemmas.List.Elements.{All-get_or, All-nil}
use Rattle.std.proofs.lemmas.Slice.Eq.{bytes_eq-Decides}
use Rattle.clap.specs.Words.{Accepts, IsSignedIn, IsParsedFrom, args_of, groups_of, found_of, one_text, matched_of, read_as, reading_of, without_minus, parser_of, ReadsOne}
use Rattle.clap.specs.Facts.{Entry, EntryPasses, PassesArg, HasReading, parser_of_value}
use Rattle.clap.specs.Built.{AddsArg, SameRules, IsAuto, IsPlainArg}
use Rattle.clap.specs.declared.builder.arg.Arg.{Arg}
use Rattle.clap.specs.declared.builder.command.Command.{Command}
use Rattle.clap.specs.declared.builder.command.Command.TheViews.{out-Command}
use Rattle.clap.proofs.BuiltLemmas.{plain_same}
use Rattle.clap.specs.declared.builder.value_parser.ValueParser.{ValueParser}
use Rattle.clap.specs.declared.builder.value_parser.ValueParser.TheVariants.{Signed}
use Rattle.clap.specs.declared.builder.value_parser.Reading.{Reading}
use Rattle.clap.specs.declared.parser.matches.ArgMatches.{ArgMatches}
use Rattle.clap.specs.declared.parser.matches.MatchedArg.{MatchedArg}
use Rattle.clap.proofs.CallerLemmas.{added_plain, entry_by_id, same_rules_by_id}
use Rattle.clap.proofs.CallerReads.{signed_reads}
use Rattle.host_process.specs.inside.Depths.{IsDepth, IsNamed, TakesDepth}

-- the text of a number in the range
abbrev pub IsSmall : List ℕ → Type 0
IsSmall text = (given : List ℕ) × (text ≡ without_minus given) × IsSignedIn (pos 0) (pos 64) given

abbrev range : ValueParser
range = Signed (pos 0) (pos 64)

module _ (c : Command) (m : ArgMatches) (h : TakesDepth c) (p : IsParsedFrom c m) where
  abbrev id : List ℕ
  id = h.undo.id.now

  first : (text : List ℕ) → id ≡ text → slice_index text 0 ≡ 117
  first text is = rw (← is, h.depth.named.id) refl

  at : slice_index_or (args_of c) 1 h.undo ≡ h.undo
  at = ap (λ args. slice_index_or args 1 h.undo) h.args

  within : 1 < length (args_of c)
  within = subst (λ (args : List Arg). 1 < length args) (sym h.args) (omega arith)

  alone : (j : ℕ) (e : Arg) → j < length (args_of c) → bytes_eq (slice_index_or (args_of c) j e).id.now (slice_index_or (args_of c) 1 h.undo).id.now ≡ true → j ≡ 1
  alone j e below same = among j (subst (λ (args : List Arg). j < length args) h.args below)
      (subst (λ (own : List ℕ). bytes_eq (slice_index_or (h.dir ∷ h.undo ∷ h.script ∷ []) j e).id.now own ≡ true) h.depth.named.id
      (subst (λ (args : List Arg). bytes_eq (slice_index_or args j e).id.now (slice_index_or args 1 h.undo).id.now ≡ true) h.args same))
    where
      among : (j : ℕ) → j < 3 → bytes_eq (slice_index_or (h.dir ∷ h.undo ∷ h.script ∷ []) j e).id.now (codes "undo") ≡ true → j ≡ 1
      among zero below same = let no : false ≡ true = rw h.first.id at same in cc
      among (suc zero) below same = refl
      among (suc (suc zero)) below same = let no : false ≡ true = rw h.last.id at same in cc
      among (suc (suc (suc j))) below same = absurd (omega arith)

  kept : (y : Arg) → (j : ℕ) → j < length (args_of p.built) → slice_index_or (args_of p.built) j y ≡ y → bytes_eq y.id.now id ≡ true → SameRules h.undo y
  kept y j below is same =
      subst (λ (a : Arg). SameRules a y) at (same_rules_by_id c m p 1 h.undo within alone own j y below is (subst (λ (a : Arg). bytes_eq y.id.now a.id.now ≡ true) (sym at) same))
    where
      own : IsAuto (slice_index_or (args_of c) 1 h.undo) → ⊥
      own auto = elim (subst IsAuto at auto) [
        | inl help ↦ let no : ◌≡◌ {A = ℕ} 104 117 = first _ help in absurd (omega arith)
        | inr version ↦ let no : ◌≡◌ {A = ℕ} 118 117 = first _ version in absurd (omega arith)
      ]

  -- an argument with this id takes numbers from 0 to 64
  in_range : (y : Arg) → SameRules h.undo y → parser_of y ≡ range
  in_range y rules = ap parser_of_value (rules.parser range h.depth.range)

  passed : (text : List ℕ) → PassesArg p.built id text → IsSignedIn (pos 0) (pos 64) text
  passed text (j, y, below, is, holds) = subst (λ (q : ValueParser). Accepts y.ignore_case q text) (in_range y (kept y j below is holds.0)) holds.1

  read_so : (how : Reading) → HasReading p.built id how → how ≡ reading_of range
  read_so how (j, y, below, is, holds) = sym holds.1 ∙ ap reading_of (in_range y (kept y j below is holds.0))

  -- the value in the entry of the id is small
  small_in : (x : MatchedArg) (e : Entry) → e.1 ≡ x → e.0.now ≡ id → EntryPasses p.built e → (text : List ℕ) → option_map (λ s. read_as x.reading s.now) (slice_get x.vals.items 0) ≡ Some text → IsSmall text
  small_in x e is key passes text read = of_values x.vals.items values read
    where
      no_group : e.1.is_group ≡ true → ⊥
      no_group group = elim (passes.3 group) [
        | inl none ↦ let no : ◌≡◌ {A = ℕ} 0 117 = first [] (sym key ∙ none) in absurd (omega arith)
        | inr some ↦ let no : 0 < 0 = rw (p.from.plain h.plain).1 at some in absurd (omega arith)
      ]

      values : All (λ v. PassesArg p.built id v.now) x.vals.items
      values = elim passes.0 [
        | inl group ↦ absurd (no_group group)
        | inr all ↦ subst (λ (w : List ℕ). All (λ v. PassesArg p.built w v.now) x.vals.items) key (subst (λ (y : MatchedArg). All (λ v. PassesArg p.built e.0.now v.now) y.vals.items) is all)
      ]

      reading : x.reading ≡ reading_of range
      reading = elim passes.4 [
        | inl group ↦ absurd (no_group group)
        | inr has ↦ ap (λ (y : MatchedArg). y.reading) (sym is) ∙ read_so e.1.reading (subst (λ (w : List ℕ). HasReading p.built w e.1.reading) key has)
      ]

      of_values : (vals : List (Bor (List ℕ))) → All (λ v. PassesArg p.built id v.now) vals → option_map (λ s. read_as x.reading s.now) (slice_get vals 0) ≡ Some text → IsSmall text
      of_values [] all read = cc
      of_values (v ∷ vals) all read =
          let same : read_as x.reading v.now ≡ text = ap (λ (o : Option (List ℕ)). unwrap_or o text) read in
          (v.now, sym same ∙ ap (λ (how : Reading). read_as how v.now) reading, passed v.now (All-get_or (λ v. PassesArg p.built id v.now) (v ∷ vals) 0 v (omega arith) all))

  small_at : (found : Option MatchedArg) → matched_of (found_of m) id ≡ found → (text : List ℕ) → option_and_then (λ a. option_map (λ s. read_as a.reading s.now) (slice_get a.vals.items 0)) found ≡ Some text → IsSmall text
  small_at None is text read = cc
  small_at (Some x) is text read =
      let parsed = p.parsed (p.from.globals ∙ h.local) in
      let got = entry_by_id (EntryPasses p.built) (found_of m).entries.items id x parsed.values is in
      small_in x got.0 got.1 ((bytes_eq-Decides got.0.0.now id).0 got.2) got.3 text read

-- the text of `undo` is that of a number from 0 to 64
small : (c : Command) (m : ArgMatches) → TakesDepth c → IsParsedFrom c m → (text : List ℕ) → one_text (found_of m) (codes "undo") ≡ Some text → IsSmall text
small c m h p text read = small_at c m h p (matched_of (found_of m) h.undo.id.now) refl text (rw h.depth.named.id read)

-- what is read as a number of 8 bits is no more than 64
pub most : {E : Type 0} (gives : List ℕ → Result ℕ E → Type 0) (c : Command) (m : ArgMatches) (one : Option ℕ) (otherwise : ℕ) → ((u : List ℕ) (x : Result ℕ E) → gives u x → ParsesUnsigned 8 10 u x) → otherwise ≤ 64 →
    TakesDepth c → IsParsedFrom c m → ((one_text (found_of m) (codes "undo") ≡ None) → one ≡ None) →
    ((text : List ℕ) → one_text (found_of m) (codes "undo") ≡ Some text → ReadsOne gives text one) → unwrap_or one otherwise ≤ 64
most {E} gives c m one otherwise only few h p none some = go (one_text (found_of m) (codes "undo")) refl
  where
    go : (text : Option (List ℕ)) → one_text (found_of m) (codes "undo") ≡ text → unwrap_or one otherwise ≤ 64
    go None is = subst (λ (o : Option ℕ). unwrap_or o otherwise ≤ 64) (sym (none is)) few
    go (Some text) is =
        let given = small c m h p text is in
        let got = signed_reads E gives 8 0 64 given.0 one (subst (λ (t : List ℕ). ReadsOne gives t one) given.1 (some text is)) only (omega arith) given.2 in
        subst (λ (o : Option ℕ). unwrap_or o otherwise ≤ 64) (sym got.1) got.3

-- it is read as the number that it writes
pub as_written : {E : Type 0} (gives : List ℕ → Result ℕ E → Type 0) (c : Command) (m : ArgMatches) (one : Option ℕ) → ((u : List ℕ) (x : Result ℕ E) → gives u x → ParsesUnsigned 8 10 u x) →
    TakesDepth c → IsParsedFrom c m → ((one_text (found_of m) (codes "undo") ≡ None) → one ≡ None) →
    ((text : List ℕ) → one_text (found_of m) (codes "undo") ≡ Some text → ReadsOne gives text one) →
    unwrap_or one 16 ≡ digits_value 10 (without_leading_plus (unwrap_or (one_text (found_of m) (codes "undo")) (codes "16")))
as_written {E} gives c m one only h p none some = go (one_text (found_of m) (codes "undo")) refl
  where
    go : (text : Option (List ℕ)) → one_text (found_of m) (codes "undo") ≡ text → unwrap_or one 16 ≡ digits_value 10 (without_leading_plus (unwrap_or text (codes "16")))
    go None is = subst (λ (o : Option ℕ). unwrap_or o 16 ≡ 16) (sym (none is)) refl
    go (Some text) is =
        let given = small c m h p text is in
        let got = signed_reads E gives 8 0 64 given.0 one (subst (λ (t : List ℕ). ReadsOne gives t one) given.1 (some text is)) only (omega arith) given.2 in
        let reads : gives text (Ok got.0) = subst (ReadsOne gives text) got.1 (some text is) in
        subst (λ (o : Option ℕ). unwrap_or o 16 ≡ digits_value 10 (without_leading_plus text)) (sym got.1) (only text (Ok got.0) reads).1

named : (name : List ℕ) (a b : Arg) → SameRules a b → IsNamed name a → IsNamed name b
named name a b rules n = record {
  id = ap (λ x. x.now) rules.id ∙ n.id;
  plain = plain_same a b rules n.plain;
  local = rules.global ∙ n.local;
}

local_after : (old new : Command) (a : Arg) → AddsArg old a new → (out-Command old).has_globals ≡ false → a.global ≡ false → (out-Command new).has_globals ≡ false
local_after old new a added none local = added.globals ∙ ap (λ b. b || a.global) none ∙ ap (λ b. false || b) local

-- a command to which the three arguments are added one after the other
pub takes_depth : (start one two all : Command) (dir undo script : Arg) → args_of start ≡ [] → groups_of start ≡ [] → (out-Command start).has_globals ≡ false →
    AddsArg start dir one → AddsArg one undo two → AddsArg two script all → IsNamed (codes "dir") dir → IsDepth undo → IsNamed (codes "script") script → TakesDepth all
takes_depth start one two all dir undo script no_args no_groups no_globals add_dir add_undo add_script is_dir depth is_script = record {
  dir = add_dir.arg;
  undo = add_undo.arg;
  script = add_script.arg;
  args = add_script.args ∙ ap (λ l. l ++ add_script.arg ∷ []) (add_undo.args ∙ ap (λ l. l ++ add_undo.arg ∷ []) (add_dir.args ∙ ap (λ l. l ++ add_dir.arg ∷ []) no_args));
  first = named _ dir add_dir.arg add_dir.rules is_dir;
  depth = record {
    named = named _ undo add_undo.arg add_undo.rules depth.named;
    range = add_undo.rules.parser range depth.range;
  };
  last = named _ script add_script.arg add_script.rules is_script;
  plain = added_plain two all script add_script (added_plain one two undo add_undo (added_plain start one dir add_dir (subst (All IsPlainArg) (sym no_args) (All-nil IsPlainArg), no_groups) is_dir.plain) depth.named.plain) is_script.plain;
  local = local_after two all script add_script (local_after one two undo add_undo (local_after start one dir add_dir no_globals is_dir.local) depth.named.local) is_script.local;
}
