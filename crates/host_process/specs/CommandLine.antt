-- What the arguments of the command line say.
use Rattle.std.specs.Prelude.{◌≡◌, codes, option_map, pos, string_bytes, unwrap_or, List, [], ◌∷◌, Some}
use Rattle.std.specs.Str.Parse.{digits_value, without_leading_plus}
use Rattle.clap.specs.Words.{App, Row, Rule, Text, first_of, matches_of, new_app, new_rule, one_of, with_rule}
use Rattle.clap.specs.declared.builder.value_parser.ValueParser.TheVariants.{Signed}
use Rattle.host_process.specs.declared.words.Options.{Options}

-- --dir DIR, where DIR is "." if it is not given
abbrev pub dir_rule : Rule
dir_rule = record (new_rule (codes "dir")) { long = Some (codes "dir"); value_names = 1; defaults = codes "." ∷ [] }

-- --undo N, where N is a number from 0 to 64, and 16 if it is not given
abbrev pub undo_rule : Rule
undo_rule = record (new_rule (codes "undo")) { long = Some (codes "undo"); value_names = 1; defaults = codes "16" ∷ []; parser = Some (Signed (pos 0) (pos 64)) }

-- SCRIPT, which may be left out
abbrev pub script_rule : Rule
script_rule = record (new_rule (codes "script")) { value_names = 1 }

-- bench [--dir DIR] [--undo N] [SCRIPT]
abbrev pub command_line : App
command_line = with_rule (with_rule (with_rule (new_app (codes "bench")) dir_rule) undo_rule) script_rule

-- the values that words give the arguments, where the first word is the program's own name
abbrev pub rows_said : List Text → List Row
rows_said words = matches_of command_line words

-- The options are what these words say.
pub record AreSaid (words : List Text) (options : Options) : Type 0 where
  pub dir : string_bytes options.dir ≡ unwrap_or (first_of (codes "dir") (rows_said words)) (codes ".")
  pub depth : options.depth ≡ digits_value 10 (without_leading_plus (unwrap_or (one_of (codes "undo") (rows_said words)) (codes "16")))
  pub script : option_map string_bytes options.script ≡ first_of (codes "script") (rows_said words)
