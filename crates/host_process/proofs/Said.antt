-- The options are what the words say.
use Rattle.std.proofs.Common.{◌≡◌, ◌∙◌, ℕ, List, None, Option, Some, ap, codes, option_map, refl, unwrap_or}
use Rattle.std.specs.Borrow.{Bor}
use Rattle.std.specs.Prelude.{string_bytes}
use Rattle.std.specs.Str.Parse.{digits_value, without_leading_plus}
use Rattle.clap.specs.Words.{HasMatchesOf, Text, app_of, first_of, first_value, found_of, is_simple, matches_of, one_of, one_text, rows_of}
use Rattle.clap.specs.declared.builder.command.Command.{Command}
use Rattle.clap.specs.declared.parser.matches.ArgMatches.{ArgMatches}
use Rattle.clap.proofs.WalkLemmas.{first_value-rows, one_text-rows}
use Rattle.host_process.specs.CommandLine.{AreSaid, command_line, rows_said}
use Rattle.host_process.specs.declared.words.Options.{Options}

-- a text or another, behind references
pub text_or : (text : Option (Bor (List ℕ))) (other : Bor (List ℕ)) → (unwrap_or text other).now ≡ unwrap_or (option_map (λ t. t.now) text) other.now
text_or None other = refl
text_or (Some text) other = refl

pub are_said : (c : Command) (m : ArgMatches) (words : List Text) (options : Options) → app_of c ≡ command_line → HasMatchesOf (app_of c) words m →
    string_bytes options.dir ≡ unwrap_or (first_value (found_of m) (codes "dir")) (codes ".") →
    options.depth ≡ digits_value 10 (without_leading_plus (unwrap_or (one_text (found_of m) (codes "undo")) (codes "16"))) →
    option_map string_bytes options.script ≡ first_value (found_of m) (codes "script") → AreSaid words options
are_said c m words options line has dir depth script =
    let rows : rows_of (found_of m) ≡ rows_said words = (has (ap is_simple line)).0 ∙ ap (λ app. matches_of app words) line in
    record {
      dir = dir ∙ ap (λ text. unwrap_or text (codes ".")) (first_value-rows (found_of m) (codes "dir") ∙ ap (first_of (codes "dir")) rows);
      depth = depth ∙ ap (λ text. digits_value 10 (without_leading_plus (unwrap_or text (codes "16")))) (one_text-rows (found_of m) (codes "undo") ∙ ap (one_of (codes "undo")) rows);
      script = script ∙ first_value-rows (found_of m) (codes "script") ∙ ap (first_of (codes "script")) rows;
    }
