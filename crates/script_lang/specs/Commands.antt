-- The commands and the values, with one production for each verb, which reads what follows it.
use Rattle.std.specs.Prelude.{ℕ, List, codes, Option, Some, None, is_some, if◌then◌else◌}
use Rattle.script_lang.specs.Words.{option_map, IndexItem}
use Rattle.script_lang.specs.declared.verb.Verb.{Verb}
use Rattle.script_lang.specs.declared.verb.Verb.TheVariants as verb
use Rattle.script_lang.specs.declared.verb.MakeVerb.{MakeVerb}
use Rattle.script_lang.specs.declared.verb.MakeVerb.TheVariants as make
use Rattle.script_lang.specs.declared.verb.ViewVerb.{ViewVerb}
use Rattle.script_lang.specs.declared.verb.ViewVerb.TheVariants as view
use Rattle.script_lang.specs.declared.verb.ComputeVerb.{ComputeVerb}
use Rattle.script_lang.specs.declared.verb.ComputeVerb.TheVariants as compute
use Rattle.script_lang.specs.declared.verb.AskVerb.{AskVerb}
use Rattle.script_lang.specs.declared.verb.AskVerb.TheVariants as ask
use Rattle.script_lang.specs.declared.command.NewItems.{NewItems}
use Rattle.script_lang.specs.declared.command.NewItems.TheVariants.{Zeros, Full, Arange, Array}
use Rattle.script_lang.specs.declared.command.Viewing.{Viewing}
use Rattle.script_lang.specs.declared.command.Viewing.TheVariants.{Whole, Indexed, Field, Transposed, Reshaped, Broadcast}
use Rattle.script_lang.specs.declared.command.Computation.{Computation}
use Rattle.script_lang.specs.declared.command.Computation.TheVariants.{Duplicate, Cast, Combine, Transform, Reduce}
use Rattle.script_lang.specs.declared.command.Value.{Value}
use Rattle.script_lang.specs.declared.command.Value.TheVariants.{Make, View, Compute, Load}
use Rattle.script_lang.specs.declared.command.Question.{Question}
use Rattle.script_lang.specs.declared.command.Question.TheVariants.{Print, Info, Format, Names, Shares}
use Rattle.script_lang.specs.declared.command.Command.{Command}
use Rattle.script_lang.specs.declared.command.Command.TheVariants.{Bind, Set, Update, Delete, Undo, Save, Ask}
use Rattle.script_lang.specs.Verbs.{verb_of, operation_of, order_of}
use Rattle.script_lang.specs.Readers.{ReaderOf, ◌>>=◌, if_found, one_part, two_parts, three_parts, four_parts, only}
use Rattle.script_lang.specs.Tokens.{behind, is_at_end, word_at, meaning_at, names_unless_verb, name_at, integer_at, flag_at, quoted_at, file_name_at}
use Rattle.script_lang.specs.Descriptors.{descriptor_at}
use Rattle.script_lang.specs.Literals.{literal_at, literals_at}
use Rattle.script_lang.specs.Indexes.{shape_at, signed_shape_at, optional_integer_at, bracket_at, optional_index_at, operand_at, argument_at}

-- New arrays

-- S, S L, a b s and S L.., after `zeros D`, `full D`, `arange D` and `array D`
abbrev pub new_items_at : MakeVerb → ReaderOf NewItems
new_items_at make.Zeros bytes = one_part Zeros shape_at bytes
new_items_at make.Full bytes = two_parts Full shape_at literal_at bytes
new_items_at make.Arange bytes = three_parts Arange integer_at integer_at integer_at bytes
new_items_at make.Array bytes = two_parts Array shape_at literals_at bytes

-- D, and what the items of the new array are
unfoldable pub make_at : MakeVerb → ReaderOf Value
make_at making bytes = two_parts Make descriptor_at (new_items_at making) bytes

-- Views

abbrev pub viewing_of : Option (List (IndexItem (List ℕ))) → Viewing
viewing_of None = Whole
viewing_of (Some index) = Indexed index

-- Y or Y[ix], given the word Y, which is not a verb
unfoldable pub plain_view_at : List ℕ → ReaderOf Value
plain_view_at word bytes =
    if names_unless_verb word then one_part (λ index. View word (viewing_of index)) optional_index_at bytes else None

-- the axes, or nothing, after `transpose Y`
unfoldable pub transpose_at : ReaderOf Viewing
transpose_at bytes =
    if is_at_end bytes then Some (Transposed None, bytes)
    else one_part (λ axes. Transposed (Some axes)) signed_shape_at bytes

-- "f", the axes, S with signs, and S, after `field Y`, `transpose Y`, `reshape Y` and `broadcast Y`
abbrev pub viewing_at : ViewVerb → ReaderOf Viewing
viewing_at view.Field bytes = one_part Field quoted_at bytes
viewing_at view.Transpose bytes = transpose_at bytes
viewing_at view.Reshape bytes = one_part Reshaped signed_shape_at bytes
viewing_at view.Broadcast bytes = one_part Broadcast shape_at bytes

-- Y, and how it is viewed
unfoldable pub view_at : ViewVerb → ReaderOf Value
view_at viewing bytes = two_parts View name_at (viewing_at viewing) bytes

-- Computations

-- Y C or Y F, Y D, operand Z, operand, and Y [axis] [keep], after `copy`, `cast`, OP, `neg` or `not`, and RED
abbrev pub computation_at : ComputeVerb → ReaderOf Computation
computation_at compute.Duplicate bytes = two_parts Duplicate name_at (meaning_at order_of) bytes
computation_at compute.Cast bytes = two_parts Cast name_at descriptor_at bytes
computation_at (compute.Combine operation) bytes = two_parts (Combine operation) operand_at argument_at bytes
computation_at (compute.Transform operation) bytes = one_part (Transform operation) operand_at bytes
computation_at (compute.Reduce reduction) bytes =
    three_parts (Reduce reduction) name_at optional_integer_at (flag_at (codes "keep")) bytes

-- Values

-- the value of a verb
abbrev pub verb_value_at : Verb → ReaderOf Value
verb_value_at (verb.Make making) bytes = make_at making bytes
verb_value_at (verb.View viewing) bytes = view_at viewing bytes
verb_value_at (verb.Compute computing) bytes = one_part Compute (computation_at computing) bytes
verb_value_at verb.Load bytes = one_part Load file_name_at bytes
verb_value_at _ bytes = None

-- the value after `X =`; a word that is not a verb is the name Y
unfoldable pub value_at : ReaderOf Value
value_at bytes = do
  word ← word_at bytes
  if_found (verb_of word.0) (λ known. verb_value_at known word.1) (plain_view_at word.0 word.1)

-- Commands

-- X = .., given the word X, which is not a verb
unfoldable pub bind_at : List ℕ → ReaderOf Command
bind_at word bytes = if names_unless_verb word then one_part (Bind word) (behind 61 value_at) bytes else None

-- X, or X and Y, after a verb that asks
abbrev pub question_at : AskVerb → ReaderOf Question
question_at ask.Print bytes = one_part Print name_at bytes
question_at ask.Info bytes = one_part Info name_at bytes
question_at ask.Format bytes = one_part Format name_at bytes
question_at ask.Names bytes = Some (Names, bytes)
question_at ask.Shares bytes = two_parts Shares name_at name_at bytes

-- X[ix] = Z, after `set`
unfoldable pub set_at : ReaderOf Command
set_at bytes = three_parts Set name_at bracket_at (behind 61 argument_at) bytes

-- X[ix] OP Z, after `upd`
unfoldable pub update_at : ReaderOf Command
update_at bytes = four_parts Update name_at bracket_at (meaning_at operation_of) argument_at bytes

-- the command of a verb: X after `del`, X "f" after `save`, and others
abbrev pub verb_command_at : Verb → ReaderOf Command
verb_command_at verb.Set bytes = set_at bytes
verb_command_at verb.Update bytes = update_at bytes
verb_command_at verb.Delete bytes = one_part Delete name_at bytes
verb_command_at verb.Undo bytes = Some (Undo, bytes)
verb_command_at verb.Save bytes = two_parts Save name_at file_name_at bytes
verb_command_at (verb.Ask asking) bytes = one_part Ask (question_at asking) bytes
verb_command_at _ bytes = None

-- the command at the front of a line; a word that is not a verb is the name X
unfoldable pub form_at : ReaderOf Command
form_at line = do
  word ← word_at line
  if_found (verb_of word.0) (λ known. verb_command_at known word.1) (bind_at word.0 word.1)

-- the command that is the whole line; only blanks may follow it
unfoldable pub command_at : List ℕ → Option Command
command_at line = option_map (λ command. command.0) (only (λ command. is_at_end command.1) form_at line)
