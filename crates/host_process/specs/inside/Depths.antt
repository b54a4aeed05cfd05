-- The argument for the number of earlier states to keep.
use Rattle.std.specs.Prelude.{◌≡◌, ℕ, false, codes, pos, List, [], ◌∷◌, Some}
use Rattle.clap.specs.Words.{args_of, IsPlain, IsPlainArg}
use Rattle.clap.specs.declared.builder.arg.Arg.{Arg}
use Rattle.clap.specs.declared.builder.command.Command.{Command}
use Rattle.clap.specs.declared.builder.command.Command.TheViews.{out-Command}
use Rattle.clap.specs.declared.builder.value_parser.ValueParser.TheVariants.{Signed}

-- an argument with this id, which excludes no other, is in no group, and is not global
pub record IsNamed (name : List ℕ) (a : Arg) : Type 0 where
  pub id : a.id.now ≡ name
  pub plain : IsPlainArg a
  pub local : a.global ≡ false

-- the argument `undo`, whose values are the numbers from 0 to 64
pub record IsDepth (a : Arg) : Type 0 where
  pub named : IsNamed (codes "undo") a
  pub range : a.value_parser ≡ Some (Signed (pos 0) (pos 64))

-- The arguments of the command are `dir`, `undo` and `script`, in this order.
pub record TakesDepth (c : Command) : Type 0 where
  pub dir : Arg
  pub undo : Arg
  pub script : Arg
  pub args : args_of c ≡ dir ∷ undo ∷ script ∷ []
  pub first : IsNamed (codes "dir") dir
  pub depth : IsDepth undo
  pub last : IsNamed (codes "script") script
  pub plain : IsPlain c
  pub local : (out-Command c).has_globals ≡ false
