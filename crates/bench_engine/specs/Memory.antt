-- How a command may be answered: by a step of the machine, or, only where it may lack memory, as out of memory.
use Rattle.std.specs.Prelude.{◌⊎◌, ℕ, Bool, true, false, IsTrue, ◌&&◌, ◌++◌, List, [], ◌∷◌, nat_lt}
use Rattle.bench_engine.specs.Words.{list_all, OutOfMemory, Value, Question, Command, State, is_bound}
use Rattle.script_lang.specs.declared.command.Value.TheVariants as value
use Rattle.script_lang.specs.declared.command.Question.TheVariants as question
use Rattle.script_lang.specs.declared.command.Command.TheVariants as command
use Rattle.bench_engine.specs.IndexLists.{names_in_index}
use Rattle.bench_engine.specs.Machine.{names_in_viewing, names_in_argument, bound_in_computation}
use Rattle.bench_engine.specs.Replies.{Reply}
use Rattle.bench_engine.specs.Steps.{World, Refuses, Step}

-- ---- the names that must be bound for a command, from left to right

abbrev pub bound_in_value : Value → List (List ℕ)
bound_in_value (value.View source how) = source ∷ names_in_viewing how
bound_in_value (value.Compute computation) = bound_in_computation computation
bound_in_value _ = []

abbrev pub bound_in_question : Question → List (List ℕ)
bound_in_question (question.Print name) = name ∷ []
bound_in_question (question.Info name) = name ∷ []
bound_in_question (question.Format name) = name ∷ []
bound_in_question question.Names = []
bound_in_question (question.Shares left right) = left ∷ right ∷ []

abbrev pub must_be_bound : Command → List (List ℕ)
must_be_bound (command.Bind name value) = bound_in_value value
must_be_bound (command.Set name index argument) = name ∷ names_in_index index ++ names_in_argument argument
must_be_bound (command.Update name index op argument) = name ∷ names_in_index index ++ names_in_argument argument
must_be_bound (command.Delete name) = name ∷ []
must_be_bound (command.Ask question) = bound_in_question question
must_be_bound (command.Save name file) = name ∷ []
must_be_bound command.Undo = []

-- Whether a command asks for memory while it is carried out. A load that runs out of memory does not count here: that
-- is an answer of the store. `del` asks for memory only to keep the state before it, and `undo` never does.
abbrev pub asks_for_memory : State → Command → Bool
asks_for_memory s (command.Bind name (value.Load file)) = false
asks_for_memory s (command.Delete name) = nat_lt 0 s.depth
asks_for_memory s command.Undo = false
asks_for_memory s _ = true

-- whether a command may be refused as out of memory: not if one of the names that must be bound is unbound
abbrev pub may_lack_memory : State → Command → Bool
may_lack_memory s command = asks_for_memory s command && list_all (is_bound s) (must_be_bound command)

-- The command is a step of the machine, or, if it may lack memory, it is refused as out of memory.
abbrev pub MayAnswer : World → Command → World → Reply → Type 0
MayAnswer old command new reply = Step old command new reply ⊎ (IsTrue (may_lack_memory old.state command) × Refuses old new OutOfMemory reply)
