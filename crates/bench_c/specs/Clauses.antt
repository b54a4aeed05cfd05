-- What the contracts of the calls for arrays cite: definitions of this crate, and names from std and from the crates below.
pub use Rattle.bench_c.specs.ArrayCalls.{GivesAsked, GivesInfo, PutsArray, StaysOpen, put_outcome}
pub use Rattle.bench_c.specs.Arrays.{array_called, bytes_as, deleted, given_contents, info_called, items_called, named, numbers_called, shape_called, type_called}
pub use Rattle.bench_c.specs.Words.{Answers, Array, Gives, Shows, State, asks, descr_text, item_size, refusal_text}
unfoldable pub use Rattle.bench_c.specs.Words.{offsets}
pub use Rattle.bench_c.specs.inside.Arrays.{Looks, in_form}
pub use Rattle.bench_engine.specs.inside.Contract.{CarriesOut}
pub use Rattle.bench_engine.specs.inside.OwnContents.{held}
