-- Whether points are adjacent, decided by going through the parts one by one.
use Rattle.std.specs.Prelude.{Bool, true, false, not, Option, Some, None, List}
use Rattle.fancy_index.specs.Words.{list_any}
use Rattle.fancy_index.specs.declared.result_axes.Stretch.{Stretch}
use Rattle.fancy_index.specs.declared.result_axes.Stretch.TheVariants.{Before, Among, After}
use Rattle.fancy_index.specs.Parts.{Part, are_points, go_on, side_by_side}

-- the state after one more part, which has points or not; none, if the points are not adjacent
abbrev pub gone_on : Stretch → Bool → Option Stretch
gone_on Before true = Some Among
gone_on Before false = Some Before
gone_on Among true = Some Among
gone_on Among false = Some After
gone_on After true = None
gone_on After false = Some After

-- what must hold for the remaining parts if there were no points so far, if the last part has points, and if parts
-- without points have come after them
abbrev pub stand : Stretch → List Part → Bool
stand Before parts = side_by_side parts
stand Among parts = go_on parts
stand After parts = not (list_any are_points parts)
