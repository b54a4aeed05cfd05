use Rattle.std.proofs.Common.{◌≡◌, ◌||◌, Bool, true, false, not, ℕ, List, [], ◌∷◌, take, refl, ap, ◌∙◌, arith}
use Rattle.elementwise.proofs.Words.{Equal, NotEqual, Less, LessOrEqual, Greater, GreaterOrEqual, text_below, without_nuls}
use Rattle.elementwise.proofs.BeyondLaws.{told}
use Rattle.elementwise.proofs.comparisons.within.Goals as goal

none-below : (xs : List ℕ) → text_below xs [] ≡ false
none-below [] = refl
none-below (x ∷ xs) = refl

one-of-two : (b : Bool) → true ≡ (not b || b)
one-of-two true = refl
one-of-two false = refl

twice : (b : Bool) → b ≡ not (not b)
twice true = refl
twice false = refl

pub returns-in-Equal-clause-same : goal.returns-in-Equal-clause-same
returns-in-Equal-clause-same c = λ item few. none-below _ ∙ ap not (one-of-two _) ∙ told item c.args.bytes.now c.args.len (omega (arith, c.if-bytes-len.false)) few c.args.comparison Equal c.in-Equal.is

pub returns-in-NotEqual-clause-same : goal.returns-in-NotEqual-clause-same
returns-in-NotEqual-clause-same c = λ item few. ap not (none-below (without_nuls item)) ∙ one-of-two (text_below (without_nuls (take c.args.len c.args.bytes.now)) (without_nuls item)) ∙ told item c.args.bytes.now c.args.len (omega (arith, c.if-bytes-len.false)) few c.args.comparison NotEqual c.in-NotEqual.is

pub returns-in-Less-clause-same : goal.returns-in-Less-clause-same
returns-in-Less-clause-same c = λ item few. told item c.args.bytes.now c.args.len (omega (arith, c.if-bytes-len.false)) few c.args.comparison Less c.in-Less.is

pub returns-in-LessOrEqual-clause-same : goal.returns-in-LessOrEqual-clause-same
returns-in-LessOrEqual-clause-same c = λ item few. told item c.args.bytes.now c.args.len (omega (arith, c.if-bytes-len.false)) few c.args.comparison LessOrEqual c.in-LessOrEqual.is

pub returns-in-Greater-clause-same : goal.returns-in-Greater-clause-same
returns-in-Greater-clause-same c = λ item few. told item c.args.bytes.now c.args.len (omega (arith, c.if-bytes-len.false)) few c.args.comparison Greater c.in-Greater.is

pub returns-in-GreaterOrEqual-clause-same : goal.returns-in-GreaterOrEqual-clause-same
returns-in-GreaterOrEqual-clause-same c = λ item few. twice _ ∙ told item c.args.bytes.now c.args.len (omega (arith, c.if-bytes-len.false)) few c.args.comparison GreaterOrEqual c.in-GreaterOrEqual.is
