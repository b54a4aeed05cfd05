-- Results of operations and comparisons on arrays: their type, their shape and their items.
use Rattle.std.specs.Prelude.{◌≡◌, ℕ, ℤ, pos, Bool, if◌then◌else◌, not, List, [], ◌∷◌, map, Result, Ok, Err, IfOk}
use Rattle.elementwise.specs.Words.{Refusal, NotForThisKind, Descr, Scalar, LeafValue, number, wrap, value_in, item_number, ◌>>=◌, check, Gives, flat_map, C, item_from, item_size, encode_item, owned_items, Items, Owned, Layout, offsets, offsets_in, view_through, common_shape, broadcast_index, BinOp, UnOp, Comparison, is_text, ScalarDescr, RecordDescr, BoolScalar}
use Rattle.elementwise.specs.Promotion.{promote, promote_one, compared_type}
use Rattle.elementwise.specs.Operations.{binary, unary}
use Rattle.elementwise.specs.Comparisons.{compared}

-- ---- the type and the shape of a result

-- the scalar of an operand; records are refused
abbrev pub scalar_of : Descr → Result Scalar Refusal
scalar_of (ScalarDescr scalar) = Ok scalar
scalar_of (RecordDescr structure) = Err NotForThisKind

unfoldable pub binary_result : BinOp → Descr → List ℕ → Descr → List ℕ → Result (Descr × List ℕ) Refusal
binary_result op left shape right other = do
  from ← scalar_of left
  from' ← scalar_of right
  scalar ← promote op from from'
  common ← common_shape (shape ∷ other ∷ [])
  Ok (ScalarDescr scalar, common)

unfoldable pub unary_result : UnOp → Descr → List ℕ → Result (Descr × List ℕ) Refusal
unary_result op operand shape = do
  from ← scalar_of operand
  scalar ← promote_one op from
  Ok (ScalarDescr scalar, shape)

unfoldable pub compared_result : Descr → List ℕ → Descr → List ℕ → Result (Descr × List ℕ) Refusal
compared_result left shape right other = do
  from ← scalar_of left
  from' ← scalar_of right
  scalar ← compared_type from from'
  common ← common_shape (shape ∷ other ∷ [])
  Ok (ScalarDescr scalar, common)

-- only numbers can be compared with an integer
unfoldable pub integer_compared_result : Descr → List ℕ → Result (Descr × List ℕ) Refusal
integer_compared_result left shape = do
  from ← scalar_of left
  _ ← check (not (is_text from)) NotForThisKind
  Ok (ScalarDescr BoolScalar, shape)

-- only byte strings can be compared with bytes
unfoldable pub bytes_compared_result : Descr → List ℕ → Result (Descr × List ℕ) Refusal
bytes_compared_result left shape = do
  from ← scalar_of left
  _ ← check (is_text from) NotForThisKind
  Ok (ScalarDescr BoolScalar, shape)

-- ---- the items of a result

-- The number of an item, as a number of another scalar. Operands are cast to the type of the result first.
abbrev pub number_as : Scalar → List LeafValue → ℤ
number_as scalar item = wrap scalar (item_number item)

abbrev pub binary_item : BinOp → Descr → List LeafValue → List LeafValue → List LeafValue
binary_item op (ScalarDescr scalar) left right = number (binary op scalar (number_as scalar left) (number_as scalar right)) ∷ []
binary_item op (RecordDescr structure) left right = []

abbrev pub unary_item : UnOp → Descr → List LeafValue → List LeafValue
unary_item op (ScalarDescr scalar) item = number (unary op scalar (number_as scalar item)) ∷ []
unary_item op (RecordDescr structure) item = []

abbrev pub truth_item : Bool → List LeafValue
truth_item holds = number (if holds then pos 1 else pos 0) ∷ []

abbrev pub compared_item : Comparison → List LeafValue → List LeafValue → List LeafValue
compared_item comparison left right = truth_item (compared comparison (value_in left) (value_in right))

-- the items of an array, stretched to a shape
abbrev pub stretched_items : Descr → List ℕ → Layout → List ℕ → List (List LeafValue)
stretched_items descr block layout shape = map (item_from descr block) (view_through (offsets layout) layout.shape shape (broadcast_index layout.shape))

-- borrowed items, stretched to a shape
abbrev pub items_stretched : Items → List ℕ → List (List LeafValue)
items_stretched i shape = stretched_items i.descr.now i.block.now i.layout.now shape

-- `f` of the items at each position of two lists
abbrev pub pairwise : {A B : Type 0} → (A → A → B) → List A → List A → List B
pairwise f (x ∷ xs) (y ∷ ys) = f x y ∷ pairwise f xs ys
pairwise f _ _ = []

-- A new array in C order. `there` has its element type and shape, and `values` gives its items, whose bytes are those of
-- the encoded items; or the call refuses as `there` does, or because memory runs out.
pub record GivesArray (there : Result (Descr × List ℕ) Refusal) (values : Descr → List ℕ → List (List LeafValue)) (result : Result Owned Refusal) : Type 0 where
  pub gives : Gives (λ o. (o.descr, o.layout.shape)) result there
  pub order : IfOk result (λ o. offsets o.layout ≡ offsets_in C (item_size o.descr) o.layout.shape)
  pub items : IfOk result (λ o. map (item_from o.descr o.block) (offsets o.layout) ≡ values o.descr o.layout.shape)
  pub encoded : IfOk result (λ o. o.block ≡ flat_map (encode_item o.descr) (owned_items o))
