pub mod Words
pub mod FieldLaws
pub mod NulLaws
pub mod LeafLaws
pub mod RowLaws
pub mod CastLaws
pub mod CommonLaws
pub mod EncodedLaws
pub mod WorkLaws
pub mod ColumnLaws
mod CutLaws
pub mod ChunkLaws
pub mod AlikeLaws
pub mod PairLaws
pub mod AddedLaws
pub mod AppendedLaws
pub mod MadeLaws
pub mod CastingLaws
pub mod PairedLaws
pub mod TurnedLaws
pub mod StretchedLaws
pub mod TypedLaws
pub mod ShrunkLaws
pub mod PromotedLaws
pub mod AppliedLaws
pub mod HeldLaws
pub mod ComparedLaws
pub mod IntegerLaws
pub mod BytesComparedLaws
pub mod TextWordLaws
pub mod EvenTextLaws
pub mod BeyondLaws
pub mod WordOrderLaws
pub mod TextNumberLaws
pub mod TrimmedLaws
pub mod BitLaws
pub mod WordLaws
mod Vectors
mod PromotionVectors
mod OperationVectors
