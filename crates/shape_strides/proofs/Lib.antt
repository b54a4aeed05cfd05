pub mod Words
pub mod LayoutLaws
pub mod StepLaws
pub mod ReachLaws
pub mod ReachedLaws
pub mod SpanLaws
pub mod CountLaws
pub mod AdvanceLaws
pub mod ZeroLaws
pub mod ContiguityLaws
pub mod FortranLaws
pub mod StackLaws
pub mod StackedLaws
pub mod OrderLaws
pub mod AddressOrderLaws
pub mod JoinedLaws
pub mod UniqueLaws
pub mod RankLaws
pub mod RunLaws
pub mod StartLaws
pub mod FrontLaws
pub mod PairLaws
pub mod RunBounds
pub mod SameLaws
mod Vectors
mod JoinedVectors
mod ContiguityVectors
pub mod SingleLaws
pub mod LastRunLaws
pub mod AxisMoves
pub mod MovedLayouts
