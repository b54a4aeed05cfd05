pub mod Words
pub mod TargetLaws
pub mod CountLaws
pub mod RankLaws
pub mod ReshapeLaws
pub mod ScaleLaws
mod Vectors
