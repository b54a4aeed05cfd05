pub mod Words
pub mod TokenLaws
pub mod ValueLaws
pub mod GrammarLaws
pub mod SkipLaws
pub mod PlaceLaws
pub mod StandLaws
pub mod HeaderLaws
pub mod RecordListLaws
mod Vectors
mod FileVectors
pub mod FileLaws
pub mod PartLaws
pub mod WrittenEntries
pub mod ScalarBytes
pub mod WrittenItemLaws
pub mod GatherLaws
pub mod WriterLaws
pub mod SaverLaws
pub mod ReadTokens
pub mod ReadValues
pub mod ReadRecords
pub mod ReadHeaders
pub mod LoadLaws
pub mod TextLengths
pub mod RoundTrip
