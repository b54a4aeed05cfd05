pub mod Opened
pub mod Parts
pub mod Shown
pub mod ItemTexts
pub mod Pushed
