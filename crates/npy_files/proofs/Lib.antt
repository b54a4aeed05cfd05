pub mod Words
mod NextNames
mod StoreLaws
mod UserNames
mod UserFiles
mod Pieces
