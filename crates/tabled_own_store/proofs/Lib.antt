pub mod ColumnStore
pub mod TurnedLines
