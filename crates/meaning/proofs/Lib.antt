pub mod RowsOfChains
pub mod RowsOfWindows
