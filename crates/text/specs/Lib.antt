-- the text form: read in this order
pub mod Text
pub mod Lines
pub mod Calls
pub mod Pieces
