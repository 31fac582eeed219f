-- how an input is cut into pieces of one size
pub mod Pieces
