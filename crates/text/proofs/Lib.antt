-- the lines taken apart, where they stand in a text, the bytes of a record, and the laws of the text form
pub mod Forms
pub mod Pieces
pub mod Standing
pub mod Parsing
pub mod Encoding
pub mod OneText
pub mod Laws
pub mod Examples
