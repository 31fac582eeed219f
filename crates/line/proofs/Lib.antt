-- a few lines by computing
pub mod Examples
pub mod Words
pub mod Behind
