-- a line of output as text
pub mod Text
