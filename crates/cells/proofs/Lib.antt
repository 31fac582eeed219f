-- what a code's byte says, and what is known of an operation of a valid record
pub mod Codes
pub mod Ops
