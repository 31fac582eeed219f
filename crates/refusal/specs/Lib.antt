-- what is said of a refusal
pub mod Said
