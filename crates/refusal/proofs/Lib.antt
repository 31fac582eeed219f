-- a refusal is no length, and lines written out
pub mod Outcomes
pub mod Examples
