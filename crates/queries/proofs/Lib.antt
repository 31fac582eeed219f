-- Laws that the proofs cite.
pub mod Masks
pub mod Table
