-- the laws of cutting, and inputs cut
pub mod Cutting
pub mod Examples
