-- The promises about the calls: read in this order.
pub mod Runs
pub mod Demands
pub mod Promises
