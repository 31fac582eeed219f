-- the promises of a call, from its contract
pub mod Promised
