-- The laws of events, that each has one outcome, and events written out.
pub mod Events
pub mod Unique
pub mod Written
