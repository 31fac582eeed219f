-- the events of an input, and what comes of them
pub mod Listing
