-- how listing goes on from event to event and from block to block, and that its outcome is one
pub mod Listing
pub mod Unique
