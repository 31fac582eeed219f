-- what the bytes of an event ask, and what comes of it
pub mod Event
-- the kind of an event
pub mod Kinds
