-- The promises kept, each file resting on those above it.
pub mod Made
pub mod Answers
pub mod Stands
pub mod Demand1
pub mod Demand2
pub mod Demand3
pub mod Slots
pub mod Unique
pub mod Kept
pub mod KeptOut
pub mod PutBacks
pub mod Queried
pub mod Local
pub mod Promises
