-- What the arrays of a site mean, when a site is sound, and the contract of the calls: read in this order.
pub mod Store
pub mod Meaning
pub mod Sound
pub mod Calls
pub mod Checks
pub mod Steps
