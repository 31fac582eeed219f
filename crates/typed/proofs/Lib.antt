-- where the bookings of a text are cut, a booking that is too long, how bookings are taken, that the outcome is one, a run over blocks, and texts cut
pub mod Cutting
pub mod Longer
pub mod Taking
pub mod Unique
pub mod Runs
pub mod Examples
