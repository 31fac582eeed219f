-- what holds of a part of the queue places
pub mod Parts
