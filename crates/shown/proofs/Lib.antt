-- how showing goes on from record to record
pub mod Showing
