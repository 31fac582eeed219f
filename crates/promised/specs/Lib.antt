-- what is promised of the calls that are made
pub mod Promised
