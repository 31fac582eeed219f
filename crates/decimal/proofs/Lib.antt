-- how many digits a number has, and that its digits tell it
pub mod Digits
pub mod Runs
