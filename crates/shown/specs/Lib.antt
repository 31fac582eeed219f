-- how an input of records is shown
pub mod Showing
