-- what the marks of the kept ids say
pub mod Marks
