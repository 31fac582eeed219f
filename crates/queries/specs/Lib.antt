-- What the table of queries means.
pub mod Table
