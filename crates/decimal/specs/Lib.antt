-- numbers as decimal text
pub mod Decimal
