-- an answer as the numbers that a host reads
pub mod Told
