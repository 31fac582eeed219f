-- a host loses nothing, and any two outcomes of a call, a fresh start or a text are equal
pub mod Told
