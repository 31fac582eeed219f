-- what a walk over the kept ids leans on
pub mod Places
