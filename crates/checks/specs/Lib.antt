-- what taking from what may still stand comes to
pub mod Once
-- the rules of lengths, queue places, map, ids, numbers, counts and queries, of the values that the check is given
pub mod Given
