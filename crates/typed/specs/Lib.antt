-- how an input of bookings is taken: read in this order
pub mod Bookings
pub mod Taking
