pub mod Booking
pub mod Entries
pub mod Keeping
pub mod Marking
pub mod Numbers
pub mod Opening
pub mod Taking
