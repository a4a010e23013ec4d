pub mod Machine
pub mod House
pub mod Calls
pub mod Events
pub mod Orders
