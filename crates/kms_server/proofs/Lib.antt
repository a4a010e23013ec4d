pub mod Crews
mod Unserved
