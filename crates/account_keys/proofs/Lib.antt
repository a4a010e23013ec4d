mod Refusing
pub mod Doing
