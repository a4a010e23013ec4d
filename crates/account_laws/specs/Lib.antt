pub mod Laws
pub mod Tokens
pub mod Macs
pub mod Boots
