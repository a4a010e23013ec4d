pub mod DataKeyForms
pub mod Crypto
