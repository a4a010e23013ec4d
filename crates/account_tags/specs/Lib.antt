pub mod Pages
pub mod Tagging
