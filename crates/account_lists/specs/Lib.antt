pub mod Pages
pub mod Lists
