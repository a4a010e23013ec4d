pub mod Letters
pub mod Fits
pub mod Costs
