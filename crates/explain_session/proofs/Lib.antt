mod Ending
mod Explainers
