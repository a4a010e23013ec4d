pub mod Settings
pub mod Files
pub mod Journals
pub mod Statuses
pub mod Program
pub mod Complete
