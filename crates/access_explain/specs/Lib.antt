pub mod Runs
pub mod Marks
pub mod Grounds
pub mod Findings
pub mod Certificates
pub mod Tests
pub mod Lines
pub mod Laws
