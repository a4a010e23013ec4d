mod Callers
mod Configured
mod Programs
mod Clocks
mod Completing
mod Keeping
mod Sending
mod Outcomes
