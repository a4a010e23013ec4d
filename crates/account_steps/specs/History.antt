-- The history of an account, for the crates above.
pub use Rattle.account_rows.specs.declared.entries.Entry.{Entry}
pub use Rattle.account_rows.specs.History.{latest_of, moment_of, housekeeping_of}
