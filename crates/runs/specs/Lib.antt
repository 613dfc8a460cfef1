pub mod Entries
pub mod Ledger
pub mod Laws
pub mod Sessions
