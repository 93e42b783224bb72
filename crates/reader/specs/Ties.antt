pub mod Handing
pub mod Fine
