pub mod Words
pub mod Steps
pub mod Trees
pub mod Rules
pub mod Records
