pub mod PrintedIsRight
