pub mod Progressing
