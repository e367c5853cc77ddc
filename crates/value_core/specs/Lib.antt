pub mod After
pub mod Below
pub mod Datatypes
pub mod Digits
pub mod Numbers
