pub mod Digits
pub mod Puts
pub mod Rows
pub mod Laws
pub mod Stood
