pub mod Parts
pub mod Printed
