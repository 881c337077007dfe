pub mod Bounds
pub mod Usual
pub mod Printed
