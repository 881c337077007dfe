pub mod Printing
pub mod Logs
pub mod Ports
