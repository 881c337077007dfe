mod Brings
mod Bytes
mod Stating
mod Groups
