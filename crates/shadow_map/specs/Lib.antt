pub mod States
pub mod Checks
pub mod Causes
pub mod Shows
pub mod Calls
pub mod Granules
pub mod Laws
pub mod Readers
