pub mod Came
pub mod FirstWorker
pub mod Rooms
