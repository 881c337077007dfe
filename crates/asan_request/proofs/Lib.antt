mod Asked
mod Commands
mod Reading
