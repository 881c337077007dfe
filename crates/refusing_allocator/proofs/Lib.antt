mod Counting
mod Handle
