mod Words
mod Marks
mod Lines
mod Texts
mod Feeds
