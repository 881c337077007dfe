mod Carrying
mod Statuses
