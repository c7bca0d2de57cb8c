mod Events
mod Played
mod Schedules
mod Written
