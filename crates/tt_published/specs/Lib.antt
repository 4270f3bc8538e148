pub mod Timetable
pub mod Published
pub mod Seen
pub mod Lists
pub mod Aim
