pub mod Courses
mod Conducts
