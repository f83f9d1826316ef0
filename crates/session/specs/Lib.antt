pub mod Performed
pub mod Courses
pub mod Conducts
