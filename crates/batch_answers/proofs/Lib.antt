pub mod Served
pub mod SeenCounts
pub mod Answers
pub mod Printed
