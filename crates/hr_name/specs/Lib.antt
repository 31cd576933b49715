pub mod Alphabet
pub mod Answer
pub mod Front
pub mod Name
pub mod Place
pub mod Tag
