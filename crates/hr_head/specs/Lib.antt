pub mod Ending
pub mod Fault
pub mod Field
pub mod Reply
pub mod Request
pub mod Verb
