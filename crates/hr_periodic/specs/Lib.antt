pub mod Field
pub mod Item
pub mod Reading
pub mod Cron
pub mod Steps
pub mod Periodic
