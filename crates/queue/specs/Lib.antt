pub mod Places
pub mod Queues
