pub mod Inserted
pub mod Queued
