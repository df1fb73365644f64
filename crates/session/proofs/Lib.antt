mod Steps
mod Free
mod SettleCall
mod Adding
mod Opened
