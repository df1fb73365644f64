mod Stages
mod Additions
mod Endings
mod Lines
mod Taken
mod Opened
mod Filled
