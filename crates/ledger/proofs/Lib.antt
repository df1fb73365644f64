mod Filter
mod Passing
mod Numbers
