mod Additions
mod Taking
mod Lists
