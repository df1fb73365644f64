pub mod Numbers
pub mod Standing
pub mod ReadBack
pub mod Faultless
mod PutMore
pub mod WholeFile
pub mod WrittenAgain
pub mod WholeAgain
