pub mod EventWords
pub mod Numbers
pub mod Parts
