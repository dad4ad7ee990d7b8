pub mod Words
pub mod Forms
pub mod Lines
pub mod Said
pub mod ReadBack
pub mod WordReading
