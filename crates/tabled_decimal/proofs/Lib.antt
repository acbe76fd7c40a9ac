pub mod DigitValues
pub mod MillionthsOfDigits
