pub mod Digits
pub mod Ends
pub mod Filled
pub mod IntegerOctets
