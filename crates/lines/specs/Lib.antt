pub mod Divided
pub mod Numeral
pub mod Put
pub mod Printed
