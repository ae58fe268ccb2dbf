pub mod Divided
pub mod Decimal
pub mod Putting
pub mod Fields
pub mod ByKind
pub mod Printed
