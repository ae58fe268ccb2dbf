pub mod Token
pub mod Lexed
pub mod Fraction
pub mod Angle
pub mod Grammar
pub mod Machine
pub mod Reading
