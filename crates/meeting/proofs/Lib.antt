pub mod Places
pub mod AllLaws
pub mod MetLaws
pub mod NextLaws
pub mod WhereLaws
