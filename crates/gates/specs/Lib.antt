pub mod Gate
pub mod Circuit
pub mod Matrix
pub mod Key
pub mod Roles
pub mod Numbering
pub mod Build
pub mod Refuse
