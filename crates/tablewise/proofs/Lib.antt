pub mod TableBuild
pub mod TableSource
pub mod TableKeys
