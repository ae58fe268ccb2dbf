pub mod CopyLaws
pub mod KeepLaws
pub mod MemoryLaws
pub mod PlaneLaws
pub mod SlotLaws
