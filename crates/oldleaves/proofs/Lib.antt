pub mod OldLeaves
