-- Document 01, "It writes the new set at the front .. bytes after it .. stay": what writing leaves in a slice.
use Rattle.std.specs.Prelude.{List, ◌++◌, ℕ, length, drop}

-- the bytes at the front, and those after them as they were
abbrev pub at_front : List ℕ → List ℕ → List ℕ
at_front bytes out = bytes ++ drop (length bytes) out
