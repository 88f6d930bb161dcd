-- The lines that the program writes to its error output.
use Rattle.std.specs.Prelude.{ℕ, List, ◌++◌, codes}

abbrev pub usage_line : List ℕ
usage_line = codes "usage: firc check FILE | lower FILE | emit FILE | sim FILE TRACE [--state] | vsim VFILE TRACE [--state] [--order N] | gen N\n"

abbrev pub unread_line : List ℕ → List ℕ
unread_line name = codes "read " ++ name ++ codes "\n"

abbrev pub too_long_line : List ℕ → List ℕ
too_long_line name = codes "too long " ++ name ++ codes "\n"

abbrev pub unwritten_line : List ℕ
unwritten_line = codes "write\n"

abbrev pub memory_line : List ℕ
memory_line = codes "memory\n"
