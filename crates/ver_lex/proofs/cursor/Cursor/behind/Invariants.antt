use Rattle.std.proofs.Common.{◌≡◌, ◌+◌, drop}
use Rattle.ver_lex.specs.working.Bytes.{place_behind}
use Rattle.ver_lex.proofs.cursor.Cursor.behind.Given as goal

abbrev pub invariant-loop-byte : goal.invariant-loop-byte
invariant-loop-byte l = (l.cursor.index ≡ l.fn.self.index + l.byte-index) × (place_behind l.cursor.place (drop l.byte-index l.bytes) ≡ place_behind l.fn.self.place l.bytes)
