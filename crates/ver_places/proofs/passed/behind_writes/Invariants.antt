use Rattle.std.proofs.Common.{◌≡◌, drop}
use Rattle.std.specs.Prelude.{flat_map}
use Rattle.ver_ast.specs.Grammar.{write_tokens}
use Rattle.ver_places.specs.Places.{behind}
use Rattle.ver_places.proofs.passed.behind_writes.Given as goal

abbrev pub invariant-loop-write : goal.invariant-loop-write
invariant-loop-write l = behind (flat_map write_tokens l.writes) l.places ≡ behind (flat_map write_tokens (drop l.write-index l.writes)) l.next
