use Rattle.std.proofs.Common.{◌≡◌, ◌++◌, flat_map, take}
use Rattle.ver_emit.specs.Layout.{write_text}
use Rattle.ver_emit.proofs.block.put_writes.Given as goal

abbrev pub invariant-loop-write : goal.invariant-loop-write
invariant-loop-write l = l.out.items ≡ l.initial.out.items ++ flat_map write_text (take l.write-index l.writes)
