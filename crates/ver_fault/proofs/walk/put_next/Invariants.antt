use Rattle.std.proofs.Common.{◌≡◌, ◌++◌, flat_map, take}
use Rattle.ver_fault.specs.Texts.{next_text}
use Rattle.ver_fault.proofs.walk.put_next.Given as goal

abbrev pub invariant-loop-name : goal.invariant-loop-name
invariant-loop-name l = l.out.items ≡ l.initial.out.items ++ flat_map next_text (take l.name-index l.names)
