use Rattle.std.proofs.Common.{take}
use Rattle.fir_drivers.specs.working.Walks.{Goes, WritesElements}
use Rattle.fir_drivers.proofs.drives.write_elements.Given as goal

abbrev pub invariant-loop-element : goal.invariant-loop-element
invariant-loop-element l = record {
  goes : Goes l.fn.net l.net l.fn.slots.items l.slots.items;
  writes : WritesElements l.fn.net l.net l.fn.slots.items l.slots.items l.leaf (take l.element-index l.elements) l.given;
}
