use Rattle.std.proofs.Common.{◌≡◌, List, ℕ, Some, sym, ap, ◌∙◌, slice_get}
use Rattle.std.specs.Prelude.{option_copied}
use Rattle.fir_memory_clocks.proofs.FoundMemories.{found_none, found_some, port_there}
use Rattle.fir_memory_clocks.proofs.module_memories.found_memory.Goals as goal

pub returns-in_err-clocks : goal.returns-in_err-clocks
returns-in_err-clocks c =
    rw c.from_residual.ensures
    (λ m h among.
    found_none c.args.module.now m c.args.roots.now h c.args.memory.now among (rw c.deref.ensures.value at c.in_err-clocks.ensures))

pub returns-in_err-leaf : goal.returns-in_err-leaf
returns-in_err-leaf c =
    let ports = c.args.memory.now.port_clocks.items in
    let port = c.in_ok-port.port.now in
    let is_port : slice_get ports 0 ≡ Some port =
    ap (λ (ys : List ℕ). slice_get ys 0) (sym c.deref-2.ensures.value) ∙ sym c.first.ensures.value ∙ ap option_copied c.in_ok-port.was in
    rw c.from_residual-in_err-leaf.ensures
    (λ m h among.
    absurd (port_there c.args.module.now m c.args.roots.now h c.args.memory.now among c.in_ok-clocks.clocks
    (rw c.deref.ensures.value at c.in_ok-clocks.ensures) port is_port (rw c.deref-3.ensures.value at c.in_err-leaf.ensures.lookup.3)))

pub returns : goal.returns
returns c = λ m h among.
    let ports = c.args.memory.now.port_clocks.items in
    let port = c.in_ok-port.port.now in
    let is_port : slice_get ports 0 ≡ Some port =
    ap (λ (ys : List ℕ). slice_get ys 0) (sym c.deref-2.ensures.value) ∙ sym c.first.ensures.value ∙ ap option_copied c.in_ok-port.was in
    let there = rw c.deref-3.ensures.value at c.in_ok-leaf.ensures.lookup.3 in
    found_some c.args.module.now m c.args.roots.now h c.args.memory.now among c.in_ok-clocks.clocks (rw c.deref.ensures.value at c.in_ok-clocks.ensures) port is_port
    c.in_ok-leaf.leaf.now there.0 (there.1 c.in_ok-leaf.leaf.now)
