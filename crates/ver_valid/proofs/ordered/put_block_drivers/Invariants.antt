use Rattle.std.proofs.Common.{◌≡◌, [], ◌∷◌, ◌++◌, map, drop}
use Rattle.ver_valid.specs.working.Drivers.{drivers_of}
use Rattle.ver_valid.proofs.ordered.put_block_drivers.Given as goal

abbrev pub invariant-loop-block : goal.invariant-loop-block
invariant-loop-block l =
    l.found.items ++ map (λ b. drivers_of l.drivers (b.now.reset ∷ [])) (drop l.block-index l.blocks)
    ≡ l.initial.found.items ++ map (λ b. drivers_of l.drivers (b.now.reset ∷ [])) l.blocks
