use Rattle.std.proofs.Common.{◌≡◌, drop}
use Rattle.std.specs.Prelude.{flat_map}
use Rattle.ver_sim.specs.working.FlatStates.{flat_all}
use Rattle.ver_sim.specs.working.Blocks.{write_puts}
use Rattle.ver_sim.proofs.blocks.take_writes.Given as goal

abbrev pub invariant-loop-write : goal.invariant-loop-write
invariant-loop-write l =
    flat_all (flat_map (write_puts l.values) (drop l.write-index l.writes)) l.state
    ≡ flat_all (flat_map (write_puts l.values) l.writes) l.fn.state
