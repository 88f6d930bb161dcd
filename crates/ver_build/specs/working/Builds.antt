-- When a Verilog tree is what a net is built as.
-- It is named after the net, and its items are arranged, with a block for each register that has a reset, or that something drives on a clock; it is valid, it has the net's shape, at
-- every state and tick of its shape it has exactly one choice of values, and it allows what the net allows.
use Rattle.std.specs.Prelude.{◌≡◌, ◌↔◌, ℕ, List, Option}
use Rattle.fir_base.specs.Ticks.{Tick}
use Rattle.ver_ast.specs.declared.tree.Verilog.{Verilog}
use Rattle.ver_ast.specs.Valid.{Valid}
use Rattle.ver_ast.specs.Nets.{shape as v_shape}
use Rattle.ver_ast.specs.Allows.{VAllows, VOne}
use Rattle.fir_net.specs.declared.net.FlatNet.{FlatNet}
use Rattle.fir_net.specs.working.Settled.{shape as net_shape}
use Rattle.fir_net.specs.working.Allows.{Allows as NetAllows}
use Rattle.fir_net.specs.working.Rows.{net_arrays, net_rows, net_words}
use Rattle.ver_build.specs.NamedFor.{IsNamedFor}
use Rattle.ver_build.specs.Arranged.{IsArranged}
use Rattle.ver_build.specs.working.BlockRegisters.{net_registers, AreMarked}

pub record Builds (net : FlatNet) (v : Verilog) : Type 0 where
  pub named : IsNamedFor net.name (net_rows net) (net_words net) (net_arrays net) v
  pub arranged : IsArranged v
  pub with_blocks : AreMarked net (net_registers net) arranged.with_block
  pub valid : Valid v
  pub shapes : v_shape v ≡ net_shape net
  pub one : VOne v
  pub allows :
      (state : List ℕ) (tick : Tick) (shown : List ℕ) (clocks : List (Option ℕ)) (after : List ℕ)
      → VAllows v state tick shown clocks after ↔ NetAllows net state tick shown clocks after
