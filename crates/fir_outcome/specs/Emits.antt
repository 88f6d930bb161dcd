-- What bytes are emitted for what bytes.
-- The read bytes spell exactly one circuit, which shows no fault; the written bytes spell exactly one Verilog tree, and it is what the
-- circuit compiles to; and they are the layout of that tree, in which no comment stands.
use Rattle.std.specs.Prelude.{◌≡◌, ℕ, List}
use Rattle.ver_ast.specs.declared.tree.Verilog.{Verilog}
use Rattle.ver_ast.specs.Spells.{VSpells}
use Rattle.ver_emit.specs.Layout.{layout}
use Rattle.ver_emit.specs.Comments.{HasNoComment}
use Rattle.fir_ast.specs.Circuits.{CircuitTree}
use Rattle.fir_parse.specs.Spells.{Spells}
use Rattle.fir_outcome.specs.CircuitFaults.{ShowsNone}
use Rattle.fir_outcome.specs.Compiles.{Compiles}

-- the circuit of a text that is taken
pub record Takes (bytes : List ℕ) (c : CircuitTree) : Type 0 where
  pub spelled : Spells bytes c
  pub faultless : ShowsNone c

pub record Emits (read written : List ℕ) : Type 0 where
  pub circuit : CircuitTree
  pub taken : Takes read circuit
  pub only_circuit : (other : CircuitTree) → Spells read other → other ≡ circuit
  pub verilog : Verilog
  pub v_spelled : VSpells written verilog
  pub only_verilog : (other : Verilog) → VSpells written other → other ≡ verilog
  pub laid_out : written ≡ layout verilog
  pub uncommented : HasNoComment written
  pub compiles : Compiles circuit verilog
