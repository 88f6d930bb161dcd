-- What a tick shows is of its width.
use Rattle.std.proofs.Common.{◌≡◌, ℕ, ◌^◌, ◌<◌, List, [], ◌∷◌, map, refl, sym, inl, inr, subst}
use Rattle.std.specs.Prelude.{flat_map, Option}
use Rattle.fir_base.specs.declared.direction.Direction.{Direction}
use Rattle.fir_base.specs.declared.direction.Direction.TheVariants.{Input, Output}
use Rattle.fir_base.specs.Lists.{In}
use Rattle.fir_base.specs.Ticks.{Env, Tick, FitEach}
use Rattle.fir_base.proofs.Members.{in_left, in_flat_map, in_flat_map_from}
use Rattle.ver_ast.specs.declared.tree.Port.{Port}
use Rattle.ver_ast.specs.declared.tree.Verilog.{Verilog}
use Rattle.ver_ast.specs.Allows.{VAllows}
use Rattle.ver_ast.specs.Nets.{SizedNet, nets, port_net, port_nets, item_net, output_net, output_nets, names_of, widths_of, shape}
use Rattle.ver_ast.specs.Valid.{Valid}
use Rattle.ver_order.specs.working.Laws.{NextHasShape}
use Rattle.ver_sim.specs.working.Views.{VSimView, shown_outputs}
use Rattle.ver_runner.specs.VerilogLines.{output_widths}
use Rattle.ver_runner.specs.working.Rooms.{FitLine}

all_fit : (env : Env) (ns : List SizedNet) → ((n : List ℕ) (w : ℕ) → In ns (n, w) → env n < 2 ^ w) → FitEach (widths_of ns) (map env (names_of ns))
all_fit env [] h = tt
all_fit env (n ∷ ns) h = (h n.0 n.1 (inl refl), all_fit env ns (λ m w i. h m w (inr i)))

output_is_port : (d : Direction) (p : Port) (n : SizedNet) → In (output_net d p) n → In (port_net p) n
output_is_port Input p n i = absurd i
output_is_port Output p n i = i

output_is_net : (v : Verilog) (n : SizedNet) → In (output_nets v) n → In (nets v) n
output_is_net v n i =
    let p = in_flat_map_from (λ (q : Port). output_net q.direction q) v.ports n i in
    in_left (port_nets v) (flat_map item_net v.items) n (in_flat_map port_net v.ports p.0 n p.1 (output_is_port p.0.direction p.0 n p.2))

outputs_fit : (v : Verilog) (state : List ℕ) (tick : Tick) (outputs : List ℕ) (clocks : List (Option ℕ)) (next : List ℕ) → VAllows v state tick outputs clocks next
    → FitEach (output_widths v) outputs
outputs_fit v state tick outputs clocks next a =
    subst (FitEach (output_widths v)) a.2 (all_fit a.0 (output_nets v) (λ n w i. a.1.rest.fits n w (output_is_net v (n, w) i)))

pub state_fits : NextHasShape → (v : Verilog) → Valid v → (state : List ℕ) (tick : Tick) (outputs : List ℕ) (clocks : List (Option ℕ)) (next : List ℕ)
    → VAllows v state tick outputs clocks next → FitEach (shape v).state next
state_fits law v valid state tick outputs clocks next a = law v valid state tick a.0 a.1.rest next a.4

-- so is the line of a tick that was taken
pub line_fits : NextHasShape → (old new : VSimView) → Valid old.tree → (tick : Tick) (clocks : List (Option ℕ)) → new.tree ≡ old.tree
    → VAllows old.tree old.state tick (shown_outputs new) clocks new.state → FitLine new
line_fits law old new valid tick clocks tree a = record {
  outputs = subst (λ (v : Verilog). FitEach (output_widths v) (shown_outputs new)) (sym tree) (outputs_fit old.tree old.state tick (shown_outputs new) clocks new.state a);
  state = subst (λ (v : Verilog). FitEach (shape v).state new.state) (sym tree) (state_fits law old.tree valid old.state tick (shown_outputs new) clocks new.state a);
}
