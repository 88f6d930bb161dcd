-- The ports of the main module in the circuit of its design.
use Rattle.std.proofs.Common.{◌≡◌, ℕ, ◌<◌, List, false, sym, ap, ◌∙◌, subst, inl, inr, ◌⊎◌}
use Rattle.fir_ast.specs.Circuits.{CircuitTree}
use Rattle.fir_copies.proofs.PortRoles.{port_role_is}
use Rattle.fir_copies.proofs.WholeCopies.{main_port}
use Rattle.fir_meaning.specs.ModuleScenes.{Scene}
use Rattle.fir_meaning.specs.working.Designs.{Design, made_of}
use Rattle.fir_meaning.specs.working.Flattened.{flattened}
use Rattle.fir_meaning.specs.working.LeafCircuits.{role_of}
use Rattle.fir_meaning.specs.working.LeafModules.{LeafDeclared, LeafModule, role_at, sink, source}
use Rattle.fir_meaning.specs.working.LeafedModules.{leafed_module}
use Rattle.fir_flatten.specs.working.DesignNets.{is_register}
use Rattle.fir_flatten.specs.working.Laws.{IsDesigned}

-- a leaf of a port has its own role
port_same : (c : CircuitTree) (scenes : List Scene) (main : Scene) (d : Design) → IsDesigned c scenes main d → (x : ℕ) → x < (leafed_module main).port_leaves
    → role_of (flattened d) x ≡ role_at (leafed_module main) x
port_same c scenes main (made_of m is) designed x lt =
    let same = designed.sound.is.0 in
    let low : x < m.port_leaves = subst (λ (u : LeafModule). x < u.port_leaves) (sym same) lt in
    ap (λ (l : LeafDeclared). l.role) (main_port m is designed.sound.main.0 x low) ∙ ap (λ (u : LeafModule). role_at u x) same

pub port_source : (c : CircuitTree) (scenes : List Scene) (main : Scene) (d : Design) → IsDesigned c scenes main d → (x : ℕ)
    → x < (leafed_module main).port_leaves → role_at (leafed_module main) x ≡ source → role_of (flattened d) x ≡ source
port_source c scenes main d designed x lt e = port_same c scenes main d designed x lt ∙ e

pub port_no_register : (c : CircuitTree) (scenes : List Scene) (main : Scene) (d : Design) → IsDesigned c scenes main d → (x : ℕ)
    → x < (leafed_module main).port_leaves → is_register (role_of (flattened d) x) ≡ false
port_no_register c scenes main d designed x lt = ap is_register (port_same c scenes main d designed x lt) ∙ by (port_role_is main x lt)
  where
    by : (role_at (leafed_module main) x ≡ source) ⊎ (role_at (leafed_module main) x ≡ sink) → is_register (role_at (leafed_module main) x) ≡ false
    by (inl e) = ap is_register e
    by (inr e) = ap is_register e
