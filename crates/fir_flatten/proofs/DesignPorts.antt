-- The ports of the main module stand in front of a design's circuit.
use Rattle.std.proofs.Common.{◌≡◌, ℕ, zero, suc, ◌≤◌, List, [], ◌∷◌, ◌++◌, take, length, refl, sym, ap, subst, arith}
use Rattle.fir_meaning.specs.LeafTypes.{is_clock, has_bits}
use Rattle.fir_meaning.specs.working.Designs.{Design, IsDesignOf, made_of}
use Rattle.fir_meaning.specs.working.FlatLeaves.{leaves_below}
use Rattle.fir_meaning.specs.working.Flattened.{flattened, is_input, port_leaves, ports_where}
use Rattle.fir_meaning.specs.working.LeafCircuits.{LeafCircuit}
use Rattle.fir_meaning.specs.working.LeafModules.{LeafModule, is_sink}

-- a circuit in front of which stand the ports of a module
pub record HasPorts (m : LeafModule) (c : LeafCircuit) : Type 0 where
  pub leaves : take m.port_leaves c.leaves ≡ port_leaves m
  pub inputs : c.inputs ≡ ports_where is_input has_bits m
  pub clock_inputs : c.clock_inputs ≡ ports_where is_input is_clock m
  pub outputs : c.outputs ≡ ports_where is_sink has_bits m
  pub clock_outputs : c.clock_outputs ≡ ports_where is_sink is_clock m

take_front : {A : Type 0} → (n : ℕ) (xs ys : List A) → n ≤ length xs → take n (take n xs ++ ys) ≡ take n xs
take_front zero xs ys le = refl
take_front (suc n) [] ys le = absurd (omega (arith, le))
take_front (suc n) (x ∷ xs) ys le = ap (λ zs. x ∷ zs) (take_front n xs ys (omega (arith, le)))

pub has_ports : (modules : List LeafModule) (m : LeafModule) (d : Design) → IsDesignOf modules m d → m.port_leaves ≤ length m.leaves
    → HasPorts m (flattened d)
has_ports modules m (made_of v is) h room =
    subst (λ (u : LeafModule). HasPorts m (flattened (made_of u is))) (sym h.0)
    (record {
      leaves = take_front m.port_leaves m.leaves (leaves_below [] 0 0 m.port_leaves 0 (made_of m is)) room;
      inputs = refl;
      clock_inputs = refl;
      outputs = refl;
      clock_outputs = refl;
    })
