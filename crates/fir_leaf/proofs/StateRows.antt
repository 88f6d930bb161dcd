-- The order of a state, computed from a text.
-- The state of an instance stands between what is declared before and behind it, though its leaves and arrays have later numbers.
use Rattle.std.proofs.Common.{◌≡◌, ℕ, List, [], ◌∷◌, true, map, refl}
use Rattle.std.specs.Prelude.{codes}
use Rattle.fir_ast.specs.declared.statements.ReadUnderWrite.TheVariants.{Old}
use Rattle.fir_bits.specs.Literals.{least_width}
use Rattle.fir_meaning.specs.LeafPaths.{LeafPath, path_text}
use Rattle.fir_meaning.specs.working.LeafModules.{pipe}
use Rattle.fir_meaning.specs.working.LeafCircuits.{LeafCircuit, role_of}
use Rattle.fir_leaf.specs.working.DesignStates.{array_at}
use Rattle.fir_meaning.specs.working.Designs.{elaborated}
use Rattle.fir_leaf.specs.working.SoundDesigns.{circuit_path}
use Rattle.fir_leaf.specs.working.DesignLaws.{array_path}
use Rattle.fir_leaf.proofs.TextTrees as text
use Rattle.fir_leaf.proofs.RowTrees.{over_leaves}

abbrev with_state : LeafCircuit
with_state = over_leaves text.state_order

abbrev texts_of : List LeafPath → List (List ℕ)
texts_of paths = map path_text paths

state_is :
    (texts_of (map (circuit_path with_state) with_state.words) ≡ codes "u" ∷ codes "b.m.r.data" ∷ codes "b.s" ∷ codes "v" ∷ codes "n.r.data" ∷ [])
    × (texts_of (map (array_path with_state) with_state.array_order) ≡ codes "b.m" ∷ codes "n" ∷ [])
    × (with_state.array_order ≡ 2 ∷ 0 ∷ [])
unfolding elaborated least_width
state_is = (refl, refl, refl)

ports_are :
    (with_state.inputs ≡ 1 ∷ []) × (with_state.clock_inputs ≡ 0 ∷ []) × (with_state.outputs ≡ 3 ∷ []) × (with_state.clock_outputs ≡ 4 ∷ [])
unfolding elaborated
ports_are = (refl, refl, refl, refl)

-- the read of the memory in the instance, and what is written there, are of that memory's own leaves
memory_is :
    (texts_of (map (circuit_path with_state) (26 ∷ 27 ∷ 28 ∷ 29 ∷ 30 ∷ 31 ∷ 32 ∷ 33 ∷ 34 ∷ []))
    ≡ codes "b.m.r.addr" ∷ codes "b.m.r.en" ∷ codes "b.m.r.clk" ∷ codes "b.m.r.data" ∷ codes "b.m.w.addr" ∷ codes "b.m.w.en" ∷ codes "b.m.w.clk"
    ∷ codes "b.m.w.data" ∷ codes "b.m.w.mask" ∷ [])
    × (role_of with_state 29 ≡ pipe (record { array = 2; address = 26; needs = record { leaf = 27; high = true } ∷ [] }) 28 Old)
    × ((array_at with_state.arrays 2).writings
    ≡ record { address = 30; needs = record { leaf = 31; high = true } ∷ record { leaf = 34; high = true } ∷ []; clock = 32; given = 33 } ∷ [])
unfolding elaborated
memory_is = (refl, refl, refl)
