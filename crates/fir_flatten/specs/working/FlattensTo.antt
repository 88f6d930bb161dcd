-- When a net is the flat net of a circuit: it is whole and has a Verilog text, it has the circuit's name, and whichever source tree stands below the circuit's main
-- module, the net has its ports, its state and its shape, and allows at every tick what the tree allows; its registers take values and are reset where those of the
-- tree are, and its pipes stand where those of the tree do;
-- and a closed walk of dependence stands in the circuit where one stands in the net.
use Rattle.std.specs.Prelude.{◌≡◌, ◌↔◌, ◌⊎◌, ℕ, List, Option, Some, IsSome, IsTrue, map, slice_get}
use Rattle.fir_base.specs.Ticks.{Tick}
use Rattle.fir_ast.specs.declared.fault.FirFault.{FirFault}
use Rattle.fir_ast.specs.Circuits.{CircuitTree}
use Rattle.fir_ast.specs.working.CodeFaults.{fault_of}
use Rattle.fir_pass.specs.Groups.{IsClear}
use Rattle.fir_pass.specs.Meaning.{Counts}
use Rattle.fir_meaning.specs.Elaborated.{IsSourceOf}
use Rattle.fir_meaning.specs.SourceLoops.{loop_group}
use Rattle.fir_meaning.specs.SourceMeaning.{source_counts}
use Rattle.fir_meaning.specs.SourceAllows.{Allows}
use Rattle.fir_meaning.specs.SourceCircuits.{PlacedLeaf, is_sink_role, ports_where, source_shape, state_words, widths_of_leaves}
use Rattle.fir_meaning.specs.SourceDesigns.{SourceDesign}
use Rattle.fir_meaning.specs.SourceOne.{One}
use Rattle.fir_meaning.specs.LeafTypes.{has_bits}
use Rattle.fir_net.specs.declared.array.Pipe.{Pipe}
use Rattle.fir_net.specs.declared.leaf.Leaf.{Leaf}
use Rattle.fir_net.specs.declared.leaf.Register.{Register}
use Rattle.fir_net.specs.declared.leaf.Role.TheVariants as role
use Rattle.fir_net.specs.declared.net.FlatNet.{FlatNet}
use Rattle.fir_net.specs.working.Rows.{net_arrays, net_rows, net_words}
use Rattle.fir_net.specs.working.Allows.{Allows as NetAllows}
use Rattle.fir_net.specs.working.IsNet.{IsNet}
use Rattle.fir_net.specs.working.IsWritable.{IsWritable}
use Rattle.fir_net.specs.working.One.{One as NetOne}
use Rattle.fir_net.specs.working.WordNames.{HasWordNames}
use Rattle.fir_net.specs.working.Counted.{array_count, leaf_count, register_count}
use Rattle.fir_net.specs.working.Settled.{outputs as net_outputs, shape as net_shape}
use Rattle.fir_net.specs.working.Values.{leaf_width}
use Rattle.fir_loop.specs.working.IsLoop.{IsLoop, ShowsLoop}
use Rattle.fir_equivalence.specs.working.IsEquivalent.{HasClock}
use Rattle.fir_flatten.specs.SourceRows.{source_array_rows, source_rows, source_words}
use Rattle.fir_flatten.specs.BlockWords.{IsClocked, TakesValue, is_pipe, is_reset_at_once}
use Rattle.fir_flatten.specs.working.Words.{HasWords}

-- the widths of the outputs, in their order
abbrev pub output_widths : SourceDesign → List ℕ
output_widths t = widths_of_leaves (ports_where is_sink_role has_bits t)

-- the register of a word of the net beside the word of the tree: it has a reset where that has an asynchronous one; something drives it, or it has a reset, where
-- that takes a value; and it has a clock where that has one
pub record TakesAs (t : SourceDesign) (net : FlatNet) (p : PlacedLeaf) (r : Register) : Type 0 where
  pub reset : IsSome r.reset ↔ IsTrue (is_reset_at_once p.leaf.role)
  pub takes : (IsSome r.reset ⊎ IsSome r.next) ↔ TakesValue t p
  pub clock : HasClock net r.clock ↔ IsClocked t p p.leaf.role

-- the pipe of a word of the net beside the word of the tree: it has a clock where that has one
pub record PipesAs (t : SourceDesign) (net : FlatNet) (p : PlacedLeaf) (q : Pipe) : Type 0 where
  pub is : IsTrue (is_pipe p.leaf.role)
  pub clock : HasClock net q.clock ↔ IsClocked t p p.leaf.role

pub record MeansSource (t : SourceDesign) (net : FlatNet) : Type 0 where
  pub ports : net_rows net ≡ source_rows t
  pub words : net_words net ≡ source_words t
  pub arrays : net_arrays net ≡ source_array_rows t
  pub shapes : net_shape net ≡ source_shape t
  pub output_widths : map (leaf_width net.leaves) (net_outputs net) ≡ output_widths t
  pub one : One t ↔ NetOne net
  pub allows :
      (state : List ℕ) (tick : Tick) (shown : List ℕ) (clocks : List (Option ℕ)) (after : List ℕ)
      → NetAllows net state tick shown clocks after ↔ Allows t state tick shown clocks after
  pub taken :
      (n k : ℕ) (p : PlacedLeaf) (l : Leaf) (r : Register) → slice_get net.state n ≡ Some k → slice_get (state_words t) n ≡ Some p
      → slice_get net.leaves k ≡ Some l → l.role ≡ role.Register r → TakesAs t net p r
  pub piped :
      (n k : ℕ) (p : PlacedLeaf) (l : Leaf) (q : Pipe) → slice_get net.state n ≡ Some k → slice_get (state_words t) n ≡ Some p
      → slice_get net.leaves k ≡ Some l → l.role ≡ role.Pipe q → PipesAs t net p q

pub record FlattensTo (c : CircuitTree) (net : FlatNet) : Type 0 where
  pub whole : IsNet net
  -- its names can be written where those of the circuit can
  pub words : HasWords c → HasWordNames net
  pub writable : IsWritable net
  pub named : net.name ≡ c.named.name
  pub source : SourceDesign
  pub is_source : IsSourceOf c source
  pub each : (t : SourceDesign) → IsSourceOf c t → MeansSource t net
  pub loops : (f : FirFault) → ShowsLoop net f → (loop_group c).shows (fault_of f)
  pub no_loop : ((walk : List ℕ) → IsLoop net walk → ⊥) → IsClear (loop_group c)

-- how many leaves, registers and arrays a net has
abbrev pub net_counts : FlatNet → Counts
net_counts net = record { leaves = leaf_count net; registers = register_count net; memories = array_count net }

-- one that has also as many of these as the circuit's source
pub record IsFlatNetOf (c : CircuitTree) (net : FlatNet) : Type 0 where
  pub flattens : FlattensTo c net
  pub counted : (t : SourceDesign) → IsSourceOf c t → source_counts t ≡ net_counts net
