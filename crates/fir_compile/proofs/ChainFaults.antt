-- What the one chain of passes says of the circuit of a text: that it is taken, or why the text is refused.
use Rattle.std.proofs.Common.{ℕ, List, inr, arith}
use Rattle.fir_ast.specs.declared.circuit.Circuit.{Circuit}
use Rattle.fir_ast.specs.declared.fault.FirFault.{FirFault}
use Rattle.fir_ast.specs.working.CodeFaults.{fault_of}
use Rattle.fir_ast.specs.Circuits.{CircuitTree}
use Rattle.fir_ast.specs.Faults.{Fault}
use Rattle.fir_parse.specs.Spells.{Spells}
use Rattle.fir_pass.specs.Groups.{of_names, of_hierarchy, of_types, of_resets, of_widths, of_cost, of_drivers, of_clocks, of_inits, of_loops}
use Rattle.fir_pass.specs.declared.alternative.Either.{Either}
use Rattle.fir_pass.specs.declared.alternative.Either.TheVariants.{One, Two}
use Rattle.fir_pass.specs.working.Either.{clear_of_both, reported_by}
use Rattle.fir_meaning.specs.SourceMeaning.{circuit_meaning}
use Rattle.fir_meaning.specs.working.Stages.{IsClearOf, IsFirstOf}
use Rattle.fir_net.specs.declared.net.FlatNet.{FlatNet}
use Rattle.fir_outcome.specs.Emits.{Takes}
use Rattle.fir_outcome.specs.Refusals.{RefusedFor}
use Rattle.fir_compile.specs.working.Told.{told_by}
use Rattle.fir_compile.proofs.ChainGroups.{both_clear, clear_all, first_of_both, first_of_one, first_of_two}

-- a fault with what the pass was given
abbrev Given : Type 0
Given = FirFault × Circuit

abbrev told : {X : Type 0} → FirFault × X → Fault
told f = fault_of f.0

abbrev ReportsFirst : {X : Type 0} → ℕ → ℕ → CircuitTree → FirFault × X → Type 0
ReportsFirst from upto c f = IsFirstOf from upto c (told f)

-- the passes over the tree, from the last to the first
abbrev FromCost : CircuitTree → Either Given Given → Type 0
FromCost = reported_by (IsClearOf of_cost of_cost) (ReportsFirst of_cost of_cost) (ReportsFirst of_drivers of_drivers)

abbrev FromResets : CircuitTree → Either Given (Either Given Given) → Type 0
FromResets = reported_by (IsClearOf of_resets of_widths) (ReportsFirst of_resets of_widths) FromCost

abbrev FromTypes : CircuitTree → Either Given (Either Given (Either Given Given)) → Type 0
FromTypes = reported_by (IsClearOf of_types of_types) (ReportsFirst of_types of_types) FromResets

abbrev TreeFault : Type 0
TreeFault = Either Given (Either Given (Either Given (Either Given Given)))

abbrev FromNames : CircuitTree → TreeFault → Type 0
FromNames = reported_by (IsClearOf of_names of_hierarchy) (ReportsFirst of_names of_hierarchy) FromTypes

abbrev ClearTree : CircuitTree → Type 0
ClearTree =
    clear_of_both (IsClearOf of_names of_hierarchy) (clear_of_both (IsClearOf of_types of_types) (clear_of_both (IsClearOf of_resets of_widths)
    (clear_of_both (IsClearOf of_cost of_cost) (IsClearOf of_drivers of_drivers))))

abbrev told_tree : TreeFault → Fault
told_tree = told_by told (told_by told (told_by told (told_by told told)))

-- those behind the nets
abbrev NetFault : Type 0
NetFault = Either Given (FirFault × FlatNet)

abbrev FromClocks : CircuitTree → NetFault → Type 0
FromClocks = reported_by (IsClearOf of_clocks of_inits) (ReportsFirst of_clocks of_inits) (ReportsFirst of_loops of_loops)

abbrev ClearNet : CircuitTree → Type 0
ClearNet = clear_of_both (IsClearOf of_clocks of_inits) (IsClearOf of_loops of_loops)

-- all of them
abbrev ChainFault : Type 0
ChainFault = Either TreeFault NetFault

abbrev FromTree : CircuitTree → ChainFault → Type 0
FromTree = reported_by ClearTree FromNames FromClocks

abbrev told_chain : ChainFault → Fault
told_chain = told_by told_tree (told_by told told)

module _ (c : CircuitTree) where
  tree_clear : ClearTree c → IsClearOf of_names of_drivers c
  tree_clear h =
      let m = circuit_meaning c in
      both_clear 1 3 9 m h.0 (both_clear 4 4 9 m h.1.0 (both_clear 5 7 9 m h.1.1.0 (both_clear 8 8 9 m h.1.1.1.0 h.1.1.1.1)))

  tree_first : (f : TreeFault) → FromNames c f → IsFirstOf of_names of_drivers c (told_tree f)
  tree_first =
      first_of_both 1 3 9 (omega arith) (omega arith) c told (told_by told (told_by told (told_by told told))) FromTypes
      (first_of_both 4 4 9 (omega arith) (omega arith) c told (told_by told (told_by told told)) FromResets
      (first_of_both 5 7 9 (omega arith) (omega arith) c told (told_by told told) FromCost
      (first_of_both 8 8 9 (omega arith) (omega arith) c told told (ReportsFirst of_drivers of_drivers) (λ b first. first))))

  net_first : (f : NetFault) → FromClocks c f → IsFirstOf of_clocks of_loops c (told_by told told f)
  net_first = first_of_both 10 12 13 (omega arith) (omega arith) c told told (ReportsFirst of_loops of_loops) (λ b first. first)

  chain_first : (f : ChainFault) → FromTree c f → IsFirstOf of_names of_loops c (told_chain f)
  chain_first (One f) first = first_of_one 1 9 13 (omega arith) (omega arith) (circuit_meaning c) (told_tree f) (tree_first f first)
  chain_first (Two f) h =
      first_of_two 1 9 13 (omega arith) (omega arith) (circuit_meaning c) (told_by told told f) (tree_clear h.0) (net_first f h.1)

module _ (bytes : List ℕ) (c : CircuitTree) (spelled : Spells bytes c) where
  pub takes : clear_of_both ClearTree ClearNet c → Takes bytes c
  takes h =
      let m = circuit_meaning c in
      record { spelled = spelled; faultless = clear_all c (both_clear 1 9 13 m (tree_clear c h.0) (both_clear 10 12 13 m h.1.0 h.1.1)) }

  pub refused : (f : ChainFault) → FromTree c f → RefusedFor bytes (told_chain f)
  refused f first = inr (record { circuit = c; spelled = spelled; first = chain_first c f first })
