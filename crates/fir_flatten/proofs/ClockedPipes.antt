-- A pipe of a flat net has a clock, in all settled values, exactly where that of the tree has one.
use Rattle.std.proofs.Common.{◌≡◌, ◌↔◌, ℕ, List, ◌++◌, slice_get, Some, None, refl, sym, ap, ◌∙◌, subst}
use Rattle.std.specs.Prelude.{IsSome, IsTrue}
use Rattle.fir_base.specs.Ticks.{Tick}
use Rattle.fir_bits.specs.working.Laws.{HasItsType}
use Rattle.fir_ast.specs.declared.statements.ReadUnderWrite.{ReadUnderWrite}
use Rattle.fir_meaning.specs.LeafPaths.{LeafPath}
use Rattle.fir_meaning.specs.SourceAllows as tree
use Rattle.fir_meaning.specs.SourceCircuits.{PlacedLeaf}
use Rattle.fir_meaning.specs.SourceDesigns.{SourceDesign}
use Rattle.fir_meaning.specs.SourceRoles as source
use Rattle.fir_meaning.specs.SourceRoles.{SourceRole}
use Rattle.fir_meaning.specs.SourceValues.{PathEnv}
use Rattle.fir_meaning.specs.working.LeafCircuits.{LeafCircuit}
use Rattle.fir_meaning.specs.working.LeafModules.{Reading, Role, pipe}
use Rattle.fir_meaning.specs.working.LeafSettled as over
use Rattle.fir_meaning.specs.working.TermValues.{Env}
use Rattle.fir_leaf.specs.working.SoundDesigns.{circuit_path}
use Rattle.fir_design.proofs.EnvsByPath.{by_path, nothing_elsewhere, there_and_back}
use Rattle.fir_design.proofs.InStep.{InStep, SameRoleBelow}
use Rattle.fir_design.proofs.SettledInStep.{settled_by_number, settled_by_path}
use Rattle.fir_design.proofs.ValuesInStep.{by_number}
use Rattle.fir_net.specs.declared.array.Pipe.{Pipe}
use Rattle.fir_net.specs.declared.leaf.Leaf.{Leaf}
use Rattle.fir_net.specs.declared.leaf.Role.TheVariants as role
use Rattle.fir_net.specs.declared.net.FlatNet.{FlatNet}
use Rattle.fir_net.specs.working.IsNet.{IsClock, IsRole}
use Rattle.fir_net.proofs.LeafEquations.{driven_at}
use Rattle.fir_equivalence.specs.working.IsEquivalent.{HasClock}
use Rattle.fir_flat.specs.working.FlatLaws.{IsFaithful}
use Rattle.fir_flat.proofs.KeptValues.{AreBeside, kept}
use Rattle.fir_flat.proofs.SettledValues.{beside, settled_in_circuit, settled_in_net}
use Rattle.fir_flatten.specs.BlockWords.{IsClocked, is_pipe}
use Rattle.fir_flatten.specs.working.FlattensTo.{PipesAs}

module _ (c : LeafCircuit) (net : FlatNet) (faithful : IsFaithful c net) (x : ℕ) (l : Leaf) (at : slice_get net.leaves x ≡ Some l) (d : Pipe)
    (own : l.role ≡ role.Pipe d) (m : Reading) (clock : ℕ) (under : ReadUnderWrite) (clock_is : d.clock ≡ clock) (law : HasItsType) (t : SourceDesign)
    (s : InStep c t) (p : PlacedLeaf) where
  clock_leaf : IsClock net.leaves d.clock
  clock_leaf =
      let can = subst (IsRole net.leaves net.nodes l.signed l.width) own (driven_at net faithful.whole x l l.role at refl) in
      can.0

  module _ (path : LeafPath) (same : circuit_path c clock ≡ p.at ++ path) where
    own_path : circuit_path c d.clock ≡ p.at ++ path
    own_path = ap (circuit_path c) clock_is ∙ same

    clocked_in_tree : HasClock net d.clock → (state : List ℕ) (tick : Tick) (env : PathEnv) → tree.Settled t state tick env
        → IsSome (env.clocks (p.at ++ path))
    clocked_in_tree has state tick env h =
        let values = by_number c env in
        let settled = settled_by_number c t s state tick env h in
        subst (λ (q : LeafPath). IsSome (env.clocks q)) own_path
        (has state tick values.numbers values.clocks (settled_in_net c net faithful law state tick values settled))

    clocked_in_net : ((state : List ℕ) (tick : Tick) (env : PathEnv) → tree.Settled t state tick env → IsSome (env.clocks (p.at ++ path)))
        → HasClock net d.clock
    clocked_in_net has state tick e f h =
        let values = kept c e f in
        let settled = settled_in_circuit c net faithful law state tick e f h in
        let env = by_path c values in
        let back = there_and_back c t s values settled.no_more_numbers settled.no_more_clocks in
        let b : AreBeside c net values e f = beside c net faithful law state tick e f h in
        let in_net : f d.clock ≡ values.clocks d.clock = b.clocks d.clock clock_leaf.0 clock_leaf.1 clock_leaf.2 in
        let by_paths : env.clocks (circuit_path c d.clock) ≡ values.clocks d.clock = ap (λ (v : Env). v.clocks d.clock) back in
        subst IsSome (ap env.clocks (sym own_path) ∙ by_paths ∙ sym in_net)
        (has state tick env
        (settled_by_path c t s state tick env (nothing_elsewhere c 0 values.numbers t s) (nothing_elsewhere c None values.clocks t s)
        (subst (over.Settled c state tick) (sym back) settled)))

  by_source : (q : SourceRole) → SameRoleBelow c p.at (pipe m clock under) q → IsTrue (is_pipe q) × (HasClock net d.clock ↔ IsClocked t p q)
  by_source (source.pipe r path moment) same = (refl, (clocked_in_tree path same.1, clocked_in_net path same.1))
  by_source q same = absurd same

  pub pipes_alike : (r : Role) → r ≡ pipe m clock under → SameRoleBelow c p.at r p.leaf.role → PipesAs t net p d
  pipes_alike r is same =
      let both = by_source p.leaf.role (subst (λ (y : Role). SameRoleBelow c p.at y p.leaf.role) is same) in
      record { is = both.0; clock = both.1 }
