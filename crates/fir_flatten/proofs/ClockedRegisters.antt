-- A register of a flat net has a clock, in all settled values, exactly where that of the tree has one.
use Rattle.std.proofs.Common.{◌≡◌, ◌↔◌, ℕ, List, [], slice_get, Option, Some, None, refl, sym, ap, ◌∙◌, subst}
use Rattle.std.specs.Prelude.{IsSome}
use Rattle.fir_base.specs.Ticks.{Tick}
use Rattle.fir_bits.specs.working.Laws.{HasItsType}
use Rattle.fir_ast.specs.Expressions.{Expression}
use Rattle.fir_meaning.specs.LeafTypes.{LeafType, a_clock, number}
use Rattle.fir_meaning.specs.SourceAllows as tree
use Rattle.fir_meaning.specs.SourceCircuits.{PlacedLeaf}
use Rattle.fir_meaning.specs.SourceDesigns.{SourceDesign}
use Rattle.fir_meaning.specs.SourceRoles as source
use Rattle.fir_meaning.specs.SourceRoles.{SourceRole}
use Rattle.fir_meaning.specs.SourceValues.{PathEnv, clock_at}
use Rattle.fir_meaning.specs.TypedScopes.{TypedScope}
use Rattle.fir_meaning.specs.working.LeafCircuits.{LeafCircuit, depth_of, role_of, type_of_leaf}
use Rattle.fir_meaning.specs.working.LeafModules.{LeafReset, Role, computed, leaf_at, pipe, reading, register, sink}
use Rattle.fir_meaning.specs.working.LeafModules as leafed
use Rattle.fir_meaning.specs.working.LeafSettled as over
use Rattle.fir_meaning.specs.working.TermValues.{Env, clock_of}
use Rattle.fir_meaning.specs.working.Terms.{Term}
use Rattle.fir_connect.specs.working.CircuitModules.{as_module}
use Rattle.fir_connect.specs.working.NetRoles.{net_role, net_types}
use Rattle.fir_connect.specs.working.NetValues.{term_clock}
use Rattle.fir_connect.specs.working.RoleLaws.{Gives}
use Rattle.fir_design.proofs.EnvsByPath.{by_path, nothing_elsewhere, there_and_back}
use Rattle.fir_design.proofs.InStep.{InStep, SameRoleBelow, SameTermBelow}
use Rattle.fir_design.proofs.SettledInStep.{settled_by_number, settled_by_path}
use Rattle.fir_design.proofs.ValuesInStep.{by_number, clock_same}
use Rattle.fir_net.specs.declared.leaf.Leaf.{Leaf}
use Rattle.fir_net.specs.declared.leaf.Register.{Register}
use Rattle.fir_net.specs.declared.leaf.Role.{Role as FlatRole}
use Rattle.fir_net.specs.declared.leaf.Role.TheVariants as role
use Rattle.fir_net.specs.declared.net.FlatNet.{FlatNet}
use Rattle.fir_net.specs.working.IsNet.{IsRole}
use Rattle.fir_net.proofs.LeafEquations.{driven_at}
use Rattle.fir_equivalence.specs.working.IsEquivalent.{HasClock}
use Rattle.fir_flat.specs.working.FlatCircuits.{IsRoleOf}
use Rattle.fir_flat.specs.working.FlatLaws.{IsFaithful}
use Rattle.fir_flat.proofs.KeptValues.{AreBeside, kept}
use Rattle.fir_flat.proofs.SettledValues.{beside, own_beside, settled_in_circuit, settled_in_net}
use Rattle.fir_flat.proofs.ShownValues.{gives}
use Rattle.fir_flatten.specs.BlockWords.{IsClocked}

-- the leaf of a register's clock
abbrev register_clock : FlatRole → ℕ
register_clock (role.Register d) = d.clock
register_clock _ = 0

module _ (c : LeafCircuit) (net : FlatNet) (faithful : IsFaithful c net) (x : ℕ) (l : Leaf) (at : slice_get net.leaves x ≡ Some l) (d : Register)
    (is_register : l.role ≡ role.Register d) (clock : Term) (reset : Option LeafReset) (role_is : role_of c x ≡ register clock reset) where
  module _ (env : Env) (e : ℕ → ℕ) (f : ℕ → Option ℕ) (b : AreBeside c net env e f) where
    clock_by_role : (y : FlatRole) → IsRole net.leaves net.nodes l.signed l.width y → y ≡ role.Register d → (h : LeafType) (r : Role)
        → Gives (as_module c) env.numbers env.clocks x h r (net_role (net_types (as_module c)) (depth_of c x) c.body x r)
        → IsRoleOf net.nodes (net_types (as_module c)) x y h (net_role (net_types (as_module c)) (depth_of c x) c.body x r) → r ≡ register clock reset
        → clock_of (type_of_leaf c) env clock ≡ f d.clock
    clock_by_role y can own (number t) (register k p) worth is named =
        let role_can = subst (IsRole net.leaves net.nodes l.signed l.width) is.3 can in
        let same : k ≡ clock = cc in
        let number_is : is.0 ≡ d.clock = ap register_clock (sym is.3 ∙ own) in
        ap (clock_of (type_of_leaf c) env) (sym same) ∙ worth.0 ∙ ap (term_clock (type_of_leaf c) env.numbers env.clocks) is.4
        ∙ sym (b.clocks is.0 role_can.0.0 role_can.0.1 role_can.0.2) ∙ ap f number_is
    clock_by_role y can own a_clock (register k p) worth is named = absurd is
    clock_by_role y can own h leafed.source worth is named = cc
    clock_by_role y can own h sink worth is named = cc
    clock_by_role y can own h (computed t) worth is named = cc
    clock_by_role y can own h (reading r) worth is named = cc
    clock_by_role y can own h (pipe r k u) worth is named = cc

    clock_is : clock_of (type_of_leaf c) env clock ≡ f d.clock
    clock_is =
        clock_by_role l.role (driven_at net faithful.whole x l l.role at refl) is_register (leaf_at c.leaves x).holds (role_of c x)
        (gives c net faithful env e b.numbers x l at) (faithful.flat.roles x l at) role_is

  module _ (law : HasItsType) (t : SourceDesign) (s : InStep c t) (p : PlacedLeaf) where
    module _ (scope : TypedScope) (own : Expression) (same : SameTermBelow c p.at clock scope own []) where
      clocked_in_tree : HasClock net d.clock → (state : List ℕ) (tick : Tick) (env : PathEnv) → tree.Settled t state tick env
          → IsSome (clock_at t env p.at scope own [])
      clocked_in_tree has state tick env h =
          let values = by_number c env in
          let settled = settled_by_number c t s state tick env h in
          subst IsSome
          (sym (clock_is values values.numbers values.clocks (own_beside c net faithful law state tick values settled))
          ∙ clock_same c t s env p.at clock scope own [] same)
          (has state tick values.numbers values.clocks (settled_in_net c net faithful law state tick values settled))

      clocked_in_net : ((state : List ℕ) (tick : Tick) (env : PathEnv) → tree.Settled t state tick env → IsSome (clock_at t env p.at scope own []))
          → HasClock net d.clock
      clocked_in_net has state tick e f h =
          let values = kept c e f in
          let settled = settled_in_circuit c net faithful law state tick e f h in
          let env = by_path c values in
          let back = there_and_back c t s values settled.no_more_numbers settled.no_more_clocks in
          subst IsSome
          (sym (clock_same c t s env p.at clock scope own [] same) ∙ ap (λ (v : Env). clock_of (type_of_leaf c) v clock) back
          ∙ clock_is values e f (beside c net faithful law state tick e f h))
          (has state tick env
          (settled_by_path c t s state tick env (nothing_elsewhere c 0 values.numbers t s) (nothing_elsewhere c None values.clocks t s)
          (subst (over.Settled c state tick) (sym back) settled)))

    by_source : (q : SourceRole) → SameRoleBelow c p.at (register clock reset) q → HasClock net d.clock ↔ IsClocked t p q
    by_source (source.register scope own r q) same = (clocked_in_tree scope own same.0, clocked_in_net scope own same.0)
    by_source q same = absurd same

    pub clocked_same : SameRoleBelow c p.at (role_of c x) p.leaf.role → HasClock net d.clock ↔ IsClocked t p p.leaf.role
    clocked_same same = by_source p.leaf.role (subst (λ (r : Role). SameRoleBelow c p.at r p.leaf.role) role_is same)
