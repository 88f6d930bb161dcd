-- A node holds what its expression does: its unknowns have one rule each, which the least widths meet exactly.
use Rattle.std.proofs.Common.{◌≡◌, ℕ, ◌<◌, ◌≤◌, min, List, [], ◌∷◌, ◌++◌, Bool, true, false, if◌then◌else◌, nat_eq, refl, sym, ap, ◌∙◌, subst, ⊎_elim, arith, append_assoc, le_trans}
use Rattle.std.proofs.lemmas.Bool.Decides.{nat_tests}
use Rattle.std.proofs.lemmas.List.{append-nil}
use Rattle.fir_base.specs.Lists.{In}
use Rattle.fir_base.proofs.Members.{in_flat_map_from}
use Rattle.fir_ast.specs.declared.place.Place.{Place}
use Rattle.fir_ast.specs.Expressions.{Expression}
use Rattle.fir_ast.specs.Statements.{PlacedName}
use Rattle.fir_ast.specs.Circuits.{ModuleTree, CircuitTree}
use Rattle.fir_meaning.specs.Components.{Declaration, Declarations}
use Rattle.fir_meaning.specs.Components as component
use Rattle.fir_meaning.specs.ComponentTypes.{known_as, typed_behind, typed_scope}
use Rattle.fir_meaning.specs.working.NameGroups.{HasNames}
use Rattle.fir_meaning.specs.SharedLeaves.{shared_count}
use Rattle.fir_meaning.specs.SizedTypes.{Sized, bare_type, renumbered}
use Rattle.fir_meaning.specs.SizedMatches.{matches}
use Rattle.fir_meaning.specs.SizedScopes.{sized_type}
use Rattle.fir_meaning.specs.SizedDeclarations.{NumberedModule, all_port_numbers, numbered_modules, numbers_at, sized_at}
use Rattle.fir_meaning.specs.TypeGroup.{scope_at, type_faults}
use Rattle.fir_meaning.specs.TypeKinds.{is_passive}
use Rattle.fir_meaning.specs.TypedScopes.{TypedScope}
use Rattle.fir_meaning.specs.Visibility.{Before, at_head, behind_ports, with_declaration, declarations}
use Rattle.fir_meaning.specs.WidthExpressions.{Width, Widths, Rule, MeetsRules, unknown, width_under}
use Rattle.fir_meaning.specs.WidthRules.{AreWidths, rules, rules_in_block}
use Rattle.fir_meaning.specs.working.WellTyped.{AreLegal}
use Rattle.fir_meaning.specs.working.WidthLaws.{WidthsGrow}
use Rattle.fir_meaning.proofs.FoundTypes.{found_type}
use Rattle.fir_meaning.proofs.FreshFields.{HasFreshFields}
use Rattle.fir_meaning.proofs.SizedExpressions.{sized_as_typed}
use Rattle.fir_meaning.proofs.WellTypedCircuits.{well_typed}
use Rattle.fir_meaning.specs.ModuleScenes.{Scene, behind_all_ports}
use Rattle.fir_leaf.specs.working.LeafLaws.{Begins, IsFine}
use Rattle.fir_leaf.proofs.AlikeTypes.{fresh_bare}
use Rattle.fir_leaf.proofs.ClearScopes.{fine_module}
use Rattle.fir_leaf.proofs.DeclaredLeaves.{own_module}
use Rattle.fir_leaf.proofs.FineTypes.{fine_type}
use Rattle.fir_leaf_types.proofs.DeclarationsGrow.{Grows, grows_all, grows_through}
use Rattle.fir_leaf_types.proofs.FreeNumbers.{Free, OfOther, IsOther, owned_head}
use Rattle.fir_leaf_types.proofs.NodeTypes.{Solved, node_types}
use Rattle.fir_leaf_types.proofs.NumberPlaces.{Taken, no_port, one_place}
use Rattle.fir_leaf_types.proofs.OwnedNumbers.{Within, node_shared}
use Rattle.fir_leaf_types.proofs.RolesTyped.{NodesHold}
use Rattle.fir_leaf_types.proofs.RulesOwned.{OfNode, RuleOwned, block_rules, node_declared, node_rules, node_taken, rule_from, rule_to}
use Rattle.fir_leaf_types.proofs.StraightMatches.{passive_bare}

-- what is known behind fewer declarations is where all that is known begins
typed_front : (modules : List ModuleTree) (scope : TypedScope) (ds : Declarations) → Begins scope (typed_behind modules scope ds)
typed_front modules scope [] = ([], append-nil scope)
typed_front modules scope (d ∷ ds) =
    let k = known_as modules scope d in
    let later = typed_front modules (scope ++ k ∷ []) ds in
    (k ∷ later.0, sym (append_assoc scope (k ∷ []) later.0) ∙ later.1)

typed_joined : (modules : List ModuleTree) (scope : TypedScope) (ds more : Declarations)
    → typed_behind modules scope (ds ++ more) ≡ typed_behind modules (typed_behind modules scope ds) more
typed_joined modules scope [] more = refl
typed_joined modules scope (d ∷ ds) more = typed_joined modules (scope ++ known_as modules scope d ∷ []) ds more

front_begins : (modules : List ModuleTree) (ds all : Declarations) → Grows ds all → Begins (typed_scope modules ds) (typed_scope modules all)
front_begins modules ds all g =
    let front = typed_front modules (typed_scope modules ds) g.0 in
    (front.0, front.1 ∙ sym (typed_joined modules [] ds g.0) ∙ ap (typed_scope modules) g.1)

-- the least widths with one of them less
abbrev lowered : Widths → ℕ → ℕ → Widths
lowered w j m = λ k. if nat_eq k j then min m (w k) else w k

lowered_below : (w : Widths) (j m k : ℕ) → lowered w j m k ≤ w k
lowered_below w j m k = by (nat_eq k j) (w k)
  where
    by : (b : Bool) (x : ℕ) → (if b then min m x else x) ≤ x
    by true x = omega arith
    by false x = omega arith

lowered_at : (w : Widths) (j m : ℕ) → lowered w j m j ≤ m
lowered_at w j m = by (w j)
  where
    by : (x : ℕ) → (if nat_eq j j then min m x else x) ≤ m
    by x = grind (arith, nat_tests)

lowered_from : (w : Widths) (j m k n : ℕ) → n ≤ w k → (k ≡ j → n ≤ m) → n ≤ lowered w j m k
lowered_from w j m k n h below = by (w k) h
  where
    by : (x : ℕ) → n ≤ x → n ≤ (if nat_eq k j then min m x else x)
    by x g = grind (arith, nat_tests, below)

module _ (grow : WidthsGrow) (c : CircuitTree) (names : HasNames c) (types : type_faults c ≡ []) where
  -- each rule is for a free unknown, or is that of a node
  all_owned : (r : Rule) → In (rules c) r → RuleOwned c r
  all_owned r i =
      let from =
      in_flat_map_from (λ (m : NumberedModule). rules_in_block m (behind_ports at_head m.inside.ports) m.inside.body) (numbered_modules c) r i in
      let m = from.0 in
      let own = own_module c m from.1 in
      let legal : AreLegal m.modules (behind_all_ports m.inside) m.inside.body =
      subst (λ ms. AreLegal ms (behind_all_ports m.inside) m.inside.body) (sym own.modules) ((well_typed c names).0 types m.inside own.inside) in
      block_rules c m from.1 own.modules own.start m.inside.body (behind_ports at_head m.inside.ports) (grows_all (declarations m.inside)) legal
      (owned_head c m from.1 own.modules own.start) r from.2

  -- a rule for an unknown of a node is the node's own
  own_rule : (m : NumberedModule) (ds : Declarations) (n : PlacedName) (e : Expression) (depth : ℕ) → In (numbered_modules c) m → (r : Rule)
      → Taken m ds (node_declared n e depth) r.number → RuleOwned c r → In (node_rules m ds e) r
  own_rule m ds n e depth i r taken owned =
      ⊎_elim
      (λ (free : Free c r.number).
      absurd
      (⊎_elim
      (λ (port : r.number < all_port_numbers c.modules). absurd (omega (arith, port, no_port c m ds (node_declared n e depth) r.number i taken)))
      (λ (o : OfOther c r.number).
      let one = one_place c m o.inside ds o.front (node_declared n e depth) o.own r.number i o.is_in taken o.taken in
      subst (λ (d : Declaration). IsOther d.component) (sym one.place.own) o.other)
      free))
      (λ (o : OfNode c r).
      let one = one_place c m o.inside ds o.front (node_declared n e depth) (node_declared o.named o.value o.depth) r.number i o.is_in taken o.taken in
      let same : component.node e ≡ component.node o.value = ap (λ (d : Declaration). d.component) one.place.own in
      let value : e ≡ o.value = cc in
      rw (one.within, one.place.front, value) o.rule)
      owned

  module _ (s : Scene) (is_in : In (numbered_modules c) s.own) (are : AreWidths c s.widths) where
    -- where the rules of a node are met, its unknowns are the least that they ask for
    node_solved : (before : Before) (p : Place) (n : PlacedName) (e : Expression)
        → Grows (with_declaration before n (component.node e)).declared (declarations s.own.inside)
        → ((r : Rule) → In (node_rules s.own before.declared e) r → width_under r.at_least s.widths ≤ s.widths r.number)
        → Solved s.widths
        (matches false (renumbered (numbers_at s.own before).next (sized_type (sized_at s.own before) e)) (sized_type (sized_at s.own before) e))
        (numbers_at s.own before).next (shared_count (bare_type (sized_type (sized_at s.own before) e)))
    node_solved before p n e g met =
        record {
          above = λ j d i. met (record { number = j; at_least = d }) (rule_to a b j d i);
          least = λ j m within all. le_trans (are.least (lowered w j m) (lowered_meets j m within all) j) (lowered_at w j m);
        }
      where
        w : Widths
        w = s.widths

        b : Sized
        b = sized_type (sized_at s.own before) e

        k : ℕ
        k = (numbers_at s.own before).next

        a : Sized
        a = renumbered (numbers_at s.own before).next (sized_type (sized_at s.own before) e)

        lowered_meets : (j m : ℕ) → Within (numbers_at s.own before).next (shared_count (bare_type (sized_type (sized_at s.own before) e))) j
            → ((d : Width)
            → In (matches false (renumbered (numbers_at s.own before).next (sized_type (sized_at s.own before) e)) (sized_type (sized_at s.own before) e))
            (record { driven = unknown j; driver = d }) → width_under d s.widths ≤ m)
            → MeetsRules (rules c) (lowered s.widths j m)
        lowered_meets j m within all = record {
          each = λ r i.
              let own = own_module c s.own is_in in
              le_trans (grow r.at_least (lowered w j m) w (lowered_below w j m))
              (lowered_from w j m r.number (width_under r.at_least w) (are.meets.each r i)
              (λ same.
              let here = subst (Within k (shared_count (bare_type b))) (sym same) within in
              let taken = node_taken c s.own is_in own.modules own.start before p n e r.number g here in
              let mine = own_rule s.own before.declared n e before.depth is_in r taken (all_owned r i) in
              let from = rule_from a b r mine in
              let match : In (matches false a b) (record { driven = unknown r.number; driver = r.at_least }) =
              subst (In (matches false a b)) from.is from.is_in in
              all r.at_least (subst (λ x. In (matches false a b) (record { driven = unknown x; driver = r.at_least })) same match)));
        }

    pub nodes_hold : NodesHold s
    nodes_hold before p n e g legal met =
        let own = own_module c s.own is_in in
        let scope = scope_at s.own.modules before in
        let all = declarations s.own.inside in
        let k = (numbers_at s.own before).next in
        let t = sized_type (sized_at s.own before) e in
        let next = with_declaration before n (component.node e) in
        let shape = sized_as_typed s.own.modules s.own.start before.declared e legal.0 own.start (ap (λ x. x.has) (found_type scope e legal.0 legal.1)) in
        let fine : IsFine (typed_scope s.own.modules (declarations s.own.inside)) =
        subst (λ ms. IsFine (typed_scope ms (declarations s.own.inside))) (sym own.modules)
        (fine_module c names s.own.inside own.inside ((well_typed c names).0 types s.own.inside own.inside)) in
        let begins =
        front_begins s.own.modules before.declared all (grows_through before.declared next.declared all (_, refl) g) in
        let fresh_typed : HasFreshFields legal.0 = fine_type scope (typed_scope s.own.modules all) fine begins e legal.0 legal.1 in
        let fresh : HasFreshFields (bare_type t) = subst HasFreshFields (sym shape) (fresh_bare legal.0 fresh_typed) in
        let passive : is_passive (bare_type t) ≡ true = ap is_passive shape ∙ passive_bare legal.0 ∙ legal.2 in
        let solved = subst (Solved s.widths (matches false (renumbered k t) t) k) (sym (node_shared t)) (node_solved before p n e g met) in
        node_types s.widths k t fresh passive solved
