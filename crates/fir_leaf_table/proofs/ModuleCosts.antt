-- What a module costs counts all leaves that it declares.
use Rattle.std.proofs.Common.{◌≡◌, ℕ, ◌+◌, ◌≤◌, List, [], ◌∷◌, ◌++◌, refl, ap, ◌∙◌, arith}
use Rattle.fir_ast.specs.Circuits.{ModuleTree, PortTree}
use Rattle.fir_ast.specs.Statements.{PlacedName, Statement, wire, register, node, instance, memory, when, connect, partial_connect, invalid, skip, Block, done, then}
use Rattle.fir_meaning.specs.Components as component
use Rattle.fir_meaning.specs.Components.{Component, Declaration, Declarations}
use Rattle.fir_meaning.specs.ComponentTypes.{component_type, known_as, typed_scope}
use Rattle.fir_meaning.specs.Costs.{ModuleCosts, cost_of, cost_of_block, cost_of_module, cost_of_ports, leaves_where}
use Rattle.fir_meaning.specs.TypedScopes.{Known, TypedScope}
use Rattle.fir_meaning.specs.TypeGroup.{scope_at}
use Rattle.fir_meaning.specs.Visibility.{Before, at_head, behind, behind_block, behind_ports, declaration_at, declarations, opened, reopened, with_declaration}
use Rattle.fir_types.proofs.GrownScopes.{scope_more}
use Rattle.fir_meaning.specs.working.Targets.{leaves_so_far}

leaves_more : (scope : TypedScope) (k : Known) → leaves_so_far (scope ++ k ∷ []) ≡ leaves_so_far scope + leaves_where k.data_type
leaves_more [] k = omega arith
leaves_more (x ∷ scope) k = omega (arith, leaves_more scope k)

module _ (modules : List ModuleTree) (costs : ModuleCosts) where
  abbrev leaves_at : Before → ℕ
  leaves_at before = leaves_so_far (scope_at modules before)

  declared : (before : Before) (n : PlacedName) (c : Component)
      → leaves_at (with_declaration before n c) ≡ leaves_at before + leaves_where (component_type modules (scope_at modules before) n.place c)
  declared before n c =
      let d = declaration_at before n c in
      ap leaves_so_far (scope_more modules before.declared d) ∙ leaves_more (scope_at modules before) (known_as modules (scope_at modules before) d)

  mutual
    counted_at : (s : Statement) (before : Before) → leaves_at (behind before s) ≤ leaves_at before + cost_of modules costs before s
    counted_at (wire p n begins t) before = omega (arith, declared before n (component.wire t))
    counted_at (register p n begins t c r) before = omega (arith, declared before n (component.register t))
    counted_at (node p n e) before = omega (arith, declared before n (component.node e))
    counted_at (instance p n other) before = omega (arith, declared before n (component.instance other.name))
    counted_at (memory p n parts) before = omega (arith, declared before n (component.memory parts))
    counted_at (when p c a b) before =
        omega (arith, counted_in a (opened before), counted_in b (reopened before (behind_block (opened before) a)))
    counted_at (connect p sink e) before = omega arith
    counted_at (partial_connect p sink e) before = omega arith
    counted_at (invalid p sink) before = omega arith
    counted_at (skip p) before = omega arith

    counted_in : (b : Block) (before : Before) → leaves_at (behind_block before b) ≤ leaves_at before + cost_of_block modules costs before b
    counted_in done before = omega arith
    counted_in ((then) s b) before = omega (arith, counted_at s before, counted_in b (behind before s))

  counted_ports : (ps : List PortTree) (before : Before) → leaves_at (behind_ports before ps) ≤ leaves_at before + cost_of_ports ps
  counted_ports [] before = omega arith
  counted_ports (p ∷ ps) before =
      let c = component.port p.direction p.data_type in
      omega (arith, declared before p.named c, counted_ports ps (with_declaration before p.named c))

  pub leaves_counted : (m : ModuleTree) → leaves_so_far (typed_scope modules (declarations m)) ≤ cost_of_module modules costs m
  leaves_counted m =
      let none : leaves_at at_head ≡ 0 = refl in
      omega (arith, none, counted_ports m.ports at_head, counted_in m.body (behind_ports at_head m.ports))
