-- What a module costs without its instances' modules is the sum over its notes, over what it declares, and over its statements.
use Rattle.std.proofs.Common.{◌≡◌, ℕ, ◌+◌, List, [], ◌∷◌, ◌++◌, map, Bool, true, false, Option, Some, None, refl, ap, ◌∙◌, arith}
use Rattle.fir_ast.specs.Expressions.{Expression, reference, literal, operation, mux, validif, Parts, no_parts, subfield, subindex, subaccess, Expressions, no_expressions, expression}
use Rattle.fir_ast.specs.Statements.{PlacedName, SinkReference, Reset, Statement, wire, register, node, instance, memory, when, connect, partial_connect, invalid, skip, Block, done, then}
use Rattle.fir_ast.specs.Circuits.{PortTree, ModuleTree}
use Rattle.fir_meaning.specs.TypeLeaves.{leaf_count}
use Rattle.fir_meaning.specs.Components as component
use Rattle.fir_meaning.specs.Components.{Component}
use Rattle.fir_meaning.specs.Visibility.{Before, declaration_at, with_declaration, opened, reopened, behind, behind_block, behind_ports, at_head}
use Rattle.fir_meaning.specs.TypedScopes.{Known, TypedScope}
use Rattle.fir_meaning.specs.ExpressionTypes.{number_data_type}
use Rattle.fir_meaning.specs.ComponentTypes.{component_type, known_as}
use Rattle.fir_meaning.specs.TypeGroup.{scope_at}
use Rattle.fir_types.specs.working.Notes.{Note, expression_note, expression_notes, notes_of_each, part_notes, reference_note, reference_notes}
use Rattle.fir_types.specs.working.ModuleNotes.{block_notes, reset_notes, statement_notes}
use Rattle.fir_types.proofs.GrownScopes.{scope_more}
use Rattle.fir_meaning.specs.Costs.{cost_of, cost_of_block, cost_of_ports, leaves_where, size, size_of_each, size_of_parts, size_of_reset, size_of_sink, sum_of}
use Rattle.fir_expand.specs.working.OwnCosts.{own_cost}
use Rattle.fir_expand.specs.working.OwnSums.{leaves_known, leaves_noted, plain_cost, plain_cost_of_block, sum_of_module}
use Rattle.fir_expand.proofs.RangeLeaves.{reference_leaves}

abbrev noted : List Note → ℕ
noted ns = sum_of (map leaves_noted ns)

noted_joined : (ns more : List Note) → noted (ns ++ more) ≡ noted ns + noted more
noted_joined [] more = omega arith
noted_joined (n ∷ ns) more = omega (arith, noted_joined ns more)

-- notes, and one behind them
noted_then : (ns : List Note) (n : Note) → noted (ns ++ n ∷ []) ≡ noted ns + leaves_noted n
noted_then ns n = omega (arith, noted_joined ns (n ∷ []))

number_leaves : (signed : Bool) (width : Option ℕ) → leaf_count (number_data_type signed width) ≡ 1
number_leaves true width = refl
number_leaves false width = refl

-- expressions
module _ (scope : TypedScope) where
  mutual
    size_noted : (e : Expression) → noted (expression_notes scope e) ≡ size scope e
    size_noted (reference p n ps) =
        let s : SinkReference = record { place = p; name = n; parts = ps } in
        omega (arith, noted_then (part_notes scope ps) (reference_note scope s), reference_leaves scope s, parts_noted ps)
    size_noted (literal l) = omega (arith, number_leaves l.signed l.width)
    size_noted (operation p op es ks) =
        omega (arith, noted_then (notes_of_each scope es) (expression_note scope (operation p op es ks)), each_noted es)
    size_noted (mux p c a b) =
        let in_c = expression_notes scope c in
        let in_a = expression_notes scope a in
        let in_b = expression_notes scope b in
        omega (
          arith,
          noted_then (in_c ++ in_a ++ in_b) (expression_note scope (mux p c a b)),
          noted_joined (in_c ++ in_a) in_b,
          noted_joined in_c in_a,
          size_noted c,
          size_noted a,
          size_noted b,
        )
    size_noted (validif p c a) =
        let in_c = expression_notes scope c in
        let in_a = expression_notes scope a in
        omega (
          arith,
          noted_then (in_c ++ in_a) (expression_note scope (validif p c a)),
          noted_joined in_c in_a,
          size_noted c,
          size_noted a,
        )

    parts_noted : (ps : Parts) → noted (part_notes scope ps) ≡ size_of_parts scope ps
    parts_noted no_parts = refl
    parts_noted (subfield first p x rest) = parts_noted rest
    parts_noted (subindex first p i rest) = parts_noted rest
    parts_noted (subaccess first e rest) = omega (arith, noted_joined (expression_notes scope e) (part_notes scope rest), size_noted e, parts_noted rest)

    each_noted : (es : Expressions) → noted (notes_of_each scope es) ≡ size_of_each scope es
    each_noted no_expressions = refl
    each_noted (expression e es) = omega (arith, noted_joined (expression_notes scope e) (notes_of_each scope es), size_noted e, each_noted es)

  sink_noted : (s : SinkReference) → noted (reference_notes scope s) ≡ size_of_sink scope s
  sink_noted s = omega (arith, noted_then (part_notes scope s.parts) (reference_note scope s), reference_leaves scope s, parts_noted s.parts)

  reset_noted : (r : Option Reset) → noted (reset_notes scope r) ≡ size_of_reset scope r
  reset_noted None = refl
  reset_noted (Some r) = omega (arith, noted_joined (expression_notes scope r.condition) (expression_notes scope r.init), size_noted r.condition, size_noted r.init)

  connect_noted : (s : SinkReference) (e : Expression) → noted (reference_notes scope s ++ expression_notes scope e) ≡ size_of_sink scope s + size scope e
  connect_noted s e = omega (arith, noted_joined (reference_notes scope s) (expression_notes scope e), sink_noted s, size_noted e)

-- what is declared
known_joined : (ks : TypedScope) (k : Known) → leaves_known (ks ++ k ∷ []) ≡ leaves_known ks + leaves_where k.data_type
known_joined [] k = omega arith
known_joined (x ∷ ks) k = omega (arith, known_joined ks k)

module _ (modules : List ModuleTree) where
  abbrev known_before : Before → ℕ
  known_before before = leaves_known (scope_at modules before)

  declared : (before : Before) (n : PlacedName) (c : Component)
      → known_before (with_declaration before n c) ≡ known_before before + leaves_where (component_type modules (scope_at modules before) n.place c)
  declared before n c =
      let d = declaration_at before n c in
      ap leaves_known (scope_more modules before.declared d) ∙ known_joined (scope_at modules before) (known_as modules (scope_at modules before) d)

  mutual
    cost_summed : (before : Before) (s : Statement)
        → cost_of modules (λ name. 0) before s + known_before before ≡ noted (statement_notes modules before s) + known_before (behind before s) + plain_cost s
    cost_summed before (wire p n begins t) = omega (arith, declared before n (component.wire t))
    cost_summed before (register p n begins t c r) =
        let scope = scope_at modules before in
        let after = scope_at modules (with_declaration before n (component.register t)) in
        omega (
          arith,
          declared before n (component.register t),
          noted_joined (expression_notes scope c) (reset_notes after r),
          size_noted scope c,
          reset_noted after r,
        )
    cost_summed before (node p n e) = omega (arith, declared before n (component.node e), size_noted (scope_at modules before) e)
    cost_summed before (instance p n other) = omega (arith, declared before n (component.instance other.name))
    cost_summed before (memory p n parts) = omega (arith, declared before n (component.memory parts))
    cost_summed before (when p c a b) =
        let first = opened before in
        let second = reopened before (behind_block first a) in
        let scope = scope_at modules before in
        let in_first = block_summed first a in
        let in_second = block_summed second b in
        omega (
          arith,
          noted_joined (expression_notes scope c ++ block_notes modules first a) (block_notes modules second b),
          noted_joined (expression_notes scope c) (block_notes modules first a),
          size_noted scope c,
          in_first,
          in_second,
        )
    cost_summed before (connect p sink e) = omega (arith, connect_noted (scope_at modules before) sink e)
    cost_summed before (partial_connect p sink e) = omega (arith, connect_noted (scope_at modules before) sink e)
    cost_summed before (invalid p sink) = omega (arith, sink_noted (scope_at modules before) sink)
    cost_summed before (skip p) = omega arith

    block_summed : (before : Before) (b : Block)
        → cost_of_block modules (λ name. 0) before b + known_before before
        ≡ noted (block_notes modules before b) + known_before (behind_block before b) + plain_cost_of_block b
    block_summed before done = omega arith
    block_summed before ((then) s b) =
        omega (
          arith,
          noted_joined (statement_notes modules before s) (block_notes modules (behind before s) b),
          cost_summed before s,
          block_summed (behind before s) b,
        )

  ports_summed : (before : Before) (ps : List PortTree) → cost_of_ports ps + known_before before ≡ known_before (behind_ports before ps)
  ports_summed before [] = omega arith
  ports_summed before (p ∷ ps) =
      let c = component.port p.direction p.data_type in
      omega (arith, declared before p.named c, ports_summed (with_declaration before p.named c) ps)

  pub module_summed : (m : ModuleTree) → own_cost modules m ≡ sum_of_module modules m
  module_summed m =
      let none : known_before at_head ≡ 0 = refl in
      omega (arith, none, ports_summed at_head m.ports, block_summed (behind_ports at_head m.ports) m.body)
