-- What a rule of faults shows of a circuit is what it shows at its spots.
use Rattle.std.proofs.Common.{◌≡◌, List, [], ◌∷◌, ◌++◌, flat_map, Option, Some, None, refl, sym, ap, ◌∙◌}
use Rattle.std.proofs.lemmas.Grind.{flat_map-append}
use Rattle.std.proofs.lemmas.List.{append-nil}
use Rattle.fir_ast.specs.Types.{DataType}
use Rattle.fir_ast.specs.Expressions.{Expression, reference, literal, operation, mux, validif, Parts, no_parts, subfield, subindex, subaccess, Expressions, no_expressions, expression}
use Rattle.fir_ast.specs.Statements.{Reset, Statement, wire, register, node, instance, memory, when, connect, partial_connect, invalid, skip, Block, done, then}
use Rattle.fir_ast.specs.Circuits.{PortTree, CircuitTree}
use Rattle.fir_ast.specs.Faults.{Fault}
use Rattle.fir_meaning.specs.Components as component
use Rattle.fir_meaning.specs.Visibility.{Before, with_declaration, opened, reopened, behind, behind_block, behind_ports, at_head}
use Rattle.fir_meaning.specs.WidthExpressions.{Width, Widths}
use Rattle.fir_meaning.specs.SizedScopes.{SizedScope, sink_expression}
use Rattle.fir_meaning.specs.SizedDeclarations.{NumberedModule, numbered_modules, sized_at}
use Rattle.fir_meaning.specs.WidthWalk.{FaultRule, shown_within, shown_within_parts, shown_within_each, shown_within_reset, shown_in, shown_in_block, shown_in_ports, shown_in_module, shown_in_circuit}
use Rattle.fir_meaning.specs.OverFaults.{over_rule, over_faults}
use Rattle.fir_meaning.specs.LegalFaults.{legal_rule, legal_faults}
use Rattle.fir_infer_widths.specs.declared.spot.Spot.{Spot as SpotOfCode}
use Rattle.fir_infer_widths.specs.working.Numbered.{Agrees}
use Rattle.fir_infer_widths.specs.working.Spots.{Spot, of_expression, of_condition, shown_by, spots_within, spots_within_parts, spots_within_each, spots_of_condition, spots_of_sink, spots_of_reset, spot_at, spots_in, spots_in_block, spots_in_ports, spots_in_module, spots}
use Rattle.fir_infer_widths.specs.working.SpotFaults.{over_at, legal_at, AreSpots}

module _ (rule : FaultRule) where
  -- what is shown at these spots
  abbrev at_spots : List Spot → List Fault
  at_spots xs = flat_map (shown_by rule) xs

  at_one : (x : Spot) → shown_by rule x ≡ at_spots (x ∷ [])
  at_one x = sym (append-nil (shown_by rule x))

  joined : {fs gs : List Fault} → (xs ys : List Spot) → fs ≡ at_spots xs → gs ≡ at_spots ys → fs ++ gs ≡ at_spots (xs ++ ys)
  joined xs ys e f = rw (e, f) (sym (flat_map-append (shown_by rule) xs ys))

  module _ (scope : SizedScope) where
    at_form : (e : Expression) → rule.of_expression scope e ≡ at_spots (of_expression scope e ∷ [])
    at_form e = at_one (of_expression scope e)

    at_condition : (e : Expression) → rule.of_condition scope e ≡ at_spots (of_condition scope e ∷ [])
    at_condition e = at_one (of_condition scope e)

    mutual
      within : (e : Expression) → shown_within rule scope e ≡ at_spots (spots_within scope e)
      within (reference p n ps) = joined (spots_within_parts scope ps) _ (within_parts ps) (at_form (reference p n ps))
      within (literal l) = at_form (literal l)
      within (operation p op es ks) = joined (spots_within_each scope es) _ (within_each es) (at_form (operation p op es ks))
      within (mux p c a b) =
          joined (spots_of_condition scope c ++ spots_within scope a ++ spots_within scope b) _
          (joined (spots_of_condition scope c ++ spots_within scope a) (spots_within scope b)
          (joined (spots_of_condition scope c) (spots_within scope a) (joined (spots_within scope c) _ (within c) (at_condition c)) (within a)) (within b)) (at_form (mux p c a b))
      within (validif p c a) =
          joined (spots_of_condition scope c ++ spots_within scope a) _
          (joined (spots_of_condition scope c) (spots_within scope a) (joined (spots_within scope c) _ (within c) (at_condition c)) (within a)) (at_form (validif p c a))

      within_parts : (ps : Parts) → shown_within_parts rule scope ps ≡ at_spots (spots_within_parts scope ps)
      within_parts no_parts = refl
      within_parts (subfield first p x rest) = within_parts rest
      within_parts (subindex first p i rest) = within_parts rest
      within_parts (subaccess first e rest) = joined (spots_within scope e) (spots_within_parts scope rest) (within e) (within_parts rest)

      within_each : (es : Expressions) → shown_within_each rule scope es ≡ at_spots (spots_within_each scope es)
      within_each no_expressions = refl
      within_each (expression e es) = joined (spots_within scope e) (spots_within_each scope es) (within e) (within_each es)

    within_condition : (e : Expression) → shown_within rule scope e ++ rule.of_condition scope e ≡ at_spots (spots_of_condition scope e)
    within_condition e = joined (spots_within scope e) _ (within e) (at_condition e)

    within_reset : (r : Option Reset) → shown_within_reset rule scope r ≡ at_spots (spots_of_reset scope r)
    within_reset None = refl
    within_reset (Some r) = joined (spots_of_condition scope r.condition) (spots_within scope r.init) (within_condition r.condition) (within r.init)

  module _ (m : NumberedModule) where
    mutual
      in_statement : (before : Before) (x : Statement) → shown_in rule m before x ≡ at_spots (spots_in m before x)
      in_statement before (wire p n begins t) = at_one (spot_at m before n (component.wire t))
      in_statement before (register p n begins t c r) =
          let scope = sized_at m before in
          let behind = sized_at m (with_declaration before n (component.register t)) in
          joined (spot_at m before n (component.register t) ∷ [] ++ spots_within scope c) (spots_of_reset behind r)
          (joined (spot_at m before n (component.register t) ∷ []) (spots_within scope c) (at_one (spot_at m before n (component.register t))) (within scope c))
          (within_reset behind r)
      in_statement before (node p n e) =
          joined (spot_at m before n (component.node e) ∷ []) (spots_within (sized_at m before) e) (at_one (spot_at m before n (component.node e)))
          (within (sized_at m before) e)
      in_statement before (instance p n other) = at_one (spot_at m before n (component.instance other.name))
      in_statement before (memory p n parts) = at_one (spot_at m before n (component.memory parts))
      in_statement before (when p c a b) =
          let scope = sized_at m before in
          let chosen = spots_in_block m (opened before) a in
          joined (spots_of_condition scope c ++ chosen) (spots_in_block m (reopened before (behind_block (opened before) a)) b)
          (joined (spots_of_condition scope c) chosen (within_condition scope c) (in_block (opened before) a))
          (in_block (reopened before (behind_block (opened before) a)) b)
      in_statement before (connect p sink e) =
          let scope = sized_at m before in
          joined (spots_of_sink scope sink) (spots_within scope e) (within scope (sink_expression sink)) (within scope e)
      in_statement before (partial_connect p sink e) =
          let scope = sized_at m before in
          joined (spots_of_sink scope sink) (spots_within scope e) (within scope (sink_expression sink)) (within scope e)
      in_statement before (invalid p sink) = within (sized_at m before) (sink_expression sink)
      in_statement before (skip p) = refl

      in_block : (before : Before) (b : Block) → shown_in_block rule m before b ≡ at_spots (spots_in_block m before b)
      in_block before done = refl
      in_block before ((then) x b) = joined (spots_in m before x) (spots_in_block m (behind before x) b) (in_statement before x) (in_block (behind before x) b)

    in_ports : (before : Before) (ps : List PortTree) → shown_in_ports rule m before ps ≡ at_spots (spots_in_ports m before ps)
    in_ports before [] = refl
    in_ports before (p ∷ ps) =
        let port = component.port p.direction p.data_type in
        ap (λ fs. shown_by rule (spot_at m before p.named port) ++ fs) (in_ports (with_declaration before p.named port) ps)

    in_module : shown_in_module rule m ≡ at_spots (spots_in_module m)
    in_module =
        joined (spots_in_ports m at_head m.inside.ports) (spots_in_block m (behind_ports at_head m.inside.ports) m.inside.body)
        (in_ports at_head m.inside.ports) (in_block (behind_ports at_head m.inside.ports) m.inside.body)

  in_modules : (ms : List NumberedModule) → flat_map (shown_in_module rule) ms ≡ at_spots (flat_map spots_in_module ms)
  in_modules [] = refl
  in_modules (m ∷ ms) = joined (spots_in_module m) (flat_map spots_in_module ms) (in_module m) (in_modules ms)

pub spots_show : (rule : FaultRule) (c : CircuitTree) → shown_in_circuit rule c ≡ flat_map (shown_by rule) (spots c)
spots_show rule c = in_modules rule (numbered_modules c)

-- the code's spots show the faults of the circuit
module _ (c : CircuitTree) (ts : List DataType) (meant : List Width) (w u : Widths) (agrees : Agrees meant w u) where
  over_each : (owns : List SpotOfCode) (xs : List Spot) → AreSpots c ts meant owns xs → flat_map (over_at ts u) owns ≡ flat_map (shown_by (over_rule w)) xs
  over_each [] [] h = refl
  over_each [] (x ∷ xs) h = absurd h
  over_each (own ∷ owns) [] h = absurd h
  over_each (own ∷ owns) (x ∷ xs) h = rw (h.0.over w u agrees, over_each owns xs h.1) refl

  legal_each : (owns : List SpotOfCode) (xs : List Spot) → AreSpots c ts meant owns xs → flat_map (legal_at ts u) owns ≡ flat_map (shown_by (legal_rule c w)) xs
  legal_each [] [] h = refl
  legal_each [] (x ∷ xs) h = absurd h
  legal_each (own ∷ owns) [] h = absurd h
  legal_each (own ∷ owns) (x ∷ xs) h = rw (h.0.legal w u agrees, legal_each owns xs h.1) refl

  pub spots_over : (owns : List SpotOfCode) → AreSpots c ts meant owns (spots c) → flat_map (over_at ts u) owns ≡ over_faults c w
  spots_over owns are = over_each owns (spots c) are ∙ sym (spots_show (over_rule w) c)

  pub spots_legal : (owns : List SpotOfCode) → AreSpots c ts meant owns (spots c) → flat_map (legal_at ts u) owns ≡ legal_faults c w
  spots_legal owns are = legal_each owns (spots c) are ∙ sym (spots_show (legal_rule c w) c)
