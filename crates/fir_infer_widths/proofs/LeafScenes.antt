-- The leaves of all that is declared stand under the numbers that they have by their types.
use Rattle.std.proofs.Common.{◌≡◌, ℕ, zero, suc, ◌+◌, ◌≤◌, List, [], ◌∷◌, ◌++◌, length, map, flat_map, Bool, true, false, if◌then◌else◌, Some, refl, sym, ap, ◌∙◌, subst, inl, inr, arith}
use Rattle.std.specs.Prelude.{option_map, slice_get}
use Rattle.std.specs.Str.{bytes_eq}
use Rattle.std.proofs.lemmas.Option.{none-some, same_Some}
use Rattle.fir_base.specs.Lists.{In}
use Rattle.fir_ast.specs.Types.{DataType}
use Rattle.fir_ast.specs.Circuits.{ModuleTree, CircuitTree}
use Rattle.fir_meaning.specs.Components.{Component, Declaration, Declarations, port, wire, register, node, instance, memory}
use Rattle.fir_meaning.specs.working.NameGroups.{HasNames}
use Rattle.fir_meaning.specs.TypeGroup.{type_faults}
use Rattle.fir_meaning.specs.TypedScopes.{TypedScope}
use Rattle.fir_meaning.specs.ComponentTypes.{component_type, find_module, instance_bundle, instance_type, known_as, typed_scope}
use Rattle.fir_meaning.specs.Visibility.{declarations}
use Rattle.fir_meaning.specs.WidthExpressions.{Width}
use Rattle.fir_meaning.specs.SizedTypes.{numbered}
use Rattle.fir_meaning.specs.SizedScopes.{SizedScope}
use Rattle.fir_meaning.specs.SizedDeclarations.{Numbering, NumberedModule, all_port_numbers, behind_module, first_numbers, instance_from, modules_from, numbered_behind, numbered_modules, numbered_with, port_numbers, sized_component}
use Rattle.fir_type_table.specs.working.Saturated.{saturated}
use Rattle.fir_types.specs.working.LeafNumbers.{NextLeaf, first_leaf, first_leaves, first_leaves_from, first_leaves_of, leaf_behind, leaves_behind, ports_from}
use Rattle.fir_width.specs.working.FlatWidths.{flat}
use Rattle.fir_width.specs.working.DeclaredWidths.{body_widths, leaf_widths, module_widths, own_widths, port_widths}
use Rattle.fir_width.specs.working.StandingWidths.{Stands}
use Rattle.fir_infer_widths.specs.working.Scenes.{AllStand, StandsFor, StandsInModule}
use Rattle.fir_width.proofs.BodyNumbers.{Same, next_behind, next_number, ports_before, same_behind, same_more}
use Rattle.fir_width.proofs.DeclaredScopes.{Met, NodesTyped, behind_sized, component_bare, known_behind, met_more, met_none, nodes_typed, scope_known, sized_as, sized_behind}
use Rattle.fir_width.proofs.PortsFirst.{declared_ports, own_ports, ports_are, ports_long, ports_taken}
use Rattle.fir_width.proofs.FlatShapes.{flat_long}
use Rattle.fir_width.proofs.StandingWidths.{stands_exact, stands_left, stands_right, stands_whole}

-- an instance has the ports of its module
instance_stands : (meant : List Width) (k : ℕ) (ms : List ModuleTree) (name : List ℕ) (t : DataType) → instance_type ms name ≡ Some t
    → Stands meant k (port_widths k ms) → Stands meant (ports_from k ms name) (flat (instance_from k ms name))
instance_stands meant k [] name t h stands = absurd (none-some t h)
instance_stands meant k (m ∷ ms) name t h stands =
    by (bytes_eq m.named.name name) (λ i. instance_stands meant (k + port_numbers m) ms name t i rest) h
  where
    own : List Width
    own = flat (numbered (Some k) (instance_bundle m))

    rest : Stands meant (k + port_numbers m) (port_widths (k + port_numbers m) ms)
    rest =
        subst (λ n. Stands meant (k + n) (port_widths (k + port_numbers m) ms)) (flat_long (Some k) (instance_bundle m))
        (stands_right meant k own (port_widths (k + port_numbers m) ms) stands)

    by : (b : Bool) → (instance_type ms name ≡ Some t → Stands meant (ports_from (k + port_numbers m) ms name) (flat (instance_from (k + port_numbers m) ms name)))
        → option_map instance_bundle (if b then Some m else find_module ms name) ≡ Some t
        → Stands meant (if b then k else ports_from (k + port_numbers m) ms name)
        (flat (if b then numbered (Some k) (instance_bundle m) else instance_from (k + port_numbers m) ms name))
    by true later i = stands_left meant k own (port_widths (k + port_numbers m) ms) stands
    by false later i = later i

module _ (meant : List Width) (small : length meant ≤ 18446744073709551615) (modules : List ModuleTree) (all_ports : Stands meant 0 (port_widths 0 modules)) where
  module _ (start : Numbering) (empty : start.scope ≡ []) where
    -- what is left of a module's declarations stands
    record Left (ks : TypedScope) (numbers : Numbering) (next : NextLeaf) (ds : Declarations) : Type 0 where
      met : Met modules start ks numbers
      same : Same next numbers
      typed : NodesTyped modules ks ds
      ports : Stands meant numbers.port (declared_ports numbers.port ds)
      bodies : Stands meant numbers.next (body_widths modules numbers ds)

    own_stands : (ks : TypedScope) (numbers : Numbering) (next : NextLeaf) (d : Declaration) (c : Component) (t : DataType) → Same next numbers
        → Stands meant numbers.port (own_ports c numbers.port) → Stands meant numbers.next (own_widths modules numbers d c)
        → component_type modules ks d.named.place c ≡ Some t
        → Stands meant (first_leaf modules next c) (flat (sized_component modules numbers d.named.place c))
    own_stands ks numbers next d (port direction u) t same ports bodies h =
        subst (λ n. Stands meant n (flat (numbered (Some numbers.port) u))) (sym same.port) ports
    own_stands ks numbers next d (wire u) t same ports bodies h =
        subst (λ n. Stands meant n (flat (sized_component modules numbers d.named.place (wire u)))) (sym same.body) bodies
    own_stands ks numbers next d (register u) t same ports bodies h =
        subst (λ n. Stands meant n (flat (sized_component modules numbers d.named.place (register u)))) (sym same.body) bodies
    own_stands ks numbers next d (node e) t same ports bodies h =
        subst (λ n. Stands meant n (flat (sized_component modules numbers d.named.place (node e)))) (sym same.body) bodies
    own_stands ks numbers next d (instance name) t same ports bodies h = instance_stands meant 0 modules name t h all_ports
    own_stands ks numbers next d (memory parts) t same ports bodies h =
        subst (λ n. Stands meant n (flat (sized_component modules numbers d.named.place (memory parts)))) (sym same.body) bodies

    left_more : (ks : TypedScope) (numbers : Numbering) (next : NextLeaf) (d : Declaration) (ds : Declarations) → Left ks numbers next (d ∷ ds)
        → Left (ks ++ known_as modules ks d ∷ []) (numbered_with modules numbers d) (leaf_behind next d.component (known_as modules ks d).data_type) ds
    left_more ks numbers next d ds left =
        let own = own_ports d.component numbers.port in
        let body = own_widths modules numbers d d.component in
        let after = numbered_with modules numbers d in
        let port_next : numbers.port + length own ≡ after.port = ap (λ n. numbers.port + n) (ports_long d.component numbers.port) in
        let ports_left = stands_right meant numbers.port own (declared_ports (numbers.port + length own) ds) left.ports in
        let bodies_left = stands_right meant numbers.next body (body_widths modules after ds) left.bodies in
        record {
          met = met_more modules start ks numbers d left.met;
          same = same_more modules start empty ks numbers next d left.met left.same left.typed.0;
          typed = left.typed.1;
          ports = subst (λ n. Stands meant n (declared_ports n ds)) port_next ports_left;
          bodies = subst (λ n. Stands meant n (body_widths modules after ds)) (sym (next_number modules numbers d)) bodies_left;
        }

    stands_for : (ks : TypedScope) (numbers : Numbering) (next : NextLeaf) (d : Declaration) (ds : Declarations) → Left ks numbers next (d ∷ ds)
        → StandsFor meant (saturated (first_leaf modules next d.component)) (known_as modules ks d) (sized_as modules numbers d)
    stands_for ks numbers next d ds left = record {
      name = refl;
      shape = λ t h. component_bare modules start empty ks numbers d.named.place d.component t left.met h;
      stands = λ t h.
          let own = own_ports d.component numbers.port in
          let ports = stands_left meant numbers.port own (declared_ports (numbers.port + length own) ds) left.ports in
          let bodies =
          stands_left meant numbers.next (own_widths modules numbers d d.component) (body_widths modules (numbered_with modules numbers d) ds) left.bodies in
          stands_exact meant (first_leaf modules next d.component) (flat (sized_component modules numbers d.named.place d.component)) small
          (own_stands ks numbers next d d.component t left.same ports bodies h);
    }

    all_stand : (ds rest : Declarations) (ks : TypedScope) (numbers : Numbering) (next : NextLeaf) → Left ks numbers next (ds ++ rest)
        → AllStand meant (map saturated (first_leaves_of modules next (ds ++ rest) (known_behind modules ks (ds ++ rest)))) (known_behind modules ks ds)
        (sized_behind modules numbers ds)
    all_stand [] [] ks numbers next left = tt
    all_stand [] (d ∷ rest) ks numbers next left = tt
    all_stand (d ∷ ds) rest ks numbers next left = (
      stands_for ks numbers next d (ds ++ rest) left,
      all_stand ds rest (ks ++ known_as modules ks d ∷ []) (numbered_with modules numbers d) (leaf_behind next d.component (known_as modules ks d).data_type)
          (left_more ks numbers next d (ds ++ rest) left),
    )

  same_stand : (fs gs : List ℕ) (ks ls : TypedScope) (ss rs : SizedScope) → fs ≡ gs → ks ≡ ls → ss ≡ rs → AllStand meant fs ks ss → AllStand meant gs ls rs
  same_stand fs gs ks ls ss rs e f g h =
      subst (λ x. AllStand meant x ls rs) e (subst (λ y. AllStand meant fs y rs) f (subst (AllStand meant fs ks) g h))

  in_module : (m : ModuleTree) (start : Numbering) (next : NextLeaf) → start.scope ≡ [] → Same next start → NodesTyped modules [] (declarations m)
      → Stands meant start.port (flat (numbered (Some start.port) (instance_bundle m))) → Stands meant start.next (body_widths modules start (declarations m))
      → StandsInModule meant (map saturated (first_leaves_of modules next (declarations m) (typed_scope modules (declarations m))))
      (record { modules = modules; inside = m; start = start })
  in_module m start next empty same typed ports bodies = λ before begins.
      let ds = declarations m in
      let left : Left start empty [] start next ds =
      record {
        met = met_none modules start;
        same = same;
        typed = typed;
        ports = subst (Stands meant start.port) (sym (ports_are start.port m)) ports;
        bodies = bodies;
      } in
      let split : ds ≡ before.declared ++ begins.0 = begins.1 in
      let stand =
      all_stand start empty before.declared begins.0 [] start next (subst (Left start empty [] start next) split left) in
      let firsts : map saturated (first_leaves_of modules next (before.declared ++ begins.0) (known_behind modules [] (before.declared ++ begins.0)))
      ≡ map saturated (first_leaves_of modules next ds (typed_scope modules ds)) =
      ap (λ es. map saturated (first_leaves_of modules next es (known_behind modules [] es))) (sym split)
      ∙ ap (λ s. map saturated (first_leaves_of modules next ds s)) (sym (scope_known modules ds)) in
      let sized : sized_behind modules start before.declared ≡ (numbered_behind modules start before.declared).scope =
      ap (λ s. s ++ sized_behind modules start before.declared) (sym empty) ∙ sym (behind_sized modules start before.declared) in
      same_stand
      (map saturated (first_leaves_of modules next (before.declared ++ begins.0) (known_behind modules [] (before.declared ++ begins.0))))
      (map saturated (first_leaves_of modules next ds (typed_scope modules ds)))
      (known_behind modules [] before.declared) (typed_scope modules before.declared)
      (sized_behind modules start before.declared) (numbered_behind modules start before.declared).scope
      firsts (sym (scope_known modules before.declared)) sized stand

  in_modules : (ms : List ModuleTree) (numbers : Numbering) (next : NextLeaf) → numbers.scope ≡ [] → Same next numbers
      → ((m : ModuleTree) → In ms m → NodesTyped modules [] (declarations m))
      → Stands meant numbers.port (port_widths numbers.port ms) → Stands meant numbers.next (flat_map module_widths (modules_from modules numbers ms))
      → (k : ℕ) (m : NumberedModule) (firsts : List ℕ) → slice_get (modules_from modules numbers ms) k ≡ Some m
      → slice_get (map (map saturated) (first_leaves_from modules next ms)) k ≡ Some firsts → StandsInModule meant firsts m
  in_modules [] numbers next empty same typed ports bodies k m firsts here at = absurd (none-some m here)
  in_modules (x ∷ ms) numbers next empty same typed ports bodies zero m firsts here at =
      let own = flat (numbered (Some numbers.port) (instance_bundle x)) in
      let body = body_widths modules numbers (declarations x) in
      let one =
      in_module x numbers next empty same (typed x (inl refl)) (stands_left meant numbers.port own (port_widths (numbers.port + port_numbers x) ms) ports)
      (stands_left meant numbers.next body (flat_map module_widths (modules_from modules (behind_module modules numbers x) ms)) bodies) in
      let is : record { modules = modules; inside = x; start = numbers } ≡ m = same_Some (record { modules = modules; inside = x; start = numbers }) m here in
      let list : map saturated (first_leaves_of modules next (declarations x) (typed_scope modules (declarations x))) ≡ firsts =
      same_Some (map saturated (first_leaves_of modules next (declarations x) (typed_scope modules (declarations x)))) firsts at in
      subst (StandsInModule meant firsts) is
      (subst (λ fs. StandsInModule meant fs (record { modules = modules; inside = x; start = numbers })) list one)
  in_modules (x ∷ ms) numbers next empty same typed ports bodies (suc k) m firsts here at =
      let ds = declarations x in
      let own = flat (numbered (Some numbers.port) (instance_bundle x)) in
      let body = body_widths modules numbers ds in
      let after = behind_module modules numbers x in
      let behind = leaves_behind next ds (typed_scope modules ds) in
      let counted : Same (leaves_behind next ds (known_behind modules [] ds)) (numbered_behind modules numbers ds) =
      same_behind modules numbers empty ds [] numbers next (met_none modules numbers) same (typed x (inl refl)) in
      let known : leaves_behind next ds (known_behind modules [] ds) ≡ behind = ap (leaves_behind next ds) (sym (scope_known modules ds)) in
      let further : Same behind after =
      record { port = ap (λ n. n.port) (sym known) ∙ counted.port; body = ap (λ n. n.body) (sym known) ∙ counted.body } in
      let port_next : numbers.port + port_numbers x ≡ after.port = sym (ports_taken modules numbers x) in
      let ports_left : Stands meant (numbers.port + port_numbers x) (port_widths (numbers.port + port_numbers x) ms) =
      subst (λ n. Stands meant (numbers.port + n) (port_widths (numbers.port + port_numbers x) ms)) (flat_long (Some numbers.port) (instance_bundle x))
      (stands_right meant numbers.port own (port_widths (numbers.port + port_numbers x) ms) ports) in
      let bodies_left : Stands meant (numbers.next + length body) (flat_map module_widths (modules_from modules after ms)) =
      stands_right meant numbers.next body (flat_map module_widths (modules_from modules after ms)) bodies in
      in_modules ms after behind refl further (λ y among. typed y (inr among))
      (subst (λ n. Stands meant n (port_widths n ms)) port_next ports_left)
      (subst (λ n. Stands meant n (flat_map module_widths (modules_from modules after ms))) (sym (next_behind modules numbers ds)) bodies_left)
      k m firsts here at

pub stands_in_module : (c : CircuitTree) → HasNames c → type_faults c ≡ [] → (meant : List Width) → (more : List Width) → meant ≡ leaf_widths c ++ more
    → length meant ≤ 18446744073709551615 → (k : ℕ) (m : NumberedModule) (firsts : List ℕ) → slice_get (numbered_modules c) k ≡ Some m
    → slice_get (map (map saturated) (first_leaves c)) k ≡ Some firsts → StandsInModule meant firsts m
stands_in_module c names clear meant more same small k m firsts here at =
    let ports = port_widths 0 c.modules in
    let bodies = flat_map module_widths (numbered_modules c) in
    let whole = stands_whole meant (leaf_widths c) more same in
    let first = stands_left meant 0 ports bodies whole in
    let behind = stands_right meant 0 ports bodies whole in
    let next : 0 + length ports ≡ all_port_numbers c.modules = let long = ports_before 0 c.modules in omega (arith, long) in
    in_modules meant small c.modules first c.modules (first_numbers c.modules) (record { port = 0; body = all_port_numbers c.modules }) refl
    (record { port = refl; body = refl }) (nodes_typed c names clear) first (subst (λ n. Stands meant n bodies) next behind) k m firsts here at
