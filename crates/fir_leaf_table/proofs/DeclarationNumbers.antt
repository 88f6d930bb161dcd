-- The leaves of a declaration stand under the numbers from its first on, where those of what is left of its module do.
use Rattle.std.proofs.Common.{◌≡◌, ℕ, ◌+◌, List, [], ◌∷◌, ◌++◌, length, Bool, true, false, if◌then◌else◌, Some, refl, sym, ap, subst}
use Rattle.std.specs.Prelude.{option_map, slice_get}
use Rattle.std.specs.Str.{bytes_eq}
use Rattle.std.proofs.lemmas.Option.{none-some}
use Rattle.fir_ast.specs.Types.{DataType}
use Rattle.fir_ast.specs.Circuits.{ModuleTree}
use Rattle.fir_meaning.specs.Components.{Component, Declaration, Declarations, port, wire, register, node, instance, memory}
use Rattle.fir_meaning.specs.ComponentTypes.{component_type, find_module, instance_bundle, instance_type, known_as, typed_behind}
use Rattle.fir_meaning.specs.SizedTypes.{bare_type, numbered}
use Rattle.fir_meaning.specs.SizedDeclarations.{Numbering, instance_from, numbered_behind, numbered_with, port_numbers, sized_component}
use Rattle.fir_meaning.specs.TypeKinds.{bare}
use Rattle.fir_meaning.specs.TypedScopes.{TypedScope}
use Rattle.fir_meaning.specs.WidthExpressions.{Width}
use Rattle.fir_types.specs.working.LeafNumbers.{NextLeaf, first_leaf, first_leaves_of, leaf_behind, ports_from}
use Rattle.fir_width.specs.working.DeclaredWidths.{body_widths, own_widths, port_widths}
use Rattle.fir_width.specs.working.FlatWidths.{flat}
use Rattle.fir_width.specs.working.StandingWidths.{Stands}
use Rattle.fir_width.proofs.BodyNumbers.{Same, next_number, same_more}
use Rattle.fir_width.proofs.DeclaredScopes.{Met, NodesTyped, component_bare, known_behind, met_more}
use Rattle.fir_width.proofs.PortsFirst.{declared_ports, own_ports, ports_long}
use Rattle.fir_width.proofs.FlatShapes.{flat_long}
use Rattle.fir_width.proofs.StandingWidths.{stands_left, stands_right}

-- an instance has the ports of its module
instance_stands : (meant : List Width) (k : ℕ) (ms : List ModuleTree) (name : List ℕ) (t : DataType) → instance_type ms name ≡ Some t
    → Stands meant k (port_widths k ms) → Stands meant (ports_from k ms name) (flat (instance_from k ms name))
instance_stands meant k [] name t h stands = absurd (none-some t h)
instance_stands meant k (m ∷ ms) name t h stands =
    by (bytes_eq m.named.name name) (λ i. instance_stands meant (k + port_numbers m) ms name t i rest) h
  where
    own : List Width
    own = flat (numbered (Some k) (instance_bundle m))

    rest : Stands meant (k + port_numbers m) (port_widths (k + port_numbers m) ms)
    rest =
        subst (λ n. Stands meant (k + n) (port_widths (k + port_numbers m) ms)) (flat_long (Some k) (instance_bundle m))
        (stands_right meant k own (port_widths (k + port_numbers m) ms) stands)

    by : (b : Bool)
        → (instance_type ms name ≡ Some t → Stands meant (ports_from (k + port_numbers m) ms name)
        (flat (instance_from (k + port_numbers m) ms name)))
        → option_map instance_bundle (if b then Some m else find_module ms name) ≡ Some t
        → Stands meant (if b then k else ports_from (k + port_numbers m) ms name)
        (flat (if b then numbered (Some k) (instance_bundle m) else instance_from (k + port_numbers m) ms name))
    by true later i = stands_left meant k own (port_widths (k + port_numbers m) ms) stands
    by false later i = later i

-- a declaration of a module, behind such names and numbers: its number, from which its leaves stand, and its shape
pub record StandsAt (meant : List Width) (modules : List ModuleTree) (ks : TypedScope) (numbers : Numbering) (d : Declaration)
    (firsts : List ℕ) (position : ℕ) : Type 0 where
  pub first : ℕ
  pub at : slice_get firsts position ≡ Some first
  pub shape : (t : DataType) → component_type modules ks d.named.place d.component ≡ Some t
      → bare_type (sized_component modules numbers d.named.place d.component) ≡ bare t
  pub stands : (t : DataType) → component_type modules ks d.named.place d.component ≡ Some t
      → Stands meant first (flat (sized_component modules numbers d.named.place d.component))

module _ (meant : List Width) (modules : List ModuleTree) (all_ports : Stands meant 0 (port_widths 0 modules)) where
  module _ (start : Numbering) (empty : start.scope ≡ []) where
    -- what is left of a module's declarations stands
    pub record Left (ks : TypedScope) (numbers : Numbering) (next : NextLeaf) (ds : Declarations) : Type 0 where
      pub met : Met modules start ks numbers
      pub same : Same next numbers
      pub typed : NodesTyped modules ks ds
      pub ports : Stands meant numbers.port (declared_ports numbers.port ds)
      pub bodies : Stands meant numbers.next (body_widths modules numbers ds)

    own_stands : (numbers : Numbering) (next : NextLeaf) (d : Declaration) (c : Component) → Same next numbers
        → Stands meant numbers.port (own_ports c numbers.port) → Stands meant numbers.next (own_widths modules numbers d c)
        → (ks : TypedScope) (t : DataType) → component_type modules ks d.named.place c ≡ Some t
        → Stands meant (first_leaf modules next c) (flat (sized_component modules numbers d.named.place c))
    own_stands numbers next d (port direction u) same ports bodies ks t h =
        subst (λ n. Stands meant n (flat (numbered (Some numbers.port) u))) (sym same.port) ports
    own_stands numbers next d (wire u) same ports bodies ks t h =
        subst (λ n. Stands meant n (flat (sized_component modules numbers d.named.place (wire u)))) (sym same.body) bodies
    own_stands numbers next d (register u) same ports bodies ks t h =
        subst (λ n. Stands meant n (flat (sized_component modules numbers d.named.place (register u)))) (sym same.body) bodies
    own_stands numbers next d (node e) same ports bodies ks t h =
        subst (λ n. Stands meant n (flat (sized_component modules numbers d.named.place (node e)))) (sym same.body) bodies
    own_stands numbers next d (instance name) same ports bodies ks t h = instance_stands meant 0 modules name t h all_ports
    own_stands numbers next d (memory parts) same ports bodies ks t h =
        subst (λ n. Stands meant n (flat (sized_component modules numbers d.named.place (memory parts)))) (sym same.body) bodies

    left_more : (ks : TypedScope) (numbers : Numbering) (next : NextLeaf) (d : Declaration) (ds : Declarations) → Left ks numbers next (d ∷ ds)
        → Left (ks ++ known_as modules ks d ∷ []) (numbered_with modules numbers d)
        (leaf_behind next d.component (known_as modules ks d).data_type) ds
    left_more ks numbers next d ds left =
        let own = own_ports d.component numbers.port in
        let body = own_widths modules numbers d d.component in
        let after = numbered_with modules numbers d in
        let port_next : numbers.port + length own ≡ after.port = ap (λ n. numbers.port + n) (ports_long d.component numbers.port) in
        let ports_left = stands_right meant numbers.port own (declared_ports (numbers.port + length own) ds) left.ports in
        let bodies_left = stands_right meant numbers.next body (body_widths modules after ds) left.bodies in
        record {
          met = met_more modules start ks numbers d left.met;
          same = same_more modules start empty ks numbers next d left.met left.same left.typed.0;
          typed = left.typed.1;
          ports = subst (λ n. Stands meant n (declared_ports n ds)) port_next ports_left;
          bodies = subst (λ n. Stands meant n (body_widths modules after ds)) (sym (next_number modules numbers d)) bodies_left;
        }

    -- a declaration behind others
    pub one_stands : (ds rest : Declarations) (d : Declaration) (ks : TypedScope) (numbers : Numbering) (next : NextLeaf)
        → Left ks numbers next (ds ++ d ∷ rest)
        → StandsAt meant modules (typed_behind modules ks ds) (numbered_behind modules numbers ds) d
        (first_leaves_of modules next (ds ++ d ∷ rest) (known_behind modules ks (ds ++ d ∷ rest))) (length ds)
    one_stands [] rest d ks numbers next left = record {
      first = first_leaf modules next d.component;
      at = refl;
      shape = λ t h. component_bare modules start empty ks numbers d.named.place d.component t left.met h;
      stands = λ t h.
          let own = own_ports d.component numbers.port in
          let ports = stands_left meant numbers.port own (declared_ports (numbers.port + length own) rest) left.ports in
          let bodies =
          stands_left meant numbers.next (own_widths modules numbers d d.component) (body_widths modules (numbered_with modules numbers d) rest)
          left.bodies
          in own_stands numbers next d d.component left.same ports bodies ks t h;
    }
    one_stands (x ∷ ds) rest d ks numbers next left =
        let one =
        one_stands ds rest d (ks ++ known_as modules ks x ∷ []) (numbered_with modules numbers x)
        (leaf_behind next x.component (known_as modules ks x).data_type)
        (left_more ks numbers next x (ds ++ d ∷ rest) left) in
        record { first = one.first; at = one.at; shape = one.shape; stands = one.stands }
