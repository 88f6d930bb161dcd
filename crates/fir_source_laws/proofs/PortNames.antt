-- What is known of a port within its module, and of an instance where it is declared.
use Rattle.std.proofs.Common.{◌≡◌, ℕ, List, [], ◌∷◌, ◌++◌, Bool, true, false, if◌then◌else◌, Some, None, option_map, refl, ap, ◌∙◌}
use Rattle.std.specs.Str.{bytes_eq}
use Rattle.fir_ast.specs.Circuits.{ModuleTree, PortTree}
use Rattle.fir_meaning.specs.Components as component
use Rattle.fir_meaning.specs.Components.{Component, Declaration, Declarations, find}
use Rattle.fir_meaning.specs.ComponentTypes.{component_type, instance_bundle, is_input, known_as, port_fields, typed_behind}
use Rattle.fir_meaning.specs.Reaching.{field_of_type}
use Rattle.fir_meaning.specs.ResetJoins.{type_of_known}
use Rattle.fir_meaning.specs.TypeGroup.{scope_at}
use Rattle.fir_meaning.specs.TypeKinds.{FieldFound, field_named}
use Rattle.fir_meaning.specs.TypedScopes.{Known, TypedScope, known}
use Rattle.fir_meaning.specs.Visibility.{Before, at_head, behind_ports, declaration_at, with_declaration}
use Rattle.fir_meaning.specs.ModuleScenes.{behind_all_ports}
use Rattle.fir_meaning.proofs.KnownNames.{known_front}
use Rattle.fir_source_laws.specs.working.PortLaws.{IsPortOf, port_named}

-- what is known behind names that are none of it
known_further : (scope more : TypedScope) (n : List ℕ) → known scope n ≡ None → known (scope ++ more) n ≡ known more n
known_further [] more n h = refl
known_further (x ∷ scope) more n h = by (bytes_eq x.name n) h (known_further scope more n)
  where
    by : (is_so : Bool) → (if is_so then Some x else known scope n) ≡ None → (known scope n ≡ None → known (scope ++ more) n ≡ known more n)
        → (if is_so then Some x else known (scope ++ more) n) ≡ known more n
    by true e further = absurd (cc)
    by false e further = further e

known_stays : (modules : List ModuleTree) (scope : TypedScope) (ds : Declarations) (n : List ℕ) (k : Known) → known scope n ≡ Some k
    → known (typed_behind modules scope ds) n ≡ Some k
known_stays modules scope [] n k h = h
known_stays modules scope (d ∷ ds) n k h =
    known_stays modules (scope ++ known_as modules scope d ∷ []) ds n k (known_front scope (known_as modules scope d ∷ []) n k h)

-- a declaration that is found is what is known, in the scope of those before it
pub record KnownAs (modules : List ModuleTree) (scope : TypedScope) (n : List ℕ) (d : Declaration) : Type 0 where
  pub before : TypedScope
  pub is : known scope n ≡ Some (known_as modules before d)

found_known : (modules : List ModuleTree) (scope : TypedScope) (ds : Declarations) (n : List ℕ) (d : Declaration) → known scope n ≡ None
    → find ds n ≡ Some d → KnownAs modules (typed_behind modules scope ds) n d
found_known modules scope [] n d none h = absurd (cc)
found_known modules scope (x ∷ ds) n d none h =
    by (bytes_eq x.named.name n) refl h (known_further scope (known_as modules scope x ∷ []) n none)
    (λ further e. found_known modules (scope ++ known_as modules scope x ∷ []) ds n d further e)
  where
    by : (is_so : Bool) → bytes_eq x.named.name n ≡ is_so → (if is_so then Some x else find ds n) ≡ Some d
        → known (scope ++ known_as modules scope x ∷ []) n ≡ (if bytes_eq x.named.name n then Some (known_as modules scope x) else None)
        → (known (scope ++ known_as modules scope x ∷ []) n ≡ None → find ds n ≡ Some d
        → KnownAs modules (typed_behind modules (scope ++ known_as modules scope x ∷ []) ds) n d)
        → KnownAs modules (typed_behind modules (scope ++ known_as modules scope x ∷ []) ds) n d
    by true same e last further =
        let here : x ≡ d = cc in
        record {
          before = scope;
          is = known_stays modules (scope ++ known_as modules scope x ∷ []) ds n (known_as modules scope d)
              (last ∙ ap (λ b. if b then Some (known_as modules scope x) else None) same ∙ ap (λ (z : Declaration). Some (known_as modules scope z)) here);
        }
    by false same e last further = further (last ∙ ap (λ b. if b then Some (known_as modules scope x) else None) same) e

pub known_at : (modules : List ModuleTree) (before : Before) (n : List ℕ) (d : Declaration) → find before.declared n ≡ Some d
    → KnownAs modules (scope_at modules before) n d
known_at modules before n d h = found_known modules [] before.declared n d refl h

-- a port of a name is the field of the name in the type of its instances
port_field : (ps : List PortTree) (name : List ℕ) (p : PortTree) → port_named ps name ≡ Some p
    → (f : FieldFound) × (field_named name (port_fields ps) ≡ Some f) × (f.data_type ≡ p.data_type)
port_field [] name p h = absurd (cc)
port_field (x ∷ ps) name p h = by (bytes_eq x.named.name name) (is_input x.direction) h (port_field ps name p)
  where
    by : (is_so flip : Bool) → (if is_so then Some x else port_named ps name) ≡ Some p
        → (port_named ps name ≡ Some p → (f : FieldFound) × (field_named name (port_fields ps) ≡ Some f) × (f.data_type ≡ p.data_type))
        → (f : FieldFound)
        × ((if is_so then Some (record { flip = flip; data_type = x.data_type }) else field_named name (port_fields ps)) ≡ Some f)
        × (f.data_type ≡ p.data_type)
    by true flip e further =
        let here : x ≡ p = cc in
        (record { flip = flip; data_type = x.data_type }, refl, ap (λ (z : PortTree). z.data_type) here)
    by false flip e further = further e

-- and its declaration is found in its module
pub record PortFound (ds : Declarations) (name : List ℕ) (p : PortTree) : Type 0 where
  pub declaration : Declaration
  pub found : find ds name ≡ Some declaration
  pub is_port : declaration.component ≡ component.port p.direction p.data_type

find_front : (ds more : Declarations) (name : List ℕ) (d : Declaration) → find ds name ≡ Some d → find (ds ++ more) name ≡ Some d
find_front [] more name d h = cc
find_front (x ∷ ds) more name d h = by (bytes_eq x.named.name name) h (find_front ds more name d)
  where
    by : (is_so : Bool) → (if is_so then Some x else find ds name) ≡ Some d → (find ds name ≡ Some d → find (ds ++ more) name ≡ Some d)
        → (if is_so then Some x else find (ds ++ more) name) ≡ Some d
    by true e further = e
    by false e further = further e

find_further : (ds more : Declarations) (name : List ℕ) → find ds name ≡ None → find (ds ++ more) name ≡ find more name
find_further [] more name h = refl
find_further (x ∷ ds) more name h = by (bytes_eq x.named.name name) h (find_further ds more name)
  where
    by : (is_so : Bool) → (if is_so then Some x else find ds name) ≡ None → (find ds name ≡ None → find (ds ++ more) name ≡ find more name)
        → (if is_so then Some x else find (ds ++ more) name) ≡ find more name
    by true e further = absurd (cc)
    by false e further = further e

find_stays : (ps : List PortTree) (before : Before) (name : List ℕ) (d : Declaration) → find before.declared name ≡ Some d
    → find (behind_ports before ps).declared name ≡ Some d
find_stays [] before name d h = h
find_stays (p ∷ ps) before name d h =
    let c = component.port p.direction p.data_type in
    find_stays ps (with_declaration before p.named c) name d (find_front before.declared (declaration_at before p.named c ∷ []) name d h)

port_declared : (ps : List PortTree) (name : List ℕ) (p : PortTree) (before : Before) → find before.declared name ≡ None → port_named ps name ≡ Some p
    → PortFound (behind_ports before ps).declared name p
port_declared [] name p before none h = absurd (cc)
port_declared (x ∷ ps) name p before none h =
    let c = component.port x.direction x.data_type in
    by (bytes_eq x.named.name name) refl h (find_further before.declared (declaration_at before x.named c ∷ []) name none)
    (λ further e. port_declared ps name p (with_declaration before x.named c) further e)
  where
    here : Declaration
    here = declaration_at before x.named (component.port x.direction x.data_type)

    by : (is_so : Bool) → bytes_eq x.named.name name ≡ is_so → (if is_so then Some x else port_named ps name) ≡ Some p
        → find (before.declared ++ here ∷ []) name ≡ (if bytes_eq x.named.name name then Some here else None)
        → (find (before.declared ++ here ∷ []) name ≡ None → port_named ps name ≡ Some p
        → PortFound (behind_ports (with_declaration before x.named (component.port x.direction x.data_type)) ps).declared name p)
        → PortFound (behind_ports (with_declaration before x.named (component.port x.direction x.data_type)) ps).declared name p
    by true same e last further =
        let one : x ≡ p = cc in
        record {
          declaration = here;
          found = find_stays ps (with_declaration before x.named (component.port x.direction x.data_type)) name here
              (last ∙ ap (λ b. if b then Some here else None) same);
          is_port = ap (λ (z : PortTree). component.port z.direction z.data_type) one;
        }
    by false same e last further = further (last ∙ ap (λ b. if b then Some here else None) same) e

module _ (modules : List ModuleTree) (outside within : Before) (i p : List ℕ) (is : IsPortOf modules outside within i p) where
  pub type_outside : type_of_known (known (scope_at modules outside) i) ≡ Some (instance_bundle is.other)
  type_outside =
      let k = known_at modules outside i is.declared is.is_declared in
      ap type_of_known k.is
      ∙ ap (component_type modules k.before is.declared.named.place) is.is_instance
      ∙ ap (option_map instance_bundle) is.is_module

  pub type_within : type_of_known (known (scope_at modules within) p) ≡ Some is.port.data_type
  type_within =
      let found = port_declared is.other.ports p is.port at_head refl is.is_port in
      let d = found.declaration in
      let k = known_at modules within p d
      (ap (λ ds. find ds p) is.behind_ports ∙ find_front (behind_all_ports is.other).declared is.more p d found.found) in
      ap type_of_known k.is ∙ ap (component_type modules k.before d.named.place) found.is_port

  pub field_outside : (f : FieldFound) × (field_of_type p (instance_bundle is.other) ≡ Some f) × (f.data_type ≡ is.port.data_type)
  field_outside = port_field is.other.ports p is.port is.is_port
