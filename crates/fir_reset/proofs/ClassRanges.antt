-- The numbers of leaves by their classes: each part has a range of numbers, and the offset of a class counts in that of its part.
use Rattle.std.proofs.Common.{◌≡◌, ℕ, zero, suc, ◌+◌, ◌<◌, List, [], ◌∷◌, map, Option, Some, None, refl, ap, sym, ◌∙◌, subst, arith}
use Rattle.std.specs.Prelude.{option_map, slice_get}
use Rattle.std.proofs.lemmas.Option.{same_Some, none-some, slice_get-map}
use Rattle.fir_base.specs.declared.direction.Direction.{Direction}
use Rattle.fir_ast.specs.Types.{DataType}
use Rattle.fir_ast.specs.Circuits.{ModuleTree, CircuitTree}
use Rattle.fir_meaning.specs.Components.{Component, Declaration, Declarations, port, wire, register, node, instance, memory}
use Rattle.fir_meaning.specs.Visibility.{declarations}
use Rattle.fir_meaning.specs.TypedScopes.{Known, TypedScope}
use Rattle.fir_meaning.specs.ComponentTypes.{instance_bundle, component_type, find_module, typed_scope}
use Rattle.fir_meaning.specs.working.NameGroups.{HasNames}
use Rattle.fir_meaning.specs.SharedLeaves.{shared_count}
use Rattle.fir_meaning.specs.SizedDeclarations.{port_numbers, all_port_numbers}
use Rattle.fir_types.specs.working.LeafNumbers.{numbers_taken, first_leaf}
use Rattle.fir_meaning.specs.ResetItems.{End}
use Rattle.fir_meaning.specs.ResetJoins.{numbered_module}
use Rattle.fir_meaning.specs.ResetWalks.{IsLeafOf}
use Rattle.fir_reset.specs.working.LeafClasses.{Part, of_ports, of_declaration, Class, port_count, class_there, class_of}
use Rattle.fir_reset.specs.working.Inferred.{leaf_number}
use Rattle.fir_reset.proofs.FirstNumbers.{body_count, body_counts, body_total, module_counts, next_at, instance_first}
use Rattle.fir_reset.proofs.LeafOffsets.{offset_below}
use Rattle.fir_reset.proofs.LeafPlaces.{class_by_place, number_by_place}
use Rattle.fir_reset.proofs.LeafSpots.{Spot, spot, instance_known}
use Rattle.fir_reset.proofs.ModuleNumbers.{is_numbered, numbered_found}
use Rattle.fir_reset.proofs.PortsCounted.{port_counts, ports_counted}
use Rattle.fir_reset.proofs.Sums.{sum_before, total, Within, within_total}

abbrev pub counts_of : List ModuleTree → Option ModuleTree → List ℕ
counts_of modules None = []
counts_of modules (Some m) = module_counts modules m

-- the number with which a part begins, of the module of that number
abbrev pub part_begins : CircuitTree → ℕ → Part → ℕ
part_begins c number of_ports = sum_before (map port_numbers c.modules) number
part_begins c number (of_declaration place) =
    all_port_numbers c.modules + sum_before (map (body_total c.modules) c.modules) number + sum_before (counts_of c.modules (slice_get c.modules number)) place

-- an offset within the range of a part
abbrev pub InPart : CircuitTree → ℕ → Part → ℕ → Type 0
InPart c number of_ports offset = Within (map port_numbers c.modules) number offset
InPart c number (of_declaration place) offset =
    (m : ModuleTree) × (slice_get c.modules number ≡ Some m) × Within (module_counts c.modules m) place offset

pub record HasClass (c : CircuitTree) (e : End) : Type 0 where
  pub class : Class
  pub of_class : class_of c e.item ≡ Some class
  pub number : leaf_number c e.item ≡ Some (part_begins c class.number class.part + class.offset)
  pub within : InPart c class.number class.part class.offset

-- the counts at a place
counts_there : (ds : Declarations) (ks : TypedScope) (place : ℕ) (d : Declaration) (k : Known) → slice_get ds place ≡ Some d → slice_get ks place ≡ Some k
    → slice_get (body_counts ds ks) place ≡ Some (body_count d.component k.data_type)
counts_there [] ks place d k h i = absurd (none-some d h)
counts_there (x ∷ ds) [] place d k h i = absurd (none-some k i)
counts_there (x ∷ ds) (y ∷ ks) zero d k h i =
    let one : x ≡ d = same_Some x d h in
    let other : y ≡ k = same_Some y k i in
    rw (one, other) refl
counts_there (x ∷ ds) (y ∷ ks) (suc place) d k h i = counts_there ds ks place d k h i

ports_there : (ds : Declarations) (place : ℕ) (d : Declaration) → slice_get ds place ≡ Some d → slice_get (port_counts ds) place ≡ Some (port_count d.component)
ports_there [] place d h = absurd (none-some d h)
ports_there (x ∷ ds) zero d h = let one : x ≡ d = same_Some x d h in rw one refl
ports_there (x ∷ ds) (suc place) d h = ports_there ds place d h

module _ (c : CircuitTree) (at : ℕ) (m : ModuleTree) (e : End) (s : Spot c at m e) where
  below : s.offset < shared_count s.data_type
  below = offset_below s.data_type s.leaf.path s.offset s.is_offset

  known_type : (x : Component) → s.declared.component ≡ x → component_type c.modules s.stands.is.scope s.declared.named.place x ≡ Some s.data_type
  known_type x is =
      sym (ap (λ (k : Known). k.data_type) s.stands.is.is ∙ ap (component_type c.modules s.stands.is.scope s.declared.named.place) is) ∙ s.has_type

  number_of : (x : Component) → s.declared.component ≡ x → leaf_number c e.item ≡ Some (first_leaf c.modules (next_at c.modules at m s.stands.place) x + s.offset)
  number_of x is = number_by_place c at m e s ∙ ap (λ y. Some (first_leaf c.modules (next_at c.modules at m s.stands.place) y + s.offset)) is

  class_is : (x : Component) → s.declared.component ≡ x
      → class_of c e.item ≡ class_there at c.modules s.stands.place (sum_before (port_counts (declarations m)) s.stands.place) x (Some s.offset)
  class_is x is =
      class_by_place c at m e s ∙ ap (λ y. class_there at c.modules s.stands.place (sum_before (port_counts (declarations m)) s.stands.place) y (Some s.offset)) is

  of_port : (side : Direction) (t : DataType) → s.declared.component ≡ port side t → HasClass c e
  of_port side t is =
      let ports = sum_before (map port_numbers c.modules) at in
      let own = sum_before (port_counts (declarations m)) s.stands.place in
      let typed : t ≡ s.data_type = same_Some t s.data_type (known_type (port side t) is) in
      let less : s.offset < shared_count t = subst (λ u. s.offset < shared_count u) (sym typed) below in
      let there : slice_get (port_counts (declarations m)) s.stands.place ≡ Some (shared_count t) =
      ports_there (declarations m) s.stands.place s.declared s.stands.declared ∙ ap (λ x. Some (port_count x)) is in
      let inside : own + s.offset < total (port_counts (declarations m)) =
      within_total (port_counts (declarations m)) s.stands.place s.offset (record { count = shared_count t; there = there; less = less }) in
      let sum : ports + own + s.offset ≡ ports + (own + s.offset) = omega arith in
      record {
        class = record { number = at; part = of_ports; offset = own + s.offset };
        of_class = class_is (port side t) is;
        number = number_of (port side t) is ∙ ap (λ (n : ℕ). Some n) sum;
        within = record {
          count = port_numbers m;
          there = slice_get-map port_numbers c.modules at ∙ ap (option_map port_numbers) s.is_module;
          less = subst (λ n. own + s.offset < n) (ports_counted m) inside;
        };
      }

  of_body : (x : Component) → s.declared.component ≡ x
      → class_there at c.modules s.stands.place (sum_before (port_counts (declarations m)) s.stands.place) x (Some s.offset)
      ≡ Some (record { number = at; part = of_declaration s.stands.place; offset = s.offset })
      → first_leaf c.modules (next_at c.modules at m s.stands.place) x ≡ (next_at c.modules at m s.stands.place).body
      → body_count x s.known.data_type ≡ numbers_taken s.known.data_type → HasClass c e
  of_body x is class first count =
      let counts = module_counts c.modules m in
      let start = all_port_numbers c.modules + sum_before (map (body_total c.modules) c.modules) at in
      let there : slice_get counts s.stands.place ≡ Some (shared_count s.data_type) =
      counts_there (declarations m) (typed_scope c.modules (declarations m)) s.stands.place s.declared s.known s.stands.declared s.stands.known
      ∙ ap (λ y. Some (body_count y s.known.data_type)) is ∙ ap (λ (n : ℕ). Some n) count ∙ ap (λ o. Some (numbers_taken o)) s.has_type in
      record {
        class = record { number = at; part = of_declaration s.stands.place; offset = s.offset };
        of_class = class_is x is ∙ class;
        number =
            number_of x is ∙ ap (λ n. Some (n + s.offset)) first
            ∙ ap (λ o. Some (start + sum_before (counts_of c.modules o) s.stands.place + s.offset)) (sym s.is_module);
        within = (m, s.is_module, record { count = shared_count s.data_type; there = there; less = below });
      }

  of_instance : (name : List ℕ) → s.declared.component ≡ instance name → HasClass c e
  of_instance name is = found (find_module c.modules name) refl
    where
      numbered : (child : ℕ × ModuleTree) → numbered_module 0 c.modules name ≡ Some child → HasClass c e
      numbered child f =
          let there = is_numbered 0 c.modules name child f in
          let at_number : there.behind ≡ child.0 = omega (arith, there.number) in
          let is_module : slice_get c.modules child.0 ≡ Some child.1 = subst (λ k. slice_get c.modules k ≡ Some child.1) at_number there.there in
          let bundled : s.data_type ≡ instance_bundle child.1 =
          same_Some s.data_type (instance_bundle child.1) (sym s.has_type ∙ instance_known at c.modules m s.sound.once s.declared s.known name child s.stands is f) in
          record {
            class = record { number = child.0; part = of_ports; offset = s.offset };
            of_class = class_is (instance name) is ∙ rw f refl;
            number = number_of (instance name) is ∙ ap (λ n. Some (n + s.offset)) (instance_first c.modules name child f);
            within = record {
              count = port_numbers child.1;
              there = slice_get-map port_numbers c.modules child.0 ∙ ap (option_map port_numbers) is_module;
              less = subst (λ t. s.offset < shared_count t) bundled below;
            };
          }

      found : (o : Option ModuleTree) → find_module c.modules name ≡ o → HasClass c e
      found None f = absurd (none-some s.data_type (sym (ap (option_map instance_bundle) f) ∙ known_type (instance name) is))
      found (Some x) f = let r = numbered_found 0 c.modules name x f in numbered (r.0, x) r.1

  of_spot : (x : Component) → s.declared.component ≡ x → HasClass c e
  of_spot (port side t) is = of_port side t is
  of_spot (instance name) is = of_instance name is
  of_spot (wire t) is = of_body (wire t) is refl refl refl
  of_spot (register t) is = of_body (register t) is refl refl refl
  of_spot (node x) is = of_body (node x) is refl refl refl
  of_spot (memory parts) is = of_body (memory parts) is refl refl refl

pub has_class : (c : CircuitTree) → HasNames c → (e : End) → IsLeafOf c e → HasClass c e
has_class c names e l = let s = spot c names e l in of_spot c l.number l.inside e s s.declared.component refl
