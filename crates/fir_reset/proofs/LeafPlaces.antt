-- The class and the number of a leaf, by the place of its declaration.
use Rattle.std.proofs.Common.{◌≡◌, ℕ, zero, suc, ◌+◌, List, [], ◌∷◌, map, true, false, Some, refl, ap, sym, ◌∙◌, subst, arith}
use Rattle.std.specs.Prelude.{slice_get}
use Rattle.std.specs.Str.{bytes_eq}
use Rattle.std.proofs.lemmas.Option.{same_Some, none-some}
use Rattle.fir_base.specs.Lists.{In, Distinct}
use Rattle.fir_base.proofs.Elements.{get_in}
use Rattle.fir_base.proofs.Members.{in_map}
use Rattle.fir_base.proofs.SameNames.{name_same, name_other}
use Rattle.fir_ast.specs.Circuits.{ModuleTree, CircuitTree}
use Rattle.fir_meaning.specs.LeafPaths.{LeafPath, named}
use Rattle.fir_meaning.specs.Components.{Declaration, Declarations}
use Rattle.fir_meaning.specs.Visibility.{declarations}
use Rattle.fir_meaning.specs.TypedScopes.{Known, TypedScope, known}
use Rattle.fir_meaning.specs.ComponentTypes.{typed_scope}
use Rattle.fir_types.specs.working.Notes.{position_of}
use Rattle.fir_types.specs.working.LeafNumbers.{first_leaf}
use Rattle.fir_meaning.specs.ResetItems.{End}
use Rattle.fir_meaning.specs.ResetJoins.{type_of_known}
use Rattle.fir_reset.specs.working.LeafClasses.{port_count, offset_where, class_there, class_among, class_of}
use Rattle.fir_reset.specs.working.Inferred.{number_behind, first_of_position, number_in, leaf_number}
use Rattle.fir_reset.proofs.FirstNumbers.{next_at, first_at}
use Rattle.fir_reset.proofs.KnownDeclarations.{EachKnown, each_known}
use Rattle.fir_reset.proofs.LeafSpots.{Spot, class_here}
use Rattle.fir_reset.proofs.PortsCounted.{port_counts}
use Rattle.fir_reset.proofs.Sums.{sum_before}

-- a declaration of another name stands in front
apart : (ds : Declarations) (x d : Declaration) (place : ℕ) → (In (map (λ y. y.named.name) ds) x.named.name → ⊥) → slice_get ds place ≡ Some d
    → x.named.name ≡ d.named.name → ⊥
apart ds x d place new h e = new (subst (In (map (λ y. y.named.name) ds)) (sym e) (in_map (λ y. y.named.name) ds d (get_in ds place d h)))

class_at : (number : ℕ) (modules : List ModuleTree) (position before : ℕ) (ds : Declarations) (ks : TypedScope) (place : ℕ) (d : Declaration) (k : Known)
    → Distinct (map (λ y. y.named.name) ds) → slice_get ds place ≡ Some d → slice_get ks place ≡ Some k → (path : LeafPath)
    → class_among number modules position before ds ks d.named.name path
    ≡ class_there number modules (position + place) (before + sum_before (port_counts ds) place) d.component (offset_where k.data_type path)
class_at number modules position before [] ks place d k once h i path = absurd (none-some d h)
class_at number modules position before (x ∷ ds) [] place d k once h i path = absurd (none-some k i)
class_at number modules position before (x ∷ ds) (y ∷ ks) zero d k once h i path =
    let one : x ≡ d = same_Some x d h in
    let other : y ≡ k = same_Some y k i in
    let position_same : position + 0 ≡ position = omega arith in
    let before_same : before + 0 ≡ before = omega arith in
    rw (← one, ← other, name_same x.named.name, position_same, before_same) refl
class_at number modules position before (x ∷ ds) (y ∷ ks) (suc place) d k once h i path =
    let other = name_other x.named.name d.named.name (apart ds x d place once.0 h) in
    let position_further : position + suc place ≡ suc position + place = omega arith in
    let before_further : before + (port_count x.component + sum_before (port_counts ds) place) ≡ before + port_count x.component + sum_before (port_counts ds) place =
    omega arith in
    rw (other, position_further, before_further) (class_at number modules (suc position) (before + port_count x.component) ds ks place d k once.1 h i path)

-- what is known of a declaration is found under its name
record FoundAt (ks : TypedScope) (place : ℕ) (name : List ℕ) (k : Known) : Type 0 where
  position : position_of ks name ≡ place
  known_is : known ks name ≡ Some k

found_at : (modules : List ModuleTree) (ds : Declarations) (ks : TypedScope) (place : ℕ) (d : Declaration) (k : Known) → EachKnown modules ds ks
    → Distinct (map (λ y. y.named.name) ds) → slice_get ds place ≡ Some d → slice_get ks place ≡ Some k → FoundAt ks place d.named.name k
found_at modules [] ks place d k each once h i = absurd (none-some d h)
found_at modules (x ∷ ds) [] place d k each once h i = absurd (none-some k i)
found_at modules (x ∷ ds) (y ∷ ks) zero d k each once h i =
    let one : x ≡ d = same_Some x d h in
    let other : y ≡ k = same_Some y k i in
    let name : y.name ≡ d.named.name = ap (λ (z : Known). z.name) each.0.is ∙ ap (λ (z : Declaration). z.named.name) one in
    let test : bytes_eq y.name d.named.name ≡ true = ap (λ n. bytes_eq n d.named.name) name ∙ name_same d.named.name in
    record { position = rw test refl; known_is = rw test (ap (λ (z : Known). Some z) other) }
found_at modules (x ∷ ds) (y ∷ ks) (suc place) d k each once h i =
    let rest = found_at modules ds ks place d k each.1 once.1 h i in
    let name : y.name ≡ x.named.name = ap (λ (z : Known). z.name) each.0.is in
    let test : bytes_eq y.name d.named.name ≡ false =
    ap (λ n. bytes_eq n d.named.name) name ∙ name_other x.named.name d.named.name (apart ds x d place once.0 h) in
    record { position = rw test (ap suc rest.position); known_is = rw test rest.known_is }

module _ (c : CircuitTree) (at : ℕ) (m : ModuleTree) (e : End) (s : Spot c at m e) where
  pub class_by_place : class_of c e.item
      ≡ class_there at c.modules s.stands.place (sum_before (port_counts (declarations m)) s.stands.place) s.declared.component (Some s.offset)
  class_by_place =
      let ks = typed_scope c.modules (declarations m) in
      let ports = sum_before (port_counts (declarations m)) s.stands.place in
      let offset : offset_where s.known.data_type s.leaf.path ≡ Some s.offset = ap (λ o. offset_where o s.leaf.path) s.has_type ∙ s.is_offset in
      let place_same : 0 + s.stands.place ≡ s.stands.place = omega arith in
      let ports_same : 0 + ports ≡ ports = omega arith in
      class_here c at m e s
      ∙ class_at at c.modules 0 0 (declarations m) ks s.stands.place s.declared s.known s.sound.once.once s.stands.declared s.stands.known s.leaf.path
      ∙ ap (λ n. class_there at c.modules n (0 + ports) s.declared.component (offset_where s.known.data_type s.leaf.path)) place_same
      ∙ ap (λ n. class_there at c.modules s.stands.place n s.declared.component (offset_where s.known.data_type s.leaf.path)) ports_same
      ∙ ap (class_there at c.modules s.stands.place ports s.declared.component) offset

  pub number_by_place : leaf_number c e.item ≡ Some (first_leaf c.modules (next_at c.modules at m s.stands.place) s.declared.component + s.offset)
  number_by_place =
      let ks = typed_scope c.modules (declarations m) in
      let x = s.declared.named.name in
      let found =
      found_at c.modules (declarations m) ks s.stands.place s.declared s.known (each_known c.modules (declarations m)) s.sound.once.once s.stands.declared s.stands.known in
      ap (leaf_number c) s.item
      ∙ ap (λ o. number_in c at o (named x ∷ s.leaf.path)) s.is_module
      ∙ ap (λ n. number_behind (first_of_position c at n) (offset_where (type_of_known (known ks x)) s.leaf.path)) found.position
      ∙ ap (λ o. number_behind (first_of_position c at s.stands.place) (offset_where (type_of_known o) s.leaf.path)) found.known_is
      ∙ ap (λ o. number_behind (first_of_position c at s.stands.place) (offset_where o s.leaf.path)) s.has_type
      ∙ ap (number_behind (first_of_position c at s.stands.place)) s.is_offset
      ∙ ap (λ o. number_behind o (Some s.offset)) (first_at c at m s.stands.place s.declared s.is_module s.stands.declared)
