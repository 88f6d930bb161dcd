-- A leaf of a circuit: its declaration, what is known of that, and its offset. Leaves whose paths differ in indices alone are of one declaration.
use Rattle.std.proofs.Common.{◌≡◌, ℕ, List, [], ◌∷◌, map, Some, refl, inl, inr, ap, sym, ◌∙◌, subst}
use Rattle.std.specs.Prelude.{option_map, slice_get}
use Rattle.std.proofs.lemmas.Option.{same_Some}
use Rattle.fir_base.specs.Lists.{In}
use Rattle.fir_base.proofs.Elements.{get_in}
use Rattle.fir_ast.specs.Types.{DataType}
use Rattle.fir_ast.specs.Circuits.{ModuleTree, CircuitTree}
use Rattle.fir_meaning.specs.LeafPaths.{LeafPath, named}
use Rattle.fir_meaning.specs.TypeLeaves.{TypeLeaf, type_leaves}
use Rattle.fir_meaning.specs.Components.{Declaration, find, instance}
use Rattle.fir_meaning.specs.Visibility.{declarations}
use Rattle.fir_meaning.specs.TypedScopes.{Known, TypedScope}
use Rattle.fir_meaning.specs.ComponentTypes.{instance_bundle, component_type, typed_scope}
use Rattle.fir_meaning.specs.working.NameGroups.{HasNames}
use Rattle.fir_meaning.proofs.FoundDeclarations.{Once, once_found}
use Rattle.fir_meaning.proofs.FreshFields.{HasFreshFields}
use Rattle.fir_meaning.specs.ResetItems.{End, leaf_item, declared_at}
use Rattle.fir_reset.specs.working.ElementPaths.{any_element, DifferInElements}
use Rattle.fir_meaning.specs.ResetJoins.{numbered_module}
use Rattle.fir_meaning.specs.ResetWalks.{IsLeafOf}
use Rattle.fir_reset.specs.working.LeafClasses.{offset_in, offset_where, class_there, class_in, class_of}
use Rattle.fir_reset.proofs.FreshTypes.{FreshWhere, AllFresh, fresh_at}
use Rattle.fir_reset.proofs.FreshScopes.{Sound, sound}
use Rattle.fir_reset.proofs.LeafOffsets.{offset_there, same_ground}
use Rattle.fir_reset.proofs.KnownDeclarations.{Stands, stands_known, class_standing, same_name}
use Rattle.fir_reset.proofs.ModuleNumbers.{is_numbered}
use Rattle.fir_reset.proofs.PortLeaves.{ports_class}

-- a leaf in a module of a number
pub record Spot (c : CircuitTree) (at : ℕ) (m : ModuleTree) (e : End) : Type 0 where
  pub is_module : slice_get c.modules at ≡ Some m
  pub sound : Sound c.modules m
  pub declared : Declaration
  pub known : Known
  pub stands : Stands c.modules (declarations m) (typed_scope c.modules (declarations m)) declared known
  pub data_type : DataType
  pub has_type : known.data_type ≡ Some data_type
  pub fresh : HasFreshFields data_type
  pub leaf : TypeLeaf
  pub is_leaf : In (type_leaves data_type) leaf
  pub item : e.item ≡ leaf_item at (named declared.named.name ∷ leaf.path)
  pub ground_type : e.ground_type ≡ leaf.ground_type
  pub place : e.place ≡ declared.named.place
  pub offset : ℕ
  pub is_offset : offset_in data_type leaf.path ≡ Some offset

among_fresh : (ks : TypedScope) → AllFresh ks → (k : Known) → In ks k → FreshWhere k.data_type
among_fresh [] h k i = absurd i
among_fresh (x ∷ ks) h k (inl e) = subst (λ (y : Known). FreshWhere y.data_type) e h.0
among_fresh (x ∷ ks) h k (inr i) = among_fresh ks h.1 k i

pub spot : (c : CircuitTree) → HasNames c → (e : End) (l : IsLeafOf c e) → Spot c l.number l.inside e
spot c h e l = record {
  is_module = l.is_module;
  sound = whole;
  declared = found.0;
  known = l.declared;
  stands = stands;
  data_type = l.data_type;
  has_type = l.has_type;
  fresh = fresh;
  leaf = l.leaf;
  is_leaf = l.is_leaf;
  item = item;
  ground_type = l.ground_type;
  place = place;
  offset = offset.0;
  is_offset = offset.1;
}
  where
    whole : Sound c.modules l.inside
    whole = sound c h l.inside (get_in c.modules l.number l.inside l.is_module)

    found : (d : Declaration) × Stands c.modules (declarations l.inside) (typed_scope c.modules (declarations l.inside)) d l.declared
    found = stands_known c.modules l.inside l.declared l.is_declared

    stands : Stands c.modules (declarations l.inside) (typed_scope c.modules (declarations l.inside)) found.0 l.declared
    stands = found.1

    name : l.declared.name ≡ found.0.named.name
    name = ap (λ (k : Known). k.name) stands.is.is

    fresh : HasFreshFields l.data_type
    fresh =
        fresh_at l.declared.data_type l.data_type (among_fresh (typed_scope c.modules (declarations l.inside)) whole.fresh l.declared l.is_declared) l.has_type

    offset : (k : ℕ) × (offset_in l.data_type l.leaf.path ≡ Some k)
    offset = offset_there l.data_type l.leaf fresh l.is_leaf

    item : e.item ≡ leaf_item l.number (named found.0.named.name ∷ l.leaf.path)
    item = l.item ∙ ap (λ x. leaf_item l.number (named x ∷ l.leaf.path)) name

    once : find (declarations l.inside) l.declared.name ≡ Some found.0
    once =
        ap (find (declarations l.inside)) name
        ∙ once_found (declarations l.inside) whole.once found.0 (get_in (declarations l.inside) stands.place found.0 stands.declared)

    place : e.place ≡ found.0.named.place
    place = l.place ∙ ap (declared_at e.place) once

module _ (c : CircuitTree) (at : ℕ) (m : ModuleTree) (e : End) (s : Spot c at m e) where
  -- the class of a leaf in the module
  pub class_here : class_of c e.item ≡ class_in at c.modules (Some m) (named s.declared.named.name ∷ s.leaf.path)
  class_here =
      ap (class_of c) s.item ∙ ap (λ o. class_in at c.modules o (named s.declared.named.name ∷ s.leaf.path)) s.is_module

  pub spot_class : (ports : ℕ) × (class_of c e.item ≡ class_there at c.modules s.stands.place ports s.declared.component (Some s.offset))
  spot_class =
      let r = class_standing at c.modules m s.sound.once s.declared s.known s.stands in
      let offset : offset_where s.known.data_type s.leaf.path ≡ Some s.offset = ap (λ o. offset_where o s.leaf.path) s.has_type ∙ s.is_offset in
      (r.0, class_here ∙ r.1 s.leaf.path ∙ ap (class_there at c.modules s.stands.place r.0 s.declared.component) offset)

-- the class of a leaf of an instance is that of its module's port
module _ (at : ℕ) (modules : List ModuleTree) (m : ModuleTree) (once : Once (declarations m)) (d : Declaration) (k : Known) where
  pub instance_known : (name : List ℕ) (child : ℕ × ModuleTree) → Stands modules (declarations m) (typed_scope modules (declarations m)) d k → d.component ≡ instance name
      → numbered_module 0 modules name ≡ Some child → k.data_type ≡ Some (instance_bundle child.1)
  instance_known name child s e f =
      ap (λ (x : Known). x.data_type) s.is.is ∙ ap (component_type modules s.is.scope d.named.place) e
      ∙ ap (option_map instance_bundle) (is_numbered 0 modules name child f).found

  pub instance_class : (name : List ℕ) (child : ℕ × ModuleTree) → Stands modules (declarations m) (typed_scope modules (declarations m)) d k → d.component ≡ instance name
      → numbered_module 0 modules name ≡ Some child → (path : LeafPath)
      → class_in at modules (Some m) (named d.named.name ∷ path) ≡ ports_class child.0 (offset_in (instance_bundle child.1) path)
  instance_class name child s e f path =
      let r = class_standing at modules m once d k s in
      r.1 path ∙ ap (λ o. class_there at modules s.place r.0 d.component (offset_where o path)) (instance_known name child s e f)
      ∙ ap (λ x. class_there at modules s.place r.0 x (offset_in (instance_bundle child.1) path)) e ∙ rw f refl

-- two leaves of one module whose paths differ in indices alone
module _ (c : CircuitTree) (at : ℕ) (m : ModuleTree) (e f : End) (s : Spot c at m e) (t : Spot c at m f) where
  pub same_declared : map any_element (named s.declared.named.name ∷ s.leaf.path) ≡ map any_element (named t.declared.named.name ∷ t.leaf.path)
      → (s.declared ≡ t.declared) × (s.known ≡ t.known) × (s.data_type ≡ t.data_type) × (map any_element s.leaf.path ≡ map any_element t.leaf.path)
  same_declared h =
      let name : s.declared.named.name ≡ t.declared.named.name = cc in
      let rest : map any_element s.leaf.path ≡ map any_element t.leaf.path = cc in
      let r = same_name c.modules (declarations m) (typed_scope c.modules (declarations m)) s.declared t.declared s.known t.known s.stands t.stands s.sound.once name in
      (r.0, r.1, same_Some s.data_type t.data_type (sym s.has_type ∙ ap (λ (k : Known). k.data_type) r.1 ∙ t.has_type), rest)

  elements_here : map any_element (named s.declared.named.name ∷ s.leaf.path) ≡ map any_element (named t.declared.named.name ∷ t.leaf.path) → DifferInElements e f
  elements_here h =
      let same = same_declared h in
      record {
        number = at;
        path = named s.declared.named.name ∷ s.leaf.path;
        other = named t.declared.named.name ∷ t.leaf.path;
        one_is = s.item;
        other_is = t.item;
        same = h;
        ground_type =
            s.ground_type
            ∙ same_ground s.data_type s.leaf t.leaf s.fresh s.is_leaf (subst (λ u. In (type_leaves u) t.leaf) (sym same.2) t.is_leaf) same.3
            ∙ sym t.ground_type;
        place = s.place ∙ ap (λ (d : Declaration). d.named.place) same.0 ∙ sym t.place;
      }

-- a leaf whose module has that number is a spot there
pub spot_at : (c : CircuitTree) → HasNames c → (e : End) (l : IsLeafOf c e) (at : ℕ) (m : ModuleTree) → l.number ≡ at → slice_get c.modules at ≡ Some m → Spot c at m e
spot_at c h e l at m n there =
    let inside : l.inside ≡ m = same_Some l.inside m (sym l.is_module ∙ ap (slice_get c.modules) n ∙ there) in
    subst (λ x. Spot c at x e) inside (subst (λ k. Spot c k l.inside e) n (spot c h e l))

-- what the item of a leaf says
pub item_number : (c : CircuitTree) (e : End) (l : IsLeafOf c e) (n : ℕ) (p : LeafPath) → e.item ≡ leaf_item n p → l.number ≡ n
item_number c e l n p h = let same : leaf_item l.number (named l.declared.name ∷ l.leaf.path) ≡ leaf_item n p = sym l.item ∙ h in cc

pub item_path : (c : CircuitTree) (at : ℕ) (m : ModuleTree) (e : End) (s : Spot c at m e) (n : ℕ) (p : LeafPath) → e.item ≡ leaf_item n p
    → p ≡ named s.declared.named.name ∷ s.leaf.path
item_path c at m e s n p h = let same : leaf_item at (named s.declared.named.name ∷ s.leaf.path) ≡ leaf_item n p = sym s.item ∙ h in cc

pub differ_in_elements : (c : CircuitTree) → HasNames c → (e f : End) → IsLeafOf c e → IsLeafOf c f → (n : ℕ) (p q : LeafPath) → e.item ≡ leaf_item n p → f.item ≡ leaf_item n q
    → map any_element p ≡ map any_element q → DifferInElements e f
differ_in_elements c h e f l k n p q i j same =
    let number : k.number ≡ l.number = item_number c f k n q j ∙ sym (item_number c e l n p i) in
    let s = spot c h e l in
    let t = spot_at c h f k l.number l.inside number l.is_module in
    elements_here c l.number l.inside e f s t
    (ap (map any_element) (sym (item_path c l.number l.inside e s n p i)) ∙ same ∙ ap (map any_element) (item_path c l.number l.inside f t n q j))
