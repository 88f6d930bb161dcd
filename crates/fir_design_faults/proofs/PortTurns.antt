-- A port of an instance may be driven in the module that holds the instance exactly where it may not be in the instance's own module.
use Rattle.std.proofs.Common.{◌≡◌, ℕ, zero, suc, ◌+◌, ◌<◌, List, [], ◌∷◌, ◌++◌, map, length, refl, sym, ap, ap₂, ◌∙◌, subst, arith, length-append, Bool, true, false, not, Option, Some, None, option_map, slice_get}
use Rattle.std.specs.Prelude.{◌==◌, if◌then◌else◌}
use Rattle.std.proofs.lemmas.List.{get_or_append_left, length-map, map-append}
use Rattle.std.proofs.lemmas.Option.{get_or_from_slice_get, same_Some}
use Rattle.fir_base.specs.Lists.{In}
use Rattle.fir_base.proofs.Elements.{beside, get_behind, get_in, there}
use Rattle.fir_base.specs.declared.direction.Direction.{Direction}
use Rattle.fir_base.specs.declared.direction.Direction.TheVariants as direction
use Rattle.fir_ast.specs.declared.place.Place.{Place}
use Rattle.fir_ast.specs.Statements.{PlacedName}
use Rattle.fir_ast.specs.Types.{DataType, uint, sint, clock, reset, async_reset, bundle, vector, Fields, no_fields, field}
use Rattle.fir_ast.specs.Circuits.{CircuitTree, PortTree}
use Rattle.fir_meaning.specs.LeafPaths.{LeafPath, named, element}
use Rattle.fir_meaning.specs.TypeLeaves.{TypeLeaf, element_leaves, field_leaves, turned, type_leaves, under}
use Rattle.fir_meaning.specs.Components as component
use Rattle.fir_meaning.specs.Components.{Declaration}
use Rattle.fir_meaning.specs.ComponentTypes.{find_module, instance_bundle, is_input, known_as, port_fields, typed_scope}
use Rattle.fir_meaning.specs.Elaborated.{AreScenes}
use Rattle.fir_meaning.specs.Flows.{flow_under, is_source, port_flow}
use Rattle.fir_meaning.specs.Flows as flow
use Rattle.fir_meaning.specs.FoundTypes.{leaves_of_data}
use Rattle.fir_meaning.specs.ResetJoins.{numbered_module}
use Rattle.fir_meaning.specs.SharedLeaves.{shared_count}
use Rattle.fir_meaning.specs.SizedTypes.{numbered, numbered_fields, past}
use Rattle.fir_meaning.specs.SizedDeclarations.{numbers_at}
use Rattle.fir_meaning.specs.SourceFacts.{flip_on}
use Rattle.fir_meaning.specs.TypeGroup.{type_faults}
use Rattle.fir_meaning.specs.TypedScopes.{Known}
use Rattle.fir_meaning.specs.Visibility.{Before, at_head, declarations, with_declaration}
use Rattle.fir_meaning.specs.WidthExpressions.{Widths}
use Rattle.fir_meaning.specs.LeafTypes.{LeafType}
use Rattle.fir_meaning.specs.working.LeafModules.{LeafDeclared, leaf_at, may_drive, no_leaf, role_at, sink, source}
use Rattle.fir_meaning.specs.ModuleScenes.{Declared, Scene}
use Rattle.fir_meaning.specs.HeldTypes.{held_field_types, held_types, repeated}
use Rattle.fir_meaning.specs.working.LeafedModules.{leafed_module, leaves_from, leaves_of_ports, module_leaves, port_role}
use Rattle.fir_meaning.specs.working.DesignPaths.{instance_name, no_name}
use Rattle.fir_meaning.specs.working.NameGroups.{HasNames}
use Rattle.fir_meaning.proofs.DistinctLeaves.{paths_distinct}
use Rattle.fir_leaf.specs.working.NamedDesigns.{declared_name}
use Rattle.fir_leaf.specs.working.TableLaws.{IsLeafOf}
use Rattle.fir_design.proofs.DeclaredInstances.{IsDeclared, instance_within}
use Rattle.fir_design.proofs.DistinctElements.{once_numbered}
use Rattle.fir_design.proofs.FineScenes.{IsFineScene, fine_scene, leaf_is, whole_scope}
use Rattle.fir_design.proofs.HeldInstances.{Held, all_held_in}
use Rattle.fir_design.proofs.InstanceLeaves.{held_instance, own_instance}
use Rattle.fir_design.proofs.KnownDeclarations.{known_behind, known_long}
use Rattle.fir_design.proofs.ModuleRanks.{view_declared}
use Rattle.fir_design.proofs.NumberedScenes.{child_numbered, scene_numbered, scene_own, scene_there}
use Rattle.fir_design.proofs.OwnNames.{own_names}
use Rattle.fir_design.proofs.PortLeaves.{port_path, port_scope}
use Rattle.fir_design_faults.proofs.FlatDrives.{IsTurned}
use Rattle.fir_design_faults.proofs.TargetFlows.{flip_alone}

long_elements : (i n : ℕ) (ls : List TypeLeaf) (hs : List LeafType) → length ls ≡ length hs → length (element_leaves i n ls) ≡ length (repeated n hs)
long_elements i zero ls hs e = refl
long_elements i (suc n) ls hs e =
    omega (
      arith,
      e,
      length-append (map (under false (element i)) ls) (element_leaves (i + 1) n ls),
      length-map ls (under false (element i)),
      length-append hs (repeated n hs),
      long_elements (i + 1) n ls hs e,
    )

-- a type holds as much as it has leaves
mutual
  held_long : (w : Widths) (at : Option ℕ) (t : DataType) → length (type_leaves t) ≡ length (held_types w (numbered at t))
  held_long w at (uint x) = refl
  held_long w at (sint x) = refl
  held_long w at clock = refl
  held_long w at reset = refl
  held_long w at async_reset = refl
  held_long w at (bundle fs) = held_fields_long w at fs
  held_long w at (vector t n) = long_elements 0 n (type_leaves t) _ (held_long w (if n == 0 then None else at) t)

  held_fields_long : (w : Widths) (at : Option ℕ) (fs : Fields) → length (field_leaves fs) ≡ length (held_field_types w (numbered_fields at fs))
  held_fields_long w at no_fields = refl
  held_fields_long w at (field p flip x begins t rest) =
      omega (
        arith,
        length-append (map (under flip (named x)) (type_leaves t)) (field_leaves rest),
        length-map (type_leaves t) (under flip (named x)),
        held_long w at t,
        held_fields_long w (past (shared_count t) at) rest,
        length-append (held_types w (numbered at t)) (held_field_types w (numbered_fields (past (shared_count t) at) rest)),
      )

one_turned : (d : Direction) (flip : Bool)
    → turned (is_input d) flip ≡ not (may_drive (if is_source (flow_under flip (port_flow d)) then source else sink))
one_turned direction.Input true = refl
one_turned direction.Input false = refl
one_turned direction.Output true = refl
one_turned direction.Output false = refl

from_turned : (d : Declared) (place : TypeLeaf → Place) (dir : Direction) (k : ℕ) (ls : List TypeLeaf) (hs : List LeafType)
    → length ls ≡ length hs
    → map (λ (l : TypeLeaf). l.flip) (map (under (is_input dir) (named d.named.name)) ls)
    ≡ map (λ (l : LeafDeclared). not (may_drive l.role)) (leaves_from d place (λ x l. port_role dir l) k ls hs)
from_turned d place dir k [] hs e = refl
from_turned d place dir k (l ∷ ls) [] e = absurd (omega (arith, e))
from_turned d place dir k (l ∷ ls) (h ∷ hs) e = ap₂ (λ b bs. b ∷ bs) (one_turned dir l.flip) (from_turned d place dir (suc k) ls hs (omega (arith, e)))

ports_turned : (s : Scene) (before : Before) (ps : List PortTree)
    → map (λ (l : TypeLeaf). l.flip) (field_leaves (port_fields ps)) ≡ map (λ (l : LeafDeclared). not (may_drive l.role)) (leaves_of_ports s before ps)
ports_turned s before [] = refl
ports_turned s before (p ∷ ps) =
    map-append (λ (l : TypeLeaf). l.flip) (map (under (is_input p.direction) (named p.named.name)) (type_leaves p.data_type)) (field_leaves (port_fields ps))
    ∙ ap₂ (λ (xs ys : List Bool). xs ++ ys)
    (from_turned declared (λ l. p.named.place) p.direction 0 (type_leaves p.data_type) _
    (held_long s.widths (Some (numbers_at s.own before).port) p.data_type))
    (ports_turned s (with_declaration before p.named (component.port p.direction p.data_type)) ps)
    ∙ sym (map-append (λ (l : LeafDeclared). not (may_drive l.role))
    (leaves_from declared (λ l. p.named.place) (λ k l. port_role p.direction l) 0 (type_leaves p.data_type) _)
    (leaves_of_ports s (with_declaration before p.named (component.port p.direction p.data_type)) ps))
  where
    declared : Declared
    declared = record { named = p.named; component = component.port p.direction p.data_type; before = before }

-- a leaf of the ports of a module
record PortLeaf (s : Scene) (z : ℕ) : Type 0 where
  leaf : TypeLeaf
  there : slice_get (type_leaves (instance_bundle s.own.inside)) z ≡ Some leaf
  flip : leaf.flip ≡ not (may_drive (role_at (leafed_module s) z))
  path : (leaf_at (leafed_module s).leaves z).path ≡ leaf.path

port_leaf : (s : Scene) (z : ℕ) → z < (leafed_module s).port_leaves → PortLeaf s z
port_leaf s z lt =
    let ports = leaves_of_ports s at_head s.own.inside.ports in
    let y = there ports z lt in
    let l = beside (λ (x : TypeLeaf). x.flip) (λ (x : LeafDeclared). not (may_drive x.role)) (type_leaves (instance_bundle s.own.inside)) ports
    (ports_turned s at_head s.own.inside.ports) z y.0 y.1 in
    let here : leaf_at (module_leaves s) z ≡ y.0 = get_or_append_left ports _ no_leaf z lt ∙ get_or_from_slice_get ports z y.0 no_leaf y.1 in
    record {
      leaf = l.0;
      there = l.1;
      flip = l.2 ∙ ap (λ (x : LeafDeclared). not (may_drive x.role)) (sym here);
      path = port_path s z l.0 l.1 lt;
    }

source_turned : (flip : Bool) → not (is_source (flow_under flip flow.source)) ≡ flip
source_turned true = refl
source_turned false = refl

turned_at : (s : Scene) (f : IsFineScene s) (h : Held) (d : IsDeclared s.own.modules (port_scope s) (declarations s.own.inside) h) (child : Scene)
    (same : child.own.inside ≡ d.child) (found : find_module s.own.modules d.module_name ≡ Some d.child) (z : ℕ) → z < (leafed_module child).port_leaves
    → IsTurned (leafed_module s) (leafed_module child) h.own z
turned_at s f h d child same found z lt =
    let m = leafed_module s in
    let all = declarations s.own.inside in
    let held = held_instance s f h d child same found in
    let owned = own_instance s f h d child same found in
    let names = own_names s f in
    let y = h.own.first + z in
    let within : y < length m.leaves = omega (arith, held.within, lt) in
    let begins = names.begins y within in
    let firsts : named (declared_name m (leaf_at m.leaves y).declaration) ∷ begins.rest ≡ named (instance_name m h.own) ∷ (leaf_at (module_leaves child) z).path =
    sym begins.is ∙ held.path z lt in
    let name : declared_name m (leaf_at m.leaves y).declaration ≡ declared_name m h.own.declaration = cc in
    let place : (leaf_at m.leaves y).declaration ≡ h.own.declaration =
    once_numbered (λ (n : PlacedName). n.name) m.declared no_name (leaf_at m.leaves y).declaration h.own.declaration names.names (names.declared y within)
    owned.declared name in
    let own : Declaration = instance_within d.named d.module_name h.depth in
    let front = typed_scope s.own.modules d.front in
    let k = known_as s.own.modules front own in
    let rest = known_behind s.own.modules d.front own d.more in
    let known : slice_get (whole_scope s) h.own.declaration ≡ Some k =
    ap (slice_get (whole_scope s)) (d.declaration ∙ sym (known_long s.own.modules d.front))
    ∙ ap (λ ks. slice_get ks (length front)) (sym (rest.1 ∙ ap (typed_scope s.own.modules) d.is)) ∙ get_behind front rest.0 k in
    let is : IsLeafOf (whole_scope s) all (leaf_at (module_leaves s) y) = leaf_is s f y within in
    let same_known : is.known ≡ k = same_Some is.known k (sym is.is_known ∙ ap (slice_get (whole_scope s)) place ∙ known) in
    let p = port_leaf child z lt in
    let t = instance_bundle child.own.inside in
    let typed : is.known.data_type ≡ Some t =
    ap (λ (x : Known). x.data_type) same_known ∙ ap (option_map instance_bundle) found ∙ ap (λ x. Some (instance_bundle x)) (sym same) in
    let among : In (type_leaves t) is.leaf = subst (λ o. In (leaves_of_data o) is.leaf) typed is.among in
    let paths : named is.known.name ∷ is.leaf.path ≡ named (instance_name m h.own) ∷ p.leaf.path =
    sym is.path ∙ held.path z lt ∙ ap (λ (q : LeafPath). named (instance_name m h.own) ∷ q) p.path in
    let path : is.leaf.path ≡ p.leaf.path = cc in
    let distinct = paths_distinct t (f.fine.fields is.known t (get_in (whole_scope s) (leaf_at m.leaves y).declaration is.known is.is_known) typed) in
    let flips : Some is.leaf.flip ≡ Some p.leaf.flip =
    sym (flip_alone (type_leaves t) distinct is.leaf among) ∙ ap (flip_on (type_leaves t)) path
    ∙ flip_alone (type_leaves t) distinct p.leaf (get_in (type_leaves t) z p.leaf p.there) in
    let flip : is.leaf.flip ≡ p.leaf.flip = same_Some is.leaf.flip p.leaf.flip flips in
    let source_flow : is.known.flow ≡ flow.source = ap (λ (x : Known). x.flow) same_known in
    record {
      declaration = place;
      turned =
          is.drives ∙ ap₂ (λ b w. not (is_source (flow_under b w))) flip source_flow ∙ source_turned p.leaf.flip ∙ p.flip;
    }

module _ (c : CircuitTree) (names : HasNames c) (types : type_faults c ≡ []) (scenes : List Scene) (are : AreScenes c scenes) where
  pub ports_turn : (s : Scene) → In scenes s → (h : Held) → In (all_held_in 0 (leafed_module s).body) h → (child : Scene)
      → slice_get scenes h.own.module_number ≡ Some child → (z : ℕ) → z < (leafed_module child).port_leaves
      → IsTurned (leafed_module s) (leafed_module child) h.own z
  ports_turn s i h held child at z lt =
      let f = fine_scene c s names types (scene_numbered c scenes are s i) in
      let m = leafed_module s in
      let all = declarations s.own.inside in
      let d : IsDeclared s.own.modules (port_scope s) (declarations s.own.inside) h = (view_declared s).each h held in
      let same = (scene_own c scenes are s i).modules in
      let is = child_numbered c d.module_name h.own.module_number d.child (ap (λ ms. numbered_module 0 ms d.module_name) (sym same) ∙ d.found) in
      let there_is = scene_there c scenes are h.own.module_number d.child is.there in
      let found : find_module s.own.modules d.module_name ≡ Some d.child = ap (λ ms. find_module ms d.module_name) same ∙ is.found in
      let one : there_is.0 ≡ child = same_Some there_is.0 child (sym there_is.1 ∙ at) in
      let inside : child.own.inside ≡ d.child = subst (λ (x : Scene). x.own.inside ≡ d.child) one there_is.2 in
      turned_at s f h d child inside found z lt
