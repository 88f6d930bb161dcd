-- One leaf of two elements has one class, and so have a leaf of an instance and that of its module's port.
use Rattle.std.proofs.Common.{◌≡◌, ℕ, List, [], ◌∷◌, ◌++◌, map, Option, Some, None, refl, inl, inr, ⊎_elim, ap, sym, ◌∙◌, subst, arith}
use Rattle.std.specs.Prelude.{slice_get}
use Rattle.std.proofs.lemmas.List.{map-append}
use Rattle.fir_base.specs.Lists.{In}
use Rattle.fir_base.proofs.Elements.{get_in}
use Rattle.fir_base.proofs.Members.{in_right, in_either, in_map_from, in_flat_map_from}
use Rattle.fir_ast.specs.Statements.{PlacedName, Statement, wire, register, node, instance, memory, when, connect, partial_connect, invalid, skip, Block, done, then}
use Rattle.fir_ast.specs.Circuits.{ModuleTree, CircuitTree}
use Rattle.fir_meaning.specs.LeafPaths.{named, element}
use Rattle.fir_meaning.specs.TypeLeaves.{TypeLeaf, type_leaves}
use Rattle.fir_meaning.specs.Components.{Declaration, Declarations}
use Rattle.fir_meaning.specs.Components as component
use Rattle.fir_meaning.specs.Visibility.{Before, declaration_at, with_declaration, opened, reopened, behind, behind_block, behind_ports, at_head, declarations}
use Rattle.fir_meaning.specs.ComponentTypes.{instance_bundle}
use Rattle.fir_meaning.specs.working.NameGroups.{HasNames}
use Rattle.fir_meaning.specs.TypeGroup.{type_faults}
use Rattle.fir_meaning.proofs.GrownDeclarations.{grows_block}
use Rattle.fir_meaning.specs.ResetItems.{End, leaf_item, leaf_end}
use Rattle.fir_reset.specs.working.ElementPaths.{any_element, DifferInElements}
use Rattle.fir_meaning.specs.ResetJoins.{Join, ResetModule, AreElements, numbered_module, port_place, instance_joins, reset_modules}
use Rattle.fir_infer_resets.specs.working.Meetings.{Meeting, Sides, connected, partly_connected, named_by, instanced, joins_of, meeting, meetings_in, meetings_in_block, meetings}
use Rattle.fir_meaning.specs.ResetWalks.{IsLeafOf}
use Rattle.fir_reset.specs.working.LeafClasses.{offset_in, offset_where, class_there, class_in, class_of}
use Rattle.fir_infer_resets.specs.working.ResetLaws.{OthersShareClasses}
use Rattle.fir_reset.proofs.FreshScopes.{sound}
use Rattle.fir_reset.proofs.KnownDeclarations.{stands_declared, class_standing}
use Rattle.fir_reset.proofs.LeafOffsets.{paths_offset}
use Rattle.fir_reset.proofs.LeafSpots.{Spot, spot, spot_at, item_number, item_path, class_here, instance_class, same_declared}
use Rattle.fir_reset.proofs.ModuleNumbers.{is_among, is_numbered}
use Rattle.fir_reset.proofs.PortLeaves.{port_end}

-- leaves of one declaration that have one offset have one class
module _ (c : CircuitTree) (at : ℕ) (m : ModuleTree) (e f : End) (s : Spot c at m e) (t : Spot c at m f) where
  class_shared : map any_element (named s.declared.named.name ∷ s.leaf.path) ≡ map any_element (named t.declared.named.name ∷ t.leaf.path) → class_of c e.item ≡ class_of c f.item
  class_shared h =
      let same = same_declared c at m e f s t h in
      let there = class_standing at c.modules m s.sound.once s.declared s.known s.stands in
      let one : offset_where s.known.data_type s.leaf.path ≡ Some s.offset = ap (λ o. offset_where o s.leaf.path) s.has_type ∙ s.is_offset in
      let other : offset_in s.data_type t.leaf.path ≡ Some t.offset = ap (λ u. offset_in u t.leaf.path) same.2 ∙ t.is_offset in
      let offset : s.offset ≡ t.offset = paths_offset s.data_type s.leaf.path t.leaf.path s.offset t.offset s.is_offset other same.3 in
      let where_other : offset_where s.known.data_type t.leaf.path ≡ Some t.offset = ap (λ o. offset_where o t.leaf.path) s.has_type ∙ other in
      class_here c at m e s ∙ there.1 s.leaf.path
      ∙ ap (class_there at c.modules s.stands.place there.0 s.declared.component) (one ∙ ap (λ (k : ℕ). Some k) offset ∙ sym where_other)
      ∙ sym (there.1 t.leaf.path) ∙ ap (λ (d : Declaration). class_in at c.modules (Some m) (named d.named.name ∷ t.leaf.path)) same.0 ∙ sym (class_here c at m f t)

pub differ_share : (c : CircuitTree) → HasNames c → (e f : End) → IsLeafOf c e → IsLeafOf c f → DifferInElements e f → class_of c e.item ≡ class_of c f.item
differ_share c names e f l m h =
    let number : m.number ≡ l.number = item_number c f m h.number h.other h.other_is ∙ sym (item_number c e l h.number h.path h.one_is) in
    let s = spot c names e l in
    let t = spot_at c names f m l.number l.inside number l.is_module in
    class_shared c l.number l.inside e f s t
    (ap (map any_element) (sym (item_path c l.number l.inside e s h.number h.path h.one_is)) ∙ h.same
    ∙ ap (map any_element) (item_path c l.number l.inside f t h.number h.other h.other_is))

one_but_for_elements : (e f : End) → AreElements e f → DifferInElements e f
one_but_for_elements e f h = record {
  number = h.number;
  path = h.vector ++ element h.one ∷ h.rest;
  other = h.vector ++ element h.other ∷ h.rest;
  one_is = h.one_is;
  other_is = h.other_is;
  same = map-append any_element h.vector (element h.one ∷ h.rest) ∙ sym (map-append any_element h.vector (element h.other ∷ h.rest));
  ground_type = h.ground_type;
  place = h.place;
}

pub others_share : (c : CircuitTree) → HasNames c → type_faults c ≡ [] → OthersShareClasses c
others_share c names clear e f l m h = differ_share c names e f l m (one_but_for_elements e f h)

-- the declaration of an instance that is met in a module
record Meets (m : ResetModule) (ds : Declarations) (x : Meeting) (n : PlacedName) (name : List ℕ) : Type 0 where
  inside : x.inside ≡ m
  depth : ℕ
  among : In ds (record { named = n; component = component.instance name; depth = depth })

module _ (m : ResetModule) (x : Meeting) (n : PlacedName) (name : List ℕ) (is : x.sides ≡ instanced n name) where
  met_further : (b : Block) (before : Before) → Meets m before.declared x n name → Meets m (behind_block before b).declared x n name
  met_further b before h = record { inside = h.inside; depth = h.depth; among = (grows_block b before).each _ h.among }

  not_met : (before : Before) (ds : Declarations) (sides : Sides) → (sides ≡ instanced n name → ⊥) → In (meeting m before sides ∷ []) x → Meets m ds x n name
  not_met before ds sides other (inl e) = absurd (other (ap (λ (y : Meeting). y.sides) e ∙ is))
  not_met before ds sides other (inr f) = absurd f

  met_here : (before : Before) (k : PlacedName) (other : List ℕ) → In (meeting m before (instanced k other) ∷ []) x
      → Meets m (with_declaration before k (component.instance other)).declared x n name
  met_here before k other (inr f) = absurd f
  met_here before k other (inl e) =
      let sides : instanced k other ≡ instanced n name = ap (λ (y : Meeting). y.sides) e ∙ is in
      let one : k ≡ n = cc in
      let two : other ≡ name = cc in
      record {
        inside = ap (λ (y : Meeting). y.inside) (sym e);
        depth = before.depth;
        among =
            in_right before.declared (declaration_at before k (component.instance other) ∷ []) _
            (inl (ap (λ y. record { named = y; component = component.instance other; depth = before.depth }) one
            ∙ ap (λ y. record { named = n; component = component.instance y; depth = before.depth }) two));
      }

  mutual
    met : (s : Statement) (before : Before) → In (meetings_in m before s) x → Meets m (behind before s).declared x n name
    met (wire p k begins t) before i = absurd i
    met (register p k begins t c r) before i = absurd i
    met (node p k e) before i = not_met before (behind before (node p k e)).declared (named_by k e) (λ h. cc) i
    met (instance p k other) before i = met_here before k other.name i
    met (memory p k parts) before i = absurd i
    met (when p c a b) before i =
        let inside = behind_block (opened before) a in
        ⊎_elim
        (λ (l : In (meetings_in_block m (opened before) a) x). met_further b (reopened before inside) (met_block a (opened before) l))
        (λ (l : In (meetings_in_block m (reopened before inside) b) x). met_block b (reopened before inside) l)
        (in_either (meetings_in_block m (opened before) a) (meetings_in_block m (reopened before inside) b) x i)
    met (connect p sink e) before i = not_met before before.declared (connected sink e) (λ h. cc) i
    met (partial_connect p sink e) before i = not_met before before.declared (partly_connected sink e) (λ h. cc) i
    met (invalid p sink) before i = absurd i
    met (skip p) before i = absurd i

    met_block : (b : Block) (before : Before) → In (meetings_in_block m before b) x → Meets m (behind_block before b).declared x n name
    met_block done before i = absurd i
    met_block ((then) s b) before i =
        ⊎_elim
        (λ (l : In (meetings_in m before s) x). met_further b (behind before s) (met s before l))
        (λ (l : In (meetings_in_block m (behind before s) b) x). met_block b (behind before s) l)
        (in_either (meetings_in m before s) (meetings_in_block m (behind before s) b) x i)

-- both ends of each join of an instance have one class
abbrev pub InstancesShare : CircuitTree → Type 0
InstancesShare c = (m : Meeting) (n : PlacedName) (name : List ℕ) (j : Join) → In (meetings c) m → m.sides ≡ instanced n name → In (joins_of m) j
    → class_of c j.one.item ≡ class_of c j.other.item

instance_shares : (c : CircuitTree) → HasNames c → (at : ℕ) (m : ModuleTree) (depth : ℕ) (n : PlacedName) (name : List ℕ) (j : Join) → slice_get c.modules at ≡ Some m
    → In (declarations m) (record { named = n; component = component.instance name; depth = depth })
    → In (instance_joins (record { modules = c.modules; number = at; inside = m }) n (numbered_module 0 c.modules name)) j → class_of c j.one.item ≡ class_of c j.other.item
instance_shares c names at m depth n name j there among i = by (numbered_module 0 c.modules name) refl i
  where
    d : Declaration
    d = record { named = n; component = component.instance name; depth = depth }

    of_leaf : (child : ℕ × ModuleTree) → numbered_module 0 c.modules name ≡ Some child → (l : TypeLeaf) → In (type_leaves (instance_bundle child.1)) l
        → class_of c (leaf_item at (named n.name ∷ l.path)) ≡ class_of c (leaf_item child.0 l.path)
    of_leaf child f l k =
        let found = is_numbered 0 c.modules name child f in
        let number : found.behind ≡ child.0 = omega (arith, found.number) in
        let at_number : slice_get c.modules child.0 ≡ Some child.1 = subst (λ z. slice_get c.modules z ≡ Some child.1) number found.there in
        let known = stands_declared c.modules m d among in
        let once = (sound c names m (get_in c.modules at m there)).once in
        let port = port_end c child.0 child.1 n.place l (sound c names child.1 (get_in c.modules child.0 child.1 at_number)) at_number k in
        ap (λ o. class_in at c.modules o (named n.name ∷ l.path)) there ∙ instance_class at c.modules m once d known.0 name child known.1 refl f l.path
        ∙ sym (ap (λ o. class_in child.0 c.modules o l.path) at_number ∙ port.class)

    by : (o : Option (ℕ × ModuleTree)) → numbered_module 0 c.modules name ≡ o
        → In (instance_joins (record { modules = c.modules; number = at; inside = m }) n o) j → class_of c j.one.item ≡ class_of c j.other.item
    by None f k = absurd k
    by (Some child) f k =
        let make : TypeLeaf → Join = λ l. record {
          one = leaf_end at n.place (named n.name ∷ l.path) l.ground_type;
          other = leaf_end child.0 (port_place n.place child.1.ports l.path) l.path l.ground_type;
        } in
        let from = in_map_from make (type_leaves (instance_bundle child.1)) j k in
        subst (λ (x : Join). class_of c x.one.item ≡ class_of c x.other.item) from.2 (of_leaf child f from.0 from.1)

pub instances_share : (c : CircuitTree) → HasNames c → type_faults c ≡ [] → InstancesShare c
instances_share c names clear m n name j i is k =
    let from = in_flat_map_from (λ (x : ResetModule). meetings_in_block x (behind_ports at_head x.inside.ports) x.inside.body) (reset_modules 0 c.modules c.modules) m i in
    let r = from.0 in
    let meets = met_block r m n name is r.inside.body (behind_ports at_head r.inside.ports) from.2 in
    let stands = is_among 0 c.modules c.modules r from.1 in
    let number : stands.behind ≡ r.number = omega (arith, stands.number) in
    let there : slice_get c.modules r.number ≡ Some r.inside = subst (λ z. slice_get c.modules z ≡ Some r.inside) number stands.there in
    let sides : m ≡ meeting m.inside m.before (instanced n name) = ap (meeting m.inside m.before) is in
    let here : In (instance_joins m.inside n (numbered_module 0 m.inside.modules name)) j = subst (λ y. In (joins_of y) j) sides k in
    let there_too : In (instance_joins r n (numbered_module 0 r.modules name)) j = subst (λ (y : ResetModule). In (instance_joins y n (numbered_module 0 y.modules name)) j) meets.inside here in
    let all : In (instance_joins (record { modules = c.modules; number = r.number; inside = r.inside }) n (numbered_module 0 c.modules name)) j =
    subst (λ ms. In (instance_joins (record { modules = ms; number = r.number; inside = r.inside }) n (numbered_module 0 ms name)) j) stands.modules there_too in
    instance_shares c names r.number r.inside meets.depth n name j there meets.among all
