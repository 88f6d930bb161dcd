-- All joins of a circuit are those of its meetings but those of instances, whose two ends are of one class and one ground type.
use Rattle.std.proofs.Common.{◌≡◌, ℕ, ◌⊎◌, [], ◌∷◌, flat_map, Option, Some, None, refl, inl, inr, ap, sym, ◌∙◌, subst}
use Rattle.fir_base.specs.Lists.{In}
use Rattle.fir_base.proofs.Members.{in_flat_map, in_flat_map_from, in_map_from}
use Rattle.fir_ast.specs.Statements.{PlacedName}
use Rattle.fir_ast.specs.Circuits.{ModuleTree, CircuitTree}
use Rattle.fir_meaning.specs.ComponentTypes.{instance_bundle}
use Rattle.fir_meaning.specs.LeafPaths.{named}
use Rattle.fir_meaning.specs.working.NameGroups.{HasNames}
use Rattle.fir_meaning.specs.TypeGroup.{type_faults}
use Rattle.fir_meaning.specs.TypeLeaves.{TypeLeaf, type_leaves}
use Rattle.fir_infer_resets.specs.working.FoundKinds.{AllButShared, IsShared}
use Rattle.fir_infer_resets.specs.working.Meetings.{Meeting, Sides, connected, partly_connected, named_by, instanced, joins_of, meeting, meetings, met_joins}
use Rattle.fir_meaning.specs.ResetItems.{leaf_end}
use Rattle.fir_meaning.specs.ResetJoins.{Join, ResetModule, instance_joins, numbered_module, port_place}
use Rattle.fir_infer_resets.proofs.MeetingJoins.{meetings_join}
use Rattle.fir_infer_resets.proofs.SharedClasses.{instances_share}

one_type : (m : ResetModule) (n : PlacedName) (o : Option (ℕ × ModuleTree)) (j : Join) → In (instance_joins m n o) j → j.one.ground_type ≡ j.other.ground_type
one_type m n None j i = absurd i
one_type m n (Some child) j i =
    let make : TypeLeaf → Join = λ l. record {
      one = leaf_end m.number n.place (named n.name ∷ l.path) l.ground_type;
      other = leaf_end child.0 (port_place n.place child.1.ports l.path) l.path l.ground_type;
    } in
    let from = in_map_from make (type_leaves (instance_bundle child.1)) j i in
    ap (λ (k : Join). k.one.ground_type) (sym from.2) ∙ ap (λ (k : Join). k.other.ground_type) from.2

module _ (c : CircuitTree) (names : HasNames c) (clear : type_faults c ≡ []) where
  here_or : (m : Meeting) (sides : Sides) (j : Join) → m.sides ≡ sides → In (meetings c) m → In (joins_of m) j → In (flat_map met_joins (meetings c)) j ⊎ IsShared c j.one j.other
  here_or m (connected sink e) j is i k =
      inl (in_flat_map met_joins (meetings c) m j i
      (subst (λ (s : Sides). In (joins_of (meeting m.inside m.before s)) j → In (met_joins (meeting m.inside m.before s)) j) (sym is) (λ l. l) k))
  here_or m (partly_connected sink e) j is i k =
      inl (in_flat_map met_joins (meetings c) m j i
      (subst (λ (s : Sides). In (joins_of (meeting m.inside m.before s)) j → In (met_joins (meeting m.inside m.before s)) j) (sym is) (λ l. l) k))
  here_or m (named_by n e) j is i k =
      inl (in_flat_map met_joins (meetings c) m j i
      (subst (λ (s : Sides). In (joins_of (meeting m.inside m.before s)) j → In (met_joins (meeting m.inside m.before s)) j) (sym is) (λ l. l) k))
  here_or m (instanced n name) j is i k =
      let there : In (instance_joins m.inside n (numbered_module 0 m.inside.modules name)) j =
      subst (λ (s : Sides). In (joins_of (meeting m.inside m.before s)) j) is k in
      inr (record {
        class = instances_share c names clear m n name j i is k;
        ground_type = one_type m.inside n (numbered_module 0 m.inside.modules name) j there;
      })

  pub all_but_shared : AllButShared c (flat_map met_joins (meetings c))
  all_but_shared = λ j i.
      let from = in_flat_map_from joins_of (meetings c) j (subst (λ js. In js j) (meetings_join c) i) in
      here_or from.0 from.0.sides j refl from.1 from.2
