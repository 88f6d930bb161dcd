-- A leaf of a module that some choice leaves undriven is one over numbers exactly where it is one by paths, with the same fault.
use Rattle.std.proofs.Common.{◌≡◌, ℕ, zero, suc, ◌<◌, List, [], ◌∷◌, true, length, slice_get, Some, refl, sym, ap, ap₂, ◌∙◌, subst, subst₂, arith}
use Rattle.std.specs.Prelude.{unwrap_or}
use Rattle.std.proofs.lemmas.Option.{none-some}
use Rattle.fir_base.specs.Lists.{In}
use Rattle.fir_ast.specs.Faults.{Fault}
use Rattle.fir_ast.specs.declared.fault.Outcome.{Outcome}
use Rattle.fir_ast.specs.Circuits.{CircuitTree}
use Rattle.fir_meaning.specs.working.LeafModules.{LeafArray, LeafDeclared, depth_at, leaf_at, role_at}
use Rattle.fir_meaning.specs.working.LeafModules as by_number
use Rattle.fir_meaning.specs.LeafPaths.{LeafPath, path_text}
use Rattle.fir_meaning.specs.ModuleScenes.{Scene}
use Rattle.fir_meaning.specs.working.LeafedModules.{leafed_module, module_leaves}
use Rattle.fir_meaning.specs.working.NameGroups.{HasNames}
use Rattle.fir_meaning.specs.Outcomes.{ComesFirst, told_once}
use Rattle.fir_meaning.specs.SizedDeclarations.{numbered_modules}
use Rattle.fir_meaning.specs.SourceCircuits.{is_sink_role}
use Rattle.fir_meaning.specs.SourceFacts.{source_depth, source_place}
use Rattle.fir_meaning.specs.SourceRoles.{SourceLeaf, source_leaves}
use Rattle.fir_meaning.specs.SourceUndriven.{IsFirstUndriven, IsUndriven}
use Rattle.fir_meaning.specs.SourceUndrivenGroup.{IsDriven, ShowsUndriven, undriven_fault}
use Rattle.fir_meaning.specs.TypeGroup.{type_faults}
use Rattle.fir_meaning.specs.working.UndrivenChoices as numbered
use Rattle.fir_meaning.specs.working.UndrivenLeaves as leafed
use Rattle.fir_meaning.specs.Visits.{Visit, module_visits}
use Rattle.fir_design.proofs.FineScenes.{fine_scene}
use Rattle.fir_design.proofs.RoleKinds.{same_sink}
use Rattle.fir_design.proofs.ViewRoles.{views_same}
use Rattle.fir_design.specs.working.SameRoles.{SameLeaves, SameRole}
use Rattle.fir_source_faults.specs.working.DrivesByPath.{DrivesByPath}
use Rattle.fir_source_faults.specs.working.ReadsByPath.{path_in}
use Rattle.fir_source_faults.proofs.ModuleDrives.{modules_drive}
use Rattle.fir_source_faults.proofs.ModuleReads.{modules_read}
use Rattle.fir_source_faults.proofs.SinkPlaces.{sink_place}

-- the leaves of a table and of a tree, number by number
pub record SameLeaf (leaves : List LeafDeclared) (arrays : List LeafArray) (l : LeafDeclared) (t : SourceLeaf) : Type 0 where
  pub path : l.path ≡ t.path
  pub role : SameRole leaves arrays l.role t.role

leaf_there : (leaves : List LeafDeclared) (arrays : List LeafArray) (ls : List LeafDeclared) (ts : List SourceLeaf) → SameLeaves leaves arrays ls ts
    → (k : ℕ) (t : SourceLeaf) → slice_get ts k ≡ Some t → (k < length ls) × SameLeaf leaves arrays (leaf_at ls k) t
leaf_there leaves arrays [] [] h k t e = absurd (none-some t e)
leaf_there leaves arrays [] (u ∷ ts) h k t e = absurd h
leaf_there leaves arrays (l ∷ ls) [] h k t e = absurd h
leaf_there leaves arrays (l ∷ ls) (u ∷ ts) h zero t e =
    let same : u ≡ t = ap (λ o. unwrap_or o u) e in
    (omega arith, subst (SameLeaf leaves arrays l) same (record { path = h.0.0; role = h.0.2 }))
leaf_there leaves arrays (l ∷ ls) (u ∷ ts) h (suc k) t e =
    let further = leaf_there leaves arrays ls ts h.1 k t e in
    (omega (arith, further.0), further.1)

leaf_of : (leaves : List LeafDeclared) (arrays : List LeafArray) (ls : List LeafDeclared) (ts : List SourceLeaf) → SameLeaves leaves arrays ls ts
    → (k : ℕ) → k < length ls → (t : SourceLeaf) × (slice_get ts k ≡ Some t)
leaf_of leaves arrays [] ts h k lt = absurd (omega (arith, lt))
leaf_of leaves arrays (l ∷ ls) [] h k lt = absurd h
leaf_of leaves arrays (l ∷ ls) (u ∷ ts) h zero lt = (u, refl)
leaf_of leaves arrays (l ∷ ls) (u ∷ ts) h (suc k) lt = leaf_of leaves arrays ls ts h.1 k (omega (arith, lt))

module _ (c : CircuitTree) (names : HasNames c) (types : type_faults c ≡ []) (s : Scene) (among : In (numbered_modules c) s.own) where
  abbrev vs : List Visit
  vs = module_visits s.own.inside

  alike : SameLeaves (module_leaves s) (leafed_module s).arrays (module_leaves s) (source_leaves s)
  alike = (views_same c s names types among).0

  pub there : (k : ℕ) (t : SourceLeaf) → slice_get (source_leaves s) k ≡ Some t
      → (k < length (module_leaves s)) × SameLeaf (module_leaves s) (leafed_module s).arrays (leaf_at (module_leaves s) k) t
  there = leaf_there (module_leaves s) (leafed_module s).arrays (module_leaves s) (source_leaves s) alike

  pub one_there : (k : ℕ) → k < length (module_leaves s) → (t : SourceLeaf) × (slice_get (source_leaves s) k ≡ Some t)
  one_there = leaf_of (module_leaves s) (leafed_module s).arrays (module_leaves s) (source_leaves s) alike

  module _ (x : ℕ) (t : SourceLeaf) (is : slice_get (source_leaves s) x ≡ Some t) where
    abbrev path : LeafPath
    path = path_in s x

    lt : x < length (module_leaves s)
    lt = (there x t is).0

    path_is : path_in s x ≡ t.path
    path_is = (there x t is).1.path

    sinks : by_number.is_sink (role_at (leafed_module s) x) ≡ is_sink_role t.role
    sinks = same_sink (module_leaves s) (leafed_module s).arrays (leaf_at (module_leaves s) x).role t.role (there x t is).1.role

    drives : DrivesByPath s x
    drives = modules_drive modules_read c s x names types among lt

    first_forth : (outcomes : List Outcome) → numbered.IsFirstUndriven (depth_at (leafed_module s) x) x (leafed_module s).body outcomes
        → IsFirstUndriven s (source_depth s t.path) t.path (module_visits s.own.inside) outcomes
    first_forth outcomes h =
        let one = drives.undriven h.choice h.undriven in
        subst (λ q. IsFirstUndriven s (source_depth s q) q vs outcomes) path_is
        (record {
          choice = one.0;
          undriven = one.1.by_path;
          are = ap told_once (sym one.1.told) ∙ h.are;
          first = λ g none.
              let other = drives.undriven_back g none in
              subst₂ ComesFirst one.1.told other.1.told (h.first other.0 other.1.by_number);
        })

    first_back : (outcomes : List Outcome) → IsFirstUndriven s (source_depth s t.path) t.path (module_visits s.own.inside) outcomes
        → numbered.IsFirstUndriven (depth_at (leafed_module s) x) x (leafed_module s).body outcomes
    first_back outcomes told =
        let h = subst (λ q. IsFirstUndriven s (source_depth s q) q vs outcomes) (sym path_is) told in
        let one = drives.undriven_back h.choice h.undriven in
        record {
          choice = one.0;
          undriven = one.1.by_number;
          are = ap told_once one.1.told ∙ h.are;
          first = λ f none.
              let other = drives.undriven f none in
              subst₂ ComesFirst (sym one.1.told) (sym other.1.told) (h.first other.0 other.1.by_path);
        }

    place_is : by_number.is_sink (role_at (leafed_module s) x) ≡ true → source_place s t.path ≡ (leaf_at (module_leaves s) x).place
    place_is sink = ap (source_place s) (sym path_is) ∙ sink_place s (fine_scene c s names types among) x lt sink

    fault_is : by_number.is_sink (role_at (leafed_module s) x) ≡ true → (outcomes : List Outcome)
        → undriven_fault (leaf_at (module_leaves s) x).place (path_text (leaf_at (module_leaves s) x).path) outcomes
        ≡ undriven_fault (source_place s t.path) (path_text t.path) outcomes
    fault_is sink outcomes = ap₂ (λ p q. undriven_fault p (path_text q) outcomes) (sym (place_is sink)) path_is

    pub shows_forth : (f : Fault) → leafed.ShowsUndriven (leafed_module s) x f → ShowsUndriven s t f
    shows_forth f h = record {
      outcomes = h.outcomes;
      is_sink = sym sinks ∙ h.is_sink;
      first = first_forth h.outcomes h.first;
      is = h.is ∙ fault_is h.is_sink h.outcomes;
    }

    pub shows_back : (f : Fault) → ShowsUndriven s t f → leafed.ShowsUndriven (leafed_module s) x f
    shows_back f h =
        let sink : by_number.is_sink (role_at (leafed_module s) x) ≡ true = sinks ∙ h.is_sink in
        record {
          outcomes = h.outcomes;
          within = lt;
          is_sink = sink;
          first = first_back h.outcomes h.first;
          is = h.is ∙ sym (fault_is sink h.outcomes);
        }

    pub driven_forth : leafed.IsDriven (leafed_module s) x → IsDriven s t
    driven_forth h sink g none =
        let here = subst (λ q. IsUndriven s (source_depth s q) q vs g) (sym path_is) none in
        let one = drives.undriven_back g here in
        h (sinks ∙ sink) one.0 one.1.by_number

    pub driven_back : IsDriven s t → leafed.IsDriven (leafed_module s) x
    driven_back h sink f none =
        let one = drives.undriven f none in
        h (sym sinks ∙ sink) one.0 (subst (λ q. IsUndriven s (source_depth s q) q vs one.0) path_is one.1.by_path)
