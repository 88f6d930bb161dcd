-- The walk over what a module declares tells of each leaf whether statements may drive it.
use Rattle.std.proofs.Common.{◌≡◌, ℕ, zero, suc, ◌+◌, ◌<◌, List, [], ◌∷◌, ◌++◌, map, length, get_or, take, Bool, Option, Some, None, refl, sym, ap, ◌∙◌}
use Rattle.std.specs.Prelude.{slice_get}
use Rattle.std.proofs.lemmas.List.{append-nil, take_more}
use Rattle.std.proofs.lemmas.List.Concat.{flat_map-append}
use Rattle.std.proofs.lemmas.Simd.{map-map}
use Rattle.std.proofs.lemmas.Option.{get_or_from_slice_get, none-some, same_Some, slice_get-get_or, slice_get_within}
use Rattle.fir_base.proofs.Elements.{beside}
use Rattle.fir_ast.specs.Circuits.{CircuitTree, ModuleTree}
use Rattle.fir_ast.specs.Statements.{PlacedName}
use Rattle.fir_meaning.specs.Components.{Component, Declaration, Declarations, port, wire, register, node, instance, memory}
use Rattle.fir_meaning.specs.ComponentTypes.{typed_scope}
use Rattle.fir_meaning.specs.Flows.{Flow, flow_of}
use Rattle.fir_meaning.specs.TypedScopes.{Known, TypedScope}
use Rattle.fir_meaning.specs.TypeLeaves.{TypeLeaf}
use Rattle.fir_meaning.specs.Visibility.{declarations}
use Rattle.fir_names.specs.declared.names.Names.{Names}
use Rattle.fir_names.specs.declared.declaration.Declaration.{Declaration as Entry}
use Rattle.fir_names.specs.working.Numbered.{component_of, names_of}
use Rattle.fir_names.specs.working.Tabulated.{entry_at, entry_of}
use Rattle.fir_names.proofs.TablesByNumber.{entry_read}
use Rattle.fir_type_table.specs.working.Tables.{types_of}
use Rattle.fir_types.specs.declared.found.Found.{Found}
use Rattle.fir_types.specs.working.Known.{component_flow}
use Rattle.fir_types.specs.working.Seen.{seen}
use Rattle.fir_types.specs.working.Walked.{IsOfModule}
use Rattle.fir_types.proofs.KnownScopes.{Heads, heads_of}
use Rattle.fir_meaning.specs.ModuleScenes.{Scene}
use Rattle.fir_meaning.specs.FoundTypes.{leaves_of_data}
use Rattle.fir_leaf_table.specs.declared.frame.Frame.{Frame}
use Rattle.fir_leaf_table.specs.declared.type_leaves.TypeLeaf.{TypeLeaf as LeafOfCode}
use Rattle.fir_leaf_table.specs.working.DrivenLeaves.{driven_in, driven_of, may_be_driven}
use Rattle.fir_leaf_table.specs.working.Frames.{Frames}
use Rattle.fir_leaf_table.specs.working.TypedLeaves.{flips_of, flips_seen}

-- the code's component has the flow of the declared one
flow_same : (modules : List PlacedName) (c : Component) → component_flow (component_of modules c) ≡ flow_of c
flow_same modules (port d t) = refl
flow_same modules (wire t) = refl
flow_same modules (register t) = refl
flow_same modules (node e) = refl
flow_same modules (instance name) = refl
flow_same modules (memory parts) = refl

-- the declaration of what is known
declared_there : (ds : Declarations) (ks : TypedScope) → Heads ds ks → (i : ℕ) (k : Known) → slice_get ks i ≡ Some k
    → (d : Declaration) × (slice_get ds i ≡ Some d) × (k.flow ≡ flow_of d.component)
declared_there [] [] h i k e = absurd (none-some k e)
declared_there [] (x ∷ ks) h i k e = absurd h
declared_there (d ∷ ds) [] h i k e = absurd h
declared_there (d ∷ ds) (x ∷ ks) h zero k e = let same : x ≡ k = same_Some x k e in (d, refl, ap (λ (y : Known). y.flow) (sym same) ∙ h.1)
declared_there (d ∷ ds) (x ∷ ks) h (suc i) k e = declared_there ds ks h.2 i k e

-- the leaves of what is declared with this flow
abbrev pub driven_by : Flow → List TypeLeaf → List Bool
driven_by flow = map (λ (l : TypeLeaf). may_be_driven flow l.flip)

-- the flow of a declaration of the table
abbrev pub IsFlowAt : Names → ℕ → Flow → Type 0
IsFlowAt names i flow =
    (modules : List ModuleTree) (whole : Declarations) (d : Declaration) → IsOfModule modules names whole → slice_get whole i ≡ Some d
    → flow ≡ flow_of d.component

-- of so many declarations it is told
pub record DrivenSoFar (frame : Frame) (i : ℕ) (driven : List Bool) : Type 0 where
  pub each : (c : CircuitTree) (s : Scene) → Frames frame c s → driven ≡ driven_in (take i (typed_scope c.modules (declarations s.own.inside)))

module _ (frame : Frame) where
  pub driven_next : (i : ℕ) (default : Option Found) (flow : Flow) (driven after : List Bool) → i < length frame.declared.now
      → DrivenSoFar frame i driven → IsFlowAt frame.names.now i flow
      → after ≡ driven ++ driven_by flow (leaves_of_data (seen (types_of frame.findings.now.table) (get_or frame.declared.now i default)))
      → DrivenSoFar frame (i + 1) after
  driven_next i default flow driven after within so_far flows pushed = record {
    each = λ c s h.
        let found = get_or frame.declared.now i default in
        let ts = types_of frame.findings.now.table in
        let ds = declarations s.own.inside in
        let scope = typed_scope c.modules ds in
        let k =
        beside (λ (k : Known). k.data_type) (seen ts) scope frame.declared.now (sym h.types) i found
        (slice_get-get_or frame.declared.now i default within) in
        let d = declared_there ds scope (heads_of c.modules ds) i k.0 k.1 in
        let flow_is : flow ≡ k.0.flow = flows c.modules ds d.0 h.names d.1 ∙ sym d.2 in
        let one : driven_by flow (leaves_of_data (seen ts found)) ≡ driven_of k.0 =
        ap (λ o. driven_by flow (leaves_of_data o)) (sym k.2) ∙ ap (λ f. driven_by f (leaves_of_data k.0.data_type)) flow_is in
        let more : take (i + 1) scope ≡ take i scope ++ k.0 ∷ [] =
        take_more scope i k.0 (slice_get_within scope i k.0 k.1)
        ∙ ap (λ x. take i scope ++ x ∷ []) (get_or_from_slice_get scope i k.0 k.0 k.1) in
        pushed ∙ ap (λ bs. bs ++ driven_by flow (leaves_of_data (seen ts found))) (so_far.each c s h)
        ∙ ap (λ bs. driven_in (take i scope) ++ bs) (one ∙ sym (append-nil (driven_of k.0)))
        ∙ sym (ap driven_in more ∙ flat_map-append driven_of (take i scope) (k.0 ∷ []));
  }

-- what is read of the table
module _ (names : Names) (modules : List ModuleTree) (whole : Declarations) (of : IsOfModule modules names whole) (i : ℕ) (d : Declaration)
    (at : slice_get whole i ≡ Some d) where
  entry_is : entry_at names i ≡ Some (entry_of (names_of modules) i d)
  entry_is = entry_read (names_of modules) names whole of.tabulated i d at

  pub flow_read : (entry : Entry) → Some entry ≡ entry_at names i
      → component_flow entry.component ≡ flow_of d.component
  flow_read entry found =
      let same : entry ≡ entry_of (names_of modules) i d = same_Some entry (entry_of (names_of modules) i d) (found ∙ entry_is) in
      ap (λ (e : Entry). component_flow e.component) same ∙ flow_same (names_of modules) d.component

  pub none_read : None ≡ entry_at names i → ⊥
  none_read found = none-some (entry_of (names_of modules) i d) (found ∙ entry_is)

-- the leaves of a type, which are as the code has them
pub driven_found : (flow : Flow) (before driven : List Bool) (xs : List LeafOfCode) (ls : List TypeLeaf)
    → driven ≡ before ++ map (λ (x : LeafOfCode). may_be_driven flow x.flip) xs → flips_seen xs ≡ flips_of ls
    → driven ≡ before ++ driven_by flow ls
driven_found flow before driven xs ls each same =
    each
    ∙ ap (λ bs. before ++ bs)
    (sym (map-map (may_be_driven flow) (λ (x : LeafOfCode). x.flip) xs) ∙ ap (map (may_be_driven flow)) same
    ∙ map-map (may_be_driven flow) (λ (l : TypeLeaf). l.flip) ls)
