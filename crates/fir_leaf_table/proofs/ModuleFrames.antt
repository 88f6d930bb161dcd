-- What is found of the module of a number is that of each of its scenes.
use Rattle.std.proofs.Common.{◌≡◌, ℕ, Some, sym, ap, ◌∙◌}
use Rattle.std.specs.Prelude.{slice_get}
use Rattle.std.proofs.lemmas.Option.{same_Some}
use Rattle.fir_base.proofs.Elements.{get_in}
use Rattle.fir_ast.specs.Circuits.{CircuitTree, ModuleTree}
use Rattle.fir_ast.specs.working.Views.{circuit_of}
use Rattle.fir_meaning.specs.Mentions.{module_names}
use Rattle.fir_meaning.specs.working.NameGroups.{HasNames}
use Rattle.fir_meaning.specs.SizedDeclarations.{NumberedModule}
use Rattle.fir_meaning.specs.Visibility.{declarations}
use Rattle.fir_names.specs.declared.names.Names.{Names}
use Rattle.fir_names.specs.working.Tabulated.{Tabulates}
use Rattle.fir_names.proofs.ModulesThere.{instance_number}
use Rattle.fir_types.specs.declared.findings.Findings.{Findings}
use Rattle.fir_types.specs.working.TypedModules.{IsTyped}
use Rattle.fir_types.specs.working.Walked.{IsOfModule}
use Rattle.fir_meaning.specs.ModuleScenes.{Scene}
use Rattle.fir_width.proofs.FoundModules.{numbered_module, found_of}
use Rattle.fir_leaf_table.specs.declared.frame.Frame.{Frame}
use Rattle.fir_leaf_table.specs.working.Frames.{Frames}
use Rattle.fir_leaf_table.specs.working.ModulePlaces.{ArePlacesOf}
use Rattle.fir_meaning.specs.Scenes.{IsSceneOf}

module _ (c : CircuitTree) (found : Findings) (names : HasNames c) (typed : IsTyped c found) (k : ℕ) (m : ModuleTree)
    (at : slice_get c.modules k ≡ Some m) where
  -- a table of its names
  of_module : (t : Names) → Tabulates (module_names c) t (declarations m) → IsOfModule c.modules t (declarations m)
  of_module t tabulated =
      record { tabulated = tabulated; there = λ d name among is. instance_number c names.names m d name (get_in c.modules k m at) among is }

  pub framed : (frame : Frame) → circuit_of frame.fitted.now ≡ c → frame.findings.now ≡ found → frame.number ≡ k
      → Tabulates (module_names c) frame.names.now (declarations m) → frame.declared.now ≡ (found_of c found typed k m at).declared.items
      → frame.first_leaves.now ≡ (found_of c found typed k m at).leaves.items → ArePlacesOf c.modules frame.port_places.now → (s : Scene)
      → IsSceneOf c k s → Frames frame c s
  framed frame circuit findings number tabulated declared leaves places s scene =
      let f = found_of c found typed k m at in
      let here = numbered_module c k m at in
      let same : s.own ≡ here.0 = same_Some s.own here.0 (sym scene.own ∙ here.1) in
      let inside : s.own.inside ≡ m = ap (λ (n : NumberedModule). n.inside) same ∙ here.3 in
      record {
        circuit = circuit;
        named = names;
        typed = rw findings typed;
        scene = rw number scene;
        is_module = rw (number, inside) at;
        modules = ap (λ (n : NumberedModule). n.modules) same ∙ here.2;
        names = rw inside (of_module frame.names.now tabulated);
        types = rw (findings, declared, inside) f.types;
        port_places = places;
        first_leaves = rw (number, leaves) f.first;
      }
