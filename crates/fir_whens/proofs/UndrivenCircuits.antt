-- What is found of the modules of a circuit, one behind the other: none has a leaf that is left undriven, or the fault of the first that has one.
use Rattle.std.proofs.Common.{◌≡◌, ℕ, zero, suc, ◌+◌, ◌<◌, ◌≤◌, List, [], ◌∷◌, length, Some, ap, subst, ◌∙◌, ◌⊎◌, inl, inr, arith}
use Rattle.std.specs.Prelude.{slice_get}
use Rattle.std.proofs.lemmas.Bool.{cases_lt}
use Rattle.std.proofs.lemmas.Option.{none-some}
use Rattle.fir_ast.specs.declared.fault.FirFault.{FirFault}
use Rattle.fir_ast.specs.Circuits.{CircuitTree, ModuleTree}
use Rattle.fir_ast.specs.Faults.{Fault}
use Rattle.fir_ast.specs.working.CodeFaults.{code_of, fault_of}
use Rattle.fir_pass.specs.Groups.{IsClear, group_of}
use Rattle.fir_pass.specs.working.Groups.{SameGroup}
use Rattle.fir_pass.specs.Law.{IsFirst}
use Rattle.fir_meaning.specs.ModuleScenes.{Scene}
use Rattle.fir_meaning.specs.working.LeafedModules.{leafed_module}
use Rattle.fir_meaning.specs.Scenes.{IsSceneOf}
use Rattle.fir_meaning.specs.SizedDeclarations.{NumberedModule, Numbering, behind_module, first_numbers, modules_from}
use Rattle.fir_meaning.specs.SourceMeaning.{circuit_meaning}
use Rattle.fir_meaning.specs.SourceUndrivenGroup.{undriven_group}
use Rattle.fir_meaning.specs.working.UndrivenGroup as numbered
use Rattle.fir_meaning.specs.working.UndrivenLeaves.{AreDriven}
use Rattle.fir_meaning.proofs.KeptTrees.{first_at}
use Rattle.fir_whens.specs.working.ModuleFaults.{AreAllDriven, IsFirstOf}

-- a number of a numbered module is that of a module
numbered_within : (modules : List ModuleTree) (numbers : Numbering) (ms : List ModuleTree) (k : ℕ) (m : NumberedModule)
    → slice_get (modules_from modules numbers ms) k ≡ Some m → k < length ms
numbered_within modules numbers [] k m e = absurd (none-some m e)
numbered_within modules numbers (x ∷ xs) zero m e = omega arith
numbered_within modules numbers (x ∷ xs) (suc k) m e = let h = numbered_within modules (behind_module modules numbers x) xs k m e in omega (arith, h)

module _ (c : CircuitTree) where
  pub scene_within : (k : ℕ) (s : Scene) → IsSceneOf c k s → k < length c.modules
  scene_within k s scene = numbered_within c.modules (first_numbers c.modules) c.modules k s.own scene.own

  -- no module of a lower number has such a leaf
  abbrev pub ModulesDriven : ℕ → Type 0
  ModulesDriven n = (other : ℕ) (s : Scene) → other < n → IsSceneOf c other s → AreDriven (leafed_module s)

  pub one_more : (n : ℕ) → ModulesDriven n → ((s : Scene) → IsSceneOf c n s → AreDriven (leafed_module s)) → ModulesDriven (n + 1)
  one_more n before here other s below scene = by (cases_lt other n)
    where
      by : (other < n) ⊎ (n ≤ other) → AreDriven (leafed_module s)
      by (inl lower) = before other s lower scene
      by (inr high) = let e : other ≡ n = omega (arith, below, high) in here s (subst (λ k. IsSceneOf c k s) e scene)

  pub all_clear : SameGroup (numbered.undriven_group c) (undriven_group c) → ModulesDriven (length c.modules) → IsClear (undriven_group c)
  all_clear same driven f by_path =
      let shown = (same.shows f).1 by_path in
      driven shown.module_number shown.stands.scene (scene_within shown.module_number shown.stands.scene shown.stands.is_scene) shown.stands.is_scene
      shown.leaf shown.stands.shows.within shown.stands.shows.is_sink shown.stands.shows.first.choice shown.stands.shows.first.undriven

  pub all_driven : ModulesDriven (length c.modules) → AreAllDriven c
  all_driven driven k s scene = driven k s (scene_within k s scene) scene

  pub first_fault : SameGroup (numbered.undriven_group c) (undriven_group c) → (k : ℕ) (f : FirFault) → ModulesDriven k → IsFirstOf c k f
      → IsFirst 9 9 (circuit_meaning c) (fault_of f)
  unfolding circuit_meaning
  first_fault same k f driven found =
      let group : group_of (code_of f) ≡ 9 = ap (λ (g : Fault). group_of g.code) found.stands.shows.is in
      let told : numbered.IsTold c (fault_of f) = record {
        module_number = k;
        leaf = found.leaf;
        stands = found.stands;
        before = found.before;
        modules_before = driven;
      } in
      let shown : numbered.IsShown c (fault_of f) = record { module_number = k; leaf = found.leaf; stands = found.stands } in
      first_at 9 9 9 (circuit_meaning c) (fault_of f) group (omega arith) (omega arith) ((same.tells (fault_of f)).0 told)
      ((same.shows (fault_of f)).0 shown) (λ j low high. absurd (omega (arith, low, high)))
