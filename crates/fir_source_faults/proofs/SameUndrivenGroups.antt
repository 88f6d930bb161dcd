-- A circuit without a fault of names or types shows and tells the same undriven leaves over numbers as by paths.
use Rattle.std.proofs.Common.{◌≡◌, ℕ, zero, suc, ◌<◌, ◌≤◌, List, [], ◌∷◌, length, IsTrue, refl, subst, arith, ⊎_elim}
use Rattle.std.proofs.lemmas.Bool.{cases_lt}
use Rattle.fir_base.specs.Lists.{In}
use Rattle.fir_base.proofs.Elements.{get_in}
use Rattle.fir_ast.specs.Circuits.{CircuitTree}
use Rattle.fir_ast.specs.Faults.{Fault}
use Rattle.fir_meaning.specs.working.LeafModules.{LeafDeclared, is_sink, leaf_at, no_leaf}
use Rattle.fir_meaning.specs.ModuleScenes.{Scene}
use Rattle.fir_meaning.specs.working.LeafedModules.{leafed_module, module_leaves}
use Rattle.fir_meaning.specs.working.NameGroups.{HasNames}
use Rattle.fir_meaning.specs.Scenes.{IsSceneOf}
use Rattle.fir_meaning.specs.SizedDeclarations.{numbered_modules}
use Rattle.fir_meaning.specs.SourceUndrivenGroup.{AreDriven, AreDrivenBefore, IsFaultOf, IsShown, IsTold}
use Rattle.fir_meaning.specs.TypeGroup.{type_faults}
use Rattle.fir_meaning.specs.working.UndrivenGroup as numbered
use Rattle.fir_meaning.specs.working.UndrivenLeaves as leafed
use Rattle.fir_source_faults.specs.working.SameFaults.{SameUndrivenGroups}
use Rattle.fir_source_faults.proofs.SceneUndriven.{driven_back, driven_forth, one_there, shows_back, shows_forth, there}

-- beyond the leaves none is that must be driven
beyond : (ls : List LeafDeclared) (x : ℕ) → length ls ≤ x → leaf_at ls x ≡ no_leaf
beyond [] x h = refl
beyond (l ∷ ls) zero h = absurd (omega (arith, h))
beyond (l ∷ ls) (suc x) h = beyond ls x (omega (arith, h))

module _ (c : CircuitTree) (names : HasNames c) (types : type_faults c ≡ []) where
  own_among : (n : ℕ) (s : Scene) → IsSceneOf c n s → In (numbered_modules c) s.own
  own_among n s is = get_in (numbered_modules c) n s.own is.own

  fault_forth : (n x : ℕ) (f : Fault) → numbered.IsFaultOf c n x f → IsFaultOf c n x f
  fault_forth n x f h =
      let s = h.scene in
      let among = own_among n s h.is_scene in
      let t = one_there c names types s among x h.shows.within in
      record {
        scene = s;
        is_scene = h.is_scene;
        leaf = t.0;
        is_leaf = t.1;
        shows = shows_forth c names types s among x t.0 t.1 f h.shows;
      }

  fault_back : (n x : ℕ) (f : Fault) → IsFaultOf c n x f → numbered.IsFaultOf c n x f
  fault_back n x f h = record {
    scene = h.scene;
    is_scene = h.is_scene;
    shows = shows_back c names types h.scene (own_among n h.scene h.is_scene) x h.leaf h.is_leaf f h.shows;
  }

  module _ (n : ℕ) (s : Scene) (is : IsSceneOf c n s) where
    before_forth : (x : ℕ) → leafed.AreDrivenBefore (leafed_module s) x → AreDrivenBefore s x
    before_forth x h k t less e = driven_forth c names types s (own_among n s is) k t e (h k less)

    before_back : (x : ℕ) → AreDrivenBefore s x → leafed.AreDrivenBefore (leafed_module s) x
    before_back x h k less =
        ⊎_elim
        (λ (lt : k < length (module_leaves s)).
        let t = one_there c names types s (own_among n s is) k lt in
        driven_back c names types s (own_among n s is) k t.0 t.1 (h k t.0 less t.1))
        (λ (ge : length (module_leaves s) ≤ k). λ sink f none.
        let absent = beyond (module_leaves s) k ge in
        let not : IsTrue (is_sink no_leaf.role) = subst (λ (l : LeafDeclared). IsTrue (is_sink l.role)) absent sink in
        cc)
        (cases_lt k (length (module_leaves s)))

    all_forth : leafed.AreDriven (leafed_module s) → AreDriven s
    all_forth h k t e =
        driven_forth c names types s (own_among n s is) k t e (h k (there c names types s (own_among n s is) k t e).0)

    all_back : AreDriven s → leafed.AreDriven (leafed_module s)
    all_back h k lt =
        let t = one_there c names types s (own_among n s is) k lt in
        driven_back c names types s (own_among n s is) k t.0 t.1 (h k t.0 t.1)

  shown_forth : (f : Fault) → numbered.IsShown c f → IsShown c f
  shown_forth f h = record { module_number = h.module_number; number = h.leaf; stands = fault_forth h.module_number h.leaf f h.stands }

  shown_back : (f : Fault) → IsShown c f → numbered.IsShown c f
  shown_back f h = record { module_number = h.module_number; leaf = h.number; stands = fault_back h.module_number h.number f h.stands }

  told_forth : (f : Fault) → numbered.IsTold c f → IsTold c f
  told_forth f h = record {
    module_number = h.module_number;
    number = h.leaf;
    stands = fault_forth h.module_number h.leaf f h.stands;
    before = λ s is. before_forth h.module_number s is h.leaf (h.before s is);
    modules_before = λ other s less is. all_forth other s is (h.modules_before other s less is);
  }

  told_back : (f : Fault) → IsTold c f → numbered.IsTold c f
  told_back f h = record {
    module_number = h.module_number;
    leaf = h.number;
    stands = fault_back h.module_number h.number f h.stands;
    before = λ s is. before_back h.module_number s is h.number (h.before s is);
    modules_before = λ other s less is. all_back other s is (h.modules_before other s less is);
  }

pub same_undriven_groups : SameUndrivenGroups
same_undriven_groups c names types = record {
  shows = λ f. (shown_forth c names types f, shown_back c names types f);
  tells = λ f. (told_forth c names types f, told_back c names types f);
}
