-- Texts in which all widths are written, and no leaf is a Reset: the tree of designs below the main module, by a test that computes.
use Rattle.std.proofs.Common.{◌≡◌, ℕ, zero, suc, ◌≤◌, List, [], ◌∷◌, length, map, Bool, true, false, ◌&&◌, not, Option, Some, None, refl, sym, ap, ◌∙◌, subst, arith, inl, inr}
use Rattle.std.proofs.lemmas.Option.{same_Some}
use Rattle.std.specs.Prelude.{is_some, slice_get}
use Rattle.fir_base.specs.Lists.{In}
use Rattle.fir_base.proofs.Elements.{get_in}
use Rattle.fir_ast.specs.Types.{DataType, reset}
use Rattle.fir_ast.specs.Circuits.{CircuitTree, ModuleTree}
use Rattle.fir_ast.specs.Statements.{done}
use Rattle.fir_meaning.specs.ComponentTypes.{typed_scope}
use Rattle.fir_meaning.specs.working.DesignPaths.{no_name}
use Rattle.fir_meaning.specs.Elaborated.{IsSourceOf}
use Rattle.fir_meaning.specs.ModuleScenes.{Scene}
use Rattle.fir_meaning.specs.ResetItems.{End, is_reset}
use Rattle.fir_meaning.specs.ResetJoins.{numbered_module}
use Rattle.fir_meaning.specs.ResetWalks.{IsAsynchronous, IsLeafOf, goes_on, meets}
use Rattle.fir_meaning.specs.Scenes.{AreResets, IsSceneOf}
use Rattle.fir_meaning.specs.SizedDeclarations.{NumberedModule, first_numbers, numbered_modules}
use Rattle.fir_meaning.specs.SourceDesigns.{AreInstances, InstanceOf, Instances, IsSourceDesignOf, SourceDesign, held, instances_of_block, made_of, no_instances, scene_of, scene_where}
use Rattle.fir_meaning.specs.TypeLeaves.{TypeLeaf, type_leaves}
use Rattle.fir_meaning.specs.TypedScopes.{Known, TypedScope}
use Rattle.fir_meaning.specs.Visibility.{declarations}
use Rattle.fir_meaning.specs.WidthExpressions.{IsLeastOf, Rule}
use Rattle.fir_meaning.specs.WidthRules.{rules}
use Rattle.fir_leaf.proofs.SettledTests.{left, right}

abbrev scene_in : NumberedModule → Scene
scene_in m = record { own = m; widths = λ k. 0; is_async = λ path. false }

abbrev scenes_of : CircuitTree → List Scene
scenes_of c = map scene_in (numbered_modules c)

-- the tree below a module, to a depth
abbrev child_of : (Scene → SourceDesign) → Scene → Option Scene → SourceDesign
child_of tree s None = made_of s no_instances
child_of tree s (Some child) = tree child

abbrev instances_with : (Scene → SourceDesign) → List Scene → Scene → List InstanceOf → Instances
instances_with tree scenes s [] = no_instances
instances_with tree scenes s (i ∷ is) = held i.named.name (child_of tree s (scene_of scenes s i)) (instances_with tree scenes s is)

abbrev tree_of : List Scene → ℕ → Scene → SourceDesign
tree_of scenes zero s = made_of s no_instances
tree_of scenes (suc n) s = made_of s (instances_with (tree_of scenes n) scenes s (instances_of_block s.own.inside.body))

abbrev no_scene : Scene
no_scene = scene_in (record { modules = []; inside = record { place = no_name.place; named = no_name; ports = []; body = done }; start = first_numbers [] })

abbrev scene_or_none : Option Scene → Scene
scene_or_none None = no_scene
scene_or_none (Some s) = s

abbrev main_found : CircuitTree → Option Scene
main_found c = scene_where (scenes_of c) (numbered_module 0 c.modules c.named.name)

abbrev pub source_of : CircuitTree → SourceDesign
source_of c = tree_of (scenes_of c) (length c.modules) (scene_or_none (main_found c))

-- whether the depth is enough, and each module is there
abbrev child_is_whole : (Scene → Bool) → Option Scene → Bool
child_is_whole whole None = false
child_is_whole whole (Some child) = whole child

abbrev are_whole : (Scene → Bool) → List Scene → Scene → List InstanceOf → Bool
are_whole whole scenes s [] = true
are_whole whole scenes s (i ∷ is) = child_is_whole whole (scene_of scenes s i) && are_whole whole scenes s is

abbrev is_whole : List Scene → ℕ → Scene → Bool
is_whole scenes zero s = are_whole (λ child. false) scenes s (instances_of_block s.own.inside.body)
is_whole scenes (suc n) s = are_whole (is_whole scenes n) scenes s (instances_of_block s.own.inside.body)

-- whether no leaf of a list, and of what is declared, is a Reset
abbrev none_is_reset : List TypeLeaf → Bool
none_is_reset [] = true
none_is_reset (l ∷ ls) = not (is_reset l.ground_type) && none_is_reset ls

abbrev has_no_reset : Option DataType → Bool
has_no_reset None = true
has_no_reset (Some t) = none_is_reset (type_leaves t)

abbrev have_no_reset : TypedScope → Bool
have_no_reset [] = true
have_no_reset (k ∷ ks) = has_no_reset k.data_type && have_no_reset ks

abbrev are_without : List ModuleTree → List ModuleTree → Bool
are_without all [] = true
are_without all (m ∷ ms) = have_no_reset (typed_scope all (declarations m)) && are_without all ms

abbrev has_no_rule : List Rule → Bool
has_no_rule [] = true
has_no_rule (r ∷ rs) = false

abbrev pub is_written : CircuitTree → Bool
is_written c =
    has_no_rule (rules c) && (are_without c.modules c.modules
    && (is_some (main_found c) && is_whole (scenes_of c) (length c.modules) (scene_or_none (main_found c))))

leaf_is_none : (ls : List TypeLeaf) (l : TypeLeaf) → none_is_reset ls ≡ true → In ls l → l.ground_type ≡ reset → ⊥
leaf_is_none [] l e m is = m
leaf_is_none (h ∷ ls) l e (inl s) is =
    let kind : is_reset h.ground_type ≡ true = ap (λ (k : TypeLeaf). is_reset k.ground_type) s ∙ ap is_reset is in
    let other = left (not (is_reset h.ground_type)) (none_is_reset ls) e in
    absurd (grind (arith, kind, other))
leaf_is_none (h ∷ ls) l e (inr m) is = leaf_is_none ls l (right (not (is_reset h.ground_type)) (none_is_reset ls) e) m is

known_is_without : (ks : TypedScope) (k : Known) → have_no_reset ks ≡ true → In ks k → has_no_reset k.data_type ≡ true
known_is_without [] k e m = absurd m
known_is_without (h ∷ ks) k e (inl s) =
    ap (λ (j : Known). has_no_reset j.data_type) (sym s) ∙ left (has_no_reset h.data_type) (have_no_reset ks) e
known_is_without (h ∷ ks) k e (inr m) = known_is_without ks k (right (has_no_reset h.data_type) (have_no_reset ks) e) m

module_is_without : (all ms : List ModuleTree) (m : ModuleTree) → are_without all ms ≡ true → In ms m → have_no_reset (typed_scope all (declarations m)) ≡ true
module_is_without all [] m e i = absurd i
module_is_without all (h ∷ ms) m e (inl s) =
    ap (λ (n : ModuleTree). have_no_reset (typed_scope all (declarations n))) (sym s)
    ∙ left (have_no_reset (typed_scope all (declarations h))) (are_without all ms) e
module_is_without all (h ∷ ms) m e (inr i) =
    module_is_without all ms m (right (have_no_reset (typed_scope all (declarations h))) (are_without all ms) e) i

module _ (c : CircuitTree) (without : are_without c.modules c.modules ≡ true) where
  no_leaf : (end : End) → IsLeafOf c end → end.ground_type ≡ reset → ⊥
  no_leaf end l is =
      let inside = module_is_without c.modules c.modules l.inside without (get_in c.modules l.number l.inside l.is_module) in
      let has = known_is_without (typed_scope c.modules (declarations l.inside)) l.declared inside l.is_declared in
      leaf_is_none (type_leaves l.data_type) l.leaf (ap has_no_reset (sym l.has_type) ∙ has) l.is_leaf (sym l.ground_type ∙ is)

  none_is : (end : End) → IsLeafOf c end → IsAsynchronous c end → ⊥
  none_is end l (meets _ other is joined ends) = no_leaf end l is
  none_is end l (goes_on _ other is joined further) = no_leaf end l is

  no_resets : (k : ℕ) → AreResets c k (λ path. false)
  no_resets k path = ((λ e. absurd cc), (λ a. absurd (none_is a.end a.leaf a.asynchronous)))

-- no rule asks for a width
no_rules : (rs : List Rule) → has_no_rule rs ≡ true → IsLeastOf rs (λ k. 0)
no_rules [] e = record { meets = record { each = λ r m. absurd m }; least = λ v m k. zero_least (v k) }
  where
    zero_least : (n : ℕ) → 0 ≤ n
    zero_least n = omega arith
no_rules (r ∷ rs) e = absurd cc

scene_got : (ms : List NumberedModule) (k : ℕ) (s : Scene) → slice_get (map scene_in ms) k ≡ Some s
    → (m : NumberedModule) × (slice_get ms k ≡ Some m) × (scene_in m ≡ s)
scene_got [] k s e = absurd cc
scene_got (m ∷ ms) zero s e = (m, refl, same_Some _ _ e)
scene_got (m ∷ ms) (suc k) s e = scene_got ms k s e

own_of : (ms : List NumberedModule) → map (λ (s : Scene). s.own) (map scene_in ms) ≡ ms
own_of [] = refl
own_of (m ∷ ms) = ap (λ rest. m ∷ rest) (own_of ms)

none_found : (o : Option Scene) → child_is_whole (λ child. false) o ≡ true → ⊥
none_found None e = absurd cc
none_found (Some child) e = absurd cc

module _ (scenes : List Scene) where
  none_held : (s : Scene) (is : List InstanceOf) → are_whole (λ child. false) scenes s is ≡ true → AreInstances scenes s is no_instances
  none_held s [] e = tt
  none_held s (i ∷ is) e = none_found (scene_of scenes s i) (left (child_is_whole (λ child. false) (scene_of scenes s i)) _ e)

  module _ (whole : Scene → Bool) (tree : Scene → SourceDesign)
      (trees : (child : Scene) → whole child ≡ true → IsSourceDesignOf scenes child (tree child)) where
    child_held : (s : Scene) (found o : Option Scene) → found ≡ o → child_is_whole whole o ≡ true
        → (child : Scene) × (found ≡ Some child) × IsSourceDesignOf scenes child (child_of tree s o)
    child_held s found None is e = absurd cc
    child_held s found (Some inner) is e = (inner, is, trees inner e)

    each_held : (s : Scene) (is : List InstanceOf) → are_whole whole scenes s is ≡ true → AreInstances scenes s is (instances_with tree scenes s is)
    each_held s [] e = tt
    each_held s (i ∷ is) e = (
      refl,
      child_held s (scene_of scenes s i) (scene_of scenes s i) refl (left (child_is_whole whole (scene_of scenes s i)) _ e),
      each_held s is (right (child_is_whole whole (scene_of scenes s i)) _ e),
    )

  all_whole : (n : ℕ) (s : Scene) → is_whole scenes n s ≡ true → IsSourceDesignOf scenes s (tree_of scenes n s)
  all_whole zero s e = (refl, none_held s (instances_of_block s.own.inside.body) e)
  all_whole (suc n) s e =
      (refl, each_held (is_whole scenes n) (tree_of scenes n) (λ child whole. all_whole n child whole) s (instances_of_block s.own.inside.body) e)

found_is : (o : Option Scene) → is_some o ≡ true → o ≡ Some (scene_or_none o)
found_is None e = absurd cc
found_is (Some s) e = refl

pub written_source : (c : CircuitTree) → is_written c ≡ true → IsSourceOf c (source_of c)
written_source c e =
    let no_rule = left (has_no_rule (rules c)) _ e in
    let behind_rules = right (has_no_rule (rules c)) _ e in
    let without = left (are_without c.modules c.modules) _ behind_rules in
    let behind_resets = right (are_without c.modules c.modules) _ behind_rules in
    let has_main = left (is_some (main_found c)) _ behind_resets in
    let whole = right (is_some (main_found c)) _ behind_resets in
    record {
      scenes = scenes_of c;
      main = scene_or_none (main_found c);
      has = record {
        are = own_of (numbered_modules c);
        each = λ k s got. scene_is c no_rule without k s (scene_got (numbered_modules c) k s got);
        is_main = found_is (main_found c) has_main;
      };
      is = all_whole (scenes_of c) (length c.modules) (scene_or_none (main_found c)) whole;
    }
  where
    scene_is : (c : CircuitTree) → has_no_rule (rules c) ≡ true → are_without c.modules c.modules ≡ true → (k : ℕ) (s : Scene)
        → (m : NumberedModule) × (slice_get (numbered_modules c) k ≡ Some m) × (scene_in m ≡ s) → IsSceneOf c k s
    scene_is c no_rule without k s (m, got, is) =
        subst (IsSceneOf c k) is (record { own = got; widths = no_rules (rules c) no_rule; resets = no_resets c without k })
