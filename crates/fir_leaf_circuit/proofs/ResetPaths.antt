-- Whether a Reset stands at a path of a module, and whether it is asynchronous, by tests.
use Rattle.std.proofs.Common.{◌≡◌, ℕ, List, [], ◌∷◌, Bool, true, false, ◌&&◌, ◌||◌, Option, Some, None, refl, sym, ap, ◌∙◌, subst, inl, inr, ⊎_elim, ◌⊎◌}
use Rattle.std.specs.Prelude.{slice_get, unwrap_or}
use Rattle.std.proofs.lemmas.Option.{same_Some}
use Rattle.fir_base.specs.Lists.{In}
use Rattle.fir_base.proofs.Tests.{both}
use Rattle.fir_ast.specs.Types.{DataType, reset}
use Rattle.fir_ast.specs.Circuits.{CircuitTree, ModuleTree}
use Rattle.fir_meaning.specs.ComponentTypes.{typed_scope}
use Rattle.fir_meaning.specs.LeafPaths.{LeafPath, named}
use Rattle.fir_meaning.specs.working.NameGroups.{HasNames}
use Rattle.fir_meaning.specs.ResetItems.{End, is_reset, leaf_item}
use Rattle.fir_meaning.specs.ResetWalks.{IsLeafOf, IsReset}
use Rattle.fir_meaning.specs.TypeGroup.{type_faults}
use Rattle.fir_meaning.specs.TypeLeaves.{TypeLeaf, type_leaves}
use Rattle.fir_meaning.specs.TypedScopes.{Known, TypedScope}
use Rattle.fir_meaning.specs.Visibility.{declarations}
use Rattle.fir_meaning.specs.FoundTypes.{leaves_of_data}
use Rattle.fir_meaning.specs.SamePaths.{same_path}
use Rattle.fir_leaf.proofs.OneStore.{path_is, path_same}
use Rattle.fir_reset.specs.working.Inferred.{AreInferred, leaf_number}
use Rattle.fir_reset.proofs.NumberedClasses.{has_number}
use Rattle.fir_meaning.specs.Scenes.{AreResets, IsAsynchronousAt}
use Rattle.fir_leaf_circuit.proofs.InferredResets.{answers_number}
use Rattle.fir_leaf_circuit.proofs.ResetEnds.{ResetEnd, only_resets, reset_end}

-- among leaves behind a name
abbrev any_reset : List ℕ → List TypeLeaf → LeafPath → Bool
any_reset x [] path = false
any_reset x (l ∷ ls) path = (is_reset l.ground_type && same_path path (named x ∷ l.path)) || any_reset x ls path

abbrev has_reset : TypedScope → LeafPath → Bool
has_reset [] path = false
has_reset (k ∷ ks) path = any_reset k.name (leaves_of_data k.data_type) path || has_reset ks path

either : (a b : Bool) → (a || b) ≡ true → (a ≡ true) ⊎ (b ≡ true)
either true b h = inl refl
either false b h = inr h

first_holds : (a b : Bool) → a ≡ true → (a || b) ≡ true
first_holds true b h = refl
first_holds false b h = cc

second_holds : (a b : Bool) → b ≡ true → (a || b) ≡ true
second_holds true b h = refl
second_holds false b h = h

reset_is : (t : DataType) → is_reset t ≡ true → t ≡ reset
reset_is reset h = refl
reset_is t h = cc

record ResetLeaf (x : List ℕ) (ls : List TypeLeaf) (path : LeafPath) : Type 0 where
  leaf : TypeLeaf
  among : In ls leaf
  resets : leaf.ground_type ≡ reset
  path_is : path ≡ named x ∷ leaf.path

reset_leaf : (x : List ℕ) (ls : List TypeLeaf) (path : LeafPath) → any_reset x ls path ≡ true → ResetLeaf x ls path
reset_leaf x [] path h = cc
reset_leaf x (l ∷ ls) path h =
    ⊎_elim
    (λ (e : (is_reset l.ground_type && same_path path (named x ∷ l.path)) ≡ true).
    let tests = both (is_reset l.ground_type) (same_path path (named x ∷ l.path)) e in
    record { leaf = l; among = inl refl; resets = reset_is l.ground_type tests.0; path_is = path_is path (named x ∷ l.path) tests.1 })
    (λ (e : any_reset x ls path ≡ true).
    let r = reset_leaf x ls path e in record { leaf = r.leaf; among = inr r.among; resets = r.resets; path_is = r.path_is })
    (either (is_reset l.ground_type && same_path path (named x ∷ l.path)) (any_reset x ls path) h)

leaf_tested : (x : List ℕ) (ls : List TypeLeaf) (l : TypeLeaf) → In ls l → l.ground_type ≡ reset
    → any_reset x ls (named x ∷ l.path) ≡ true
leaf_tested x [] l m h = absurd m
leaf_tested x (y ∷ ls) l (inl e) h =
    first_holds (is_reset y.ground_type && same_path (named x ∷ l.path) (named x ∷ y.path)) (any_reset x ls (named x ∷ l.path))
    (rw (e, h, path_same (named x ∷ l.path)) refl)
leaf_tested x (y ∷ ls) l (inr m) h =
    second_holds (is_reset y.ground_type && same_path (named x ∷ l.path) (named x ∷ y.path)) (any_reset x ls (named x ∷ l.path))
    (leaf_tested x ls l m h)

record KnownReset (ks : TypedScope) (path : LeafPath) : Type 0 where
  known : Known
  among : In ks known
  leaf : ResetLeaf known.name (leaves_of_data known.data_type) path

known_reset : (ks : TypedScope) (path : LeafPath) → has_reset ks path ≡ true → KnownReset ks path
known_reset [] path h = cc
known_reset (k ∷ ks) path h =
    ⊎_elim
    (λ (e : any_reset k.name (leaves_of_data k.data_type) path ≡ true).
    record { known = k; among = inl refl; leaf = reset_leaf k.name (leaves_of_data k.data_type) path e })
    (λ (e : has_reset ks path ≡ true). let r = known_reset ks path e in record { known = r.known; among = inr r.among; leaf = r.leaf })
    (either (any_reset k.name (leaves_of_data k.data_type) path) (has_reset ks path) h)

known_tested : (ks : TypedScope) (k : Known) (path : LeafPath) → In ks k → any_reset k.name (leaves_of_data k.data_type) path ≡ true
    → has_reset ks path ≡ true
known_tested [] k path m h = absurd m
known_tested (x ∷ ks) k path (inl e) h =
    first_holds (any_reset x.name (leaves_of_data x.data_type) path) (has_reset ks path)
    (subst (λ (y : Known). any_reset y.name (leaves_of_data y.data_type) path ≡ true) (sym e) h)
known_tested (x ∷ ks) k path (inr m) h =
    second_holds (any_reset x.name (leaves_of_data x.data_type) path) (has_reset ks path) (known_tested ks k path m h)

-- the leaves of a type that is there
typed_leaf : (o : Option DataType) (l : TypeLeaf) → In (leaves_of_data o) l → (t : DataType) × (o ≡ Some t) × In (type_leaves t) l
typed_leaf None l m = absurd m
typed_leaf (Some t) l m = (t, refl, m)

-- what is found under a number
abbrev marked : List Bool → Option ℕ → Bool
marked found None = false
marked found (Some n) = unwrap_or (slice_get found n) false

marked_number : (found : List Bool) (o : Option ℕ) → marked found o ≡ true → (n : ℕ) × (o ≡ Some n)
marked_number found None h = cc
marked_number found (Some n) h = (n, refl)

module _ (c : CircuitTree) (has : HasNames c) (clear : type_faults c ≡ []) (found : List Bool) (inferred : AreInferred c found)
    (number : ℕ) (inside : ModuleTree) (is_module : slice_get c.modules number ≡ Some inside) where
  abbrev all : TypedScope
  all = typed_scope c.modules (declarations inside)

  abbrev pub is_async_in : LeafPath → Bool
  is_async_in path = has_reset all path && marked found (leaf_number c (leaf_item number path))

  known_end : (path : LeafPath) → KnownReset all path → ResetEnd c number path
  known_end path h =
      let t = typed_leaf h.known.data_type h.leaf.leaf h.leaf.among in
      reset_end c number inside is_module h.known h.among t.0 t.1 h.leaf.leaf t.2 h.leaf.resets path h.leaf.path_is

  async_at : (path : LeafPath) → is_async_in path ≡ true → IsAsynchronousAt c number path
  async_at path h =
      let tests = both (has_reset all path) (marked found (leaf_number c (leaf_item number path))) h in
      let e = known_end path (known_reset all path tests.0) in
      let m = marked_number found (leaf_number c (leaf_item number path)) tests.1 in
      let mark : unwrap_or (slice_get found m.0) false ≡ true = sym (ap (marked found) m.1) ∙ tests.1 in
      record {
        end = e.end;
        leaf = e.leaf;
        item = e.item;
        asynchronous = (answers_number c found inferred e.end m.0 e.leaf e.resets (ap (leaf_number c) e.item ∙ m.1)).0 mark;
      }

  leaf_there : (path : LeafPath) (e : End) (l : IsLeafOf c e) → e.item ≡ leaf_item number path → IsReset e → has_reset all path ≡ true
  leaf_there path e l item resets =
      let same : leaf_item l.number (named l.declared.name ∷ l.leaf.path) ≡ leaf_item number path = sym l.item ∙ item in
      let numbers : l.number ≡ number = cc in
      let paths : named l.declared.name ∷ l.leaf.path ≡ path = cc in
      let modules : l.inside ≡ inside = same_Some l.inside inside (sym l.is_module ∙ ap (slice_get c.modules) numbers ∙ is_module) in
      let among : In all l.declared = subst (λ m. In (typed_scope c.modules (declarations m)) l.declared) modules l.is_declared in
      let inner : In (leaves_of_data l.declared.data_type) l.leaf = subst (λ o. In (leaves_of_data o) l.leaf) (sym l.has_type) l.is_leaf in
      let tested = leaf_tested l.declared.name (leaves_of_data l.declared.data_type) l.leaf inner (sym l.ground_type ∙ resets) in
      subst (λ q. has_reset all q ≡ true) paths (known_tested all l.declared (named l.declared.name ∷ l.leaf.path) among tested)

  at_async : (path : LeafPath) → IsAsynchronousAt c number path → is_async_in path ≡ true
  at_async path a =
      let resets = only_resets c a.end a.asynchronous in
      let n = has_number c has clear a.end a.leaf in
      let mark = (answers_number c found inferred a.end n.0 a.leaf resets n.1).1 a.asynchronous in
      let one = leaf_there path a.end a.leaf a.item resets in
      let two : marked found (leaf_number c (leaf_item number path)) ≡ true =
      ap (λ i. marked found (leaf_number c i)) (sym a.item) ∙ ap (marked found) n.1 ∙ mark in
      rw (one, two) refl

  pub are_resets : AreResets c number is_async_in
  are_resets path = (async_at path, at_async path)
