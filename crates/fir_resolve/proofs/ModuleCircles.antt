-- A circle of numbers is a closed walk of modules, by their names.
use Rattle.std.proofs.Common.{◌≡◌, ℕ, ◌+◌, ◌<◌, List, [], ◌∷◌, ◌++◌, length, map, take, get_or, slice_get, Some, None, Option, option_map, unwrap_or, refl, sym, ap, subst, inl, inr, ◌∙◌, arith}
use Rattle.std.specs.List.{AllByRecursion}
use Rattle.std.proofs.lemmas.List.{map-append, take_more}
use Rattle.std.proofs.lemmas.Option.{same_Some, slice_get-map, slice_get-get_or, slice_get_read, slice_get_within}
use Rattle.fir_base.specs.Lists.{In, Distinct}
use Rattle.fir_base.proofs.Each.{all_from}
use Rattle.fir_base.proofs.Elements.{all_there, get_in, number_of as place_of}
use Rattle.fir_base.proofs.Members.{in_map_from}
use Rattle.fir_ast.specs.declared.circuit.Module.{Module}
use Rattle.fir_ast.specs.declared.place.Place.{Place}
use Rattle.fir_ast.specs.working.Views.{module_of}
use Rattle.fir_ast.specs.Statements.{PlacedName}
use Rattle.fir_ast.specs.Circuits.{ModuleTree, CircuitTree}
use Rattle.fir_graph.specs.working.HasTarget.{HasTarget}
use Rattle.fir_graph.specs.working.IsCircle.{Chain, Turns, IsCircle}
use Rattle.fir_pass.specs.Groups.{IsClear}
use Rattle.fir_meaning.specs.Components.{Component, Declaration}
use Rattle.fir_meaning.specs.Components as component
use Rattle.fir_meaning.specs.Hierarchy.{Enters, Instantiates, IsWalk, IsClosedWalk, second}
use Rattle.fir_meaning.specs.Mentions.{module_names}
use Rattle.fir_meaning.specs.NameGroups.{name_group, IsRecursive, recursive}
use Rattle.fir_meaning.specs.Visibility.{declarations}
use Rattle.fir_names.specs.working.ModuleOrder.{find_number}
use Rattle.fir_names.specs.declared.declaration.Component.TheVariants.{Instance}
use Rattle.fir_names.specs.declared.declaration.Declaration.{Declaration as Entry}
use Rattle.fir_names.specs.declared.names.Names.{Names}
use Rattle.fir_names.specs.working.Judged.{TabulatesEach}
use Rattle.fir_names.specs.working.Numbered.{component_of, number_of}
use Rattle.fir_names.specs.working.Ordered.{HasInstance, IsFirstInstance, instances_of, name_at}
use Rattle.fir_names.specs.working.Tabulated.{Tabulates, entry_of}
use Rattle.fir_resolve.proofs.HierarchyTargets.{Has, has_from, number_is}
use Rattle.fir_names.proofs.ModulesThere.{number_named, own_number}
use Rattle.fir_names.proofs.TablesByNumber.{module_there, tables_long, entry_read, declaration_read}

-- the second of a circle, by numbers
abbrev second_number : ℕ → List ℕ → ℕ
second_number v vs = get_or vs 0 v

second_named : (f : ℕ → List ℕ) (v : ℕ) (vs : List ℕ) → second (map f vs) (f v) ≡ f (second_number v vs)
second_named f v [] = refl
second_named f v (w ∷ vs) = refl

-- functions that tell members apart keep them distinct
distinct_map : (f : ℕ → List ℕ) (vs : List ℕ) → ((v w : ℕ) → In vs v → In vs w → f v ≡ f w → v ≡ w) → Distinct vs → Distinct (map f vs)
distinct_map f [] apart d = tt
distinct_map f (v ∷ vs) apart d =
    let first : In (map f vs) (f v) → ⊥ =
    λ i. let w = in_map_from f vs (f v) i in d.0 (subst (In vs) (apart w.0 v (inr w.1) (inl refl) w.2) w.1) in
    (first, distinct_map f vs (λ w u i j. apart w u (inr i) (inr j)) d.1)

-- each of a chain has a target
chain_has : (targets : ℕ → List ℕ) (v : ℕ) (vs : List ℕ) (w : ℕ) → Chain targets v vs w → (x : ℕ) → In (v ∷ vs) x → (y : ℕ) × HasTarget targets x y
chain_has targets v [] w c x (inl e) = subst (λ (z : ℕ). (y : ℕ) × HasTarget targets z y) e (w, c)
chain_has targets v [] w c x (inr i) = absurd i
chain_has targets v (u ∷ vs) w c x (inl e) = subst (λ (z : ℕ). (y : ℕ) × HasTarget targets z y) e (u, c.0)
chain_has targets v (u ∷ vs) w c x (inr i) = chain_has targets u vs w c.1 x i

chain_second : (targets : ℕ → List ℕ) (v : ℕ) (vs : List ℕ) → Chain targets v vs v → HasTarget targets v (second_number v vs)
chain_second targets v [] c = c
chain_second targets v (w ∷ vs) c = c.0

instance_of : (names : List PlacedName) (k : Component) (number : ℕ) → component_of names k ≡ Instance number
    → (name : List ℕ) × (k ≡ component.instance name) × (number_of names name ≡ number)
instance_of names (component.port d t) number h = cc
instance_of names (component.wire t) number h = cc
instance_of names (component.register t) number h = cc
instance_of names (component.node e) number h = cc
instance_of names (component.instance name) number h = (name, refl, cc)
instance_of names (component.memory parts) number h = cc

module _ (c : CircuitTree) (clear : IsClear (name_group c)) where
  name_is : (v : ℕ) (m : ModuleTree) → slice_get c.modules v ≡ Some m → name_at c.modules v ≡ m.named.name
  name_is v m e = ap (λ (o : Option ModuleTree). unwrap_or (option_map (λ x. x.named.name) o) []) e

  named_at : (name : List ℕ) (w : ℕ) → find_number (module_names c) name ≡ Some w → name ≡ name_at c.modules w
  named_at name w h =
      let n = number_named (module_names c) name w h in
      let same = sym (slice_get-map (λ (m : ModuleTree). m.named) c.modules w) ∙ n.1 in
      sym n.2 ∙ sym (ap (λ (o : Option PlacedName). unwrap_or (option_map (λ x. x.name) o) []) same) ∙ through (slice_get c.modules w)
    where
      through : (o : Option ModuleTree) → unwrap_or (option_map (λ (x : PlacedName). x.name) (option_map (λ (m : ModuleTree). m.named) o)) []
          ≡ unwrap_or (option_map (λ (m : ModuleTree). m.named.name) o) []
      through None = refl
      through (Some m) = refl

  instantiates : (v w : ℕ) (h : Has c v w) → Instantiates c.modules (name_at c.modules v) (name_at c.modules w) h.by
  instantiates v w h = record {
    inside = h.inside;
    is_module = get_in c.modules v h.inside h.at;
    named = sym (name_is v h.inside h.at);
    declares = h.declares;
    is_instance = h.is_instance ∙ ap component.instance (named_at h.name w h.number);
  }

  enters : (v w : ℕ) → HasTarget (instances_of c) v w → Enters c.modules (name_at c.modules v) (name_at c.modules w)
  enters v w h = let has = has_from c clear v w h in (has.by, instantiates v w has)

  walk_of : (v : ℕ) (vs : List ℕ) (w : ℕ) → Chain (instances_of c) v vs w
      → IsWalk c.modules (name_at c.modules v) (map (name_at c.modules) vs) (name_at c.modules w)
  walk_of v [] w h = enters v w h
  walk_of v (x ∷ vs) w h = (enters v x h.0, walk_of x vs w h.1)

  -- names tell modules apart
  apart : (v w : ℕ) (m n : ModuleTree) → slice_get c.modules v ≡ Some m → slice_get c.modules w ≡ Some n → name_at c.modules v ≡ name_at c.modules w → v ≡ w
  apart v w m n here there same =
      let names : m.named.name ≡ n.named.name = sym (name_is v m here) ∙ same ∙ name_is w n there in
      same_Some v w (sym (own_number c clear v m here) ∙ ap (find_number (module_names c)) names ∙ own_number c clear w n there)

  -- each number of a circle is a module's
  pub in_circle : (circle : List ℕ) → Turns (instances_of c) circle → (v : ℕ) → In circle v → (m : ModuleTree) × (slice_get c.modules v ≡ Some m)
  in_circle [] t v i = absurd i
  in_circle (x ∷ xs) t v i =
      let y = chain_has (instances_of c) x xs x t v i in
      let has = has_from c clear v y.0 y.1 in
      (has.inside, has.at)

  -- the table of the first has an instance of the second
  pub has_second : (v : ℕ) (vs : List ℕ) → Turns (instances_of c) (v ∷ vs) → (t : Names) (m : ModuleTree) → slice_get c.modules v ≡ Some m
      → Tabulates (module_names c) t (declarations m) → HasInstance t (second_number v vs)
  has_second v vs turns t m is tab =
      let w = second_number v vs in
      let has = has_from c clear v w (chain_second (instances_of c) v vs turns) in
      let same : has.inside ≡ m = same_Some has.inside m (sym has.at ∙ is) in
      let there : In (declarations m) has.by = subst (λ (x : ModuleTree). In (declarations x) has.by) same has.declares in
      let k = place_of (declarations m) has.by there in
      let number : number_of (module_names c) has.name ≡ w = ap (λ (o : Option ℕ). unwrap_or o 0) has.number in
      record {
        at = k.0;
        entry = entry_of (module_names c) k.0 has.by;
        is = entry_read (module_names c) t (declarations m) tab k.0 has.by k.1;
        instance_of = ap (component_of (module_names c)) has.is_instance ∙ ap Instance number;
      }

  -- the walk, with the place of an instance of the second in the first
  pub circle_recurs : (v : ℕ) (vs : List ℕ) → IsCircle (instances_of c) (v ∷ vs) → (t : Names) (m : ModuleTree) → slice_get c.modules v ≡ Some m
      → Tabulates (module_names c) t (declarations m) → (place : Place) → IsFirstInstance t (second_number v vs) place
      → IsRecursive c (recursive place (map (name_at c.modules) (v ∷ vs) ++ name_at c.modules v ∷ []))
  circle_recurs v vs circle t m is tab place first =
      let f = name_at c.modules in
      let w = second_number v vs in
      let has = first.has in
      let d = declaration_read (module_names c) t (declarations m) tab has.at has.entry has.is in
      let by = d.0 in
      let there = get_in (declarations m) has.at by d.1 in
      let of = instance_of (module_names c) by.component w (ap (λ (e : Entry). e.component) (sym d.2) ∙ has.instance_of) in
      let number = number_is c clear m by of.0 (get_in c.modules v m is) there of.1 ∙ ap (λ (k : ℕ). Some k) of.2 in
      let enters_first : Instantiates c.modules (f v) (second (map f vs) (f v)) by = record {
        inside = m;
        is_module = get_in c.modules v m is;
        named = sym (name_is v m is);
        declares = there;
        is_instance = of.1 ∙ ap component.instance (named_at of.0 w number ∙ sym (second_named f v vs));
      } in
      let distinct = distinct_map f (v ∷ vs)
      (λ x y i j e. let a = in_circle (v ∷ vs) circle.turns x i in let b = in_circle (v ∷ vs) circle.turns y j in apart x y a.0 b.0 a.1 b.1 e) circle.once in
      let closed : IsClosedWalk c.modules (f v) (map f vs) place = record {
        by = by;
        enters = enters_first;
        at = first.is ∙ ap (λ (e : Entry). e.place) d.2;
        walk = walk_of v vs v circle.turns;
        once = distinct;
      } in
      (f v, map f vs, place, closed, refl)

-- the same of a circle that is not taken apart
module _ (c : CircuitTree) (clear : IsClear (name_group c)) (tables : List Names) (tab : TabulatesEach (module_names c) tables c.modules) where
  pub first_within : (circle : List ℕ) → IsCircle (instances_of c) circle → get_or circle 0 0 < length tables
  first_within [] circle = absurd circle.turns
  first_within (v ∷ vs) circle =
      let m = in_circle c clear (v ∷ vs) circle.turns v (inl refl) in
      omega (arith, slice_get_within c.modules v m.0 m.1, tables_long (module_names c) tables c.modules tab)

  pub circle_within : (circle : List ℕ) → IsCircle (instances_of c) circle → AllByRecursion (λ k. k < length c.modules) circle
  circle_within circle h =
      all_from (λ (k : ℕ). k < length c.modules) circle
      (λ v i. let m = in_circle c clear circle h.turns v i in slice_get_within c.modules v m.0 m.1)

  pub first_has : (circle : List ℕ) → IsCircle (instances_of c) circle → (t : Names) → slice_get tables (get_or circle 0 0) ≡ Some t
      → HasInstance t (get_or circle 1 (get_or circle 0 0))
  first_has [] circle t at = absurd circle.turns
  first_has (v ∷ vs) circle t at =
      let m = module_there (module_names c) tables c.modules tab v t at in
      has_second c clear v vs circle.turns t m.0 m.1 m.2

  pub circle_shows : (circle : List ℕ) → IsCircle (instances_of c) circle → (t : Names) → slice_get tables (get_or circle 0 0) ≡ Some t → (place : Place)
      → IsFirstInstance t (get_or circle 1 (get_or circle 0 0)) place → (walk : List (List ℕ)) → walk ≡ map (name_at c.modules) circle → (first : List ℕ)
      → first ≡ get_or walk 0 first → IsRecursive c (recursive place (walk ++ first ∷ []))
  circle_shows [] circle t at place h walk is first from = absurd circle.turns
  circle_shows (v ∷ vs) circle t at place h walk is first from =
      let f = name_at c.modules in
      let m = module_there (module_names c) tables c.modules tab v t at in
      let same : first ≡ f v = from ∙ ap (λ (l : List (List ℕ)). get_or l 0 first) is in
      subst (λ (l : List (List ℕ)). IsRecursive c (recursive place l)) (sym (ap (λ l. l ++ first ∷ []) is ∙ ap (λ (n : List ℕ). map f (v ∷ vs) ++ n ∷ []) same))
      (circle_recurs c clear v vs circle t m.0 m.1 m.2 place h)

-- one name more
pub names_more : (modules : List Module) (numbers : List ℕ) (i : ℕ) (m : Module) (names : List (List ℕ)) → names ≡ map (name_at (map module_of modules)) (take i numbers)
    → i < length numbers → AllByRecursion (λ k. k < length modules) numbers → m ≡ get_or modules (get_or numbers i 0) m
    → names ++ m.ident.name ∷ [] ≡ map (name_at (map module_of modules)) (take (i + 1) numbers)
names_more modules numbers i m names is low all at =
    let k = get_or numbers i 0 in
    let within = all_there (λ (j : ℕ). j < length modules) numbers all i k (slice_get-get_or numbers i 0 low) in
    let here = slice_get_read modules (length modules) k m refl within at in
    let name : name_at (map module_of modules) k ≡ m.ident.name =
    ap (λ (o : Option ModuleTree). unwrap_or (option_map (λ x. x.named.name) o) []) (slice_get-map module_of modules k ∙ ap (option_map module_of) here) in
    rw (is, take_more numbers i 0 low, map-append, name) refl
