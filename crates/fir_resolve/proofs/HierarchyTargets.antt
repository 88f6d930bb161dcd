-- The code's hierarchy is the circuit's, as a graph.
use Rattle.std.proofs.Common.{◌≡◌, ℕ, zero, suc, ◌<◌, List, [], ◌∷◌, map, length, slice_get, Some, None, Option, unwrap_or, Vec, Global, refl, sym, ap, subst, inl, inr, ◌∙◌, map-id, lt-ltb, arith}
use Rattle.std.proofs.Math.Path.{fun_ext}
use Rattle.std.proofs.lemmas.List.{length-map}
use Rattle.fir_base.specs.Lists.{In}
use Rattle.fir_base.proofs.Elements.{get_in, number_of as place_of}
use Rattle.fir_base.proofs.Members.{in_flat_map, in_flat_map_from, map_same}
use Rattle.fir_ast.specs.Statements.{PlacedName}
use Rattle.fir_ast.specs.Circuits.{ModuleTree, CircuitTree}
use Rattle.fir_graph.specs.working.HasTarget.{HasTarget}
use Rattle.fir_pass.specs.Groups.{IsClear}
use Rattle.fir_meaning.specs.Components.{Component, Declaration}
use Rattle.fir_meaning.specs.Components as component
use Rattle.fir_meaning.specs.Visibility.{declarations}
use Rattle.fir_meaning.specs.Mentions.{module_names}
use Rattle.fir_meaning.specs.NameGroups.{name_group}
use Rattle.fir_names.specs.working.ModuleOrder.{find_number}
use Rattle.fir_resolve.specs.declared.hierarchy.Hierarchy.{Hierarchy}
use Rattle.fir_resolve.specs.working.Entered.{within, items_of, targets_of}
use Rattle.fir_names.specs.working.Numbered.{number_of, instance_number as number_of_instance, instance_numbers}
use Rattle.fir_names.specs.working.Ordered.{instances_each, numbers_at, instances_of}
use Rattle.fir_names.proofs.ModulesThere.{number_below, instance_number}

items_same : (names : List PlacedName) (vs : List (Vec ℕ Global)) (ms : List ModuleTree) → map (λ v. v.items) vs ≡ instances_each names ms → (k : ℕ)
    → items_of (slice_get vs k) ≡ numbers_at names (slice_get ms k)
items_same names [] [] h k = refl
items_same names [] (m ∷ ms) h k = cc
items_same names (v ∷ vs) [] h k = cc
items_same names (v ∷ vs) (m ∷ ms) h zero = cc
items_same names (v ∷ vs) (m ∷ ms) h (suc k) =
    let rest : map (λ (w : Vec ℕ Global). w.items) vs ≡ instances_each names ms = cc in items_same names vs ms rest k

-- a module has an instance of another, both by their numbers
pub record Has (c : CircuitTree) (v w : ℕ) : Type 0 where
  pub inside : ModuleTree
  pub at : slice_get c.modules v ≡ Some inside
  pub by : Declaration
  pub declares : In (declarations inside) by
  pub name : List ℕ
  pub is_instance : by.component ≡ component.instance name
  pub number : find_number (module_names c) name ≡ Some w

of_component : (names : List PlacedName) (k : Component) (w : ℕ) → In (number_of_instance names k) w → (name : List ℕ) × (k ≡ component.instance name) × (number_of names name ≡ w)
of_component names (component.port d t) w m = absurd m
of_component names (component.wire t) w m = absurd m
of_component names (component.register t) w m = absurd m
of_component names (component.node e) w m = absurd m
of_component names (component.instance name) w (inl e) = (name, refl, e)
of_component names (component.instance name) w (inr m) = absurd m
of_component names (component.memory parts) w m = absurd m

below : (n k : ℕ) → k < n → within n k ≡ k
below n k h = rw (lt-ltb k n h) refl

module _ (c : CircuitTree) (clear : IsClear (name_group c)) where
  pub number_is : (m : ModuleTree) (d : Declaration) (name : List ℕ) → In c.modules m → In (declarations m) d → d.component ≡ component.instance name
      → find_number (module_names c) name ≡ Some (number_of (module_names c) name)
  number_is m d name i j is =
      let there = instance_number c clear m d name i j is in
      there.1 ∙ ap (λ (k : ℕ). Some k) (ap (λ (o : Option ℕ). unwrap_or o 0) (sym there.1))

  at_module : (v w : ℕ) (found : Option ModuleTree) → slice_get c.modules v ≡ found → In (numbers_at (module_names c) found) w → Has c v w
  at_module v w None e i = absurd i
  at_module v w (Some m) e i =
      let names = module_names c in
      let d = in_flat_map_from (λ (x : Declaration). number_of_instance names x.component) (declarations m) w i in
      let of = of_component names d.0.component w d.2 in
      record {
        inside = m;
        at = e;
        by = d.0;
        declares = d.1;
        name = of.0;
        is_instance = of.1;
        number = number_is m d.0 of.0 (get_in c.modules v m e) d.1 of.1 ∙ ap (λ (k : ℕ). Some k) of.2;
      }

  -- a target is a module of which there is an instance
  pub has_from : (v w : ℕ) → HasTarget (instances_of c) v w → Has c v w
  has_from v w h = at_module v w (slice_get c.modules v) refl (get_in (instances_of c v) h.place w h.is)

  -- and the other way round
  pub target_from : (v w : ℕ) → Has c v w → HasTarget (instances_of c) v w
  target_from v w h =
      let names = module_names c in
      let number : number_of names h.name ≡ w = ap (λ (o : Option ℕ). unwrap_or o 0) h.number in
      let one : In (number_of_instance names h.by.component) w = subst (λ (k : Component). In (number_of_instance names k) w) (sym h.is_instance) (inl number) in
      let all : In (instance_numbers names (declarations h.inside)) w =
      in_flat_map (λ (x : Declaration). number_of_instance names x.component) (declarations h.inside) h.by w h.declares one in
      let here : In (instances_of c v) w = subst (λ (o : Option ModuleTree). In (numbers_at names o) w) (sym h.at) all in
      let place = place_of (instances_of c v) w here in
      record { place = place.0; is = place.1 }

  module _ (h : Hierarchy) (same : map (λ v. v.items) h.instances.items ≡ instances_each (module_names c) c.modules) where
    pub size_same : length h.instances.items ≡ length c.modules
    size_same =
        sym (length-map h.instances.items (λ (v : Vec ℕ Global). v.items)) ∙ ap length same
        ∙ length-map c.modules (λ (m : ModuleTree). instance_numbers (module_names c) (declarations m))

    target_below : (v w : ℕ) → In (instances_of c v) w → w < length h.instances.items
    target_below v w i =
        let has = at_module v w (slice_get c.modules v) refl i in
        omega (arith, number_below c has.name w has.number, size_same)

    pub targets_same : targets_of h ≡ instances_of c
    targets_same = fun_ext (λ v.
        ap (map (within (length h.instances.items))) (items_same (module_names c) h.instances.items c.modules same v)
        ∙ map_same (within (length h.instances.items)) (λ (k : ℕ). k) (instances_of c v) (λ w i. below (length h.instances.items) w (target_below v w i))
        ∙ map-id (instances_of c v))
