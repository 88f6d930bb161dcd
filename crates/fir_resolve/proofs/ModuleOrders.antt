-- An order of the hierarchy is one of the modules, and then no walk along instances closes.
use Rattle.std.proofs.Common.{◌≡◌, ℕ, ◌<◌, List, [], ◌∷◌, length, map, slice_get, Some, sym, ap, subst, ◌∙◌, arith, lt_trans}
use Rattle.std.proofs.lemmas.Option.{same_Some, slice_get_within}
use Rattle.fir_base.proofs.Elements.{get_in, number_of as place_of}
use Rattle.fir_ast.specs.Circuits.{CircuitTree}
use Rattle.fir_graph.specs.working.IsOrder.{IsOrder}
use Rattle.fir_graph.specs.working.IsCircle.{IsCircle}
use Rattle.fir_pass.specs.Groups.{IsClear}
use Rattle.fir_meaning.specs.Components.{Declaration}
use Rattle.fir_meaning.specs.Hierarchy.{Instantiates, IsWalk}
use Rattle.fir_meaning.specs.Mentions.{module_names}
use Rattle.fir_meaning.specs.NameGroups.{name_group, hierarchy_group}
use Rattle.fir_names.specs.working.ModuleOrder.{find_number, IsModuleOrder}
use Rattle.fir_resolve.specs.declared.hierarchy.Hierarchy.{Hierarchy}
use Rattle.fir_resolve.specs.working.Entered.{targets_of}
use Rattle.fir_names.specs.working.Ordered.{instances_each, instances_of}
use Rattle.fir_names.proofs.ModulesThere.{own_number, instance_number}
use Rattle.fir_resolve.proofs.HierarchyTargets.{Has, target_from, size_same, targets_same}

module _ (c : CircuitTree) (clear : IsClear (name_group c)) (order : List ℕ) where
  pub order_is : IsOrder (length c.modules) (instances_of c) order → IsModuleOrder c order
  order_is o = record {
    only = o.only;
    once = o.once;
    all = o.all;
    behind = λ i v m d name at is declares instance_of.
        let w = instance_number c clear m d name (get_in c.modules v m is) declares instance_of in
        let has : Has c v w.0 = record { inside = m; at = is; by = d; declares = declares; name = name; is_instance = instance_of; number = w.1 } in
        let before = o.after i v w.0 at (target_from c clear v w.0 has) in
        (w.0, w.1, record { at = before.0; before = before.1; is = before.2 });
  }

  module _ (o : IsModuleOrder c order) where
    -- the module of the name stands there in the order
    record Stands (name : List ℕ) (place : ℕ) : Type 0 where
      number : ℕ
      named : find_number (module_names c) name ≡ Some number
      at : slice_get order place ≡ Some number

    same_place : (name : List ℕ) (i j : ℕ) → Stands name i → Stands name j → i ≡ j
    same_place name i j s t =
        let same : s.number ≡ t.number = same_Some s.number t.number (sym s.named ∙ t.named) in
        o.once i j t.number (s.at ∙ ap (λ (k : ℕ). Some k) same) t.at

    -- what has an instance has a place, and that of the instance is before it
    stands : (name other : List ℕ) (by : Declaration) → Instantiates c.modules name other by → (i : ℕ) × Stands name i
    stands name other by h =
        let k = place_of c.modules h.inside h.is_module in
        let place = o.all k.0 (let within : k.0 < length c.modules = slice_get_within c.modules k.0 h.inside k.1 in within) in (
          place.0,
          record {
            number = k.0;
            named = ap (find_number (module_names c)) (sym h.named) ∙ own_number c clear k.0 h.inside k.1;
            at = place.1;
          },
        )

    falls : (name other : List ℕ) (by : Declaration) (i : ℕ) → Instantiates c.modules name other by → Stands name i → (j : ℕ) × (j < i) × Stands other j
    falls name other by i h s =
        let k = place_of c.modules h.inside h.is_module in
        let number : k.0 ≡ s.number = same_Some k.0 s.number
        (sym (ap (find_number (module_names c)) (sym h.named) ∙ own_number c clear k.0 h.inside k.1) ∙ s.named) in
        let at : slice_get c.modules s.number ≡ Some h.inside = ap (slice_get c.modules) (sym number) ∙ k.1 in
        let w = o.behind i s.number h.inside by other s.at at h.declares h.is_instance in
        (w.2.at, w.2.before, record { number = w.0; named = w.1; at = w.2.is })

    walk_falls : (name : List ℕ) (between : List (List ℕ)) (last : List ℕ) (i : ℕ) → IsWalk c.modules name between last → Stands name i
        → (j : ℕ) × (j < i) × Stands last j
    walk_falls name [] last i w s = falls name last w.0 i w.1 s
    walk_falls name (next ∷ rest) last i w s =
        let one = falls name next w.0.0 i w.0.1 s in
        let more = walk_falls next rest last one.0 w.1 one.2 in
        (more.0, lt_trans more.1 one.1, more.2)

    pub none_closes : IsClear (hierarchy_group c)
    none_closes f r =
        let closed = r.3 in
        let s = stands r.0 _ closed.by closed.enters in
        let end = walk_falls r.0 r.1 r.0 s.0 closed.walk s.1 in
        let same = same_place r.0 end.0 s.0 end.2 s.1 in
        omega (arith, end.1, same)

-- what the search in the code's hierarchy finds
module _ (c : CircuitTree) (clear : IsClear (name_group c)) (h : Hierarchy)
    (same : map (λ v. v.items) h.instances.items ≡ instances_each (module_names c) c.modules) where
  pub ordered : (order : List ℕ) → IsOrder (length h.instances.items) (targets_of h) order → IsModuleOrder c order × IsClear (hierarchy_group c)
  ordered order o =
      let sized = subst (λ (n : ℕ). IsOrder n (targets_of h) order) (size_same c clear h same) o in
      let is = order_is c clear order (subst (λ (t : ℕ → List ℕ). IsOrder (length c.modules) t order) (targets_same c clear h same) sized) in
      (is, none_closes c clear order is)

  pub circled : (circle : List ℕ) → IsCircle (targets_of h) circle → IsCircle (instances_of c) circle
  circled circle turns = subst (λ (t : ℕ → List ℕ). IsCircle t circle) (targets_same c clear h same) turns
