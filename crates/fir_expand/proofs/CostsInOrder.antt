-- The walk along an order of the modules finds what each costs.
use Rattle.std.proofs.Common.{◌≡◌, ℕ, suc, ◌+◌, ◌<◌, ◌≤◌, List, [], ◌∷◌, length, map, set, slice_get, Option, Some, refl, sym, ap, inl, inr, ◌⊎◌, ◌∙◌, get_or, arith}
use Rattle.std.specs.Prelude.{option_map, unwrap_or}
use Rattle.std.proofs.lemmas.Bool.{cases_eq}
use Rattle.std.proofs.lemmas.List.{length-map, length-set}
use Rattle.std.proofs.lemmas.Option.{get_or_from_slice_get, same_Some, slice_get-get_or, slice_get-map, slice_get_within}
use Rattle.std.proofs.lemmas.Simd.{map-map}
use Rattle.fir_base.specs.Lists.{In}
use Rattle.fir_base.proofs.Elements.{there}
use Rattle.fir_base.proofs.Members.{map_same}
use Rattle.fir_base.proofs.Writes.{two_items, write_other, write_same}
use Rattle.fir_ast.specs.Statements.{PlacedName}
use Rattle.fir_ast.specs.Circuits.{ModuleTree, CircuitTree}
use Rattle.fir_meaning.specs.Components.{Declarations}
use Rattle.fir_meaning.specs.Mentions.{module_names}
use Rattle.fir_meaning.specs.working.NameGroups.{HasNames}
use Rattle.fir_meaning.specs.Visibility.{declarations}
use Rattle.fir_names.specs.declared.names.Names.{Names}
use Rattle.fir_names.specs.working.ModuleOrder.{IsModuleOrder}
use Rattle.fir_names.specs.working.Numbered.{instance_numbers, number_of}
use Rattle.fir_names.specs.working.Tabulated.{Tabulates}
use Rattle.fir_type_table.specs.working.Saturated.{saturated}
use Rattle.fir_meaning.specs.Costs.{sum_of}
use Rattle.fir_expand.specs.working.CostsByNumber.{cost_at}
use Rattle.fir_expand.specs.working.OwnCosts.{AreCostsByNumber, instances_in_block, own_cost, own_costs}
use Rattle.fir_expand.proofs.CostSums.{saturated_both, sum_saturated}
use Rattle.fir_expand.proofs.InstanceCosts.{module_parts, numbers_declared}
use Rattle.fir_expand.proofs.FullCosts.{StandsAt, comes_before, full, full_are, full_is, stands_somewhere}

-- the costs of the modules that stand before the place
pub record CostsSoFar (c : CircuitTree) (order costs : List ℕ) (place : ℕ) : Type 0 where
  pub long : length costs ≡ length c.modules
  pub are : (i : ℕ) (m : ModuleTree) (s : StandsAt c order i m) → i < place → slice_get costs s.number ≡ Some (saturated (full c order m.named.name))

-- a list that has of each element what a function gives is the mapped list
mapped : {A B : Type 0} → (f : A → B) (xs : List A) (ys : List B) → length ys ≡ length xs
    → ((k : ℕ) (x : A) → slice_get xs k ≡ Some x → slice_get ys k ≡ Some (f x)) → ys ≡ map f xs
mapped f [] [] long each = refl
mapped f [] (y ∷ ys) long each = absurd (omega (arith, long))
mapped f (x ∷ xs) [] long each = absurd (omega (arith, long))
mapped f (x ∷ xs) (y ∷ ys) long each =
    let first : y ≡ f x = same_Some y (f x) (each 0 x refl) in
    let rest : length ys ≡ length xs = omega (arith, long) in
    rw (first, mapped f xs ys rest (λ k z e. each (suc k) z e)) refl

pub own_long : (c : CircuitTree) (own : List ℕ) → own ≡ own_costs c → length own ≡ length c.modules
own_long c own are = ap length are ∙ length-map c.modules (λ (m : ModuleTree). saturated (own_cost c.modules m))

module _ (c : CircuitTree) (names : HasNames c) (order : List ℕ) (o : IsModuleOrder c order) where
  module _ (costs : List ℕ) (place : ℕ) (h : CostsSoFar c order costs place) where
    cost_known : (m : ModuleTree) (name : List ℕ) → StandsAt c order place m → In (instances_in_block m.body) name
        → cost_at costs (number_of (module_names c) name) ≡ saturated (full c order name)
    cost_known m name s i =
        let b = comes_before c names order o place m name s i in
        ap (λ (k : Option ℕ). cost_at costs (unwrap_or k 0)) b.number
        ∙ ap (λ (k : Option ℕ). unwrap_or k 0) (h.are b.at b.inside b.stands b.before)
        ∙ ap (λ (n : List ℕ). saturated (full c order n)) b.named

    -- own cost and that of the instances are the module's
    cost_is : (m : ModuleTree) (own instances : ℕ) → StandsAt c order place m → own ≡ saturated (own_cost c.modules m)
        → instances ≡ saturated (sum_of (map (cost_at costs) (instance_numbers (module_names c) (declarations m))))
        → saturated (own + instances) ≡ saturated (full c order m.named.name)
    cost_is m own instances s own_is instances_are =
        let inside = instances_in_block m.body in
        let each : map (cost_at costs) (instance_numbers (module_names c) (declarations m)) ≡ map saturated (map (full c order) inside) =
        ap (map (cost_at costs)) (numbers_declared (module_names c) m) ∙ map-map (cost_at costs) (number_of (module_names c)) inside
        ∙ map_same (λ (n : List ℕ). cost_at costs (number_of (module_names c) n)) (λ (n : List ℕ). saturated (full c order n)) inside (λ n i. cost_known m n s i)
        ∙ sym (map-map saturated (full c order) inside) in
        let sum = sum_of (map (full c order) inside) in
        let all : instances ≡ saturated sum = instances_are ∙ ap (λ (l : List ℕ). saturated (sum_of l)) each ∙ sum_saturated (map (full c order) inside) in
        ap (λ (k : ℕ). saturated (k + instances)) own_is ∙ ap (λ (k : ℕ). saturated (saturated (own_cost c.modules m) + k)) all
        ∙ saturated_both (own_cost c.modules m) sum ∙ ap saturated (sym (full_is c names order o place m s ∙ module_parts c.modules (full c order) m))

    costs_next : (m : ModuleTree) (s : StandsAt c order place m) (new : ℕ) → new ≡ saturated (full c order m.named.name)
        → CostsSoFar c order (set costs s.number new) (place + 1)
    costs_next m s new is = record {
      long = length-set costs s.number new ∙ h.long;
      are = λ i other t low. written i other t low (cases_eq i place);
    }
      where
        written : (i : ℕ) (other : ModuleTree) (t : StandsAt c order i other) → i < place + 1 → (i ≡ place) ⊎ (i ≡ place → ⊥)
            → slice_get (set costs s.number new) t.number ≡ Some (saturated (full c order other.named.name))
        written i other t low (inl e) =
            let number : t.number ≡ s.number = two_items order place t.number s.number (ap (slice_get order) (sym e) ∙ t.at) s.at in
            let same : m ≡ other = two_items c.modules s.number m other s.is (ap (slice_get c.modules) (sym number) ∙ t.is) in
            let within : s.number < length costs = omega (arith, slice_get_within c.modules s.number m s.is, h.long) in
            ap (slice_get (set costs s.number new)) number ∙ write_same costs s.number new within ∙ ap Some is
            ∙ ap (λ (x : ModuleTree). Some (saturated (full c order x.named.name))) same
        written i other t low (inr n) =
            let apart : t.number ≡ s.number → ⊥ = λ e. n (o.once i place s.number (t.at ∙ ap (λ (k : ℕ). Some k) e) s.at) in
            write_other costs s.number new t.number apart ∙ h.are i other t (omega arith)

    pub costs_all : length order ≤ place → AreCostsByNumber c costs
    costs_all past = record {
      costs = full c order;
      are = full_are c names order o;
      each = mapped (λ (m : ModuleTree). saturated (full c order m.named.name)) c.modules costs h.long (λ number m is.
          let at = stands_somewhere c names order o number m is in
          let within = slice_get_within order at.0 number at.1 in
          h.are at.0 m (record { number = number; at = at.1; is = is }) (omega (arith, within, past)));
    }

  -- the module at a place of the order
  pub below : (place : ℕ) → place < length order → get_or order place 0 < length c.modules
  below place within = o.only place (get_or order place 0) (slice_get-get_or order place 0 within)

  pub at_place : (place : ℕ) → place < length order → (m : ModuleTree) × (slice_get c.modules (get_or order place 0) ≡ Some m)
  at_place place within = there c.modules (get_or order place 0) (below place within)

  own_at : (own : List ℕ) (number : ℕ) (m : ModuleTree) → own ≡ own_costs c → slice_get c.modules number ≡ Some m → get_or own number 0 ≡ saturated (own_cost c.modules m)
  own_at own number m are is =
      let cost : ModuleTree → ℕ = λ x. saturated (own_cost c.modules x) in
      get_or_from_slice_get own number (cost m) 0
      (ap (λ (l : List ℕ). slice_get l number) are ∙ slice_get-map cost c.modules number ∙ ap (option_map cost) is)

  -- one module more
  pub module_costed : (t : Names) (own costs : List ℕ) (place instances new : ℕ) → CostsSoFar c order costs place → place < length order → own ≡ own_costs c
      → ((m : ModuleTree) → slice_get c.modules (get_or order place 0) ≡ Some m → Tabulates (module_names c) t (declarations m))
      → ((modules : List PlacedName) (ds : Declarations) → Tabulates modules t ds → instances ≡ saturated (sum_of (map (cost_at costs) (instance_numbers modules ds))))
      → new ≡ saturated (get_or own (get_or order place 0) 0 + instances) → CostsSoFar c order (set costs (get_or order place 0) new) (place + 1)
  module_costed t own costs place instances new h within own_are tabulated instances_are is =
      let number = get_or order place 0 in
      let m = at_place place within in
      let stands : StandsAt c order place m.0 = record { number = number; at = slice_get-get_or order place 0 within; is = m.1 } in
      costs_next costs place h m.0 stands new
      (is ∙ cost_is costs place h m.0 (get_or own number 0) instances stands (own_at own number m.0 own_are m.1)
      (instances_are (module_names c) (declarations m.0) (tabulated m.0 m.1)))
