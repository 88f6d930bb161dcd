-- What modules cost with those of their instances, where an order has each behind these.
use Rattle.std.proofs.Common.{◌≡◌, ℕ, zero, suc, ◌<◌, List, length, slice_get, Option, Some, None, sym, ap, subst, ◌∙◌, arith}
use Rattle.std.proofs.lemmas.Option.{slice_get_within}
use Rattle.fir_base.specs.Lists.{In}
use Rattle.fir_base.proofs.Elements.{number_of as place_of}
use Rattle.fir_ast.specs.Circuits.{ModuleTree, CircuitTree}
use Rattle.fir_meaning.specs.Mentions.{module_names}
use Rattle.fir_meaning.specs.working.NameGroups.{HasNames}
use Rattle.fir_names.specs.working.ModuleOrder.{find_number, IsModuleOrder}
use Rattle.fir_names.proofs.ModulesThere.{own_number}
use Rattle.fir_meaning.specs.Costs.{ModuleCosts, cost_of_module, AreCosts}
use Rattle.fir_expand.specs.working.OwnCosts.{instances_in_block}
use Rattle.fir_expand.proofs.FoundModules.{module_numbered}
use Rattle.fir_expand.proofs.InstanceCosts.{costs_agree, instance_declared}

-- the first module of a name
abbrev module_by : CircuitTree → Option ℕ → Option ModuleTree
module_by c None = None
module_by c (Some number) = slice_get c.modules number

abbrev module_called : CircuitTree → List ℕ → Option ModuleTree
module_called c name = module_by c (find_number (module_names c) name)

abbrev cost_of_found : CircuitTree → ModuleCosts → Option ModuleTree → ℕ
cost_of_found c costs None = 0
cost_of_found c costs (Some m) = cost_of_module c.modules costs m

-- what modules cost with their instances, with those of these, and so on, so many deep
abbrev costs_to : CircuitTree → ℕ → ModuleCosts
costs_to c zero name = 0
costs_to c (suc depth) name = cost_of_found c (costs_to c depth) (module_called c name)

-- the module at a place of an order
pub record StandsAt (c : CircuitTree) (order : List ℕ) (place : ℕ) (m : ModuleTree) : Type 0 where
  pub number : ℕ
  pub at : slice_get order place ≡ Some number
  pub is : slice_get c.modules number ≡ Some m

-- the module of a name stands before the place
pub record ComesBefore (c : CircuitTree) (order : List ℕ) (place : ℕ) (name : List ℕ) : Type 0 where
  pub at : ℕ
  pub before : at < place
  pub inside : ModuleTree
  pub stands : StandsAt c order at inside
  pub named : inside.named.name ≡ name
  pub number : find_number (module_names c) name ≡ Some stands.number

-- no order is deeper than it is long
abbrev pub full : CircuitTree → List ℕ → ModuleCosts
full c order = costs_to c (length order)

module _ (c : CircuitTree) (names : HasNames c) (order : List ℕ) (o : IsModuleOrder c order) where
  unrolled : (place : ℕ) (m : ModuleTree) (depth : ℕ) → StandsAt c order place m
      → costs_to c (suc depth) m.named.name ≡ cost_of_module c.modules (costs_to c depth) m
  unrolled place m depth s = ap (λ (k : Option ℕ). cost_of_found c (costs_to c depth) (module_by c k)) (own_number c names.names s.number m s.is)
      ∙ ap (cost_of_found c (costs_to c depth)) s.is

  pub comes_before : (place : ℕ) (m : ModuleTree) (name : List ℕ) → StandsAt c order place m → In (instances_in_block m.body) name → ComesBefore c order place name
  comes_before place m name s i =
      let d = instance_declared m name i in
      let w = o.behind place s.number m d.0 name s.at s.is d.1 d.2 in
      let found = module_numbered c name w.0 w.1 in
      record {
        at = w.2.at;
        before = w.2.before;
        inside = found.0;
        stands = record { number = w.0; at = w.2.is; is = found.1 };
        named = found.2;
        number = w.1;
      }

  -- deeper than a module's place, nothing more is found
  stable : (fuel place i j : ℕ) (m : ModuleTree) → place < fuel → place < i → place < j → StandsAt c order place m
      → costs_to c i m.named.name ≡ costs_to c j m.named.name
  stable zero place i j m low left right s = absurd (omega arith)
  stable (suc fuel) place zero j m low left right s = absurd (omega arith)
  stable (suc fuel) place (suc i) zero m low left right s = absurd (omega arith)
  stable (suc fuel) place (suc i) (suc j) m low left right s =
      unrolled place m i s
      ∙ costs_agree c.modules (costs_to c i) (costs_to c j) m (λ name inside.
      let b = comes_before place m name s inside in
      let before : b.at < place = b.before in
      subst (λ (n : List ℕ). costs_to c i n ≡ costs_to c j n) b.named (stable fuel b.at i j b.inside (omega arith) (omega arith) (omega arith) b.stands))
      ∙ sym (unrolled place m j s)

  pub stands_somewhere : (number : ℕ) (m : ModuleTree) → slice_get c.modules number ≡ Some m → (place : ℕ) × (slice_get order place ≡ Some number)
  stands_somewhere number m is = o.all number (slice_get_within c.modules number m is)

  pub full_is : (place : ℕ) (m : ModuleTree) → StandsAt c order place m → full c order m.named.name ≡ cost_of_module c.modules (full c order) m
  full_is place m s =
      let within = slice_get_within order place s.number s.at in
      stable (suc place) place (length order) (suc (length order)) m (omega arith) within (omega (arith, within)) s ∙ unrolled place m (length order) s

  pub full_are : AreCosts c (full c order)
  full_are = record {
    each = λ m i.
        let k = place_of c.modules m i in
        let place = stands_somewhere k.0 m k.1 in
        full_is place.0 m (record { number = k.0; at = place.1; is = k.1 });
  }
