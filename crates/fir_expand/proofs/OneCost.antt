-- A circuit has one cost: no walk along instances closes, so each ends, and costs that agree at its end agree all along.
use Rattle.std.proofs.Common.{◌≡◌, ℕ, zero, suc, ◌≤◌, List, [], ◌∷◌, length, map, refl, sym, ap, subst, inl, inr, ◌⊎◌, ⊎_elim, ◌∙◌, arith}
use Rattle.fir_base.specs.Lists.{In, Distinct}
use Rattle.fir_base.proofs.Elements.{get_in}
use Rattle.fir_base.proofs.Members.{in_map, map_same}
use Rattle.fir_ast.specs.Circuits.{ModuleTree, CircuitTree}
use Rattle.fir_meaning.specs.Hierarchy.{Enters, IsWalk}
use Rattle.fir_meaning.specs.working.NameGroups.{HasNames}
use Rattle.fir_meaning.specs.NameGroups.{recursive}
use Rattle.fir_names.proofs.ModulesThere.{instance_number}
use Rattle.fir_meaning.specs.Costs.{ModuleCosts, sum_of, AreCosts}
use Rattle.fir_expand.specs.working.CostLaws.{HasOneCost}
use Rattle.fir_expand.specs.working.OwnCosts.{instances_in_block}
use Rattle.fir_expand.proofs.FoundModules.{module_numbered}
use Rattle.fir_expand.proofs.InstanceCosts.{costs_agree, instance_declared}

abbrev Name : Type 0
Name = List ℕ

-- a list but for one of its members
record Without (xs : List Name) (x : Name) : Type 0 where
  rest : List Name
  shorter : length xs ≡ suc (length rest)
  kept : (y : Name) → In xs y → (x ≡ y) ⊎ In rest y

without : (xs : List Name) (x : Name) → In xs x → Without xs x
without [] x m = absurd m
without (z ∷ xs) x (inl e) = record { rest = xs; shorter = refl; kept = λ y m. ⊎_elim (λ (p : z ≡ y). inl (sym e ∙ p)) (λ (n : In xs y). inr n) m }
without (z ∷ xs) x (inr m) =
    let less = without xs x m in
    record {
      rest = z ∷ less.rest;
      shorter = ap suc less.shorter;
      kept = λ y m.
          ⊎_elim (λ (p : z ≡ y). inr (inl p))
          (λ (n : In xs y). ⊎_elim (λ (p : x ≡ y). inl p) (λ (o : In less.rest y). inr (inr o)) (less.kept y n)) m;
    }

-- back along the list to a name, each has an instance of the one before it
abbrev IsTrail : List ModuleTree → Name → List Name → Type 0
IsTrail modules x [] = Unit {0}
IsTrail modules x (y ∷ rest) = Enters modules y x × IsTrail modules y rest

module _ (c : CircuitTree) (names : HasNames c) where
  none_closes : (first : Name) (between : List Name) → IsWalk c.modules first between first → Distinct (first ∷ between) → ⊥
  none_closes first [] w once =
      let p = w.0.named.place in
      names.hierarchy (recursive p (first ∷ first ∷ [])) (first, [], p, record { by = w.0; enters = w.1; at = refl; walk = w; once = once }, refl)
  none_closes first (next ∷ rest) w once =
      let p = w.0.0.named.place in
      names.hierarchy _ (first, next ∷ rest, p, record { by = w.0.0; enters = w.0.1; at = refl; walk = w; once = once }, refl)

  -- none enters a module that it comes from
  none_returns : (y name : Name) (rest between : List Name) → IsTrail c.modules y rest → IsWalk c.modules y between name → Distinct (y ∷ between) → Distinct (y ∷ rest)
      → ((v : Name) → In rest v → In (y ∷ between) v → ⊥) → In (y ∷ rest) name → ⊥
  none_returns y name rest between t w once apart others (inl e) =
      none_closes name between (subst (λ (z : Name). IsWalk c.modules z between name) e w) (subst (λ (z : Name). Distinct (z ∷ between)) e once)
  none_returns y name [] between t w once apart others (inr m) = m
  none_returns y name (z ∷ rest) between t w once apart others (inr m) =
      none_returns z name rest (y ∷ between) t.1 (t.0, w) (others z (inl refl), once) apart.1
      (λ v i j. ⊎_elim (λ (e : z ≡ v). apart.1.0 (subst (In rest) (sym e) i)) (λ (k : In (y ∷ between) v). others v (inr i) k) j) m

  -- a module with a trail to it, and the modules that are not on the trail
  record Reached (x : Name) (path left : List Name) : Type 0 where
    inside : ModuleTree
    is_module : In c.modules inside
    named : inside.named.name ≡ x
    trail : IsTrail c.modules x path
    once : Distinct (x ∷ path)
    all : (m : ModuleTree) → In c.modules m → In (x ∷ path) m.named.name ⊎ In left m.named.name

  -- from there to the module of an instance
  further : (x : Name) (path left : List Name) (r : Reached x path left) (name : Name) → In (instances_in_block r.inside.body) name
      → (less : List Name) × (length left ≡ suc (length less)) × Reached name (x ∷ path) less
  further x path left r name i =
      let d = instance_declared r.inside name i in
      let number = instance_number c names.names r.inside d.0 name r.is_module d.1 d.2 in
      let found = module_numbered c name number.0 number.1 in
      let enters : Enters c.modules x name = (d.0, record { inside = r.inside; is_module = r.is_module; named = r.named; declares = d.1; is_instance = d.2 }) in
      let fresh : In (x ∷ path) name → ⊥ = λ m.
      none_returns x name path [] r.trail enters ((λ n. n), tt) r.once
      (λ v a b. ⊎_elim (λ (e : x ≡ v). r.once.0 (subst (In path) (sym e) a)) (λ (n : ⊥). n) b) m in
      let is_module = get_in c.modules number.0 found.0 found.1 in
      let waits : In left name = subst (In left) found.2
      (⊎_elim (λ (m : In (x ∷ path) found.0.named.name). absurd (fresh (subst (In (x ∷ path)) found.2 m))) (λ (m : In left found.0.named.name). m)
      (r.all found.0 is_module)) in
      let less = without left name waits in (
        less.rest,
        less.shorter,
        record {
          inside = found.0;
          is_module = is_module;
          named = found.2;
          trail = (enters, r.trail);
          once = (fresh, r.once);
          all = λ m j.
              ⊎_elim (λ (n : In (x ∷ path) m.named.name). inl (inr n))
              (λ (n : In left m.named.name). ⊎_elim (λ (e : name ≡ m.named.name). inl (inl e)) (λ (o : In less.rest m.named.name). inr o) (less.kept m.named.name n))
              (r.all m j);
        },
      )

  module _ (costs others : ModuleCosts) (are : AreCosts c costs) (too : AreCosts c others) where
    same_inside : (x : Name) (path left : List Name) (r : Reached x path left)
        → ((name : Name) → In (instances_in_block r.inside.body) name → costs name ≡ others name) → costs x ≡ others x
    same_inside x path left r same =
        ap costs (sym r.named) ∙ are.each r.inside r.is_module ∙ costs_agree c.modules costs others r.inside same ∙ sym (too.each r.inside r.is_module)
        ∙ ap others r.named

    agree : (fuel : ℕ) (x : Name) (path left : List Name) → length left ≤ fuel → Reached x path left → costs x ≡ others x
    agree zero x path left few r =
        same_inside x path left r (λ name i. let next = further x path left r name i in let less = next.1 in absurd (omega (arith, few, less)))
    agree (suc fuel) x path left few r =
        same_inside x path left r (λ name i.
        let next = further x path left r name i in
        let less = next.1 in
        agree fuel name (x ∷ path) next.0 (omega (arith, few, less)) next.2)

    agree_at : (m : ModuleTree) → In c.modules m → costs m.named.name ≡ others m.named.name
    agree_at m i =
        let each : List Name = map (λ (x : ModuleTree). x.named.name) c.modules in
        agree (length each) m.named.name [] each (omega arith) record {
          inside = m;
          is_module = i;
          named = refl;
          trail = tt;
          once = ((λ n. n), tt);
          all = λ x j. inr (in_map (λ (y : ModuleTree). y.named.name) c.modules x j);
        }

pub one_cost : HasOneCost
one_cost c m n names left right =
    left.sum
    ∙ ap sum_of (map_same (λ (x : ModuleTree). left.costs x.named.name) (λ (x : ModuleTree). right.costs x.named.name) c.modules
    (agree_at c names left.costs right.costs left.are right.are))
    ∙ sym right.sum
