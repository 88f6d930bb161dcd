-- Where a circuit costs no more than the limit, neither does a module of it.
use Rattle.std.proofs.Common.{ℕ, ◌≤◌, List, [], ◌∷◌, map, inl, inr, ap, arith}
use Rattle.fir_base.specs.Lists.{In}
use Rattle.fir_ast.specs.Circuits.{CircuitTree, ModuleTree}
use Rattle.fir_meaning.specs.CostGroup.{cost_limit}
use Rattle.fir_meaning.specs.Costs.{HasCost, sum_of}
use Rattle.fir_leaf_table.specs.working.ModuleWalks.{AreWithinLimit}
use Rattle.fir_leaf_table.proofs.ModuleCosts.{leaves_counted}

part_of_sum : {A : Type 0} → (f : A → ℕ) (xs : List A) (x : A) → In xs x → f x ≤ sum_of (map f xs)
part_of_sum f [] x m = absurd m
part_of_sum f (y ∷ xs) x (inl e) = let same = ap f e in omega (arith, same)
part_of_sum f (y ∷ xs) x (inr m) = omega (arith, part_of_sum f xs x m)

pub modules_costed : (c : CircuitTree) (cost : ℕ) → HasCost c cost → cost ≤ cost_limit → AreWithinLimit c
modules_costed c cost has all m among =
    let part = part_of_sum (λ (x : ModuleTree). has.costs x.named.name) c.modules m among in
    record {
      leaves = omega (arith, all, part, has.sum, has.are.each m among, leaves_counted c.modules has.costs m);
      costs = has.costs;
      statements = omega (arith, all, part, has.sum, has.are.each m among);
    }
