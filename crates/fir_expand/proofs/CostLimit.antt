-- A circuit whose cost is found is within the limit, or shows its fault.
use Rattle.std.proofs.Common.{◌≡◌, ℕ, ◌-◌, ◌^◌, ◌<◌, ◌≤◌, refl, ap, arith}
use Rattle.std.specs.Prelude.{min}
use Rattle.fir_ast.specs.declared.fault.FirFault.TheVariants as fault
use Rattle.fir_ast.specs.Circuits.{CircuitTree}
use Rattle.fir_ast.specs.working.CodeFaults.{fault_of}
use Rattle.fir_pass.specs.Groups.{IsClear}
use Rattle.fir_pass.specs.Law.{IsFirst}
use Rattle.fir_meaning.specs.working.NameGroups.{HasNames}
use Rattle.fir_meaning.specs.CostGroup.{cost_group, cost_limit, ShowsCost}
use Rattle.fir_meaning.specs.SourceMeaning.{circuit_meaning}
use Rattle.fir_meaning.proofs.KeptTrees.{first_at}
use Rattle.fir_expand.specs.working.Costing.{IsCostOf, HasCostWithin}
use Rattle.fir_expand.specs.working.CostLaws.{HasOneCost}

-- a number that is within the limit is what it counts
unsaturated : (n found : ℕ) → found ≡ min n (2 ^ 64 - 1) → found ≤ cost_limit → n ≤ cost_limit
unsaturated n found e h = omega (arith, e, h)

over_limit : (n found : ℕ) → found ≡ min n (2 ^ 64 - 1) → cost_limit < found → cost_limit < n
over_limit n found e h = omega (arith, e, h)

module _ (c : CircuitTree) (found : ℕ) (costs : IsCostOf c found) where
  pub within_limit : HasOneCost → HasNames c → found ≤ cost_limit → IsClear (cost_group c)
  within_limit one names h f shows =
      let same : shows.cost ≡ costs.cost = one c shows.cost costs.cost names shows.has costs.has in
      let small : costs.cost ≤ cost_limit = unsaturated costs.cost found costs.is h in
      absurd (omega (arith, same, small, shows.over))

  pub is_within : found ≤ cost_limit → HasCostWithin c
  is_within h = record { cost = costs.cost; has = costs.has; small = unsaturated costs.cost found costs.is h }

  shows_cost : cost_limit < found → ShowsCost c (fault_of (fault.Cost c.named.place found))
  shows_cost h = record {
    cost = costs.cost;
    has = costs.has;
    over = over_limit costs.cost found costs.is h;
    is = ap (λ (n : ℕ). fault_of (fault.Cost c.named.place n)) costs.is;
  }

  pub past_limit : cost_limit < found → IsFirst 8 8 (circuit_meaning c) (fault_of (fault.Cost c.named.place found))
  unfolding circuit_meaning
  past_limit h =
      first_at 8 8 8 (circuit_meaning c) (fault_of (fault.Cost c.named.place found)) refl (omega arith) (omega arith) (shows_cost h) (shows_cost h)
      (λ j low high. absurd (omega (arith, low, high)))
