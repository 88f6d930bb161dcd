-- The walk over a module's table adds up what the modules of its instances cost.
use Rattle.std.proofs.Common.{◌≡◌, ℕ, ◌+◌, ◌<◌, ◌≤◌, List, [], ◌∷◌, ◌++◌, length, map, slice_get, Option, Some, None, sym, ap, ◌∙◌, arith}
use Rattle.std.proofs.lemmas.List.{map-append}
use Rattle.fir_ast.specs.Statements.{PlacedName}
use Rattle.fir_meaning.specs.Components.{Declarations}
use Rattle.fir_names.specs.declared.names.Names.{Names}
use Rattle.fir_names.specs.working.Numbered.{instance_numbers, number_read}
use Rattle.fir_names.specs.working.Tabulated.{Tabulates, entry_at, entry_count}
use Rattle.fir_names.proofs.InstanceNumbers.{Numbers, numbers_all, numbers_more, numbers_same}
use Rattle.fir_type_table.specs.working.Saturated.{saturated}
use Rattle.fir_meaning.specs.Costs.{sum_of}
use Rattle.fir_expand.specs.working.CostsByNumber.{cost_at, cost_where}
use Rattle.fir_expand.proofs.CostSums.{saturated_last}

-- so far in the table
pub record InstancesSoFar (t : Names) (costs : List ℕ) (k sum : ℕ) : Type 0 where
  pub numbers : List ℕ
  pub are : (modules : List PlacedName) → Numbers modules t k numbers
  pub is : sum ≡ saturated (sum_of (map (cost_at costs) numbers))

module _ (t : Names) (costs : List ℕ) (k sum : ℕ) (h : InstancesSoFar t costs k sum) where
  pub instances_next : k < entry_count t → (o : Option ℕ) → o ≡ number_read (entry_at t k)
      → InstancesSoFar t costs (k + 1) (saturated (sum + cost_where costs o))
  instances_next within None is = record {
    numbers = h.numbers;
    are = λ modules. numbers_same modules t k h.numbers (h.are modules) within is;
    is = ap (λ s. saturated (s + 0)) h.is ∙ again (sum_of (map (cost_at costs) h.numbers));
  }
    where
      again : (n : ℕ) → saturated (saturated n + 0) ≡ saturated n
      again n = omega arith
  instances_next within (Some number) is = record {
    numbers = h.numbers ++ number ∷ [];
    are = λ modules. numbers_more modules t k h.numbers (h.are modules) within number is;
    is =
        ap (λ s. saturated (s + cost_at costs number)) h.is ∙ saturated_last (map (cost_at costs) h.numbers) (cost_at costs number)
        ∙ ap (λ l. saturated (sum_of l)) (sym (map-append (cost_at costs) h.numbers (number ∷ [])));
  }

  pub instances_all : entry_count t ≤ k → (modules : List PlacedName) (ds : Declarations) → Tabulates modules t ds
      → sum ≡ saturated (sum_of (map (cost_at costs) (instance_numbers modules ds)))
  instances_all past modules ds tab =
      h.is ∙ ap (λ l. saturated (sum_of (map (cost_at costs) l))) (numbers_all modules t k h.numbers (h.are modules) past ds tab)
