-- The number of the first leaf of each declaration.
use Rattle.std.proofs.Common.{◌≡◌, ℕ, ◌+◌, ◌≤◌, List, [], ◌∷◌, ◌++◌, map, length, drop, refl, sym, ap, ◌∙◌, arith}
use Rattle.std.specs.Prelude.{Option}
use Rattle.std.proofs.lemmas.List.{append-nil, drop_all}
use Rattle.fir_ast.specs.Types.{DataType}
use Rattle.fir_meaning.specs.CostGroup.{cost_limit}
use Rattle.fir_meaning.specs.Costs.{leaves_where}
use Rattle.fir_meaning.specs.TypedScopes.{TypedScope}
use Rattle.fir_type_table.specs.working.Saturated.{saturated}
use Rattle.fir_types.specs.declared.found.Found.{Found}
use Rattle.fir_types.specs.working.FirstLeaves.{starts_from}
use Rattle.fir_types.specs.working.Seen.{seen}
use Rattle.fir_meaning.specs.working.Targets.{leaves_so_far}
use Rattle.fir_ground.specs.working.Statements.{firsts_from}

-- how many leaves each declaration has, as the code counts them
abbrev counts : List (Option DataType) → List ℕ
counts = map (λ t. saturated (leaves_where t))

abbrev counts_found : List DataType → List (Option Found) → List ℕ
counts_found ts fs = counts (map (seen ts) fs)

-- so far in the declarations
pub record FirstsSoFar (ts : List DataType) (declared : List (Option Found)) (i : ℕ) (firsts : List ℕ) (next : ℕ) : Type 0 where
  pub are : firsts ++ starts_from next (counts_found ts (drop i declared)) ≡ starts_from 0 (counts_found ts declared)

-- the numbers that the code gives to the declarations of a scope, from the next one on
abbrev numbers_from : ℕ → TypedScope → List ℕ
numbers_from next scope = starts_from next (counts (map (λ k. k.data_type) scope))

-- where these are no more than a circuit may cost, none of them stands still
numbers_exact : (scope : TypedScope) (next : ℕ) → next + leaves_so_far scope ≤ cost_limit → numbers_from next scope ≡ firsts_from next scope
numbers_exact [] next small = refl
numbers_exact (k ∷ scope) next small =
    let count = leaves_where k.data_type in
    let behind : saturated (next + saturated count) ≡ next + count = omega (arith, small) in
    let room : next + count + leaves_so_far scope ≤ cost_limit = omega (arith, small) in
    ap (λ n. next ∷ numbers_from n scope) behind ∙ ap (λ ns. next ∷ ns) (numbers_exact scope (next + count) room)

-- behind the last declaration
pub firsts_end : (ts : List DataType) (declared : List (Option Found)) (i : ℕ) (firsts : List ℕ) (next : ℕ) → length declared ≤ i
    → FirstsSoFar ts declared i firsts next → (scope : TypedScope) → map (seen ts) declared ≡ map (λ k. k.data_type) scope → leaves_so_far scope ≤ cost_limit
    → firsts ≡ firsts_from 0 scope
firsts_end ts declared i firsts next past so_far scope same small =
    let none_left : firsts ++ starts_from next (counts_found ts (drop i declared)) ≡ firsts =
    ap (λ fs. firsts ++ starts_from next (counts_found ts fs)) (drop_all i declared past) ∙ append-nil firsts in
    let all : firsts ≡ numbers_from 0 scope = sym none_left ∙ so_far.are ∙ ap (λ ds. starts_from 0 (counts ds)) same in
    let room : 0 + leaves_so_far scope ≤ cost_limit = omega (arith, small) in
    all ∙ numbers_exact scope 0 room
