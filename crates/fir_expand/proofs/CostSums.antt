-- Sums of costs, also where they stand still at 2^64 - 1.
use Rattle.std.proofs.Common.{◌≡◌, ℕ, ◌+◌, ◌<◌, List, [], ◌∷◌, ◌++◌, length, map, take, get_or, refl, sym, ap, ◌∙◌, arith}
use Rattle.std.proofs.lemmas.List.{take_more}
use Rattle.std.proofs.lemmas.Simd.{map-map}
use Rattle.fir_ast.specs.Circuits.{ModuleTree, CircuitTree}
use Rattle.fir_type_table.specs.working.Saturated.{saturated}
use Rattle.fir_meaning.specs.Costs.{sum_of}
use Rattle.fir_expand.specs.working.Costing.{IsCostOf}
use Rattle.fir_expand.specs.working.OwnCosts.{AreCostsByNumber}

pub sum_joined : (xs ys : List ℕ) → sum_of (xs ++ ys) ≡ sum_of xs + sum_of ys
sum_joined [] ys = omega arith
sum_joined (x ∷ xs) ys = omega (arith, sum_joined xs ys)

pub saturated_left : (a b : ℕ) → saturated (saturated a + b) ≡ saturated (a + b)
saturated_left a b = omega arith

pub saturated_right : (a b : ℕ) → saturated (a + saturated b) ≡ saturated (a + b)
saturated_right a b = omega arith

pub saturated_both : (a b : ℕ) → saturated (saturated a + saturated b) ≡ saturated (a + b)
saturated_both a b = saturated_left a (saturated b) ∙ saturated_right a b

-- one number more
pub saturated_last : (ns : List ℕ) (n : ℕ) → saturated (saturated (sum_of ns) + n) ≡ saturated (sum_of (ns ++ n ∷ []))
saturated_last ns n =
    let all : sum_of ns + n ≡ sum_of (ns ++ n ∷ []) = omega (arith, sum_joined ns (n ∷ [])) in
    saturated_left (sum_of ns) n ∙ ap saturated all

pub sum_more : (ns : List ℕ) (k d sum : ℕ) → k < length ns → sum ≡ saturated (sum_of (take k ns))
    → saturated (sum + get_or ns k d) ≡ saturated (sum_of (take (k + 1) ns))
sum_more ns k d sum within is =
    let n = get_or ns k d in
    ap (λ s. saturated (s + n)) is ∙ saturated_last (take k ns) n ∙ ap (λ l. saturated (sum_of l)) (sym (take_more ns k d within))

-- numbers that stand still sum up as they do
pub sum_saturated : (ns : List ℕ) → saturated (sum_of (map saturated ns)) ≡ saturated (sum_of ns)
sum_saturated [] = refl
sum_saturated (n ∷ ns) =
    saturated_left n (sum_of (map saturated ns)) ∙ sym (saturated_right n (sum_of (map saturated ns)))
    ∙ ap (λ s. saturated (n + s)) (sum_saturated ns) ∙ saturated_right n (sum_of ns)

-- the sum of what the modules cost is what the circuit does
sum_of_modules : (f : ModuleTree → ℕ) (ms : List ModuleTree) → saturated (sum_of (map (λ m. saturated (f m)) ms)) ≡ saturated (sum_of (map f ms))
sum_of_modules f ms = ap (λ l. saturated (sum_of l)) (sym (map-map saturated f ms)) ∙ sum_saturated (map f ms)

pub cost_found : (c : CircuitTree) (costs : List ℕ) (sum : ℕ) → AreCostsByNumber c costs → sum ≡ saturated (sum_of costs) → IsCostOf c sum
cost_found c costs sum are is =
    let by_module : ModuleTree → ℕ = λ m. are.costs m.named.name in
    record {
      cost = sum_of (map by_module c.modules);
      has = record { costs = are.costs; are = are.are; sum = refl };
      is = is ∙ ap (λ l. saturated (sum_of l)) are.each ∙ sum_of_modules by_module c.modules;
    }
