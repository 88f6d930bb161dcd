-- What a reader had, of which one byte more than a limit was asked.
use Rattle.std.proofs.Common.{◌≡◌, ℕ, ◌+◌, ◌-◌, ◌^◌, ◌<◌, ◌≤◌, min, List, [], ◌++◌, length, take, Option, Some, None, IfSome, option_map, ap, ◌∙◌, arith, take_all}
use Rattle.std.proofs.lemmas.List.{length-take}

-- where no more bytes came than the limit, none stayed behind
pub whole_remaining : (limit : ℕ) (o : Option (List ℕ)) (v : List ℕ) → length v < 2 ^ 63 → length v ≤ limit → IfSome (option_map (take (min (limit + 1) (2 ^ 64 - 1))) o) (λ b. v ≡ [] ++ b) → IfSome o (λ b. v ≡ b)
whole_remaining limit None v small within e = tt
whole_remaining limit (Some b) v small within e =
    let n = min (limit + 1) (2 ^ 64 - 1) in
    e ∙ take_all n b (omega (arith, ap length e, length-take n b))
