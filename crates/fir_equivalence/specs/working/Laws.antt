-- Laws about the definitions.
use Rattle.std.specs.Prelude.{ℕ, List}
use Rattle.fir_net.specs.declared.net.FlatNet.{FlatNet}
use Rattle.fir_net.specs.declared.reads.Read.{Read}
use Rattle.fir_net.specs.working.IsNet.{IsNet}
use Rattle.fir_net.specs.working.IsOrder.{IsOrder}
use Rattle.fir_equivalence.specs.working.IsEquivalent.{IsEquivalent}
use Rattle.fir_equivalence.specs.working.Rewrites.{Rewrites}

-- of two nets that have an order the one that is the other written anew may stand in its place
abbrev pub RewrittenIsEquivalent : Type 0
RewrittenIsEquivalent =
    (net other : FlatNet) (number : ℕ → ℕ) (order later : List Read)
    → IsNet net → IsOrder net order → IsOrder other later → Rewrites net other number → IsEquivalent net other

-- what stands in the place of what stands in the place of a net stands in that net's place
abbrev pub EquivalentOfEquivalent : Type 0
EquivalentOfEquivalent = (net other last : FlatNet) → IsEquivalent net other → IsEquivalent other last → IsEquivalent net last
