-- Circles of leaves and nodes, each of which hangs on the next, and the last on the first.
use Rattle.std.specs.Prelude.{ℕ, ◌<◌, List, [], ◌∷◌, length}
use Rattle.std.specs.List.{AllByRecursion}
use Rattle.fir_base.specs.Lists.{Distinct}
use Rattle.fir_net.specs.declared.reads.Read.{Read}
use Rattle.fir_net.specs.declared.reads.Read.TheVariants as read
use Rattle.fir_net.specs.declared.net.FlatNet.{FlatNet}
use Rattle.fir_net.specs.working.Dependence.{Reads}

-- from v through the list to w, each hangs on the next
abbrev pub Chain : FlatNet → Read → List Read → Read → Type 0
Chain net v [] w = Reads net v w
Chain net v (x ∷ xs) w = Reads net v x × Chain net x xs w

abbrev pub Turns : FlatNet → List Read → Type 0
Turns net [] = ⊥
Turns net (v ∷ vs) = Chain net v vs v

pub record IsCircle (net : FlatNet) (circle : List Read) : Type 0 where
  pub turns : Turns net circle
  pub once : Distinct circle

-- the leaves among them
abbrev pub leaves_in : List Read → List ℕ
leaves_in [] = []
leaves_in (read.Leaf k ∷ vs) = k ∷ leaves_in vs
leaves_in (read.Node k ∷ vs) = leaves_in vs

abbrev pub AreLeaves : FlatNet → List ℕ → Type 0
AreLeaves net = AllByRecursion (λ k. k < length net.leaves)
