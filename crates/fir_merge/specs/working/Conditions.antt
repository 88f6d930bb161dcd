-- What bounds of conditions stand for: that an index is a number, and that an earlier condition is met.
use Rattle.std.specs.Prelude.{ℕ, List, Option, Some, None}
use Rattle.fir_meaning.specs.working.TermValues.{Holds}
use Rattle.fir_net.specs.declared.node.Node.{Node}
use Rattle.fir_connect.specs.working.Lowered.{both, is_number, unsigned_value}
use Rattle.fir_connect.specs.working.NetTerms.{NetTerm}
use Rattle.fir_merge.specs.declared.bound.Bound.{Bound}
use Rattle.fir_merge.specs.working.Bounds.{StandsFor}

abbrev pub NumberStands : List Node → ℕ → Bound → Type 0
NumberStands new n r = (holds : Holds) → StandsFor holds new r (unsigned_value n)

-- both are there, and one stands for the other, or neither is
abbrev pub EarlierStands : Holds → List Node → Option Bound → Option NetTerm → Type 0
EarlierStands holds net None None = Unit {0}
EarlierStands holds net (Some b) (Some t) = StandsFor holds net b t
EarlierStands holds net _ _ = ⊥

abbrev pub ConditionStands : List Node → List Node → Option Bound → Bound → ℕ → Bound → Type 0
ConditionStands old new earlier index n r =
    (holds : Holds) (e : Option NetTerm) (i : NetTerm) → EarlierStands holds old earlier e → StandsFor holds old index i
    → StandsFor holds new r (both e (is_number i n))
