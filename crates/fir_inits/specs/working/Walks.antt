-- The walk that a search from inits has found.
use Rattle.std.specs.Prelude.{◌≡◌, ℕ, List, [], ◌∷◌, ◌++◌, slice_get, true, Some}
use Rattle.fir_base.specs.Lists.{Distinct}
use Rattle.fir_ast.specs.declared.place.Place.{Place}
use Rattle.fir_net.specs.declared.leaf.Leaf.{Leaf}
use Rattle.fir_net.specs.declared.net.FlatNet.{FlatNet}
use Rattle.fir_net.specs.declared.reads.Read.{Read}
use Rattle.fir_net.specs.declared.reads.Read.TheVariants as read
use Rattle.fir_net.specs.working.IsWritable.{is_input_or_state}
use Rattle.fir_loop.specs.working.IsCircle.{AreLeaves}
use Rattle.fir_inits.specs.working.AsyncInits.{HasInit}
use Rattle.fir_inits.specs.working.ShowsInit.{IsWalkTo, ReadsLeaf}

-- with what is a leaf behind them
abbrev pub with_leaf : List ℕ → Read → List ℕ
with_leaf walk (read.Leaf k) = walk ++ k ∷ []
with_leaf walk (read.Node k) = walk

-- from a leaf that the init of a register at that place reads to an input or a leaf that shows state
pub record IsInitWalk (net : FlatNet) (place : Place) (walk : List ℕ) : Type 0 where
  pub register : ℕ
  pub init : Read
  pub has : HasInit net register init
  pub declared : place ≡ has.leaf.place
  pub leaves : AreLeaves net walk
  pub distinct : Distinct walk
  pub first : ℕ
  pub rest : List ℕ
  pub is : walk ≡ first ∷ rest
  pub final : ℕ
  pub begins : ReadsLeaf net init first
  pub goes : IsWalkTo net first rest final
  pub end : Leaf
  pub end_at : slice_get net.leaves final ≡ Some end
  pub ends : is_input_or_state end.role ≡ true
