-- Inits of registers with an asynchronous reset that are no constants (FIRRTL spec, "Registers"): what gives such a register its init reaches an input or a leaf
-- that shows state. It is told by a walk of dependence among leaves, which begins with a leaf that the init reads, and on which no leaf stands twice.
use Rattle.std.specs.Prelude.{◌≡◌, ℕ, List, [], ◌∷◌, map, slice_get, true, Option, Some, None}
use Rattle.fir_base.specs.Lists.{Distinct}
use Rattle.fir_ast.specs.declared.fault.FirFault.{FirFault}
use Rattle.fir_ast.specs.declared.fault.FirFault.TheVariants.{AsyncInit}
use Rattle.fir_net.specs.declared.leaf.Leaf.{Leaf}
use Rattle.fir_net.specs.declared.leaf.Register.{Register}
use Rattle.fir_net.specs.declared.leaf.Reset.{Reset}
use Rattle.fir_net.specs.declared.leaf.ResetKind.TheVariants.{Asynchronous}
use Rattle.fir_net.specs.declared.leaf.Role.TheVariants as role
use Rattle.fir_net.specs.declared.net.FlatNet.{FlatNet}
use Rattle.fir_net.specs.declared.reads.Read.{Read}
use Rattle.fir_net.specs.declared.reads.Read.TheVariants as read
use Rattle.fir_net.specs.working.IsWritable.{HasConstantInits, is_input_or_state}
use Rattle.fir_loop.specs.working.IsLoop.{HangsOn, HangsThrough, path_of}

-- what is read is the leaf, or a node that hangs on it through nodes alone
abbrev pub ReadsLeaf : FlatNet → Read → ℕ → Type 0
ReadsLeaf net (read.Leaf x) y = x ≡ y
ReadsLeaf net (read.Node n) y = (nodes : List ℕ) × HangsThrough net (read.Node n) nodes (read.Leaf y)

-- each hangs on the next, and the last is that leaf
abbrev pub IsWalkTo : FlatNet → ℕ → List ℕ → ℕ → Type 0
IsWalkTo net x [] final = x ≡ final
IsWalkTo net x (y ∷ ys) final = HangsOn net x y × IsWalkTo net y ys final

-- the fault tells such a walk, at the place of the register
pub record ShowsInit (net : FlatNet) (f : FirFault) : Type 0 where
  pub register : ℕ
  pub leaf : Leaf
  pub at : slice_get net.leaves register ≡ Some leaf
  pub own : Register
  pub is_register : leaf.role ≡ role.Register own
  pub reset : Reset
  pub has_reset : own.reset ≡ Some reset
  pub is_async : reset.kind ≡ Asynchronous
  pub first : ℕ
  pub rest : List ℕ
  pub final : ℕ
  pub begins : ReadsLeaf net reset.init first
  pub walk : IsWalkTo net first rest final
  pub end : Leaf
  pub end_at : slice_get net.leaves final ≡ Some end
  pub ends : is_input_or_state end.role ≡ true
  pub distinct : Distinct (first ∷ rest)
  pub is : f ≡ AsyncInit leaf.place (map (path_of net) (first ∷ rest))

-- a fault stands in the net, or all inits are constants
abbrev pub TellsInit : FlatNet → Option FirFault → Type 0
TellsInit net None = HasConstantInits net
TellsInit net (Some f) = ShowsInit net f
