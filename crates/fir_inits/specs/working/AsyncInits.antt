-- The registers whose resets take effect at once, and their inits.
use Rattle.std.specs.Prelude.{◌≡◌, ℕ, ◌<◌, List, slice_get, Option, Some, None}
use Rattle.std.specs.List.{All, Contains}
use Rattle.fir_net.specs.declared.leaf.Leaf.{Leaf}
use Rattle.fir_net.specs.declared.leaf.Reset.{Reset}
use Rattle.fir_net.specs.declared.leaf.ResetKind.{ResetKind}
use Rattle.fir_net.specs.declared.leaf.ResetKind.TheVariants.{Synchronous, Asynchronous}
use Rattle.fir_net.specs.declared.leaf.Role.{Role}
use Rattle.fir_net.specs.declared.leaf.Role.TheVariants as role
use Rattle.fir_net.specs.declared.net.FlatNet.{FlatNet}
use Rattle.fir_net.specs.declared.reads.Read.{Read}
use Rattle.fir_inits.specs.declared.registers.AsyncRegister.{AsyncRegister}

abbrev pub kind_init : ResetKind → Read → Option Read
kind_init Synchronous init = None
kind_init Asynchronous init = Some init

abbrev pub reset_init : Option Reset → Option Read
reset_init None = None
reset_init (Some r) = kind_init r.kind r.init

-- what a register with an asynchronous reset shows while the reset is 1
abbrev pub async_init : Role → Option Read
async_init (role.Register own) = reset_init own.reset
async_init _ = None

-- the leaf of that number is such a register, with that init
pub record HasInit (net : FlatNet) (k : ℕ) (init : Read) : Type 0 where
  pub leaf : Leaf
  pub at : slice_get net.leaves k ≡ Some leaf
  pub is : async_init leaf.role ≡ Some init

-- all such registers among the first n leaves, and no others
pub record AreAsync (net : FlatNet) (n : ℕ) (registers : List AsyncRegister) : Type 0 where
  pub only : All (λ r. HasInit net r.leaf r.init) registers
  pub all :
      (k : ℕ) (l : Leaf) (init : Read) → k < n → slice_get net.leaves k ≡ Some l → async_init l.role ≡ Some init
      → Contains registers (record { leaf = k; place = l.place; init = init })
