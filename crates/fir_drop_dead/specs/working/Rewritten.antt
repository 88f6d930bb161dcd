-- A net that is another one written anew, under some numbers of its leaves.
use Rattle.std.specs.Prelude.{ℕ}
use Rattle.fir_net.specs.declared.net.FlatNet.{FlatNet}
use Rattle.fir_equivalence.specs.working.Rewrites.{Rewrites}

pub record IsRewritten (net other : FlatNet) : Type 0 where
  pub number : ℕ → ℕ
  pub rewrites : Rewrites net other number
