-- Closed walks of dependence among the leaves of a net.
-- A leaf hangs on another through nodes alone, or at once. A closed walk is a list of leaves, each of which hangs on the next; its first and its last leaf are
-- one, and no other stands twice.
use Rattle.std.specs.Prelude.{◌≡◌, ℕ, ◌+◌, ◌-◌, ◌<◌, ◌≤◌, List, [], ◌∷◌, length, map, slice_get, Some, unwrap_or, option_map}
use Rattle.fir_ast.specs.declared.fault.FirFault.{FirFault}
use Rattle.fir_ast.specs.declared.fault.FirFault.TheVariants.{Loop}
use Rattle.fir_net.specs.declared.reads.Read.{Read}
use Rattle.fir_net.specs.declared.reads.Read.TheVariants as read
use Rattle.fir_net.specs.declared.leaf.Leaf.{Leaf}
use Rattle.fir_net.specs.declared.net.FlatNet.{FlatNet}
use Rattle.fir_net.specs.working.Dependence.{Reads}

-- v hangs on w through these nodes, one after the other
abbrev pub HangsThrough : FlatNet → Read → List ℕ → Read → Type 0
HangsThrough net v [] w = Reads net v w
HangsThrough net v (n ∷ ns) w = Reads net v (read.Node n) × HangsThrough net (read.Node n) ns w

pub record HangsOn (net : FlatNet) (a b : ℕ) : Type 0 where
  pub nodes : List ℕ
  pub through : HangsThrough net (read.Leaf a) nodes (read.Leaf b)

pub record IsLoop (net : FlatNet) (walk : List ℕ) : Type 0 where
  pub long : 2 ≤ length walk
  pub steps : (i x y : ℕ) → slice_get walk i ≡ Some x → slice_get walk (i + 1) ≡ Some y → HangsOn net x y
  pub closed : slice_get walk 0 ≡ slice_get walk (length walk - 1)
  pub once : (i j x : ℕ) → i < j → slice_get walk i ≡ Some x → slice_get walk j ≡ Some x → (i ≡ 0) × (j ≡ length walk - 1)

abbrev pub path_of : FlatNet → ℕ → List ℕ
path_of net k = unwrap_or (option_map (λ l. l.path) (slice_get net.leaves k)) []

-- the fault tells the paths of a closed walk, at the place of its first leaf
pub record ShowsLoop (net : FlatNet) (f : FirFault) : Type 0 where
  pub first : ℕ
  pub rest : List ℕ
  pub leaf : Leaf
  pub at : slice_get net.leaves first ≡ Some leaf
  pub loop : IsLoop net (first ∷ rest)
  pub is : f ≡ Loop leaf.place (map (path_of net) (first ∷ rest))
