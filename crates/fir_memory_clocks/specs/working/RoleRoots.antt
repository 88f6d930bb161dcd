-- The root of a leaf by the roles that the net of its module gives: a leaf is given another as it is, and so on until a leaf whose value comes from outside of the
-- module (FIRRTL spec, "Clock Type", "Connects", "Nodes").
use Rattle.std.specs.Prelude.{◌≡◌, ◌↔◌, ℕ, List, length, Option, Some, None, slice_get}
use Rattle.fir_net.specs.declared.reads.Read.{Read}
use Rattle.fir_net.specs.declared.reads.Read.TheVariants as read
use Rattle.fir_whens.specs.declared.net_role.NetRole.{NetRole}
use Rattle.fir_whens.specs.declared.net_role.NetRole.TheVariants as code

abbrev pub leaf_read : Read → Option ℕ
leaf_read (read.Leaf x) = Some x
leaf_read (read.Node k) = None

-- the leaf that is given as it is
abbrev pub given_leaf : NetRole → Option ℕ
given_leaf (code.Driven b) = leaf_read b.read
given_leaf (code.Computed b) = leaf_read b.read
given_leaf _ = None

abbrev pub leaf_given : Option NetRole → Option ℕ
leaf_given None = None
leaf_given (Some r) = given_leaf r

-- to the leaf of a number
abbrev pub next_at : List NetRole → ℕ → Option ℕ
next_at roles x = leaf_given (slice_get roles x)

-- it comes from outside, or is given a leaf that has this root
pub data HasRoot (roles : List NetRole) : ℕ → ℕ → Type 0 where
  outside : (x : ℕ) → slice_get roles x ≡ Some code.Source → HasRoot roles x x
  given : (x y root : ℕ) → next_at roles x ≡ Some y → HasRoot roles y root → HasRoot roles x root

-- the roots of all leaves; rings have none
pub record AreRoots (roles : List NetRole) (roots : List (Option ℕ)) : Type 0 where
  pub count : length roots ≡ length roles
  pub each : (x root : ℕ) → (slice_get roots x ≡ Some (Some root)) ↔ HasRoot roles x root
