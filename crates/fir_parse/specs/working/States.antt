-- How a text may go on: what is expected next, and behind it, by the tree that it makes.
use Rattle.std.specs.Prelude.{ℕ, Bool, List, nat_le, nat_lt}
use Rattle.fir_ast.specs.declared.place.Place.{Place}
use Rattle.fir_ast.specs.declared.fault.FirFault.{FirFault}
use Rattle.fir_ast.specs.declared.fault.FirFault.TheVariants.{BadLiteral, Depth, Version}
use Rattle.fir_ast.specs.Circuits.{CircuitTree}
use Rattle.fir_parse.specs.Limits.{Limit, numbers, nesting, versions}
use Rattle.fir_parse.specs.working.Symbols.{Sym, Tree}

-- a limit at a token, and of the version its number
pub data Bound : Type 0 where
  number_at : Place → Bound
  nesting_at : Place → Bound
  version_at : Place → ℕ → Bound

-- the fault where it is passed
abbrev pub bound_fault : Bound → FirFault
bound_fault (number_at p) = BadLiteral p
bound_fault (nesting_at p) = Depth p
bound_fault (version_at p n) = Version p n

abbrev pub limit_of : Bound → Limit
limit_of (number_at p) = numbers
limit_of (nesting_at p) = nesting
limit_of (version_at p n) = versions

pub data State : Type 0 where
  -- the text is whole
  done : CircuitTree → State
  -- whether a limit is passed at the token before
  limit : Bool → Bound → State → State
  wants : (s : Sym) → (Tree s → State) → State

-- what a token does in a place: it is taken, and so the text goes on; nothing of what is expected stands here, and the token belongs to what
-- follows; it is not expected; or it or the word before it begins a form that is not in the language
pub data Step (T : Type 0) : Type 0 where
  takes : ((T → State) → State) → Step T
  without : T → Step T
  refuses : Step T
  unsupported : Place → List ℕ → Step T

abbrev pub mapped : {A B : Type 0} → (A → B) → Step A → Step B
mapped f (takes g) = takes (λ k. g (λ x. k (f x)))
mapped f (without x) = without (f x)
mapped f refuses = refuses
mapped f (unsupported p w) = unsupported p w

-- one more block or bracket is opened, where so many are open
abbrev pub opens : ℕ → Place → State → State
opens d p st = limit (nat_le 256 d) (nesting_at p) st

-- a form of this height ends
abbrev pub ends_form : ℕ → Place → State → State
ends_form h p st = limit (nat_lt 256 h) (nesting_at p) st
