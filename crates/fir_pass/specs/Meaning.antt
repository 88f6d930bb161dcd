-- What a tree means, at each stage of its way: what the law of passes speaks of.
use Rattle.std.specs.Prelude.{ℕ, List}
use Rattle.fir_base.specs.Ticks.{Allowance, Shape}
use Rattle.fir_pass.specs.Groups.{Group}

-- the names of the inputs, the clocks, the outputs and of what keeps the state, its words and behind them its arrays: each a path as it is printed, in the order
-- of the shape
pub record ShapeNames : Type 0 where
  pub circuit : List ℕ
  pub inputs : List (List ℕ)
  pub clocks : List (List ℕ)
  pub outputs : List (List ℕ)
  pub state : List (List ℕ)

pub record Counts : Type 0 where
  pub leaves : ℕ
  pub registers : ℕ
  pub memories : ℕ

pub record Meaning : Type 1 where
  -- which outputs, which clocks of outputs and which next state a state and a tick allow
  pub allows : Allowance
  -- at every state and tick of the shape exactly one choice of values is settled
  pub one : Type 0
  -- the groups of faults by their numbers
  pub group : ℕ → Group
  -- the shape of its states and ticks is this one; so are the names in it, and what is counted
  pub has_shape : Shape → Type 0
  pub has_names : ShapeNames → Type 0
  pub has_counts : Counts → Type 0
