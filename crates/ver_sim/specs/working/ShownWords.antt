-- Nets of registers that show words of the state.
use Rattle.std.specs.Prelude.{◌≡◌, ℕ, List, [], ◌∷◌, slice_index, slice_set}
use Rattle.ver_ast.specs.declared.tree.Verilog.{Verilog}
use Rattle.ver_ast.specs.Nets.{SizedNet, variables}
use Rattle.ver_sim.specs.declared.shown.ShownWord.{ShownWord}
use Rattle.ver_sim.specs.working.Valued.{place_among, valued}
use Rattle.ver_sim.specs.working.FlatStates.{base_of}
use Rattle.ver_sim.specs.working.Pairs.{EachPair}

-- the values where each net has taken its word
unfoldable pub words_put : List ShownWord → List ℕ → List ℕ → List ℕ
words_put [] state values = values
words_put (s ∷ ss) state values = words_put ss state (slice_set values s.net (slice_index state s.word))

-- the net and the word of a register
pub record IsShownOf (v : Verilog) (s : ShownWord) (r : SizedNet) : Type 0 where
  pub net_is : s.net ≡ place_among (valued v) r.0
  pub word_is : s.word ≡ base_of (variables v) r.0

-- one for each of these registers
abbrev pub AreShown : Verilog → List ShownWord → List SizedNet → Type 0
AreShown v = EachPair (IsShownOf v)
