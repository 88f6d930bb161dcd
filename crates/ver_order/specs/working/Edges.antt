-- At an edge each block of a clock that rises, and each asynchronous block whose reset is 1, samples once: it reads all that it reads at that moment (IEEE 1364-2005, 9.2.2, 9.7.2).
-- After all samples each sampled write is made once, those of one block in its order (11.3, 11.4.1); one that is out of range does nothing. Processes may take steps anywhere.
use Rattle.std.specs.Prelude.{◌≡◌, ℕ, List, [], ◌∷◌, ◌++◌}
use Rattle.fir_base.specs.Ticks.{Env, Tick}
use Rattle.ver_ast.specs.declared.tree.Verilog.{Verilog}
use Rattle.ver_ast.specs.Nets.{nets, variables, AlwaysBlock}
use Rattle.ver_ast.specs.Stores.{Store, store_of, state_of}
use Rattle.ver_ast.specs.Next.{Put, puts, put_one, acting}
use Rattle.ver_order.specs.Steps.{step}
use Rattle.ver_order.specs.working.Arranged.{IsRearranged, IsInterleaved}
use Rattle.ver_order.specs.ShownWords.{words_shown}

-- the process of that number takes a step, a block samples, or a write is made
pub data EdgeEvent : Type 0 where
  stepping : ℕ → EdgeEvent
  sampling : AlwaysBlock → EdgeEvent
  writing : Put → EdgeEvent

-- the values of the nets, the words, and for each block that has sampled what it writes, in its order
pub record EdgeState : Type 0 where
  pub env : Env
  pub store : Store
  pub sampled : List (List Put)

abbrev pub after_event : Verilog → EdgeEvent → EdgeState → EdgeState
after_event v (stepping k) s = record s { env = step v s.store s.env k }
after_event v (sampling b) s = record s { sampled = s.sampled ++ puts (nets v) s.env b ∷ [] }
after_event v (writing p) s = record s { env = words_shown v (put_one p s.store) s.env; store = put_one p s.store }

abbrev pub after_events : Verilog → List EdgeEvent → EdgeState → EdgeState
after_events v [] s = s
after_events v (e ∷ es) s = after_events v es (after_event v e s)

abbrev pub before_edge : Verilog → List ℕ → Env → EdgeState
before_edge v state env = record { env = env; store = store_of (variables v) state; sampled = [] }

-- the state that the events leave
abbrev pub state_after_events : Verilog → List ℕ → Env → List EdgeEvent → List ℕ
state_after_events v state env events = state_of (variables v) (after_events v events (before_edge v state env)).store

-- the blocks that sample, and the writes that are made, in the order of the events
abbrev pub sampled_blocks : List EdgeEvent → List AlwaysBlock
sampled_blocks [] = []
sampled_blocks (sampling b ∷ es) = b ∷ sampled_blocks es
sampled_blocks (_ ∷ es) = sampled_blocks es

abbrev pub writes_made : List EdgeEvent → List Put
writes_made [] = []
writes_made (writing p ∷ es) = p ∷ writes_made es
writes_made (_ ∷ es) = writes_made es

-- the events of an edge: those up to the last sample, then those from the first write on
pub record IsEdgeOrder (v : Verilog) (state : List ℕ) (tick : Tick) (env : Env) (first second : List EdgeEvent) : Type 0 where
  pub no_writes : writes_made first ≡ []
  pub no_samples : sampled_blocks second ≡ []
  pub each_block : IsRearranged (sampled_blocks first) (acting v tick env)
  pub each_write : IsInterleaved (writes_made second) (after_events v first (before_edge v state env)).sampled
