-- Rounds of one list, taken until every process shows the value of its right side.
use Rattle.std.specs.Prelude.{◌≡◌, ℕ, ◌<◌, ◌≤◌, max, List, Some}
use Rattle.fir_base.specs.Lists.{In}
use Rattle.fir_base.specs.Ticks.{Env}
use Rattle.ver_ast.specs.declared.tree.Verilog.{Verilog}
use Rattle.ver_ast.specs.Nets.{variables}
use Rattle.ver_ast.specs.Processes.{Process, processes, target, wanted}
use Rattle.ver_ast.specs.Stores.{store_of}
use Rattle.ver_order.specs.working.Laws.{ShowValues}
use Rattle.ver_order.specs.Rounds.{process_count, repeated_steps}

-- the values after so many turns of a round
abbrev pub after_turns : Verilog → List ℕ → List ℕ → Env → ℕ → Env
after_turns v state round before count = repeated_steps v (store_of (variables v) state) round count before

-- after so many turns, one at least, every process shows the value of its right side, and after fewer some process does not
pub record ShowsFirstAfter (v : Verilog) (state round : List ℕ) (before after : Env) (count : ℕ) : Type 0 where
  pub some : 1 ≤ count
  pub few : count ≤ max 1 (process_count v)
  pub taken : after ≡ after_turns v state round before count
  pub shows : ShowValues v state after
  pub least : (fewer : ℕ) → 1 ≤ fewer → fewer < count → ShowValues v state (after_turns v state round before fewer) → ⊥

-- some process does not show the value of its right side
pub record IsUnshown (v : Verilog) (state : List ℕ) (env : Env) : Type 0 where
  pub process : Process
  pub there : In (processes v) process
  pub differ : wanted v (store_of (variables v) state) env process ≡ Some (env (target process)) → ⊥

-- nor does it after as many turns as there are processes
pub record NeverShows (v : Verilog) (state round : List ℕ) (before after : Env) : Type 0 where
  pub count : ℕ
  pub enough : process_count v ≤ count
  pub taken : after ≡ after_turns v state round before count
  pub unshown : IsUnshown v state after
