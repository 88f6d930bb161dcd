-- Numbers of rounds and their lines grow tick by tick.
use Rattle.std.proofs.Common.{◌≡◌, ℕ, List, [], ◌∷◌, ◌++◌, length, suc, Bool, refl, sym, ap, ◌∙◌}
use Rattle.std.proofs.lemmas.List.{append-nil, append_assoc}
use Rattle.fir_base.specs.Ticks.{Env, Tick, TickResult}
use Rattle.trace_lines.specs.Runs.{last_state}
use Rattle.ver_ast.specs.declared.tree.Verilog.{Verilog}
use Rattle.ver_runner.specs.Counting.{CountsTick, CountsTicks}
use Rattle.ver_runner.specs.VerilogLines.{counted_text, counted_lines}

-- the same values before a tick
same_before : (v : Verilog) (round state : List ℕ) (tick : Tick) (before other : Env) (count : ℕ) (next : List ℕ) (after : Env)
    → ((name : List ℕ) → other name ≡ before name) → CountsTick v round state tick other count next after → CountsTick v round state tick before count next after
same_before v round state tick before other count next after same h = record {
  begun = h.begun;
  inputs = record { inputs_are = h.inputs.inputs_are; others = λ n no. h.inputs.others n no ∙ same n };
  settles = h.settles;
  few = h.few;
  leaves = h.leaves;
}

module _ (v : Verilog) (round : List ℕ) (tick : Tick) (last : TickResult) (count : ℕ) (mid after : Env) where
  pub counts_more : (init : List ℕ) (before : Env) (ticks : List Tick) (shown : List TickResult) (counts : List ℕ) → CountsTicks v round init before ticks shown counts mid
      → CountsTick v round (last_state init shown) tick mid count last.state after
      → CountsTicks v round init before (ticks ++ tick ∷ []) (shown ++ last ∷ []) (counts ++ count ∷ []) after
  unfolding last_state
  counts_more init before [] [] [] h here = (after, same_before v round init tick before mid count last.state after h here, λ name. refl)
  counts_more init before [] [] (k ∷ counts) h here = absurd h
  counts_more init before [] (s ∷ shown) counts h here = absurd h
  counts_more init before (t ∷ ticks) [] counts h here = absurd h
  counts_more init before (t ∷ ticks) (s ∷ shown) [] h here = absurd h
  counts_more init before (t ∷ ticks) (s ∷ shown) (k ∷ counts) h here = (h.0, h.1, counts_more s.state h.0 ticks shown counts h.2 here)

-- as many numbers as ticks
pub as_many : (v : Verilog) (round init : List ℕ) (before after : Env) (ticks : List Tick) (shown : List TickResult) (counts : List ℕ)
    → CountsTicks v round init before ticks shown counts after → length shown ≡ length counts
as_many v round init before after [] [] [] h = refl
as_many v round init before after [] [] (k ∷ counts) h = absurd h
as_many v round init before after [] (s ∷ shown) counts h = absurd h
as_many v round init before after (t ∷ ticks) [] counts h = absurd h
as_many v round init before after (t ∷ ticks) (s ∷ shown) [] h = absurd h
as_many v round init before after (t ∷ ticks) (s ∷ shown) (k ∷ counts) h = ap suc (as_many v round s.state h.0 after ticks shown counts h.2)

module _ (outputs state : List ℕ) (with_state : Bool) (last : TickResult) (count : ℕ) where
  pub counted_more : (shown : List TickResult) (counts : List ℕ) → length shown ≡ length counts
      → counted_lines outputs state with_state (shown ++ last ∷ []) (counts ++ count ∷ [])
      ≡ counted_lines outputs state with_state shown counts ++ counted_text outputs state with_state last count
  unfolding counted_lines
  counted_more [] [] long = append-nil (counted_text outputs state with_state last count)
  counted_more [] (k ∷ counts) long = absurd (cc)
  counted_more (s ∷ shown) [] long = absurd (cc)
  counted_more (s ∷ shown) (k ∷ counts) long =
      ap (λ rest. counted_text outputs state with_state s k ++ rest) (counted_more shown counts (cc))
      ∙ sym (append_assoc (counted_text outputs state with_state s k) (counted_lines outputs state with_state shown counts) (counted_text outputs state with_state last count))
