-- The words of pipes are those that settled values give: pipes that take old words find them before the writes of a tick, and those that take new ones after them.
use Rattle.std.proofs.Common.{◌≡◌, ℕ, ◌+◌, List, ◌++◌, [], length, map, drop, Bool, true, false, if◌then◌else◌, Option, Some, refl, sym, ap, ◌∙◌, arith}
use Rattle.std.specs.Prelude.{slice_get, not}
use Rattle.std.specs.Bool.{beq}
use Rattle.fir_bits.specs.working.Laws.{HasItsType}
use Rattle.fir_net.specs.declared.net.FlatNet.{FlatNet}
use Rattle.fir_net.specs.working.IsNet.{IsNet}
use Rattle.fir_net.specs.working.Laws.{NodesHaveTheirTypes, NodesHaveTheirValues}
use Rattle.fir_net.specs.working.Next.{arrays_next, read_left, ticks}
use Rattle.fir_net.specs.working.Settled.{registers, word_read}
use Rattle.fir_work.specs.working.Numbers.{number_at}
use Rattle.fir_tick.specs.declared.pipe_plans.PipePlan.{PipePlan}
use Rattle.fir_tick.specs.working.ArrayReads.{word_found}
use Rattle.fir_tick.specs.working.PipePlans.{ArePipePlans, IsPipePlan}
use Rattle.fir_tick.specs.working.Roots.{root_at}
use Rattle.fir_tick.specs.working.Settling.{IsSettled}
use Rattle.fir_tick.proofs.StepTasks.{word_held}
use Rattle.fir_sim.proofs.PipesCan.{addressed, has_array}
use Rattle.fir_sim.proofs.PipesTaken.{all_taken, along}
use Rattle.fir_sim.proofs.SettledValues.{same_word}
use Rattle.fir_sim.proofs.Stages.{all_pipes, no_pipes, old_pipes, pipe_has, pipe_waits, stage, stage_kept}
use Rattle.fir_sim.proofs.WordsLeft.{read_kept, read_taken}

new_alike : (b : Bool) → beq b false ≡ false → no_pipes b ≡ old_pipes b
new_alike true e = refl
new_alike false e = cc

old_alike : (b : Bool) → beq b true ≡ false → old_pipes b ≡ all_pipes b
old_alike true e = cc
old_alike false e = refl

module _ (has : HasItsType) (types : NodesHaveTheirTypes) (law : NodesHaveTheirValues) (net : FlatNet) (whole : IsNet net) (state start ns : List ℕ) (s : IsSettled net state start ns) (roots : List (Option ℕ)) (named : List ℕ) where
  abbrev env : ℕ → ℕ
  env = number_at ns

  abbrev clock : ℕ → Option ℕ
  clock = root_at roots

  abbrev word : (Bool → Bool) → ℕ → ℕ
  word done = stage net env clock named state done

  -- what a pipe finds in words
  found : (is_new : Bool) (place k : ℕ) (p : PipePlan) (is : IsPipePlan net roots is_new place k p) (words : List ℕ) → word_found p.read words ns ≡ word_read net words env is.pipe.read
  found is_new place k p is words =
      word_held net is.pipe.read p.read is.read words ns ∙ same_word has types law net whole state start ns s words is.pipe.read (addressed net whole roots is_new place k p is)

  old_taken : (place k : ℕ) (p : PipePlan) → slice_get net.state place ≡ Some k → IsPipePlan net roots false place k p → (front : List ℕ) → length front ≡ length net.state
      → (if ticks named p.clock then word_found p.read (front ++ drop (length net.state) state) ns else word no_pipes k) ≡ word old_pipes k
  old_taken place k p at is front long =
      let q = is.pipe in
      let finds = found false place k p is (front ++ drop (length net.state) state) ∙ read_kept net front long state env q.read in
      ap (λ (x : ℕ). if ticks named p.clock then x else word no_pipes k) finds
      ∙ ap (λ (x : ℕ). if ticks named p.clock then word_read net state env q.read else x) (pipe_waits net env clock named state no_pipes k is.leaf q is.at is.kind refl)
      ∙ ap (λ (c : Option ℕ). if ticks named c then word_read net state env q.read else env k) is.clock
      ∙ sym (ap (λ (b : Bool). if ticks named (clock q.clock) then (if b then read_left net env clock named state q.read else word_read net state env q.read) else env k) is.when)
      ∙ sym (pipe_has net env clock named state old_pipes k is.leaf q is.at is.kind (ap not is.when))

  new_taken : (place k : ℕ) (p : PipePlan) → slice_get net.state place ≡ Some k → IsPipePlan net roots true place k p → (front : List ℕ) → length front ≡ length net.state
      → (if ticks named p.clock then word_found p.read (front ++ arrays_next net env clock named state) ns else word old_pipes k) ≡ word all_pipes k
  new_taken place k p at is front long =
      let q = is.pipe in
      let finds = found true place k p is (front ++ arrays_next net env clock named state) ∙ read_taken net front long env clock named state q.read (has_array net whole roots true place k p is at) in
      ap (λ (x : ℕ). if ticks named p.clock then x else word old_pipes k) finds
      ∙ ap (λ (x : ℕ). if ticks named p.clock then read_left net env clock named state q.read else x) (pipe_waits net env clock named state old_pipes k is.leaf q is.at is.kind (ap not is.when))
      ∙ ap (λ (c : Option ℕ). if ticks named c then read_left net env clock named state q.read else env k) is.clock
      ∙ sym (ap (λ (b : Bool). if ticks named (clock q.clock) then (if b then read_left net env clock named state q.read else word_read net state env q.read) else env k) is.when)
      ∙ sym (pipe_has net env clock named state all_pipes k is.leaf q is.at is.kind refl)

  pub old_pipes_take : (ps : List PipePlan) → ArePipePlans net roots false 0 (registers net) ps
      → all_taken ns named ps (map (word no_pipes) (registers net) ++ drop (length net.state) state) ≡ map (word old_pipes) (registers net) ++ drop (length net.state) state
  old_pipes_take ps are =
      along ns named net roots false (word no_pipes) (word old_pipes) (drop (length net.state) state) (length net.state)
      (stage_kept net env clock named state no_pipes old_pipes false new_alike) old_taken (registers net) ps [] are (omega arith)
      (λ j k e. let plain : 0 + j ≡ j = omega arith in ap (slice_get net.state) plain ∙ e)

  pub new_pipes_take : (ps : List PipePlan) → ArePipePlans net roots true 0 (registers net) ps
      → all_taken ns named ps (map (word old_pipes) (registers net) ++ arrays_next net env clock named state) ≡ map (word all_pipes) (registers net) ++ arrays_next net env clock named state
  new_pipes_take ps are =
      along ns named net roots true (word old_pipes) (word all_pipes) (arrays_next net env clock named state) (length net.state)
      (stage_kept net env clock named state old_pipes all_pipes true old_alike) new_taken (registers net) ps [] are (omega arith)
      (λ j k e. let plain : 0 + j ≡ j = omega arith in ap (slice_get net.state) plain ∙ e)
