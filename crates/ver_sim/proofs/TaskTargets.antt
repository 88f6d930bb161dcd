-- Each task has a target of its own.
use Rattle.std.proofs.Common.{◌≡◌, ℕ, List, [], ◌∷◌, ◌++◌, length, map, refl, sym, ap, ◌∙◌, inl, inr, subst, arith}
use Rattle.std.specs.Prelude.{flat_map, slice_get, Some, option_map}
use Rattle.std.proofs.lemmas.List.{length-map, map-append}
use Rattle.std.proofs.lemmas.Simd.{map-map}
use Rattle.std.proofs.lemmas.Option.{slice_get-map, slice_get_within}
use Rattle.fir_base.specs.Lists.{In, Distinct}
use Rattle.fir_base.proofs.Elements.{get_in, there}
use Rattle.fir_base.proofs.Members.{in_map, in_map_from, in_right}
use Rattle.fir_base.proofs.Twins.{distinct_left, distinct_right, distinct_joined}
use Rattle.fir_graph.proofs.Positions.{distinct_at}
use Rattle.ver_ast.specs.declared.tree.Verilog.{Verilog}
use Rattle.ver_ast.specs.declared.tree.Assign.{Assign}
use Rattle.ver_ast.specs.declared.tree.Resetting.{Resetting}
use Rattle.ver_ast.specs.Nets.{SizedNet, AlwaysBlock, plain_block, resetting_block, writing_block, input_nets, regs, nets, clocks, names_of, assigns, clock_assigns, targets, block_reset, block_targets, blocks, first_array, resets, reset_targets}
use Rattle.ver_ast.specs.Processes.{Process, assigning, showing, processes, process_targets, target}
use Rattle.ver_ast.specs.Valid.{Valid}
use Rattle.ver_ast.proofs.Processes.{is_resetting, target_is_net}
use Rattle.ver_sim.specs.declared.task.Task.{Task}
use Rattle.ver_sim.specs.working.Orders.{HaveTargets}
use Rattle.ver_sim.specs.working.Tasks.{AreTasks}
use Rattle.ver_sim.specs.working.Valued.{place_among, valued}
use Rattle.ver_sim.proofs.KnownNames.{net_is_valued}
use Rattle.ver_sim.proofs.PlacedNames.{place_left, same_place}

-- the asynchronous blocks among blocks with targets of their own
reset_written : (bs : List AlwaysBlock) (n : List ℕ) → In (map (λ (b : Resetting). b.target) (flat_map block_reset bs)) n → In (block_targets bs) n
reset_written [] n m = absurd m
reset_written ((plain_block a) ∷ bs) n m = inr (reset_written bs n m)
reset_written ((resetting_block a) ∷ bs) n (inl e) = inl e
reset_written ((resetting_block a) ∷ bs) n (inr m) = inr (reset_written bs n m)
reset_written ((writing_block a) ∷ bs) n m = in_right (first_array a.writes) (block_targets bs) n (reset_written bs n m)

resets_once : (bs : List AlwaysBlock) → Distinct (block_targets bs) → Distinct (map (λ (b : Resetting). b.target) (flat_map block_reset bs))
resets_once [] d = tt
resets_once ((plain_block a) ∷ bs) d = resets_once bs d.1
resets_once ((resetting_block a) ∷ bs) d = (λ m. d.0 (reset_written bs a.target m), resets_once bs d.1)
resets_once ((writing_block a) ∷ bs) d = resets_once bs (distinct_right (first_array a.writes) (block_targets bs) d)

module _ (v : Verilog) (valid : Valid v) where
  assigns_once : Distinct (targets (assigns v))
  assigns_once =
      distinct_left (targets (assigns v)) (targets (clock_assigns v))
      (subst Distinct (map-append (λ (a : Assign). a.target) (assigns v) (clock_assigns v)) valid.driven_once)

  -- an assign drives no register
  no_assign : (n : List ℕ) → In (targets (assigns v)) n → In (reset_targets v) n → ⊥
  no_assign n m k =
      let b = in_map_from (λ (b : Resetting). b.target) (resets v) n k in
      let r = is_resetting v valid b.0 b.1 in
      let source : In (names_of (input_nets v ++ regs v)) b.0.target =
      in_map (λ (s : SizedNet). s.0) (input_nets v ++ regs v) (b.0.target, b.0.value.width) (in_right (input_nets v) (regs v) (b.0.target, b.0.value.width) r.register) in
      valid.undriven_sources n (subst (In (names_of (input_nets v ++ regs v))) b.2 source) m

  pub targets_once : Distinct (process_targets (processes v))
  targets_once =
      subst Distinct
      (sym (map-append target (map assigning (assigns v)) (map showing (resets v)) ∙ rw (map-map target assigning (assigns v), map-map target showing (resets v)) refl))
      (distinct_joined (targets (assigns v)) (reset_targets v) assigns_once (resets_once (blocks v) valid.written_once) no_assign)

  target_at : (k : ℕ) (p : Process) → slice_get (processes v) k ≡ Some p → slice_get (process_targets (processes v)) k ≡ Some (target p)
  target_at k p e = slice_get-map target (processes v) k ∙ ap (option_map target) e

  module _ (tasks : List Task) (a : AreTasks v tasks) where
    -- the process of a task
    pub process_at : (k : ℕ) (t : Task) → slice_get tasks k ≡ Some t → (p : Process) × (slice_get (processes v) k ≡ Some p)
    process_at k t e = there (processes v) k (omega (arith, slice_get_within tasks k t e, a.as_many))

    pub have_targets : HaveTargets tasks (length (nets v))
    have_targets = record {
      within = λ k t e.
          let p = process_at k t e in
          let front = place_left (names_of (nets v)) (clocks v) (target p.0) (target_is_net v valid p.0 (get_in (processes v) k p.0 p.1)) in
          omega (arith, (a.each k t p.0 e p.1).targets, front, length-map (nets v) (λ (s : SizedNet). s.0));
      once = λ i j t u e f same.
          let p = process_at i t e in
          let q = process_at j u f in
          let places : place_among (valued v) (target p.0) ≡ place_among (valued v) (target q.0) = sym (a.each i t p.0 e p.1).targets ∙ same ∙ (a.each j u q.0 f q.1).targets in
          let names : target p.0 ≡ target q.0 =
          same_place (valued v) (target p.0) (target q.0) (net_is_valued v (target q.0) (target_is_net v valid q.0 (get_in (processes v) j q.0 q.1))) places in
          distinct_at (process_targets (processes v)) targets_once i j (target q.0) (target_at i p.0 p.1 ∙ ap Some names) (target_at j q.0 q.1);
    }
