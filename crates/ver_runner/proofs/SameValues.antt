-- What processes do hangs on the values of nets and clocks alone.
use Rattle.std.proofs.Common.{◌≡◌, ℕ, zero, suc, List, [], ◌∷◌, Bool, true, false, Option, Some, None, refl, sym, ap, ◌∙◌, ⊎_elim, subst}
use Rattle.std.specs.Prelude.{◌++◌, if◌then◌else◌, map, slice_get}
use Rattle.std.specs.Str.{bytes_eq}
use Rattle.fir_base.specs.Lists.{In}
use Rattle.fir_base.specs.Ticks.{Env, Tick}
use Rattle.fir_base.proofs.Elements.{get_in}
use Rattle.fir_base.proofs.Members.{in_left, in_right, in_map, in_map_from, map_same}
use Rattle.ver_ast.specs.declared.tree.Verilog.{Verilog}
use Rattle.ver_ast.specs.Nets.{SizedNet, clocks, input_nets, names_of, nets, plain_regs, regs, variables}
use Rattle.ver_ast.specs.Valid.{Valid}
use Rattle.ver_ast.specs.Stores.{Store, store_of}
use Rattle.ver_ast.specs.Processes.{Process, given, process_reads, process_targets, processes, target}
use Rattle.ver_ast.specs.Settled.{SourcesShown, VSettled}
use Rattle.ver_ast.proofs.Nets.{reg_is_net, source_is_net}
use Rattle.ver_ast.proofs.Processes.{drawn_is_net, same_given, sources, target_is_net}
use Rattle.ver_ast.proofs.Values.{Agree}
use Rattle.ver_ast.proofs.Chosen.{chosen}
use Rattle.ver_order.specs.Steps.{step, step_of, steps}
use Rattle.ver_order.specs.Rounds.{repeated_steps}
use Rattle.ver_order.proofs.Rounds.{reads_known, rest_of}
use Rattle.ver_order.proofs.Shown.{settled_where_one_is}
use Rattle.ver_sim.specs.working.Valued.{valued}

-- two choices of values agree on all nets and clocks
pub record Same (v : Verilog) (e f : Env) : Type 0 where
  pub each : (n : List ℕ) → In (valued v) n → e n ≡ f n

module _ (v : Verilog) where
  pub same_back : (e f : Env) → Same v e f → Same v f e
  same_back e f s = record { each = λ n i. sym (s.each n i) }

  name_valued : (n : List ℕ) → In (names_of (nets v)) n → In (valued v) n
  name_valued n i = in_left (names_of (nets v)) (clocks v) n i

  pub net_valued : (s : SizedNet) → In (nets v) s → In (valued v) s.0
  net_valued s i = name_valued s.0 (in_map (λ (z : SizedNet). z.0) (nets v) s i)

  pub clock_valued : (n : List ℕ) → In (clocks v) n → In (valued v) n
  clock_valued n i = in_right (names_of (nets v)) (clocks v) n i

  named_valued : (ss : List SizedNet) → ((s : SizedNet) → In ss s → In (nets v) s) → (n : List ℕ) → In (names_of ss) n → In (valued v) n
  named_valued ss are n i =
      let t = in_map_from (λ (s : SizedNet). s.0) ss n i in
      subst (In (valued v)) t.2 (net_valued t.0 (are t.0 t.1))

  pub input_valued : (n : List ℕ) → In (names_of (input_nets v)) n → In (valued v) n
  input_valued = named_valued (input_nets v) (λ s i. source_is_net v s (in_left (input_nets v) (regs v) s i))

  pub plain_is_net : (r : SizedNet) → In (plain_regs v) r → In (nets v) r
  plain_is_net r i = reg_is_net v r (chosen _ (regs v) r i).0

module _ (v : Verilog) (valid : Valid v) where
  read_valued : (p : Process) → In (processes v) p → (n : List ℕ) → In (process_reads p) n → In (valued v) n
  read_valued p m n o =
      ⊎_elim
      (λ (s : In (names_of (sources v)) n). named_valued v (sources v) (drawn_is_net v) n s)
      (λ (t : In (process_targets valid.ordered.0) n).
      let q = in_map_from target valid.ordered.0 n t in
      subst (In (valued v)) q.2 (name_valued v (target q.0) (target_is_net v valid q.0 (valid.ordered.1.only q.0 q.1))))
      (reads_known (names_of (sources v)) valid.ordered.0 valid.ordered.1.after p (valid.ordered.1.each p m) n o)

  given_same : (store : Store) (e f : Env) → Same v e f → (p : Process) → In (processes v) p → given v store e p ≡ given v store f p
  given_same store e f s p m = same_given v store e f p (record { each = λ n o. s.each n (read_valued p m n o) })

  module _ (store : Store) where
    one_step : (o : Option Process) → ((p : Process) → o ≡ Some p → In (processes v) p) → (e f : Env) → Same v e f → Same v (step_of v store e o) (step_of v store f o)
    one_step None is e f s = s
    one_step (Some p) is e f s = record { each = λ n i. by n i (bytes_eq n (target p)) }
      where
        by : (n : List ℕ) → In (valued v) n → (b : Bool) → (if b then given v store e p else e n) ≡ (if b then given v store f p else f n)
        by n i true = given_same store e f s p (is p refl)
        by n i false = s.each n i

    step_same : (k : ℕ) (e f : Env) → Same v e f → Same v (step v store e k) (step v store f k)
    step_same k e f s = one_step (slice_get (processes v) k) (λ p is. get_in (processes v) k p is) e f s

    steps_same : (list : List ℕ) (e f : Env) → Same v e f → Same v (steps v store list e) (steps v store list f)
    unfolding steps
    steps_same [] e f s = s
    steps_same (k ∷ ks) e f s = steps_same ks (step v store e k) (step v store f k) (step_same k e f s)

    pub turns_same : (round : List ℕ) (count : ℕ) (e f : Env) → Same v e f → Same v (repeated_steps v store round count e) (repeated_steps v store round count f)
    unfolding repeated_steps
    turns_same round zero e f s = s
    turns_same round (suc count) e f s = turns_same round count (steps v store round e) (steps v store round f) (steps_same round e f s)

  module _ (state : List ℕ) (tick : Tick) (e f : Env) (s : Same v e f) where
    pub sources_same : SourcesShown v state tick e → SourcesShown v state tick f
    sources_same b = record {
      shaped = b.shaped;
      input_values = map_same f e (names_of (input_nets v)) (λ n i. sym (s.each n (input_valued v n i))) ∙ b.input_values;
      clock_values = λ k n i. sym (s.each n (clock_valued v n (get_in (clocks v) k n i))) ∙ b.clock_values k n i;
      state_values = λ r i. sym (s.each r.0 (net_valued v r (plain_is_net v r i))) ∙ b.state_values r i;
    }

    pub settled_same : VSettled v state tick e → VSettled v state tick f
    settled_same settled =
        settled_where_one_is v valid state tick e f settled
        (rest_of v valid state tick f (sources_same settled.rest.begins)
        (λ p m. sym (s.each (target p) (name_valued v (target p) (target_is_net v valid p m))) ∙ settled.rest.shows p m ∙ given_same (store_of (variables v) state) e f s p m))
