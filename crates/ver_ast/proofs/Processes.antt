-- What holds of each process of a valid tree, and of the nets that no process drives.
use Rattle.std.proofs.Common.{◌≡◌, ℕ, ◌^◌, ◌<◌, List, [], ◌∷◌, ◌++◌, refl, sym, ap, ◌∙◌, inl, inr, ◌⊎◌, ⊎_elim, subst}
use Rattle.std.specs.Prelude.{map, ◌==◌, not, true, false, if◌then◌else◌, Option, Some, unwrap_or}
use Rattle.std.proofs.lemmas.Bool.{cond_both}
use Rattle.std.proofs.lemmas.List.{map-append}
use Rattle.fir_base.specs.Lists.{In, Distinct}
use Rattle.fir_base.specs.Words.{is_among}
use Rattle.fir_base.specs.Ticks.{Env, FitEach}
use Rattle.fir_base.proofs.Members.{in_map, in_map_from, in_left, in_right, in_either, in_flat_map_from}
use Rattle.fir_base.proofs.Twins.{distinct_left, distinct_right, apart, distinct_joined}
use Rattle.ver_ast.specs.declared.tree.Verilog.{Verilog}
use Rattle.ver_ast.specs.declared.tree.Assign.{Assign}
use Rattle.ver_ast.specs.declared.tree.Resetting.{Resetting}
use Rattle.ver_ast.specs.Nets.{SizedNet, width_among, input_nets, output_nets, clocks, output_clocks, wires, regs, plain_regs, nets, assigns, targets, AlwaysBlock, plain_block, resetting_block, writing_block, block_reset, blocks, resets, reset_targets, Variable, reg_variable, variables, variable_names, variable_widths, arrays, names_of}
use Rattle.ver_ast.specs.AtomForms.{constant_number}
use Rattle.ver_ast.specs.Valid.{Valid, IsSoundBlock, IsResetting}
use Rattle.ver_ast.specs.Stores.{Store, store_of, stored}
use Rattle.ver_ast.specs.Processes.{Process, assigning, showing, processes, target, process_targets, process_reads, wanted, given}
use Rattle.ver_ast.proofs.Chosen.{chosen, choose, chosen_once, is_named, in_or_not}
use Rattle.ver_ast.proofs.Widths.{declared_width, FitNames}
use Rattle.ver_ast.proofs.Values.{Agree, FitWords, side_value, rhs_fits, same_rhs}
use Rattle.ver_ast.proofs.Stores.{word_fits, stored_fits}
use Rattle.ver_ast.proofs.Parts.{named_either}
use Rattle.ver_ast.proofs.Nets.{reg_is_net, source_is_net, sources_distinct, net_is_source_or_driven}

-- the value hangs on what is read alone
pub same_wanted : (v : Verilog) (store : Store) (e f : Env) (p : Process) → Agree e f (process_reads p) → wanted v store e p ≡ wanted v store f p
same_wanted v store e f (assigning a) h = same_rhs (nets v) store e f (width_among (nets v) a.target) a.rhs h
same_wanted v store e f (showing b) h = ap (λ (x : ℕ). Some (if x == 1 then constant_number b.value else stored store b.target)) (h.each b.reset (inl refl))

pub same_given : (v : Verilog) (store : Store) (e f : Env) (p : Process) → Agree e f (process_reads p) → given v store e p ≡ given v store f p
same_given v store e f p h = ap (λ (o : Option ℕ). unwrap_or o 0) (same_wanted v store e f p h)

variable_names_are : (rs : List SizedNet) → variable_names (map reg_variable rs) ≡ names_of rs
variable_names_are [] = refl
variable_names_are (r ∷ rs) = ap (λ ns. r.0 ∷ ns) (variable_names_are rs)

-- what no process drives
abbrev pub sources : Verilog → List SizedNet
sources v = input_nets v ++ plain_regs v

full_source : (v : Verilog) (s : SizedNet) → In (sources v) s → In (input_nets v ++ regs v) s
full_source v s m =
    ⊎_elim
    (λ (n : In (input_nets v) s). in_left (input_nets v) (regs v) s n)
    (λ (n : In (plain_regs v) s). in_right (input_nets v) (regs v) s (chosen _ (regs v) s n).0)
    (in_either (input_nets v) (plain_regs v) s m)

pub drawn_is_net : (v : Verilog) (s : SizedNet) → In (sources v) s → In (nets v) s
drawn_is_net v s m = source_is_net v s (full_source v s m)

pub is_process : (v : Verilog) (a : Assign) → In (assigns v) a → In (processes v) (assigning a)
is_process v a m = in_left (map assigning (assigns v)) (map showing (resets v)) (assigning a) (in_map assigning (assigns v) a m)

pub is_showing : (v : Verilog) (b : Resetting) → In (resets v) b → In (processes v) (showing b)
is_showing v b m = in_right (map assigning (assigns v)) (map showing (resets v)) (showing b) (in_map showing (resets v) b m)

-- what holds of each assign and each asynchronous block holds of each process
pub by_kind : (v : Verilog) (P : Process → Type 0) → ((a : Assign) → In (assigns v) a → P (assigning a)) → ((b : Resetting) → In (resets v) b → P (showing b))
    → (p : Process) → In (processes v) p → P p
by_kind v P h k p m =
    ⊎_elim
    (λ (n : In (map assigning (assigns v)) p). let t = in_map_from assigning (assigns v) p n in subst P t.2 (h t.0 t.1))
    (λ (n : In (map showing (resets v)) p). let t = in_map_from showing (resets v) p n in subst P t.2 (k t.0 t.1))
    (in_either (map assigning (assigns v)) (map showing (resets v)) p m)

module _ (v : Verilog) (valid : Valid v) where
  -- the clock inputs and the nets, beside the arrays and the clock outputs
  pub read_once : Distinct (clocks v ++ names_of (nets v))
  read_once = distinct_left (clocks v ++ names_of (nets v)) (variable_names (arrays v) ++ output_clocks v) valid.declared_once

  pub nets_once : Distinct (names_of (nets v))
  nets_once = distinct_right (clocks v) (names_of (nets v)) read_once

  pub width_is : (n : List ℕ) (w : ℕ) → In (nets v) (n, w) → width_among (nets v) n ≡ w
  width_is n w m = declared_width (nets v) nets_once n w m

  split_once : Distinct (names_of (input_nets v) ++ names_of (regs v))
  split_once = subst Distinct (map-append (λ (s : SizedNet). s.0) (input_nets v) (regs v)) (sources_distinct v nets_once)

  pub sources_once : Distinct (names_of (sources v))
  sources_once =
      let first = λ (s : SizedNet). s.0 in
      subst Distinct (sym (map-append first (input_nets v) (plain_regs v)))
      (distinct_joined (names_of (input_nets v)) (names_of (plain_regs v)) (distinct_left (names_of (input_nets v)) (names_of (regs v)) split_once)
      (chosen_once first _ (regs v) (distinct_right (names_of (input_nets v)) (names_of (regs v)) split_once))
      (λ n m o. apart (names_of (input_nets v)) (names_of (regs v)) split_once n m (plain_name n o)))
    where
      plain_name : (n : List ℕ) → In (names_of (plain_regs v)) n → In (names_of (regs v)) n
      plain_name n o =
          let t = in_map_from (λ (s : SizedNet). s.0) (plain_regs v) n o in
          subst (In (names_of (regs v))) t.2 (in_map (λ (s : SizedNet). s.0) (regs v) t.0 (chosen _ (regs v) t.0 t.1).0)

  pub variables_once : Distinct (variable_names (variables v))
  variables_once =
      subst Distinct (sym (map-append (λ (k : Variable). k.name) (map reg_variable (regs v)) (arrays v)))
      (subst (λ (ns : List (List ℕ)). Distinct (ns ++ variable_names (arrays v))) (sym (variable_names_are (regs v)))
      (distinct_joined (names_of (regs v)) (variable_names (arrays v)) (distinct_right (names_of (input_nets v)) (names_of (regs v)) split_once)
      (distinct_left (variable_names (arrays v)) (output_clocks v) others_once) away))
    where
      others_once : Distinct (variable_names (arrays v) ++ output_clocks v)
      others_once = distinct_right (clocks v ++ names_of (nets v)) (variable_names (arrays v) ++ output_clocks v) valid.declared_once

      away : (n : List ℕ) → In (names_of (regs v)) n → In (variable_names (arrays v)) n → ⊥
      away n m o =
          let t = in_map_from (λ (s : SizedNet). s.0) (regs v) n m in
          let net : In (names_of (nets v)) n = subst (In (names_of (nets v))) t.2 (in_map (λ (s : SizedNet). s.0) (nets v) t.0 (reg_is_net v t.0 t.1)) in
          apart (clocks v ++ names_of (nets v)) (variable_names (arrays v) ++ output_clocks v) valid.declared_once n
          (in_right (clocks v) (names_of (nets v)) n net) (in_left (variable_names (arrays v)) (output_clocks v) n o)

  pub is_resetting : (b : Resetting) → In (resets v) b → IsResetting v b
  is_resetting b m = let t = in_flat_map_from block_reset (blocks v) b m in by t.0 t.2 (valid.sound_blocks t.0 t.1)
    where
      by : (c : AlwaysBlock) → In (block_reset c) b → IsSoundBlock v c → IsResetting v b
      by (plain_block a) n h = absurd n
      by (resetting_block a) n h = ⊎_elim (λ (e : a ≡ b). subst (IsResetting v) e h) (λ (no : ⊥). absurd no) n
      by (writing_block a) n h = absurd n

  -- the words of the state
  module _ (state : List ℕ) (fit : FitEach (variable_widths (variables v)) state) where
    abbrev words : Store
    words = store_of (variables v) state

    pub arrays_fit : FitWords (arrays v) words
    arrays_fit = record { each = λ k m i x e. word_fits (variables v) state variables_once fit k (in_right (map reg_variable (regs v)) (arrays v) k m) i x e }

    pub reg_fits : (n : List ℕ) (w : ℕ) → In (regs v) (n, w) → stored words n < 2 ^ w
    reg_fits n w m =
        stored_fits (variables v) state variables_once fit (reg_variable (n, w)) (in_left (map reg_variable (regs v)) (arrays v) (reg_variable (n, w)) (in_map reg_variable (regs v) (n, w) m))

    pub given_fits : (p : Process) → In (processes v) p → (env : Env) → FitNames (nets v) env (process_reads p) → given v words env p < 2 ^ width_among (nets v) (target p)
    given_fits = by_kind v _ of_assign of_reset
      where
        of_assign : (a : Assign) → In (assigns v) a → (env : Env) → FitNames (nets v) env (process_reads (assigning a))
            → given v words env (assigning a) < 2 ^ width_among (nets v) a.target
        of_assign a m env h =
            let s = valid.sound_assigns a m in
            subst (λ (w : ℕ). side_value (nets v) words env w a.rhs < 2 ^ w) (sym (width_is a.target s.0 s.1))
            (rhs_fits (nets v) (arrays v) words env s.0 a.rhs s.2 arrays_fit h)

        of_reset : (b : Resetting) → In (resets v) b → (env : Env) → FitNames (nets v) env (process_reads (showing b))
            → given v words env (showing b) < 2 ^ width_among (nets v) b.target
        of_reset b m env h =
            let r = is_resetting b m in
            rw (width_is b.target b.value.width (reg_is_net v (b.target, b.value.width) r.register))
            (cond_both (env b.reset == 1) (constant_number b.value) (stored words b.target) (λ (x : ℕ). x < 2 ^ b.value.width)
            (λ _. r.constant_fits) (λ _. reg_fits b.target b.value.width r.register))

  pub target_is_net : (p : Process) → In (processes v) p → In (names_of (nets v)) (target p)
  target_is_net =
      by_kind v (λ p. In (names_of (nets v)) (target p))
      (λ a m. let s = valid.sound_assigns a m in in_map (λ (s : SizedNet). s.0) (nets v) (a.target, s.0) s.1)
      (λ b m. in_map (λ (s : SizedNet). s.0) (nets v) (b.target, b.value.width) (reg_is_net v (b.target, b.value.width) (is_resetting b m).register))

  -- a net is drawn from the tick and the state, or driven by a process
  pub drawn_or_driven : (s : SizedNet) → In (nets v) s → In (sources v) s ⊎ In (process_targets (processes v)) s.0
  drawn_or_driven s m =
      ⊎_elim
      (λ (n : In (input_nets v ++ regs v) s). ⊎_elim
      (λ (o : In (input_nets v) s). inl (in_left (input_nets v) (plain_regs v) s o))
      (λ (o : In (regs v) s). ⊎_elim
      (λ (t : In (reset_targets v) s.0).
      let b = in_map_from (λ b. b.target) (resets v) s.0 t in
      inr (subst (In (process_targets (processes v))) b.2 (in_map target (processes v) (showing b.0) (is_showing v b.0 b.1))))
      (λ (f : is_among (reset_targets v) s.0 ≡ false).
      inl (in_right (input_nets v) (plain_regs v) s (choose (λ r. not (is_among (reset_targets v) r.0)) (regs v) s o (ap not f))))
      (in_or_not (reset_targets v) s.0))
      (in_either (input_nets v) (regs v) s n))
      (λ (n : In (names_of (wires v ++ output_nets v)) s.0).
      let a = in_map_from (λ a. a.target) (assigns v) s.0 (valid.driven s.0 n) in
      inr (subst (In (process_targets (processes v))) a.2 (in_map target (processes v) (assigning a.0) (is_process v a.0 a.1))))
      (net_is_source_or_driven v s m)

  -- no process drives what is drawn
  pub undriven : (n : List ℕ) → In (names_of (sources v)) n → In (process_targets (processes v)) n → ⊥
  undriven n m t =
      let p = in_map_from target (processes v) n t in
      by_kind v (λ p. target p ≡ n → ⊥) of_assign of_reset p.0 p.1 p.2
    where
      of_assign : (a : Assign) → In (assigns v) a → a.target ≡ n → ⊥
      of_assign a o e =
          let s = in_map_from (λ (s : SizedNet). s.0) (sources v) n m in
          valid.undriven_sources n
          (subst (In (names_of (input_nets v ++ regs v))) s.2 (in_map (λ (s : SizedNet). s.0) (input_nets v ++ regs v) s.0 (full_source v s.0 s.1)))
          (subst (In (targets (assigns v))) e (in_map (λ a. a.target) (assigns v) a o))

      of_reset : (b : Resetting) → In (resets v) b → b.target ≡ n → ⊥
      of_reset b o e =
          let r = is_resetting b o in
          let reg : In (names_of (regs v)) n = subst (In (names_of (regs v))) e (in_map (λ (s : SizedNet). s.0) (regs v) (b.target, b.value.width) r.register) in
          ⊎_elim
          (λ (i : In (names_of (input_nets v)) n). apart (names_of (input_nets v)) (names_of (regs v)) split_once n i reg)
          (λ (i : In (names_of (plain_regs v)) n).
          let s = in_map_from (λ (s : SizedNet). s.0) (plain_regs v) n i in
          let kind : not (is_among (reset_targets v) s.0.0) ≡ true = (chosen _ (regs v) s.0 s.1).1 in
          let named : is_among (reset_targets v) s.0.0 ≡ true =
          is_named (reset_targets v) s.0.0 (subst (In (reset_targets v)) (e ∙ sym s.2) (in_map (λ b. b.target) (resets v) b o)) in
          let no : false ≡ true = sym (ap not named) ∙ kind in
          absurd (cc))
          (named_either (input_nets v) (plain_regs v) n m)
