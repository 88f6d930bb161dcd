-- The outputs are driven by processes: neither inputs that are set nor an edge changes their values.
use Rattle.std.proofs.Common.{◌≡◌, ℕ, List, [], ◌∷◌, ◌++◌, length, map, false, refl, sym, ap, ◌∙◌, ⊎_elim, subst}
use Rattle.std.specs.Prelude.{Result, OnOk, OnErr, Ok, Err, slice_index}
use Rattle.std.proofs.lemmas.Bool.{cond-false}
use Rattle.std.proofs.lemmas.List.{length-map, map-append}
use Rattle.fir_base.specs.Lists.{In}
use Rattle.fir_base.specs.Ticks.{Env}
use Rattle.fir_base.specs.Words.{is_among}
use Rattle.fir_base.proofs.Members.{in_left, in_map, in_map_from, in_right, map_same}
use Rattle.ver_ast.specs.declared.tree.Verilog.{Verilog}
use Rattle.ver_ast.specs.Nets.{SizedNet, input_nets, output_nets, wires, regs, plain_regs, names_of, variables}
use Rattle.ver_ast.specs.Stores.{Store, store_of}
use Rattle.ver_ast.specs.Valid.{Valid}
use Rattle.ver_ast.proofs.Chosen.{chosen, in_or_not}
use Rattle.ver_order.specs.ShownWords.{words_shown}
use Rattle.ver_sim.specs.declared.plan.Plan.{Plan}
use Rattle.ver_sim.specs.working.Valued.{place_among, valued, env_of}
use Rattle.ver_sim.specs.Inputs.{HaveInputs}
use Rattle.ver_sim.specs.working.Running.{IsPlan, AreOutputs}

abbrev net_name : SizedNet → List ℕ
net_name = λ (s : SizedNet). s.0

map_twice : {A B C : Type 0} → (f : A → B) (g : B → C) (xs : List A) → map g (map f xs) ≡ map (λ x. g (f x)) xs
map_twice f g [] = refl
map_twice f g (x ∷ xs) = ap (λ ys. g (f x) ∷ ys) (map_twice f g xs)

pub outputs_are : (v : Verilog) (p : Plan) (values outputs : List ℕ) → IsPlan v p → outputs ≡ map (slice_index values) p.outputs.items → AreOutputs v values outputs
outputs_are v p values outputs plan h =
    h ∙ ap (map (slice_index values)) plan.outputs_are ∙ map_twice (place_among (valued v)) (slice_index values) (names_of (output_nets v))

pub outputs_long : (v : Verilog) (p : Plan) (values outputs : List ℕ) → IsPlan v p → AreOutputs v values outputs → length outputs ≡ length p.outputs.items
outputs_long v p values outputs plan h =
    ap length h ∙ length-map (names_of (output_nets v)) (env_of v values)
    ∙ sym (ap length plan.outputs_are ∙ length-map (names_of (output_nets v)) (place_among (valued v)))

module _ (v : Verilog) (valid : Valid v) where
  -- an output is no input, and no register
  undrawn : (n : List ℕ) → In (names_of (output_nets v)) n → In (names_of (input_nets v) ++ names_of (regs v)) n → ⊥
  undrawn n o m =
      let s = in_map_from net_name (output_nets v) n o in
      valid.undriven_sources n (subst (λ (ns : List (List ℕ)). In ns n) (sym (map-append net_name (input_nets v) (regs v))) m)
      (valid.driven n (subst (In (names_of (wires v ++ output_nets v))) s.2 (in_map net_name (wires v ++ output_nets v) s.0 (in_right (wires v) (output_nets v) s.0 s.1))))

  no_register : (n : List ℕ) → In (names_of (output_nets v)) n → In (names_of (plain_regs v)) n → ⊥
  no_register n o m =
      let s = in_map_from net_name (plain_regs v) n m in
      undrawn n o
      (in_right (names_of (input_nets v)) (names_of (regs v)) n
      (subst (In (names_of (regs v))) s.2 (in_map net_name (regs v) s.0 (chosen _ (regs v) s.0 s.1).0)))

  pub set_outputs : (inputs : List ℕ) (before after : Env) → HaveInputs v inputs before after → map after (names_of (output_nets v)) ≡ map before (names_of (output_nets v))
  set_outputs inputs before after h =
      map_same after before (names_of (output_nets v)) (λ n o. h.others n (λ m. undrawn n o (in_left (names_of (input_nets v)) (names_of (regs v)) n m)))

  pub edge_outputs : (store : Store) (before after : Env) → after ≡ words_shown v store before → map after (names_of (output_nets v)) ≡ map before (names_of (output_nets v))
  edge_outputs store before after h =
      map_same after before (names_of (output_nets v)) (λ n o. ap (λ (f : Env). f n) h ∙ cond-false (is_among (names_of (plain_regs v)) n) _ _ (unnamed n o))
    where
      unnamed : (n : List ℕ) → In (names_of (output_nets v)) n → is_among (names_of (plain_regs v)) n ≡ false
      unnamed n o =
          ⊎_elim
          (λ (m : In (names_of (plain_regs v)) n). absurd (no_register n o m))
          (λ (e : is_among (names_of (plain_regs v)) n ≡ false). e)
          (in_or_not (names_of (plain_regs v)) n)

-- unchanged, or after an edge
pub still_outputs : {E : Type 0} → (v : Verilog) → Valid v → (values state new_values new_state : List ℕ) (result : Result (Unit {0}) E)
    → OnOk result (env_of v new_values ≡ words_shown v (store_of (variables v) new_state) (env_of v values)) → OnErr result ((new_state ≡ state) × (new_values ≡ values))
    → map (env_of v new_values) (names_of (output_nets v)) ≡ map (env_of v values) (names_of (output_nets v))
still_outputs v valid values state new_values new_state (Ok x) h k = edge_outputs v valid (store_of (variables v) new_state) (env_of v values) (env_of v new_values) h
still_outputs v valid values state new_values new_state (Err x) h k = ap (λ (xs : List ℕ). map (env_of v xs) (names_of (output_nets v))) k.1
