-- The lines of the first ticks of a run, with their numbers of rounds, begin those of the whole run: each number is the least one, from the same values.
use Rattle.std.proofs.Common.{◌≡◌, ℕ, ◌+◌, ◌<◌, ◌≤◌, List, [], ◌∷◌, ◌++◌, Bool, true, false, Option, Some, None, inl, inr, refl, sym, ap, ◌∙◌, ⊎_elim, subst, arith}
use Rattle.std.specs.Prelude.{if◌then◌else◌, map}
use Rattle.std.proofs.lemmas.Bool.{cases_eq, cases_lt}
use Rattle.std.proofs.lemmas.List.{append_assoc}
use Rattle.fir_base.specs.Lists.{In}
use Rattle.fir_base.specs.Words.{is_among}
use Rattle.fir_base.specs.Ticks.{Env, Tick, TickResult}
use Rattle.fir_base.proofs.Elements.{number_of}
use Rattle.fir_base.proofs.Members.{in_either, in_map_from, same_at}
use Rattle.ver_ast.specs.declared.tree.Verilog.{Verilog}
use Rattle.ver_ast.specs.Nets.{SizedNet, clocks, input_nets, names_of, nets, plain_regs, variables}
use Rattle.ver_ast.specs.Valid.{Valid}
use Rattle.ver_ast.specs.Stores.{Store, store_of, stored}
use Rattle.ver_ast.proofs.Chosen.{in_or_not, is_named}
use Rattle.ver_order.specs.ShownWords.{words_shown}
use Rattle.ver_order.specs.Rounds.{repeated_steps}
use Rattle.ver_sim.specs.Inputs.{HaveInputs}
use Rattle.ver_sim.specs.Start.{HasStart}
use Rattle.ver_sim.specs.working.Valued.{valued}
use Rattle.ver_runner.specs.Counting.{CountsTick, CountsTicks}
use Rattle.ver_runner.specs.VerilogLines.{counted_lines, counted_text}
use Rattle.ver_runner.proofs.SameValues.{Same, same_back, settled_same, turns_same}

-- what is not among names is none of them
not_among : (names : List (List ℕ)) (n : List ℕ) → is_among names n ≡ false → In names n → ⊥
not_among names n differs i = let yes : is_among names n ≡ true = is_named names n i in cc

module _ (v : Verilog) where
  inputs_same : (inputs : List ℕ) (e f e' f' : Env) → Same v e f → HaveInputs v inputs e e' → HaveInputs v inputs f f' → Same v e' f'
  inputs_same inputs e f e' f' s p q = record {
    each = λ n i.
        ⊎_elim
        (λ (m : In (names_of (input_nets v)) n). same_at e' f' (names_of (input_nets v)) (p.inputs_are ∙ sym q.inputs_are) n m)
        (λ (out : is_among (names_of (input_nets v)) n ≡ false).
        p.others n (not_among (names_of (input_nets v)) n out) ∙ s.each n i ∙ sym (q.others n (not_among (names_of (input_nets v)) n out)))
        (in_or_not (names_of (input_nets v)) n);
  }

  words_same : (store : Store) (e f : Env) → Same v e f → Same v (words_shown v store e) (words_shown v store f)
  words_same store e f s = record { each = λ n i. by n i (is_among (names_of (plain_regs v)) n) }
    where
      by : (n : List ℕ) → In (valued v) n → (b : Bool) → (if b then stored store n else e n) ≡ (if b then stored store n else f n)
      by n i true = refl
      by n i false = s.each n i

  -- the values before the first tick are one choice
  pub start_same : (store : Store) (e f : Env) → HasStart v store e → HasStart v store f → Same v e f
  start_same store e f p q = record {
    each = λ n i.
        ⊎_elim
        (λ (m : In (names_of (nets v)) n).
        ⊎_elim
        (λ (r : In (names_of (plain_regs v)) n).
        let t = in_map_from (λ (s : SizedNet). s.0) (plain_regs v) n r in
        ap e (sym t.2) ∙ p.words_shown t.0 t.1 ∙ sym (q.words_shown t.0 t.1) ∙ ap f t.2)
        (λ (out : is_among (names_of (plain_regs v)) n ≡ false).
        p.zeros n m (not_among (names_of (plain_regs v)) n out) ∙ sym (q.zeros n m (not_among (names_of (plain_regs v)) n out)))
        (in_or_not (names_of (plain_regs v)) n))
        (λ (m : In (clocks v) n). let t = number_of (clocks v) n m in p.clocks_shown t.0 n t.1 ∙ sym (q.clocks_shown t.0 n t.1))
        (in_either (names_of (nets v)) (clocks v) n i);
  }

module _ (v : Verilog) (valid : Valid v) (round : List ℕ) where
  not_fewer : (state : List ℕ) (tick : Tick) (e f e' f' : Env) (next : List ℕ) (c d : ℕ) → Same v e f → (p : CountsTick v round state tick e c next e')
      → (q : CountsTick v round state tick f d next f') → c < d → ⊥
  not_fewer state tick e f e' f' next c d s p q low =
      let begun : Same v p.begun q.begun = inputs_same v tick.inputs e f p.begun q.begun s p.inputs q.inputs in
      q.settles.least c p.settles.some low
      (settled_same v valid state tick _ _ (turns_same v valid (store_of (variables v) state) round c p.begun q.begun begun) p.settles.settled)

  count_same : (state : List ℕ) (tick : Tick) (e f e' f' : Env) (next : List ℕ) (c d : ℕ) → Same v e f → CountsTick v round state tick e c next e'
      → CountsTick v round state tick f d next f' → c ≡ d
  count_same state tick e f e' f' next c d s p q =
      let low : c < d → ⊥ = not_fewer state tick e f e' f' next c d s p q in
      let high : d < c → ⊥ = not_fewer state tick f e f' e' next d c (same_back v e f s) q p in
      omega arith

  left_same : (state : List ℕ) (tick : Tick) (e f e' f' : Env) (next : List ℕ) (c d : ℕ) → Same v e f → (p : CountsTick v round state tick e c next e')
      → (q : CountsTick v round state tick f d next f') → Same v e' f'
  left_same state tick e f e' f' next c d s p q =
      let store : Store = store_of (variables v) state in
      let count : c ≡ d = count_same state tick e f e' f' next c d s p q in
      let begun : Same v p.begun q.begun = inputs_same v tick.inputs e f p.begun q.begun s p.inputs q.inputs in
      let turned : Same v (repeated_steps v store round c p.begun) (repeated_steps v store round d q.begun) =
      subst (λ (k : ℕ). Same v (repeated_steps v store round c p.begun) (repeated_steps v store round k q.begun)) count
      (turns_same v valid store round c p.begun q.begun begun) in
      let shown : Same v (words_shown v (store_of (variables v) next) (repeated_steps v store round c p.begun)) (words_shown v (store_of (variables v) next) (repeated_steps v store round d q.begun)) =
      words_same v (store_of (variables v) next) _ _ turned in
      record { each = λ n i. p.leaves n ∙ shown.each n i ∙ sym (q.leaves n) }

  module _ (outputs widths : List ℕ) (with_state : Bool) where
    abbrev lines : List TickResult → List ℕ → List ℕ
    lines = counted_lines outputs widths with_state

    -- the lines of the whole run are those of its first ticks and more
    pub counted_front : (state : List ℕ) (ticks more : List Tick) (shown rest : List TickResult) (cs ds : List ℕ) (e f last end : Env) → Same v e f
        → CountsTicks v round state e ticks shown cs last → CountsTicks v round state f (ticks ++ more) (shown ++ rest) ds end
        → (back : List ℕ) × (lines (shown ++ rest) ds ≡ lines shown cs ++ back)
    unfolding counted_lines
    counted_front state [] more [] rest [] ds e f last end s p q = (lines rest ds, refl)
    counted_front state [] more [] rest (c ∷ cs) ds e f last end s p q = absurd p
    counted_front state [] more (r ∷ shown) rest cs ds e f last end s p q = absurd p
    counted_front state (t ∷ ticks) more [] rest cs ds e f last end s p q = absurd p
    counted_front state (t ∷ ticks) more (r ∷ shown) rest [] ds e f last end s p q = absurd p
    counted_front state (t ∷ ticks) more (r ∷ shown) rest (c ∷ cs) [] e f last end s p q = absurd q
    counted_front state (t ∷ ticks) more (r ∷ shown) rest (c ∷ cs) (d ∷ ds) e f last end s p q =
        let count : c ≡ d = count_same state t e f p.0 q.0 r.state c d s p.1 q.1 in
        let later = counted_front r.state ticks more shown rest cs ds p.0 q.0 last end (left_same state t e f p.0 q.0 r.state c d s p.1 q.1) p.2 q.2 in (
          later.0,
          ap (λ (k : ℕ). counted_text outputs widths with_state r k ++ lines (shown ++ rest) ds) (sym count)
              ∙ ap (λ (l : List ℕ). counted_text outputs widths with_state r c ++ l) later.1
              ∙ sym (append_assoc (counted_text outputs widths with_state r c) (lines shown cs) later.0),
        )
