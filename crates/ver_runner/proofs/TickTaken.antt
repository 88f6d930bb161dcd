-- What a tick that is taken in rounds makes of what a simulator showed.
use Rattle.std.proofs.Common.{◌≡◌, ℕ, List, refl, sym, ap, ◌∙◌, subst}
use Rattle.std.specs.Prelude.{Option, Some, None, IfSome, IfNone, option_map}
use Rattle.fir_base.specs.Ticks.{Env, Tick}
use Rattle.ver_ast.specs.declared.tree.Verilog.{Verilog}
use Rattle.ver_ast.specs.Allows.{VAllows}
use Rattle.ver_ast.specs.ClockOutputs.{clocks_shown}
use Rattle.ver_ast.specs.Nets.{variables}
use Rattle.ver_ast.specs.Next.{all_puts, state_after}
use Rattle.ver_ast.specs.Settled.{SourcesShown, Rest}
use Rattle.ver_ast.specs.Stores.{store_of}
use Rattle.ver_ast.specs.Valid.{Valid}
use Rattle.ver_order.specs.ShownWords.{words_shown}
use Rattle.ver_order.specs.working.Rounds.{IsRound}
use Rattle.ver_order.specs.Rounds.{process_count}
use Rattle.ver_sim.specs.declared.sim.NoValue.{NoValue}
use Rattle.ver_sim.specs.declared.unsettled.NotYet.{NotYet}
use Rattle.ver_sim.specs.Inputs.{HaveInputs}
use Rattle.ver_sim.specs.Lacking.{first_from, item_lacks}
use Rattle.ver_sim.specs.working.NoValues.{no_value_of, LacksAtRest}
use Rattle.ver_sim.specs.working.Tasks.{IsNotYet}
use Rattle.ver_sim.specs.working.Views.{VSimView, shown_env, shown_outputs, store}
use Rattle.ver_sim.proofs.Ticking.{lacked, ticked}
use Rattle.ver_runner.specs.Counting.{CountsTick}
use Rattle.ver_runner.specs.working.Settling.{after_turns, IsUnshown, NeverShows, ShowsFirstAfter}
use Rattle.ver_runner.proofs.Settled.{settles_first, at_rest, all_show}
use Rattle.ver_runner.proofs.Turns.{unshown}

none_first : (v : Verilog) (o : Option ℕ) → option_map (no_value_of v) o ≡ None → o ≡ None
none_first v None e = refl
none_first v (Some k) e = absurd (cc)

-- set, and then rounds taken
module _ (old one two : VSimView) (valid : Valid old.tree) (tick : Tick) (round : List ℕ) (r : IsRound (process_count old.tree) round)
    (t1 : one.tree ≡ old.tree) (s1 : one.state ≡ old.state) (inputs : HaveInputs old.tree tick.inputs (shown_env old) (shown_env one))
    (sources : SourcesShown one.tree one.state tick (shown_env one)) (t2 : two.tree ≡ one.tree) (s2 : two.state ≡ one.state) (o : Option ℕ)
    (some : IfSome o (ShowsFirstAfter one.tree one.state round (shown_env one) (shown_env two)))
    (none : IfNone o (NeverShows one.tree one.state round (shown_env one) (shown_env two))) where
  one_valid : Valid one.tree
  one_valid = subst Valid (sym t1) valid

  two_valid : Valid two.tree
  two_valid = subst Valid (sym t2) one_valid

  rests : (t : Tick) → SourcesShown one.tree one.state t (shown_env one) → Rest two.tree two.state t (shown_env two)
  rests t b =
      let rest = at_rest one.tree one_valid one.state t (shown_env one) b round (shown_env two) o (subst (λ (v : Verilog). IsRound (process_count v) round) (sym t1) r) some none in
      subst (λ (v : Verilog). Rest v two.state t (shown_env two)) (sym t2) (subst (λ (s : List ℕ). Rest one.tree s t (shown_env two)) (sym s2) rest)

  abbrev lacking : Option ℕ
  lacking = first_from (item_lacks two.tree (store two) tick.clocks (shown_env two)) 0 two.tree.items

  pub lacks : (n : NoValue) → option_map (no_value_of two.tree) lacking ≡ Some n → LacksAtRest old.tree old.state tick n
  lacks n e = lacked old one two tick n t1 s1 sources t2 s2 rests e

  module _ (has_values : option_map (no_value_of two.tree) lacking ≡ None) where
    never : IsUnshown two.tree two.state (shown_env two) → ⊥
    never = all_show two.tree two_valid two.state tick (shown_env two) (rests tick sources) (none_first two.tree lacking has_values)

    -- so rounds settled it
    pub not_none : o ≡ None → ⊥
    not_none e = by o e none
      where
        by : (p : Option ℕ) → p ≡ None → IfNone p (NeverShows one.tree one.state round (shown_env one) (shown_env two)) → ⊥
        by (Some count) f h = absurd (cc)
        by None f h =
            never
            (subst (λ (v : Verilog). IsUnshown v two.state (shown_env two)) (sym t2)
            (subst (λ (s : List ℕ). IsUnshown one.tree s (shown_env two)) (sym s2) h.unshown))

    -- and the edge is not refused
    pub not_refused : (n : NotYet) → IsNotYet two.tree (store two) (shown_env two) n → ⊥
    not_refused n h = never (unshown two.tree two.state (shown_env two) n h)

    module _ (new : VSimView) (outputs : shown_outputs new ≡ shown_outputs two) (t3 : new.tree ≡ two.tree)
        (next : new.state ≡ state_after two.tree two.state (all_puts two.tree tick (shown_env two))) where
      pub allows : VAllows old.tree old.state tick (shown_outputs new) (clocks_shown old.tree) new.state
      allows = ticked old one two new tick t1 s1 sources t2 s2 two_valid rests has_values outputs next

      module _ (shown : shown_env new ≡ words_shown two.tree (store new) (shown_env two)) (count : ℕ) (is : o ≡ Some count) where
        first_shown : ShowsFirstAfter old.tree old.state round (shown_env one) (shown_env two) count
        first_shown =
            subst (λ (s : List ℕ). ShowsFirstAfter old.tree s round (shown_env one) (shown_env two) count) s1
            (subst (λ (v : Verilog). ShowsFirstAfter v one.state round (shown_env one) (shown_env two) count) t1
            (subst (λ (p : Option ℕ). IfSome p (ShowsFirstAfter one.tree one.state round (shown_env one) (shown_env two))) is some))

        first_sources : SourcesShown old.tree old.state tick (shown_env one)
        first_sources =
            subst (λ (s : List ℕ). SourcesShown old.tree s tick (shown_env one)) s1
            (subst (λ (v : Verilog). SourcesShown v one.state tick (shown_env one)) t1 sources)

        -- what the nets show behind the edge
        left : shown_env new ≡ words_shown old.tree (store_of (variables old.tree) new.state) (after_turns old.tree old.state round (shown_env one) count)
        left =
            shown
            ∙ ap (λ (v : Verilog). words_shown two.tree (store_of (variables v) new.state) (shown_env two)) (t3 ∙ t2 ∙ t1)
            ∙ ap (λ (v : Verilog). words_shown v (store_of (variables old.tree) new.state) (shown_env two)) (t2 ∙ t1)
            ∙ ap (words_shown old.tree (store_of (variables old.tree) new.state)) first_shown.taken

        pub counts : CountsTick old.tree round old.state tick (shown_env old) count new.state (shown_env new)
        counts = record {
          begun = shown_env one;
          inputs = inputs;
          settles = settles_first old.tree valid old.state tick (shown_env one) first_sources round (shown_env two) count first_shown;
          few = first_shown.few;
          leaves = λ name. ap (λ (e : Env). e name) left;
        }
