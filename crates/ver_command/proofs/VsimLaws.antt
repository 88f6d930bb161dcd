-- What holds of the meaning of `vsim`.
use Rattle.std.proofs.Common.{◌≡◌, ℕ, List, Bool, Option, inl, inr, refl, sym, ap, ◌∙◌, subst}
use Rattle.trace_command.specs.working.Laws.{FrontsBegin, SimulationLaws}
use Rattle.ver_ast.specs.declared.tree.Verilog.{Verilog}
use Rattle.ver_ast.specs.Allows.{VRun}
use Rattle.ver_ast.specs.working.Laws.{SpellsOneTree}
use Rattle.ver_read.specs.Reads.{IsTextOf}
use Rattle.ver_read.specs.working.Laws.{RefusedIsNotValid}
use Rattle.ver_sim.specs.TraceShapes.{trace_shape}
use Rattle.ver_runner.specs.VerilogLines.{VLacked, VRan}
use Rattle.ver_runner.specs.working.Laws.{LackedDoesNotRun, Lacks, VFrontsBegin}
use Rattle.trace_lines.specs.Saying.{PrintsAll, Saying, SaysBadly}
use Rattle.trace_text.specs.TraceSpells.{TraceSpells}
use Rattle.trace_text.specs.working.Fronts.{Says}
use Rattle.ver_command.specs.Vsim.{VLacks, VPrints, vsim_meaning}

module _ (one : SpellsOneTree) where
  same_tree : (text : List ℕ) (v w : Verilog) → IsTextOf text v → IsTextOf text w → v ≡ w
  same_tree text v w p q = one text v w p.spelled q.spelled

  pub vsim_laws : RefusedIsNotValid → LackedDoesNotRun → (with_state : Bool) (order : Option ℕ) → SimulationLaws (vsim_meaning with_state order)
  vsim_laws refused stops with_state order = record {
    refused_is_not_taken = λ text line why taken. refused text why.0 taken.0 why.1 taken.1;
    shaped_is_taken = λ text shape shaped. (shaped.0, shaped.1);
    one_shape = λ text s t p q. p.2 ∙ ap trace_shape (same_tree text p.0 q.0 p.1 q.1) ∙ sym q.2;
    prints_run = λ text says printed p. record {
      shape = trace_shape p.tree;
      shaped = (p.tree, p.taken, refl);
      init = p.ran.init;
      ticks = p.ran.ticks;
      said = p.ran.said;
      runs = (p.tree, p.taken, p.ran.shown, p.ran.run);
    };
    lacking_is_taken = λ text trace line printed p. (p.tree, p.taken);
    lacking_does_not_run = λ text trace line printed shape init ticks p shaped says runs.
        let shape_is : shape ≡ trace_shape p.tree = shaped.2 ∙ ap trace_shape (same_tree text shaped.0 p.tree shaped.1 p.taken) in
        stops p.tree p.taken.valid order with_state (trace_shape p.tree) trace p.lack printed p.lacked init ticks runs.2
        (subst (λ s. Says trace s init ticks) shape_is says)
        (subst (λ v. VRun v init ticks runs.2) (same_tree text runs.0 p.tree runs.1 p.taken) runs.3);
  }

pub fronts_begin : VFrontsBegin → (with_state : Bool) (order : Option ℕ) → FrontsBegin (vsim_meaning with_state order)
fronts_begin law with_state order text trace printed p all h =
    law p.tree p.taken.valid order with_state (trace_shape p.tree) trace printed p.ran all (by h)
  where
    ran_of : (says : Saying) → VPrints with_state order text says all → VRan p.tree order with_state (trace_shape p.tree) says all
    ran_of says q = subst (λ v. VRan v order with_state (trace_shape v) says all) (p.only_tree q.tree q.taken.spelled) q.ran

    by : PrintsAll (VPrints with_state order text) (VLacks with_state order text trace) trace all
        → PrintsAll (VRan p.tree order with_state (trace_shape p.tree)) (Lacks p.tree order with_state (trace_shape p.tree) trace) trace all
    by (inl q) = inl (ran_of (TraceSpells trace) q)
    by (inr (inl (line, q))) = inr (inl (line, ran_of (SaysBadly trace line) q))
    by (inr (inr (line, q))) = inr (inr (
      line,
      (q.lack, subst (λ v. VLacked v order with_state (trace_shape v) trace q.lack all) (p.only_tree q.tree q.taken.spelled) q.lacked, q.line_is),
    ))
