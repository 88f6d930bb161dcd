use Rattle.std.proofs.Common.{List, ℕ, ap, sym, ◌∙◌, subst}
use Rattle.fir_base.specs.Ticks.{FitEach}
use Rattle.ver_ast.specs.Nets.{shape}
use Rattle.ver_sim.specs.working.ShownWords.{words_put}
use Rattle.ver_sim.specs.working.Start.{first_values}
use Rattle.ver_sim.proofs.OutputValues.{outputs_are}
use Rattle.ver_sim.proofs.Starting.{starts, has_start}
use Rattle.ver_sim.proofs.sim.VSim.new.Goals as goal

pub invariant_of-result : goal.invariant_of-result
invariant_of-result c =
    let v = c.args.v in
    let p = c.in_ok-plan.plan in
    let state = c.in_ok-state.state.items in
    let fits : FitEach (shape v).state state = subst (FitEach (shape v).state) (sym (c.in_ok-state.ensures.items ∙ c.words-words.ensures)) c.requires.fits in (
      starts v c.requires.valid p c.in_ok-plan.ensures state fits c.in_ok-values.values.items
          (c.in_ok-values.ensures ∙ ap (λ (ws : List ℕ). words_put p.shown.items ws (first_values v)) (sym c.in_ok-state.ensures.items)),
      outputs_are v p c.in_ok-values.values.items c.in_ok-outputs.outputs.items c.in_ok-plan.ensures c.in_ok-outputs.ensures,
    )

pub returns-clause-start : goal.returns-clause-start
returns-clause-start c =
    let v = c.args.v in
    let p = c.in_ok-plan.plan in
    let state = c.in_ok-state.state.items in
    let fits : FitEach (shape v).state state = subst (FitEach (shape v).state) (sym (c.in_ok-state.ensures.items ∙ c.words-words.ensures)) c.requires.fits in
    has_start v c.requires.valid p c.in_ok-plan.ensures state fits c.in_ok-values.values.items
    (c.in_ok-values.ensures ∙ ap (λ (ws : List ℕ). words_put p.shown.items ws (first_values v)) (sym c.in_ok-state.ensures.items))
