use Rattle.std.proofs.Common.{◌≡◌, ℕ, List, get_or, length, Some, None, refl, sym, ap, ◌∙◌, subst}
use Rattle.std.specs.Prelude.{slice_get}
use Rattle.std.proofs.lemmas.Option.{slice_get_read}
use Rattle.fir_base.proofs.Elements.{there}
use Rattle.fir_net.specs.declared.leaf.Leaf.{Leaf}
use Rattle.fir_net.specs.declared.reads.Read.{Read}
use Rattle.fir_net.specs.working.Dependence.{IsOf}
use Rattle.fir_work.specs.working.Numbers.{place}
use Rattle.fir_tick.specs.declared.steps.Step.{Step}
use Rattle.fir_tick.specs.declared.steps.StepWork.TheVariants as work
use Rattle.fir_tick.specs.working.Steps.{IsLeafWork, IsStepOf, Stays}
use Rattle.fir_tick.proofs.StepTasks.{leaf_stays, leaf_steps, node_steps}
use Rattle.fir_tick.proofs.steps.step_of.Goals as goal
use Rattle.fir_tick.proofs.steps.step_of.Goals.{in-Leaf, in-Node}

pub returns-in-Some : goal.returns-in-Some
returns-in-Some c =
    let net = c.args.net.now in
    let s : Step = record { place = c.place.result; work = c.in-Some.work } in
    elim c.match-read.branch [
      | in-Leaf w ↦
          let k = w.in-Leaf.leaf in
          let l = w.index-as_slice-number.result in
          let is : l ≡ get_or net.leaves k l = w.index-as_slice-number.is ∙ ap (λ (ls : List Leaf). get_or ls w.number.result l) w.as_slice.ensures ∙ ap (λ (j : ℕ). get_or net.leaves j l) w.number.ensures in
          let at : slice_get net.leaves k ≡ Some l = slice_get_read net.leaves (length net.leaves) k l refl (subst (IsOf net) w.in-Leaf.is c.requires.there) is in
          let is_work = subst (IsLeafWork net k l.width l.role) (sym w.work-is ∙ c.in-Some.is) w.leaf_work-work.ensures in
          subst (λ (v : Read). IsStepOf net v s) (sym w.in-Leaf.is) (leaf_steps net k l at s c.in-Some.work is_work (c.place.ensures ∙ ap (place net) w.read-is) refl)
      | in-Node w ↦
          let k = w.in-Node.node in
          let found = there net.nodes k (subst (IsOf net) w.in-Node.is c.requires.there) in
          let given : Some (work.Task w.node_task.result) ≡ Some c.in-Some.work = sym w.work-is ∙ c.in-Some.is in
          let same : c.in-Some.work ≡ work.Task w.node_task.result = cc in
          let is_task = w.node_task.ensures found.0 (ap (slice_get net.nodes) w.number-in-Node.ensures ∙ found.1) in
          subst (λ (v : Read). IsStepOf net v s) (sym w.in-Node.is) (node_steps net k found.0 found.1 w.node_task.result s is_task (c.place.ensures ∙ ap (place net) w.read-is) same)
    ]

pub returns-in-None : goal.returns-in-None
returns-in-None c =
    let net = c.args.net.now in
    elim c.match-read.branch [
      | in-Leaf w ↦
          let k = w.in-Leaf.leaf in
          let l = w.index-as_slice-number.result in
          let is : l ≡ get_or net.leaves k l = w.index-as_slice-number.is ∙ ap (λ (ls : List Leaf). get_or ls w.number.result l) w.as_slice.ensures ∙ ap (λ (j : ℕ). get_or net.leaves j l) w.number.ensures in
          let at : slice_get net.leaves k ≡ Some l = slice_get_read net.leaves (length net.leaves) k l refl (subst (IsOf net) w.in-Leaf.is c.requires.there) is in
          let is_work = subst (IsLeafWork net k l.width l.role) (sym w.work-is ∙ c.in-None.is) w.leaf_work-work.ensures in
          subst (Stays net) (sym w.in-Leaf.is) (leaf_stays net k l at is_work)
      | in-Node w ↦ let given : Some (work.Task w.node_task.result) ≡ None = sym w.work-is ∙ c.in-None.is in absurd (cc)
    ]
