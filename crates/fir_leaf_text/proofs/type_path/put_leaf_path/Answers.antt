use Rattle.std.proofs.Common.{Option, ℕ, subst}
use Rattle.fir_type_table.specs.declared.kind.TypeId.{TypeId}
use Rattle.fir_type_table.specs.working.Tables.{types_of}
use Rattle.fir_leaf_text.specs.working.TypePaths.{IsStep}
use Rattle.fir_leaf_text.proofs.PathSteps.{nothing_by, step_ends, step_on}
use Rattle.fir_leaf_text.proofs.type_path.put_leaf_path.Goals as goal

pub loop-inner-preserved : goal.loop-inner-preserved
loop-inner-preserved c =
    let ts = types_of c.args.table.now in
    let id = c.loop-inner.part in
    let mid = c.loop-inner.path.items in
    let new = c.put_step.new.path.items in
    let step =
    subst (λ (o : Option (TypeId × ℕ)). IsStep ts id c.loop-inner.number mid new o) c.in-Some.is c.in_ok-inner.ensures in
    record {
      fits = step.1;
      left = λ path there.
          step_on ts id c.loop-inner.number c.args.path.now.items mid new path (c.loop-inner.invariant.left path there) c.in-Some.inner c.in-Some.inside step;
    }

pub returns : goal.returns
returns c = λ path there.
    let ts = types_of c.args.table.now in
    let id = c.loop-inner.part in
    let mid = c.loop-inner.path.items in
    let new = c.put_step.new.path.items in
    let ends =
    subst (λ (o : Option (TypeId × ℕ)). IsStep ts id c.loop-inner.number mid new o) (nothing_by c.in_ok-inner.field-0 c.in_default.not-Some)
    c.in_ok-inner.ensures in
    step_ends ts id c.loop-inner.number c.args.path.now.items mid new path (c.loop-inner.invariant.left path there) ends
