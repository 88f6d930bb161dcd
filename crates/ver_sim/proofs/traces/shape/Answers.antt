use Rattle.std.proofs.Common.{◌≡◌}
use Rattle.std.specs.Prelude.{Option, IfSome}
use Rattle.std.proofs.lemmas.Result.{IfOk-weaker}
use Rattle.trace_text.specs.Shapes.{TraceShape, plain}
use Rattle.ver_ast.specs.Nets.{shape}
use Rattle.ver_sim.specs.TraceShapes.{trace_shape}
use Rattle.ver_sim.proofs.NamedShapes.{named_shape}
use Rattle.ver_sim.proofs.TraceWidths.{some_plain}
use Rattle.ver_sim.proofs.traces.shape.Goals as goal

pub returns-clause-plain : goal.returns-clause-plain
returns-clause-plain c =
    let v = c.args.v.now in
    IfOk-weaker c.collected.result (λ (o : Option TraceShape). IfSome o (λ s. s ≡ trace_shape v)) (λ (o : Option TraceShape). IfSome o (λ s. plain s ≡ shape v)) (λ o h. some_plain v o h)
    c.collected.ensures.shape

pub returns-clause-none : goal.returns-clause-none
returns-clause-none c e names = c.collected.ensures.none e (named_shape c.args.v.now c.requires names)
