use Rattle.ver_ast.specs.Nets.{arrays, regs}
use Rattle.ver_sim.proofs.WordSpans.{all_spans}
use Rattle.ver_sim.proofs.declarations.spans.Goals as goal

pub returns : goal.returns
returns c =
    all_spans _ _ _ (regs c.args.v.now) (arrays c.args.v.now) c.new-found.ensures.items c.in_ok-put_register_spans.ensures c.in_ok-put_array_spans.ensures
