use Rattle.std.proofs.Common.{◌≡◌, map, sym, ap, subst, ◌∙◌}
use Rattle.fir_ast.specs.Circuits.{ModuleTree}
use Rattle.fir_ast.specs.working.Views.{block_of, port_of, stmt_of}
use Rattle.fir_infer_widths.proofs.ModuleWalks.{BlockWalks, PortsWalk, module_comes}
use Rattle.fir_infer_widths.proofs.module.in_module.Goals as goal

pub returns : goal.returns
returns c = λ k m meant rules rest is enters legal.
    let g = c.args.ground.now in
    let old = c.args.walk.now in
    let middle = c.in_ports.new.walk in
    let new = c.in_block.new.walk in
    let first : map port_of c.deref.result.now ≡ m.inside.ports = ap (map port_of) c.deref.ensures.value ∙ sym (ap (λ (x : ModuleTree). x.ports) is) in
    let second : block_of (map stmt_of c.deref-2.result.now) ≡ m.inside.body =
    ap (λ xs. block_of (map stmt_of xs)) c.deref-2.ensures.value ∙ sym (ap (λ (x : ModuleTree). x.body) is) in
    module_comes k g m meant rules rest old middle new c.in_block.result enters legal
    (subst (λ ps. PortsWalk k g m ps old middle) first (c.in_ok-in_ports.ensures k m))
    (subst (λ b. BlockWalks k g m b middle new c.in_block.result) second (c.in_block.ensures k m))
