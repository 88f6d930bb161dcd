use Rattle.std.proofs.Common.{◌+◌, refl, sym, ap, ◌∙◌}
use Rattle.std.proofs.lemmas.List.{length_push}
use Rattle.std.proofs.lemmas.Result.{on_ok_weaker}
use Rattle.fir_meaning.specs.Components.{instance}
use Rattle.fir_meaning.specs.ResetJoins.{numbered_module}
use Rattle.fir_meaning.specs.TypeGroup.{scope_at}
use Rattle.fir_meaning.specs.Visibility.{declaration_at, with_declaration}
use Rattle.fir_meaning.specs.working.LeafedBlocks.{instance_block}
use Rattle.fir_ground.specs.declared.driver.Driver.TheVariants.{Others}
use Rattle.fir_ground.specs.working.DeclarationDrivers.{others}
use Rattle.fir_ground.proofs.PlaceWalks.{comes_none, passed_behind}
use Rattle.fir_ground.proofs.statements.in_instance.Goals as goal

pub returns : goal.returns
returns c = λ place named other modules costs whole before rest enters begins legal cost.
    let f = c.args.frame.now in
    let walk = c.args.walk.now in
    let new = c.declare.new.walk in
    on_ok_weaker c.declare.result
    (λ next.
    passed_behind f (with_declaration before named (instance other.name)) rest (instance_block (scope_at modules before) (numbered_module 0 modules other.name))
    c.args.declared.now c.declare.new.declared walk walk new c.args.out.now.items c.put_instance.new.out.items Others others
    (comes_none f rest walk enters.ahead) next (λ later g. refl)
    (next.counted ∙ ap (λ k. k + 1) enters.counted ∙ sym (length_push before.declared (declaration_at before named (instance other.name))))
    (c.in_ok-put_instance.ensures modules whole before named other.name new.nodes.items
    (record { frames = enters.frames; begins = begins; counted = enters.counted }))) c.declare.ensures
