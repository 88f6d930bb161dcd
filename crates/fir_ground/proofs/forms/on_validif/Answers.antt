use Rattle.std.proofs.Common.{ap, Vec, Global}
use Rattle.fir_leaf.specs.declared.node.Node.{Node}
use Rattle.fir_ground.specs.working.Grounds.{types_in}
use Rattle.fir_ground.proofs.Coming.{form_expands}
use Rattle.fir_ground.proofs.forms.on_validif.Goals as goal

pub returns : goal.returns
returns c =
    let same = ap (λ (v : Vec Node Global). v.items) c.pass_note.ensures.nodes in
    let gives = rw same at c.in_ok-validif_all.ensures in
    λ scene note rest ahead condition values.
    form_expands scene rest c.args.walk.now (record c.pass_note.new.self { nodes = c.validif_all.new.nodes }) c.in_ok-validif_all.field-0.items _
    (c.pass_note.ensures.ahead (types_in scene) note rest ahead) c.pass_note.ensures.drivers (gives condition values)
