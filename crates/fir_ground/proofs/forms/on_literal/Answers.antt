use Rattle.std.proofs.Common.{refl, ap, Vec, Global}
use Rattle.fir_leaf.specs.declared.node.Node.{Node}
use Rattle.fir_leaf.specs.declared.node.Node.TheVariants as node
use Rattle.fir_meaning.specs.working.Terms.{literal}
use Rattle.fir_ground.specs.working.Grounds.{types_in}
use Rattle.fir_ground.proofs.Coming.{form_expands}
use Rattle.fir_leaf_pairs.proofs.Giving.{gives_one, shows_new}
use Rattle.fir_ground.proofs.forms.on_literal.Goals as goal

pub returns : goal.returns
returns c =
    let same = ap (λ (v : Vec Node Global). v.items) c.pass_note.ensures.nodes in
    let place = rw same at c.in_ok-id.ensures.place in
    let added = rw same at c.in_ok-id.ensures.added in
    let old = c.args.walk.now.nodes.items in
    let new = c.add.new.nodes.items in
    let l = c.args.literal.now in
    λ scene note rest ahead.
    form_expands scene rest c.args.walk.now (record c.pass_note.new.self { nodes = c.add.new.nodes }) c.in_ok-one.field-0.items _
    (c.pass_note.ensures.ahead (types_in scene) note rest ahead) c.pass_note.ensures.drivers
    (gives_one old new c.in_ok-id.id (literal l) c.in_ok-one.field-0.items (shows_new old new (node.Literal l) c.in_ok-id.id (literal l) place added refl) c.in_ok-one.ensures)
