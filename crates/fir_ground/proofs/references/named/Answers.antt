use Rattle.std.proofs.Common.{List, ap, subst, sym, Vec, Global}
use Rattle.fir_types.specs.working.Notes.{reference_note}
use Rattle.fir_leaf.specs.declared.node.Node.{Node}
use Rattle.fir_ground.specs.working.Grounds.{types_in}
use Rattle.fir_ground.specs.working.Indices.{AreIndices, IsPicked, indices_in}
use Rattle.fir_ground.proofs.NamedTargets.{reaches_ahead}
use Rattle.fir_ground.proofs.references.named.Goals as goal

pub returns-in_ok-picked-in-Reference : goal.returns-in_ok-picked-in-Reference
returns-in_ok-picked-in-Reference c =
    let same = ap (λ (v : Vec Node Global). v.items) c.pass_note.ensures.nodes in
    λ typed s r rest enters reaches are.
    let passed = c.pass_note.ensures.ahead (types_in c.args.ground.now) (reference_note typed s) rest enters.ahead in
    reaches_ahead c.args.ground.now typed s r rest c.args.walk.now (record c.pass_note.new.self { nodes = c.picked.new.nodes })
    c.note-item.result c.in-Reference.range
    c.in_ok-picked-in-Reference.field-0 enters reaches c.note-item.is c.in-Reference.is passed c.pass_note.ensures.drivers
    (λ own is. subst (λ (nodes : List Node). IsPicked c.args.ground.now.firsts.now own (indices_in typed s.parts) nodes c.picked.new.nodes.items c.in_ok-picked-in-Reference.field-0) same
    (c.in_ok-picked-in-Reference.ensures own (indices_in typed s.parts) is
    (subst (λ (nodes : List Node). AreIndices nodes c.args.indices.now (indices_in typed s.parts)) (sym same) are)))
