use Rattle.std.proofs.Common.{codes}
use Rattle.ver_ast.specs.AtomForms.{constant_number}
use Rattle.ver_ast.specs.Atoms.{constant}
use Rattle.ver_emit.specs.Layout.{atom_text, edge_text, else_text}
use Rattle.ver_emit.proofs.Grouping.{line_joined}
use Rattle.ver_emit.proofs.block.put_resetting.Goals as goal

pub returns : goal.returns
returns c =
    let b = c.args.block.now in
    line_joined _ _ _ _ _ (codes "  always @(") (edge_text b.edge) (codes "posedge ") b.reset (codes ") if (") b.tested (codes ") ") b.target (codes " <= ")
    (atom_text (constant b.value.width (constant_number b.value))) (codes ";") (else_text b.edge) (codes "\n")
    c.in_ok-put_edges.ensures c.in_ok-put_reset_write.ensures c.in_ok-put_else.ensures c.in_ok-extend_from_slice.ensures.items
