use Rattle.std.proofs.Common.{◌≤◌, ap, sym, ◌∙◌, arith}
use Rattle.ver_ast.specs.AtomForms.{atom_of}
use Rattle.ver_ast.specs.Atoms.{atoms_of}
use Rattle.ver_ast.specs.working.AtomSizes.{atom_size, atoms_size}
use Rattle.ver_sim.specs.declared.piece.Piece.TheVariants as piece
use Rattle.ver_sim.proofs.ReadForms.{item_size, put_form, net_piece, constant_piece, bit_piece, part_piece}
use Rattle.ver_sim.proofs.read.+atoms.Goals as goal

pub put_more_pieces-put_pieces-requires : goal.put_more_pieces-put_pieces-requires
put_more_pieces-put_pieces-requires t c =
    let a = c.atom-item.result in
    let small = item_size c.args.atoms.now c.loop-atom.atom-index a c.loop-atom-test.true in
    let here : atom_size a ≤ atoms_size (atoms_of c.args.atoms.now) = rw c.atom-item.is small in
    (omega (arith, c.decreases), tt)

pub put_pieces-returns-in-Net : goal.put_pieces-returns-in-Net
put_pieces-returns-in-Net t c =
    put_form c.put_piece.result _ _ (piece.Part c.place-net.result 0 c.width-width.result) c.args.atom.now _ c.args.tables.now (sym (ap atom_of c.in-Net.is) ∙ c.atom.view_is)
    (net_piece c.args.tables.now c.in-Net.name c.place-net.result c.width-width.result c.place-net.ensures c.width-width.ensures) c.put_piece.ensures

pub put_pieces-returns-in-Constant : goal.put_pieces-returns-in-Constant
put_pieces-returns-in-Constant t c =
    put_form c.put_piece-in-Constant.result _ _ (piece.Number c.number_of-number.result c.in-Constant.constant.width) c.args.atom.now _ c.args.tables.now
    (sym (ap atom_of c.in-Constant.is) ∙ c.atom.view_is)
    (λ v k s. constant_piece c.in-Constant.constant c.number_of-number.result c.number_of-number.ensures v s) c.put_piece-in-Constant.ensures

pub put_pieces-returns-in-BitSelect : goal.put_pieces-returns-in-BitSelect
put_pieces-returns-in-BitSelect t c =
    put_form c.put_piece-in-BitSelect.result _ _ (piece.Part c.place-net-in-BitSelect.result c.in-BitSelect.index 1) c.args.atom.now _ c.args.tables.now
    (sym (ap atom_of c.in-BitSelect.is) ∙ c.atom.view_is)
    (bit_piece c.args.tables.now c.in-BitSelect.name c.place-net-in-BitSelect.result c.in-BitSelect.index c.place-net-in-BitSelect.ensures) c.put_piece-in-BitSelect.ensures

pub put_pieces-returns-in-PartSelect : goal.put_pieces-returns-in-PartSelect
put_pieces-returns-in-PartSelect t c =
    put_form c.put_piece-in-PartSelect.result _ _ (piece.Part c.place-net-in-PartSelect.result c.in-PartSelect.low c.saturating_add-width.result) c.args.atom.now _ c.args.tables.now
    (sym (ap atom_of c.in-PartSelect.is) ∙ c.atom.view_is)
    (part_piece c.args.tables.now c.in-PartSelect.name c.place-net-in-PartSelect.result c.in-PartSelect.high c.in-PartSelect.low c.saturating_sub.result c.saturating_add-width.result
    c.place-net-in-PartSelect.ensures c.saturating_sub.ensures c.saturating_add-width.ensures) c.put_piece-in-PartSelect.ensures
