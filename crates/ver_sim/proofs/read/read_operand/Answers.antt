use Rattle.std.proofs.Common.{ap, sym, ◌∙◌, subst}
use Rattle.ver_ast.specs.AtomForms.{atom_of}
use Rattle.ver_ast.specs.Atoms.{AtomTree}
use Rattle.ver_ast.specs.Nets.{nets}
use Rattle.ver_ast.specs.SoundSides.{IsSound}
use Rattle.ver_sim.specs.declared.operand.Operand.TheVariants as operand
use Rattle.ver_sim.specs.working.Reads.{IsReadOf}
use Rattle.ver_sim.proofs.ReadForms.{net_read, constant_read}
use Rattle.ver_sim.proofs.read.read_operand.Goals as goal

pub returns-in-Net : goal.returns-in-Net
returns-in-Net c v k s =
    let e = sym (ap atom_of c.in-Net.is) ∙ c.atom.view_is in
    subst (λ (a : AtomTree). IsReadOf v (record { operand = operand.Net c.place.result; width = c.width.result }) a) e
    (net_read c.args.tables.now c.in-Net.name c.place.result c.width.result c.place.ensures c.width.ensures v k (subst (IsSound (nets v)) (sym e) s))

pub returns-in-Constant : goal.returns-in-Constant
returns-in-Constant c v k s =
    let e = sym (ap atom_of c.in-Constant.is) ∙ c.atom.view_is in
    subst (λ (a : AtomTree). IsReadOf v (record { operand = operand.Constant c.number_of.result; width = c.in-Constant.constant.width }) a) e
    (constant_read c.in-Constant.constant c.number_of.result c.number_of.ensures v (subst (IsSound (nets v)) (sym e) s))
