use Rattle.std.proofs.Common.{sym, subst}
use Rattle.ver_ast.specs.Nets.{nets, arrays}
use Rattle.ver_ast.specs.SoundSides.{IsSoundSide}
use Rattle.ver_sim.specs.declared.work.Work.{Work}
use Rattle.ver_sim.specs.declared.work.Work.TheVariants as work
use Rattle.ver_sim.specs.working.WorksOf.{IsWorkOf}
use Rattle.ver_sim.proofs.OperandPieces.{sound_narrow}
use Rattle.ver_sim.proofs.WorkForms.{atom_work, unary_work, binary_work, signed_work, shift_work, choose_work, word_work}
use Rattle.ver_sim.proofs.ProcessTasks.{alike, array_named}
use Rattle.ver_sim.proofs.processes.work_of.Goals as goal

pub returns-in_ok-a-in-Atom : goal.returns-in_ok-a-in-Atom
returns-in_ok-a-in-Atom c v k le s =
    let side = subst (IsSoundSide (nets v) (arrays v) c.args.width) c.in-Atom.is s in
    let a = c.in_ok-a-in-Atom.a in
    subst (IsWorkOf v (work.Show a.operand) c.args.width) (sym c.in-Atom.is)
    (atom_work v c.in-Atom.a a c.args.width (c.in_ok-a-in-Atom.ensures v k side.operands.0.sound))

pub returns-in_ok-a-in-Unary : goal.returns-in_ok-a-in-Unary
returns-in_ok-a-in-Unary c v k le s =
    let side = subst (IsSoundSide (nets v) (arrays v) c.args.width) c.in-Unary.is s in
    let a = c.in_ok-a-in-Unary.a in
    let sound = side.operands.0.sound in
    subst (IsWorkOf v (work.Unary c.in-Unary.op a.width a.operand) c.args.width) (sym c.in-Unary.is)
    (unary_work v c.in-Unary.op c.in-Unary.a a c.args.width (c.in_ok-a-in-Unary.ensures v k sound) (sound_narrow v k.valid c.in-Unary.a sound))

pub returns-in_ok-a-in-Binary : goal.returns-in_ok-a-in-Binary
returns-in_ok-a-in-Binary c v k le s =
    let side = subst (IsSoundSide (nets v) (arrays v) c.args.width) c.in-Binary.is s in
    let a = c.in_ok-a-in-Binary.a in
    let b = c.in_ok-a-in-Binary.b in
    subst (IsWorkOf v (work.Binary c.in-Binary.op c.args.width a.operand b.operand) c.args.width) (sym c.in-Binary.is)
    (binary_work v c.in-Binary.op c.in-Binary.a c.in-Binary.b a b c.args.width (c.in_ok-a-in-Binary.ensures.first v k side.operands.0.sound)
    (c.in_ok-a-in-Binary.ensures.second v k side.operands.1.0.sound) le)

pub returns-in_ok-a-in-Signed : goal.returns-in_ok-a-in-Signed
returns-in_ok-a-in-Signed c v k le s =
    let side = subst (IsSoundSide (nets v) (arrays v) c.args.width) c.in-Signed.is s in
    let a = c.in_ok-a-in-Signed.a in
    let b = c.in_ok-a-in-Signed.b in
    let sound = side.operands.0.sound in
    subst (IsWorkOf v (work.Signed c.in-Signed.op a.width a.operand b.operand) c.args.width) (sym c.in-Signed.is)
    (signed_work v c.in-Signed.op c.in-Signed.a c.in-Signed.b a b c.args.width (c.in_ok-a-in-Signed.ensures.first v k sound) (c.in_ok-a-in-Signed.ensures.second v k side.operands.1.0.sound)
    (sound_narrow v k.valid c.in-Signed.a sound) (alike c.in-Signed.op c.args.width _ _ side.widths))

pub returns-in_ok-a-in-SignedShift : goal.returns-in_ok-a-in-SignedShift
returns-in_ok-a-in-SignedShift c v k le s =
    let side = subst (IsSoundSide (nets v) (arrays v) c.args.width) c.in-SignedShift.is s in
    let a = c.in_ok-a-in-SignedShift.a in
    let b = c.in_ok-a-in-SignedShift.b in
    let sound = side.operands.0.sound in
    subst (IsWorkOf v (work.SignedShift a.width c.args.width a.operand b.operand) c.args.width) (sym c.in-SignedShift.is)
    (shift_work v c.in-SignedShift.a c.in-SignedShift.b a b c.args.width (c.in_ok-a-in-SignedShift.ensures.first v k sound)
    (c.in_ok-a-in-SignedShift.ensures.second v k side.operands.1.0.sound) (sound_narrow v k.valid c.in-SignedShift.a sound) le)

pub returns-in_ok-a-in-Conditional : goal.returns-in_ok-a-in-Conditional
returns-in_ok-a-in-Conditional c v k le s =
    let side = subst (IsSoundSide (nets v) (arrays v) c.args.width) c.in-Conditional.is s in
    let q = c.in_ok-condition-in-Conditional.condition in
    let a = c.in_ok-a-in-Conditional.a in
    let b = c.in_ok-a-in-Conditional.b in
    subst (IsWorkOf v (work.Choose q.operand a.operand b.operand) c.args.width) (sym c.in-Conditional.is)
    (choose_work v c.in-Conditional.condition c.in-Conditional.a c.in-Conditional.b q a b c.args.width
    (c.in_ok-condition-in-Conditional.ensures v k side.operands.0.sound) (c.in_ok-a-in-Conditional.ensures.first v k side.operands.1.0.sound)
    (c.in_ok-a-in-Conditional.ensures.second v k side.operands.1.1.0.sound))

pub returns-in_ok-index-in-Word : goal.returns-in_ok-index-in-Word
returns-in_ok-index-in-Word c v k le s =
    let side = subst (IsSoundSide (nets v) (arrays v) c.args.width) c.in-Word.is s in
    let index = c.in_ok-index-in-Word.index in
    let array = side.widths in
    let span = c.span.ensures v k (array_named v array.0 array.1 c.in-Word.array array.2) in
    subst (λ (w : Work). IsWorkOf v w c.args.width c.args.rhs.now) (sym c.word_of.ensures)
    (subst (IsWorkOf v (work.Word c.span.result.base c.span.result.depth index.operand) c.args.width) (sym c.in-Word.is)
    (word_work v c.in-Word.array c.in-Word.index index c.span.result c.args.width (c.in_ok-index-in-Word.ensures v k side.operands.0.sound) span))
