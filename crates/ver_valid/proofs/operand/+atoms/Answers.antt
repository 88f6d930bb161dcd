use Rattle.std.proofs.Common.{◌≡◌, ℕ, zero, suc, ◌<◌, ◌≤◌, List, [], ◌∷◌, length, drop, get_or, ◌+◌, refl, sym, ap, ◌∙◌, subst, add-one, arith}
use Rattle.std.proofs.Math.Seq.{drop-cons}
use Rattle.std.proofs.Math.ListN.{drop_of_length-le}
use Rattle.std.specs.Prelude.{Result}
use Rattle.std.specs.Result.{IsErrAnd}
use Rattle.fir_base.specs.declared.refused.Refused.{Refused}
use Rattle.ver_ast.specs.declared.tree.AtomForm.{AtomForm}
use Rattle.ver_ast.specs.AtomForms.{atom_of}
use Rattle.ver_valid.specs.declared.misfit.Misfit.{Misfit}
use Rattle.ver_valid.proofs.Judging.{given_err}
use Rattle.ver_ast.specs.Atoms.{AtomTree, atoms_of, atom_before}
use Rattle.ver_ast.specs.Nets.{SizedNet, nets}
use Rattle.ver_ast.specs.working.AtomSizes.{atom_size, atoms_size}
use Rattle.ver_valid.specs.working.Judgement.{Denies, Gives}
use Rattle.ver_valid.specs.working.Operands.{IsWithin, AreJoined}
use Rattle.ver_valid.proofs.OperandForms.{net_form, constant_form, bit_form, part_form, concat_braces, repeat_braces, joined_none, joined_part, joined_sum, joined_more}
use Rattle.ver_valid.proofs.operand.+atoms.Goals as goal

-- an operand of a list is no larger than the list
item_size : (atoms : List AtomTree) (i : ℕ) (d : AtomTree) → i < length atoms → atom_size (get_or atoms i d) ≤ atoms_size (atoms_of atoms)
item_size [] i d h = absurd (omega arith)
item_size (a ∷ more) zero d h = omega arith
item_size (a ∷ more) (suc i) d h = omega (arith, item_size more i d (omega arith))

pub joined_width-atom_width-requires : goal.joined_width-atom_width-requires
joined_width-atom_width-requires t c =
    let a = c.atom-item.result in
    let small = item_size c.args.atoms.now c.loop-atom.atom-index a c.loop-atom-test.true in
    let here : atom_size a ≤ atoms_size (atoms_of c.args.atoms.now) = rw c.atom-item.is small in
    (omega (arith, c.decreases), tt)

module _ (ns : List SizedNet) (braces : ℕ) (f g : AtomForm) (a : AtomTree) (form : f ≡ g) (view : atom_of f ≡ a) where
  abbrev as_form : atom_of g ≡ a
  as_form = sym (ap atom_of form) ∙ view

  -- what is given for the form is given for the operand
  of_form : (r : Result ℕ (Refused Misfit)) → Gives r (IsWithin ns braces (atom_of g)) → Gives r (IsWithin ns braces a)
  of_form r h = subst (λ (x : AtomTree). Gives r (IsWithin ns braces x)) as_form h

  of_form_err : (r : Result ℕ (Refused Misfit)) (e : Refused Misfit) → IsErrAnd r (λ x. x ≡ e) → Denies e ((u : ℕ) × IsWithin ns braces (atom_of g) u)
      → Gives r (IsWithin ns braces a)
  of_form_err r e h d = of_form r (given_err r e (IsWithin ns braces (atom_of g)) h d)

pub atom_width-returns-in-Net : goal.atom_width-returns-in-Net
atom_width-returns-in-Net t c =
    λ v told. of_form (nets v) c.args.braces _ _ c.args.atom.now c.in-Net.is c.atom.view_is c.net.result
    (net_form c.args.scope.now v told c.args.braces c.net.result c.in-Net.name (c.net.ensures v told))

pub atom_width-returns-in-Constant : goal.atom_width-returns-in-Constant
atom_width-returns-in-Constant t c =
    λ v told. of_form (nets v) c.args.braces _ _ c.args.atom.now c.in-Constant.is c.atom.view_is c.constant_width.result
    (constant_form c.args.scope.now v told c.args.braces c.constant_width.result c.in-Constant.constant c.constant_width.ensures)

pub atom_width-returns-in-BitSelect : goal.atom_width-returns-in-BitSelect
atom_width-returns-in-BitSelect t c =
    λ v told. of_form (nets v) c.args.braces _ _ c.args.atom.now c.in-BitSelect.is c.atom.view_is c.part_width.result
    (bit_form c.args.scope.now v told c.args.braces c.part_width.result c.in-BitSelect.name c.in-BitSelect.index (c.part_width.ensures v told))

pub atom_width-returns-in-PartSelect : goal.atom_width-returns-in-PartSelect
atom_width-returns-in-PartSelect t c =
    λ v told. of_form (nets v) c.args.braces _ _ c.args.atom.now c.in-PartSelect.is c.atom.view_is c.part_width-in-PartSelect.result
    (part_form c.args.scope.now v told c.args.braces c.part_width-in-PartSelect.result c.in-PartSelect.name c.in-PartSelect.high c.in-PartSelect.low
    (c.part_width-in-PartSelect.ensures v told))

pub atom_width-returns-in_err-braces-in-Concat : goal.atom_width-returns-in_err-braces-in-Concat
atom_width-returns-in_err-braces-in-Concat t c =
    λ v told. of_form_err (nets v) c.args.braces _ _ c.args.atom.now c.in-Concat.is c.atom.view_is c.from_residual.result _ c.from_residual.ensures.1
    (concat_braces (nets v) c.args.braces c.in-Concat.first.value (atoms_of c.in-Concat.rest.items) _ c.in_err-braces-in-Concat.ensures)

pub atom_width-returns-in_err-braces-in-Repeat : goal.atom_width-returns-in_err-braces-in-Repeat
atom_width-returns-in_err-braces-in-Repeat t c =
    λ v told. of_form_err (nets v) c.args.braces _ _ c.args.atom.now c.in-Repeat.is c.atom.view_is c.from_residual-in_err-braces-in-Repeat.result _
    c.from_residual-in_err-braces-in-Repeat.ensures.1
    (repeat_braces (nets v) c.args.braces c.in-Repeat.count c.in-Repeat.copied.value _ c.in_err-braces-in-Repeat.ensures)

-- the operands from one on
next_atoms : (atoms : List AtomTree) (i : ℕ) (d : AtomTree) → i < length atoms → d ≡ get_or atoms i d
    → atoms_of (drop i atoms) ≡ atom_before d (atoms_of (drop (i + 1) atoms))
next_atoms atoms i d h is = ap atoms_of (drop-cons atoms i d h) ∙ rw (sym is, add-one) refl

pub joined_width-loop-atom-init : goal.joined_width-loop-atom-init
joined_width-loop-atom-init t c = (omega arith, λ v told. record { ahead = λ w. w; behind = λ w. w; sum = omega arith })

pub joined_width-returns-in_err-next : goal.joined_width-returns-in_err-next
joined_width-returns-in_err-next t c =
    λ v told. given_err c.from_residual.result _ (AreJoined (nets v) c.args.braces (atoms_of c.args.atoms.now)) c.from_residual.ensures.1
    (joined_part (nets v) c.args.braces (atoms_of c.args.atoms.now) c.atom-item.result (atoms_of (drop (c.loop-atom.atom-index + 1) c.args.atoms.now))
    (atoms_of (drop c.loop-atom.atom-index c.args.atoms.now)) c.loop-atom.width
    (next_atoms c.args.atoms.now c.loop-atom.atom-index c.atom-item.result c.loop-atom-test.true c.atom-item.is)
    (c.loop-atom.invariant.1 v told) _ (c.in_err-next.ensures v told))

pub joined_width-returns-in_err-width : goal.joined_width-returns-in_err-width
joined_width-returns-in_err-width t c =
    λ v told. given_err c.from_residual-in_err-width.result _ (AreJoined (nets v) c.args.braces (atoms_of c.args.atoms.now))
    c.from_residual-in_err-width.ensures.1
    (joined_sum (nets v) c.args.braces (atoms_of c.args.atoms.now) c.atom-item.result (atoms_of (drop (c.loop-atom.atom-index + 1) c.args.atoms.now))
    (atoms_of (drop c.loop-atom.atom-index c.args.atoms.now)) c.loop-atom.width
    (next_atoms c.args.atoms.now c.loop-atom.atom-index c.atom-item.result c.loop-atom-test.true c.atom-item.is)
    (c.loop-atom.invariant.1 v told) _ c.in_ok-next.next (c.in_ok-next.ensures v told).0 c.in_err-width.ensures)

pub joined_width-loop-atom-preserved : goal.joined_width-loop-atom-preserved
joined_width-loop-atom-preserved t c = (
  c.in_ok-width.ensures.0.1,
  λ v told. joined_more (nets v) c.args.braces (atoms_of c.args.atoms.now) c.atom-item.result (atoms_of (drop (c.loop-atom.atom-index + 1) c.args.atoms.now))
      (atoms_of (drop c.loop-atom.atom-index c.args.atoms.now)) c.loop-atom.width
      (next_atoms c.args.atoms.now c.loop-atom.atom-index c.atom-item.result c.loop-atom-test.true c.atom-item.is)
      (c.loop-atom.invariant.1 v told) c.in_ok-next.next _ (c.in_ok-next.ensures v told).0 c.in_ok-width.ensures.0.0,
)

pub joined_width-returns : goal.joined_width-returns
joined_width-returns t c =
    λ v told. joined_none (nets v) c.args.braces (atoms_of c.args.atoms.now) (atoms_of (drop c.loop-atom.atom-index c.args.atoms.now)) c.loop-atom.width
    (ap atoms_of (drop_of_length-le c.args.atoms.now (omega arith))) (c.loop-atom.invariant.1 v told) c.loop-atom.invariant.0
