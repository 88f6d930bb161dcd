-- A text that is refused for a fault spells no valid tree.
use Rattle.std.proofs.Common.{◌≡◌, ℕ, List, [], ◌∷◌, inl, inr, refl, sym, subst, ◌⊎◌}
use Rattle.ver_ast.specs.declared.tree.Verilog.{Verilog}
use Rattle.ver_ast.specs.Processes.{Process}
use Rattle.ver_ast.specs.Valid.{IsOrder}
use Rattle.ver_ast.specs.working.Laws.{SpellsOneTree}
use Rattle.ver_fault.specs.Faults.{VFault}
use Rattle.ver_parse.specs.working.Laws.{NoTreeBesideAFault, SpellsTree}
use Rattle.ver_check.specs.working.Laws.{FaultlessIsValid, ValidIsShallow}
use Rattle.ver_check.specs.TreeFaults.{misfits, undriven}
use Rattle.ver_loop.specs.working.Laws.{LoopsHaveNoOrder}
use Rattle.ver_read.specs.Reads.{IsTextOf, IsTreeFault, IsFaultOf}
use Rattle.ver_read.specs.working.Laws.{RefusedIsNotValid}
use Rattle.ver_read.proofs.ShallowTexts.{tokens_are_shallow}

module _ (one : SpellsOneTree) (faultless : FaultlessIsValid) (shallow : ValidIsShallow) (no_walk : LoopsHaveNoOrder) (no_tree : NoTreeBesideAFault) where
  clear : (v : Verilog) (f : VFault) → (misfits v ≡ []) × (undriven v ≡ []) × ((order : List Process) × IsOrder v order) → IsTreeFault v f → ⊥
  clear v f h (inl first) = let some : misfits v ≡ f ∷ first.0 = first.1 in let none = h.0 in absurd (cc)
  clear v f h (inr (inl (fits, first))) = let some : undriven v ≡ f ∷ first.0 = first.1 in let none = h.1 in absurd (cc)
  clear v f h (inr (inr (fits, driven, walk))) = no_walk v fits driven f walk h.2.0 h.2.1

  -- the tokens of a valid tree are those of a tree within the limit
  spells : (bytes : List ℕ) (v : Verilog) → IsTextOf bytes v → SpellsTree bytes v
  spells bytes v text = record {
    tokens = text.spelled.tokens;
    of_text = text.spelled.of_text;
    spells = record { tokens_are = text.spelled.tokens_are; names = text.spelled.names; numbers = text.spelled.numbers };
    shallow = tokens_are_shallow v text.spelled.tokens text.spelled.tokens_are (shallow v text.valid);
  }

  pub refused_is_not_valid : RefusedIsNotValid
  refused_is_not_valid bytes f v (inl fault) text = no_tree bytes v f (spells bytes v text) fault
  refused_is_not_valid bytes f v (inr (u, tree, shows)) text =
      clear v f ((faultless v (shallow v text.valid)).1 text.valid)
      (subst (λ x. IsTreeFault x f) (one bytes u v tree.spelled text.spelled) shows)
