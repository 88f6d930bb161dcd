-- Operands that were judged.
use Rattle.std.proofs.Common.{◌≡◌, ℕ, List, ◌++◌, refl, sym, ap, ◌∙◌, arith}
use Rattle.std.specs.Prelude.{Option, Some, None}
use Rattle.std.proofs.lemmas.List.{append_assoc}
use Rattle.ver_ast.specs.declared.place.VPlace.{VPlace}
use Rattle.ver_ast.specs.Atoms.{AtomTree, AtomTrees, atom_before}
use Rattle.ver_ast.specs.Grammar.{atom_tokens, next_atom_tokens}
use Rattle.ver_check.specs.Scopes.{Scope}
use Rattle.ver_places.specs.Places.{behind}
use Rattle.ver_check.specs.OperandFaults.{sum_of, atom_bits, atom_faults, joined_bits, joined_faults}
use Rattle.ver_check.specs.declared.operand.Judged.{Judged}
use Rattle.ver_check.specs.working.Judged.{IsAmid, IsBeside, IsJudged}
use Rattle.ver_places.proofs.PlacesBehind.{behind_both}

sum_assoc : (a b c : Option ℕ) → sum_of a (sum_of b c) ≡ sum_of (sum_of a b) c
sum_assoc None b c = refl
sum_assoc (Some a) None c = refl
sum_assoc (Some a) (Some b) None = refl
sum_assoc (Some a) (Some b) (Some c) = ap Some (omega arith)

pub amid_goes_on : (scope : Scope) (before now one next : Judged) (all rest more : AtomTrees) (a : AtomTree)
    → rest ≡ atom_before a more → IsAmid scope before now all rest → IsJudged scope None a now.next.now one → IsBeside now one next
    → IsAmid scope before next all more
amid_goes_on scope before now one next all rest more a is amid judged beside = record {
  bits = λ x e.
      let r = amid.bits x e in (
        sum_of r.0 (atom_bits scope a),
        beside.bits r.0 (atom_bits scope a) r.1 judged.bits,
        r.2 ∙ ap (λ (t : AtomTrees). sum_of r.0 (joined_bits scope t)) is ∙ sum_assoc r.0 (atom_bits scope a) (joined_bits scope more),
      );
  next = amid.next ∙ ap (λ (t : AtomTrees). behind (next_atom_tokens t) now.next.now) is ∙ sym places ∙ ap (behind (next_atom_tokens more)) (sym here);
  fault = λ fs h.
      let r = amid.fault fs h in (
        r.0 ++ atom_faults scope None a now.next.now,
        beside.fault r.0 (atom_faults scope None a now.next.now) r.1 judged.fault,
        r.2 ∙ ap (λ (t : AtomTrees). r.0 ++ joined_faults scope t now.next.now) is
            ∙ sym (append_assoc r.0 (atom_faults scope None a now.next.now) (joined_faults scope more (behind (atom_tokens a) now.next.now)))
            ∙ ap (λ (qs : List VPlace). (r.0 ++ atom_faults scope None a now.next.now) ++ joined_faults scope more qs) (sym here),
      );
}
  where
    here : next.next.now ≡ behind (atom_tokens a) now.next.now
    here = beside.next ∙ judged.next

    places : behind (next_atom_tokens more) (behind (atom_tokens a) now.next.now) ≡ behind (next_atom_tokens (atom_before a more)) now.next.now
    places = behind_both (atom_tokens a) (next_atom_tokens more) now.next.now
