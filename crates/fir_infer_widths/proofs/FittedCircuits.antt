-- The least widths of the bounds that the walk over a circuit has made are those of its expressions, and the faults of its spots those of the circuit.
use Rattle.std.proofs.Common.{◌≡◌, ℕ, List, [], ◌∷◌, ◌++◌, length, flat_map, Some, sym, ap, ◌∙◌}
use Rattle.fir_base.proofs.Writes.{push_left}
use Rattle.fir_bits.specs.working.Laws.{Monotone}
use Rattle.fir_base.specs.declared.refused.Refused.{Refused}
use Rattle.fir_base.specs.declared.refused.Refused.TheVariants as refused
use Rattle.fir_ast.specs.declared.fault.FirFault.{FirFault}
use Rattle.fir_ast.specs.Types.{DataType}
use Rattle.fir_ast.specs.Circuits.{CircuitTree}
use Rattle.fir_ast.specs.Faults.{Fault}
use Rattle.fir_ast.specs.working.CodeFaults.{fault_of}
use Rattle.fir_pass.specs.Groups.{first_of}
use Rattle.fir_pass.specs.working.Law.{IfFaulty}
use Rattle.fir_meaning.specs.WidthExpressions.{Width, Widths}
use Rattle.fir_meaning.specs.WidthRules.{rules, AreWidths}
use Rattle.fir_meaning.specs.OverFaults.{over_faults}
use Rattle.fir_meaning.specs.LegalFaults.{legal_faults}
use Rattle.fir_meaning.proofs.LeastRules.{has_least}
use Rattle.fir_types.specs.working.Judged.{IsFirstOf}
use Rattle.fir_infer_widths.specs.declared.circuit.Walked.{Walked}
use Rattle.fir_least_widths.specs.working.Bounds.{BoundsWithin, IsLeast}
use Rattle.fir_meaning.specs.working.AssignedWidths.{assigned}
use Rattle.fir_width.specs.working.DeclaredWidths.{leaf_widths}
use Rattle.fir_infer_widths.specs.working.Numbered.{Agrees}
use Rattle.fir_infer_widths.specs.working.SpotFaults.{over_at, legal_at}
use Rattle.fir_infer_widths.specs.working.Circuits.{IsWalked}
use Rattle.fir_width.specs.working.Fitting.{HasWidths, IsFirstWidthFault}
use Rattle.fir_infer_widths.proofs.ArenaAgrees.{arena_agrees, within}
use Rattle.fir_infer_widths.proofs.SpotsOfCircuit.{spots_over, spots_legal}

-- the fault is the first of the list, unless memory was wanted
told : (c : CircuitTree) (fs : List Fault) (e : Refused FirFault) → ((f : Fault) → first_of fs ≡ Some f → IsFirstWidthFault c f) → IsFirstOf fs e
    → IfFaulty e (λ f. IsFirstWidthFault c (fault_of f))
told c fs (refused.Fault f) first h = first (fault_of f) h
told c fs refused.Memory first h = tt

module _ (c : CircuitTree) (ts : List DataType) (walked : Walked) (is : IsWalked c ts walked) where
  abbrev meant : List Width
  meant = leaf_widths c ++ is.more

  pub bounds_within : (n : ℕ) → n ≡ length meant → BoundsWithin walked.arena.bounds.items n
  bounds_within n e = rw e (within meant (rules c) walked.arena.bounds.items is.keeps.bounds)

  module _ (m : Monotone) (found : List ℕ) (least : IsLeast walked.arena.bounds.items (assigned found)) where
    abbrev widths : Widths
    widths = (has_least m (rules c)).0

    are : AreWidths c widths
    are = (has_least m (rules c)).1

    agrees : Agrees meant widths (assigned found)
    agrees = arena_agrees m meant (rules c) walked.arena.bounds.items (assigned found) widths is.keeps.bounds least are

    over : flat_map (over_at ts (assigned found)) walked.spots.items ≡ over_faults c widths
    over = spots_over c ts meant widths (assigned found) agrees walked.spots.items is.are

    legal : flat_map (legal_at ts (assigned found)) walked.spots.items ≡ legal_faults c widths
    legal = spots_legal c ts meant widths (assigned found) agrees walked.spots.items is.are

    pub fits : flat_map (over_at ts (assigned found)) walked.spots.items ≡ [] → flat_map (legal_at ts (assigned found)) walked.spots.items ≡ [] → HasWidths c found
    fits p q = record {
      fits = record { widths = widths; are = are; over = sym over ∙ p; legal = sym legal ∙ q };
      each = λ number e h. agrees number e (push_left (leaf_widths c) is.more number e h);
    }

    first_over : (f : Fault) → first_of (flat_map (over_at ts (assigned found)) walked.spots.items) ≡ Some f → IsFirstWidthFault c f
    first_over f h = record { widths = widths; are = are; first = in_front (over_faults c widths) (sym (ap first_of over) ∙ h) }
      where
        in_front : (fs : List Fault) → first_of fs ≡ Some f → first_of (fs ++ legal_faults c widths) ≡ Some f
        in_front [] e = cc
        in_front (g ∷ fs) e = e

    first_illegal : (f : Fault) → flat_map (over_at ts (assigned found)) walked.spots.items ≡ []
        → first_of (flat_map (legal_at ts (assigned found)) walked.spots.items) ≡ Some f → IsFirstWidthFault c f
    first_illegal f none h =
        record { widths = widths; are = are; first = ap (λ fs. first_of (fs ++ legal_faults c widths)) (sym over ∙ none) ∙ (sym (ap first_of legal) ∙ h) }

    pub told_over : (e : Refused FirFault) → IsFirstOf (flat_map (over_at ts (assigned found)) walked.spots.items) e
        → IfFaulty e (λ f. IsFirstWidthFault c (fault_of f))
    told_over e h = told c (flat_map (over_at ts (assigned found)) walked.spots.items) e first_over h

    pub told_illegal : (e : Refused FirFault) → flat_map (over_at ts (assigned found)) walked.spots.items ≡ []
        → IsFirstOf (flat_map (legal_at ts (assigned found)) walked.spots.items) e → IfFaulty e (λ f. IsFirstWidthFault c (fault_of f))
    told_illegal e none h = told c (flat_map (legal_at ts (assigned found)) walked.spots.items) e (λ f g. first_illegal f none g) h
