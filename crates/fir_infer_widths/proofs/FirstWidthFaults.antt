-- The first fault of widths is the first of its two groups.
use Rattle.std.proofs.Common.{◌≡◌, ℕ, List, [], ◌∷◌, ◌++◌, Some, refl, sym, ap, subst, ◌∙◌, arith}
use Rattle.std.proofs.lemmas.Option.{same_Some}
use Rattle.fir_ast.specs.Circuits.{CircuitTree}
use Rattle.fir_ast.specs.Faults.{Fault}
use Rattle.fir_pass.specs.Groups.{group_of, first_of, IsClear}
use Rattle.fir_pass.specs.Law.{IsFirst}
use Rattle.fir_meaning.specs.OverFaults.{over_faults}
use Rattle.fir_meaning.specs.LegalFaults.{legal_faults}
use Rattle.fir_meaning.specs.SourceMeaning.{circuit_meaning}
use Rattle.fir_meaning.proofs.InferredCircuits.{none_shown}
use Rattle.fir_meaning.proofs.KeptTrees.{first_in, first_at}
use Rattle.fir_width.specs.working.Fitting.{IsFirstWidthFault}
use Rattle.fir_infer_widths.proofs.WidthFaultGroups.{over_group_of, legal_group_of}

module _ (c : CircuitTree) where
  -- the first of two lists
  widths_by : (f : Fault) (h : IsFirstWidthFault c f) (over : List Fault) → over_faults c h.widths ≡ over → IsFirst 6 7 (circuit_meaning c) f
  unfolding circuit_meaning
  widths_by f h [] none =
      let first : first_of (legal_faults c h.widths) ≡ Some f = ap (λ fs. first_of (fs ++ legal_faults c h.widths)) (sym none) ∙ h.first in
      let there = first_in (legal_faults c h.widths) f first in
      first_at 6 7 7 (circuit_meaning c) f (legal_group_of c h.widths f there) (omega arith) (omega arith) (h.widths, h.are, first) (h.widths, h.are, there)
      (λ j low high.
      let e : 6 ≡ j = omega (arith, low, high) in
      subst (λ (k : ℕ). IsClear ((circuit_meaning c).group k)) e (none_shown c (over_faults c) h.widths h.are none))
  widths_by f h (g ∷ gs) some =
      let in_front : first_of (over_faults c h.widths ++ legal_faults c h.widths) ≡ Some g = ap (λ fs. first_of (fs ++ legal_faults c h.widths)) some in
      let same : g ≡ f = same_Some g f (sym in_front ∙ h.first) in
      let first : first_of (over_faults c h.widths) ≡ Some f = ap first_of some ∙ ap Some same in
      let there = first_in (over_faults c h.widths) f first in
      first_at 6 7 6 (circuit_meaning c) f (over_group_of c h.widths f there) (omega arith) (omega arith) (h.widths, h.are, first) (h.widths, h.are, there)
      (λ j low high. absurd (omega (arith, low, high)))

  -- the first fault of widths is the first of both groups
  pub widths_first : (f : Fault) → IsFirstWidthFault c f → IsFirst 6 7 (circuit_meaning c) f
  widths_first f h = widths_by f h (over_faults c h.widths) refl
