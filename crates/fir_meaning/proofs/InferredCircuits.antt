-- No fault of resets or widths stands in a circuit exactly where its least widths fit and no walk joins both kinds of resets.
use Rattle.std.proofs.Common.{◌≡◌, List, [], ◌∷◌, refl, ap, subst, ◌∙◌, inl}
use Rattle.std.proofs.Math.Path.{fun_ext}
use Rattle.fir_base.specs.Lists.{In}
use Rattle.fir_bits.specs.working.Laws.{Monotone}
use Rattle.fir_ast.specs.Circuits.{CircuitTree}
use Rattle.fir_ast.specs.Faults.{Fault}
use Rattle.fir_pass.specs.Groups.{IsClear}
use Rattle.fir_meaning.specs.WidthExpressions.{Widths}
use Rattle.fir_meaning.specs.WidthRules.{rules, AreWidths}
use Rattle.fir_meaning.specs.OverFaults.{over_faults}
use Rattle.fir_meaning.specs.LegalFaults.{legal_faults}
use Rattle.fir_meaning.specs.WidthGroups.{under_widths, over_group, legal_group}
use Rattle.fir_meaning.specs.working.WidthGroups.{IsInferred}
use Rattle.fir_meaning.specs.working.WidthLaws.{FitsAll, InferredExactly}
use Rattle.fir_meaning.proofs.LeastRules.{has_least, one_least}

pub same_widths : (c : CircuitTree) (w v : Widths) → AreWidths c w → AreWidths c v → w ≡ v
same_widths c w v a b = fun_ext (one_least (rules c) w v a b)

empty_by : (fs : List Fault) → ((f : Fault) → In fs f → ⊥) → fs ≡ []
empty_by [] none = refl
empty_by (f ∷ fs) none = absurd (none f (inl refl))

module _ (c : CircuitTree) (faults : Widths → List Fault) (w : Widths) (are : AreWidths c w) where
  pub none_shown : faults w ≡ [] → IsClear (under_widths c faults)
  none_shown none f (v, b, there) =
      let nothing : In [] f = subst (λ fs. In fs f) (ap faults (same_widths c v w b are) ∙ none) there in
      absurd nothing

  pub shows_none : IsClear (under_widths c faults) → faults w ≡ []
  shows_none clear = empty_by (faults w) (λ f there. clear f (w, are, there))

pub over_clear : (c : CircuitTree) → FitsAll c → IsClear (over_group c)
over_clear c fits = none_shown c (over_faults c) fits.widths fits.are fits.over

pub legal_clear : (c : CircuitTree) → FitsAll c → IsClear (legal_group c)
legal_clear c fits = none_shown c (legal_faults c) fits.widths fits.are fits.legal

fits_all : Monotone → (c : CircuitTree) → IsInferred c → FitsAll c
fits_all law c h = by (has_least law (rules c))
  where
    by : (w : Widths) × AreWidths c w → FitsAll c
    by (w, are) = record {
      widths = w;
      are = are;
      over = shows_none c (over_faults c) w are h.over;
      legal = shows_none c (legal_faults c) w are h.legal;
    }

pub inferred_exactly : Monotone → InferredExactly
inferred_exactly law c =
    (λ h. (h.resets, fits_all law c h), λ h. record { resets = h.0; over = over_clear c h.1; legal = legal_clear c h.1 })
