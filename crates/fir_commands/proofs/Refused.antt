-- A text that is refused is not taken.
use Rattle.std.proofs.Common.{◌≡◌, ℕ, List, inl, inr, subst, arith}
use Rattle.fir_ast.specs.Faults.{Fault}
use Rattle.fir_ast.specs.Circuits.{CircuitTree}
use Rattle.fir_parse.specs.working.Laws.{SpellsOneTree, HasTreeOrFault}
use Rattle.fir_outcome.specs.CircuitFaults.{IsFirstFault, ShowsNone}
use Rattle.fir_outcome.specs.Emits.{Takes}
use Rattle.fir_outcome.specs.Refusals.{RefusedFor, Refuses}

-- a circuit without faults has no first one
none_first : (c : CircuitTree) (f : Fault) → ShowsNone c → IsFirstFault c f → ⊥
none_first c f clear first = clear _ (omega arith) first.high f first.stands

module _ (one : SpellsOneTree) (tree_or_fault : HasTreeOrFault) (bytes : List ℕ) (c : CircuitTree) (taken : Takes bytes c) where
  -- a text that is taken has no fault
  taken_has_no_fault : (f : Fault) → RefusedFor bytes f → ⊥
  taken_has_no_fault f (inl bad) = (tree_or_fault bytes).1 (c, taken.spelled) (f, bad)
  taken_has_no_fault f (inr shows) =
      let same : shows.circuit ≡ c = one bytes shows.circuit c shows.spelled taken.spelled in
      none_first c f taken.faultless (subst (λ t. IsFirstFault t f) same shows.first)

  pub refused_is_not_taken : (line : List ℕ) → Refuses bytes line → ⊥
  refused_is_not_taken line why = taken_has_no_fault why.0 why.1
