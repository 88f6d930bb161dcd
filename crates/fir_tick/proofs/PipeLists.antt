-- The plans of pipes: with one more word of the state, and what holds of each.
use Rattle.std.proofs.Common.{◌≡◌, ℕ, suc, ◌+◌, List, [], ◌∷◌, ◌++◌, length, Bool, Option, Some, None, refl, sym, ap, ◌∙◌, subst, arith, append_assoc, append-nil}
use Rattle.std.specs.Prelude.{slice_get}
use Rattle.std.specs.List.{AllByRecursion}
use Rattle.std.specs.Option.{option_to_list}
use Rattle.fir_net.specs.declared.net.FlatNet.{FlatNet}
use Rattle.fir_tick.specs.declared.pipe_plans.PipePlan.{PipePlan}
use Rattle.fir_tick.specs.working.PipePlans.{ArePipePlans, IsPipePlan, IsPipeWork}

module _ (net : FlatNet) (roots : List (Option ℕ)) (is_new : Bool) where
  -- one more of the words
  pub pipes_more : (ks : List ℕ) (place : ℕ) (ps : List PipePlan) (k : ℕ) (own : Option PipePlan) → ArePipePlans net roots is_new place ks ps → IsPipeWork net roots is_new (place + length ks) k own
      → ArePipePlans net roots is_new place (ks ++ k ∷ []) (ps ++ option_to_list own)
  pipes_more [] place ps k own are is =
      let here : place + 0 ≡ place = omega arith in
      (own, [], subst (λ (i : ℕ). IsPipeWork net roots is_new i k own) here is, ap (λ (qs : List PipePlan). qs ++ option_to_list own) are ∙ sym (append-nil (option_to_list own)), refl)
  pipes_more (j ∷ ks) place ps k own are is =
      let on : place + suc (length ks) ≡ place + 1 + length ks = omega arith in (
        are.0,
        are.1 ++ option_to_list own,
        are.2,
        ap (λ (qs : List PipePlan). qs ++ option_to_list own) are.3 ∙ append_assoc (option_to_list are.0) are.1 (option_to_list own),
        pipes_more ks (place + 1) are.1 k own are.4 (subst (λ (i : ℕ). IsPipeWork net roots is_new i k own) on is),
      )

  -- what follows of each plan, where these words stand in a list from a place on
  module _ (P : PipePlan → Type 0) (state : List ℕ) (each : (place k : ℕ) (p : PipePlan) → slice_get state place ≡ Some k → IsPipePlan net roots is_new place k p → P p) where
    one_of : (place k : ℕ) (own : Option PipePlan) → slice_get state place ≡ Some k → IsPipeWork net roots is_new place k own → (ps : List PipePlan) → AllByRecursion P ps → AllByRecursion P (option_to_list own ++ ps)
    one_of place k None at is ps h = h
    one_of place k (Some p) at is ps h = (each place k p at is, h)

    pub pipes_each : (ks : List ℕ) (place : ℕ) (ps : List PipePlan) → ArePipePlans net roots is_new place ks ps → ((j k : ℕ) → slice_get ks j ≡ Some k → slice_get state (place + j) ≡ Some k) → AllByRecursion P ps
    pipes_each [] place ps are stands = subst (AllByRecursion P) (sym are) tt
    pipes_each (k ∷ ks) place ps are stands =
        let here : place + 0 ≡ place = omega arith in
        subst (AllByRecursion P) (sym are.3)
        (one_of place k are.0 (ap (slice_get state) (sym here) ∙ stands 0 k refl) are.2 are.1
        (pipes_each ks (place + 1) are.1 are.4 (λ j m e. let on : place + 1 + j ≡ place + suc j = omega arith in ap (slice_get state) on ∙ stands (suc j) m e)))
