-- Two ground types meet as they stand.
use Rattle.std.proofs.Common.{◌≡◌, List, [], ◌∷◌, Bool, true, false, Some, ap, ◌∙◌}
use Rattle.std.proofs.lemmas.Option.{none-some}
use Rattle.fir_ast.specs.Types.{DataType, uint, sint, clock, reset, async_reset, bundle, vector}
use Rattle.fir_meaning.specs.LeafPaths.{LeafPath}
use Rattle.fir_infer_resets.specs.declared.graph.Kind.{Kind}
use Rattle.fir_infer_resets.specs.working.FirstPairs.{Met, kind_of_type, met_pairs, scalars_met}

abbrev pub met_at : DataType → DataType → LeafPath → List Met
met_at t u path = record { path = path; one = t; other = u } ∷ []

module _ (path : LeafPath) (t u : DataType) (k l : Kind) (one : kind_of_type t ≡ Some k) (other : kind_of_type u ≡ Some l) where
  both_met : scalars_met path t u (kind_of_type t) (kind_of_type u) ≡ met_at t u path
  both_met = ap (λ o. scalars_met path t u o (kind_of_type u)) one ∙ ap (λ o. scalars_met path t u (Some k) o) other

pub scalar_pairs : (partly : Bool) (path : LeafPath) (t u : DataType) (k l : Kind) → kind_of_type t ≡ Some k → kind_of_type u ≡ Some l
    → met_pairs partly path t u ≡ met_at t u path
scalar_pairs true path (uint w) u k l e f = both_met path (uint w) u k l e f
scalar_pairs true path (sint w) u k l e f = both_met path (sint w) u k l e f
scalar_pairs true path clock u k l e f = both_met path clock u k l e f
scalar_pairs true path reset u k l e f = both_met path reset u k l e f
scalar_pairs true path async_reset u k l e f = both_met path async_reset u k l e f
scalar_pairs true path (bundle fs) u k l e f = absurd (none-some k e)
scalar_pairs true path (vector t n) u k l e f = absurd (none-some k e)
scalar_pairs false path (uint w) u k l e f = both_met path (uint w) u k l e f
scalar_pairs false path (sint w) u k l e f = both_met path (sint w) u k l e f
scalar_pairs false path clock u k l e f = both_met path clock u k l e f
scalar_pairs false path reset u k l e f = both_met path reset u k l e f
scalar_pairs false path async_reset u k l e f = both_met path async_reset u k l e f
scalar_pairs false path (bundle fs) u k l e f = absurd (none-some k e)
scalar_pairs false path (vector t n) u k l e f = absurd (none-some k e)
