-- A walk of the whole graph shows its fault.
use Rattle.std.proofs.Common.{◌≡◌, ℕ, suc, ◌<◌, ◌≤◌, List, [], ◌∷◌, map, length, refl, sym, ap, ◌∙◌, subst}
use Rattle.fir_ast.specs.Circuits.{CircuitTree}
use Rattle.fir_ast.specs.Faults.{Fault}
use Rattle.fir_infer_resets.specs.declared.joined.Joined.{Joined}
use Rattle.fir_infer_resets.specs.working.DirectWalks.{IsWalkOfEnds, Replaces}
use Rattle.fir_infer_resets.specs.working.FoundKinds.{TellsWalk}
use Rattle.fir_infer_resets.specs.working.Holding.{AreEnds}
use Rattle.fir_infer_resets.specs.working.ResetGraphs.{AllBelow, IsResetWalk}
use Rattle.fir_meaning.specs.ResetItems.{End}
use Rattle.fir_meaning.specs.ResetWalks.{ShowsResets}
use Rattle.fir_infer_resets.specs.working.WholeGraphs.{IsWhole}
use Rattle.fir_infer_resets.proofs.ToldWalks.{kind_within, long_walk, told_walk, walks_ends}

long_map : {A B : Type 0} (f : A → B) (xs : List A) → length xs ≡ length (map f xs)
long_map f [] = refl
long_map f (x ∷ xs) = ap suc (long_map f xs)

module _ (c : CircuitTree) (joined : Joined) (whole : IsWhole c joined) where
  -- there are as many kinds as ends
  pub kinds_long : length joined.kinds.items ≡ length joined.ends.items
  kinds_long = ap length (sym whole.holds.same_kinds) ∙ sym (long_map (λ e. e.kind) joined.ends.items)

  module _ (walk : List ℕ) (w : IsResetWalk joined.graph.items joined.kinds.items walk) where
    pub walk_within : AllBelow (length joined.ends.items) walk
    walk_within = λ i x h. subst (λ n. x < n) kinds_long (kind_within c whole.listed whole.holds.ends joined.graph.items joined.kinds.items walk whole.holds.built w i x h)

    -- and so does one by which it may be replaced
    module _ (direct : List ℕ) (replaces : Replaces joined.ends.items walk direct) where
      direct_walk : IsWalkOfEnds c whole.holds.ends direct
      direct_walk =
          let built = whole.holds.built in
          replaces.walks c whole.holds.ends whole.holds.are built.leaves (walks_ends c whole.listed whole.holds.ends joined.graph.items joined.kinds.items walk built w)

      pub direct_long : 2 ≤ length direct
      direct_long = long_walk c whole.holds.ends direct direct_walk

      pub direct_within : AllBelow (length joined.ends.items) direct
      direct_within = replaces.within walk_within

      pub shown : (g : Fault) → ((es : List End) (f : Fault) → AreEnds joined.ends.items es → TellsWalk es direct f → g ≡ f) → ShowsResets c g
      shown g is =
          let t = told_walk c whole.holds.ends direct direct_walk in
          subst (ShowsResets c) (sym (is whole.holds.ends t.0 whole.holds.are t.1)) t.2
