-- No clock has two drives, and no dynamic index picks one: only inputs hold clocks, and a register takes its clock by its name.
use Rattle.std.proofs.Common.{ℕ, Some, refl, subst, inl, inr}
use Rattle.fir_base.specs.Lists.{In}
use Rattle.fir_ast.specs.declared.place.Place.{Place}
use Rattle.fir_ast.specs.Faults.{Fault}
use Rattle.fir_pass.specs.Groups.{IsClear}
use Rattle.fir_meaning.specs.LeafPaths.{LeafPath}
use Rattle.fir_meaning.specs.LeafTypes.{LeafType, a_clock, number}
use Rattle.fir_meaning.specs.ModuleScenes.{Scene}
use Rattle.fir_meaning.specs.SourceCircuits.{PlacedLeaf, leaf_path}
use Rattle.fir_meaning.specs.SourceClocks.{PicksFor, ShowsAt, ShowsClockFault, clock_group}
use Rattle.fir_meaning.specs.SourceDesigns.{SourceDesign}
use Rattle.fir_meaning.specs.SourceRoles.{SourceRole, register, sink, source}
use Rattle.fir_gen.specs.working.GenTree.{gen_tree}
use Rattle.fir_gen_driven.proofs.GenLeaves.{IsFine}
use Rattle.fir_gen_driven.proofs.GenScenes.{IsGenScene}
use Rattle.fir_gen_driven.proofs.GenSources.{alone, leaf_fine, none_of_source}

module _ (t : SourceDesign) where
  none_picks : (x at : LeafPath) (h : LeafType) (r : SourceRole) (place : Place) → IsFine at h r → PicksFor t x h r place → ⊥
  none_picks x at (number w) (register scope clock (Some reset) q) place fine picks = subst (λ places. In places place) fine.0 picks
  none_picks x at a_clock (register scope clock (Some reset) q) place fine picks = subst (λ places. In places place) fine.0 picks
  none_picks x at (number w) source place fine picks = picks
  none_picks x at a_clock source place fine picks = picks
  none_picks x at (number w) sink place fine picks = picks
  none_picks x at a_clock sink place fine picks = fine.1 refl
  none_picks x at h r place fine picks = absurd fine

  none_shows : (p : PlacedLeaf) (f : Fault) → IsFine p.leaf.path p.leaf.holds p.leaf.role → ShowsAt t p f → ⊥
  none_shows p f fine (inl h) = none_picks (leaf_path p) p.leaf.path p.leaf.holds p.leaf.role h.index fine h.picks
  none_shows p f fine (inr h) =
      let driven = subst (λ (r : SourceRole). IsFine p.leaf.path p.leaf.holds r) h.is_sink fine in
      driven.1 h.is_clock

clear_alone : (s : Scene) → IsGenScene s → (f : Fault) → ShowsClockFault (alone s) f → ⊥
clear_alone s gen f h = none_shows (alone s) h.leaf f (leaf_fine s gen h.leaf h.among).1 h.shows

pub clocks_clear : (at : ℕ → ℕ → Place) (n : ℕ) → IsClear (clock_group (gen_tree at n))
clocks_clear at n f h = none_of_source at n h.source h.is_source ShowsClockFault clear_alone f h.holds
