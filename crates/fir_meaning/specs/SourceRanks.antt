-- Which of two leaves of a design comes first where both show a fault (FIRRTL spec, "Instances"): the one that is declared first in the text; of one declaration
-- in several instances that of the instance which a walk through the statements from the main module on meets first; and there the first leaf of the declaration.
use Rattle.std.specs.Prelude.{◌≡◌, ℕ, ◌++◌, Bool, true, false, ◌&&◌, ◌||◌, nat_eq, nat_lt, not, Some, slice_get, IsTrue}
use Rattle.fir_ast.specs.declared.place.Place.{Place}
use Rattle.fir_meaning.specs.Lack.{is_before}
use Rattle.fir_meaning.specs.LeafPaths.{LeafPath}
use Rattle.fir_meaning.specs.SourceCircuits.{PlacedLeaf, all_leaves, is_sink_role, leaf_path}
use Rattle.fir_meaning.specs.SourceDependence.{PlacedModule, all_modules}
use Rattle.fir_meaning.specs.SourceDesigns.{SourceDesign}
use Rattle.fir_meaning.specs.SourceFacts.{source_may_drive}
use Rattle.fir_meaning.specs.SourceLoops.{StandsAt}

-- the place of a declaration, the number of the module that gives the leaf its value, and that of the leaf
pub record Rank : Type 0 where
  pub place : Place
  pub holder : ℕ
  pub leaf : ℕ

abbrev pub comes_before : Rank → Rank → Bool
comes_before a b =
    is_before a.place b.place
    || not (is_before b.place a.place) && (nat_lt a.holder b.holder || nat_eq a.holder b.holder && nat_lt a.leaf b.leaf)

-- a leaf that statements drive is given its value in the module whose statements may drive it, any other in the module that declares it
abbrev pub IsGivenIn : Bool → PlacedLeaf → PlacedModule → Type 0
IsGivenIn true p m = (x : LeafPath) × (m.at ++ x ≡ leaf_path p) × IsTrue (source_may_drive m.scene x)
IsGivenIn false p m = m.at ≡ p.at

pub record HasRank (t : SourceDesign) (p : PlacedLeaf) (r : Rank) : Type 0 where
  pub stands : StandsAt t (leaf_path p) r.place
  pub giver : PlacedModule
  pub is_giver : slice_get (all_modules t) r.holder ≡ Some giver
  pub given : IsGivenIn (is_sink_role p.leaf.role) p giver
  pub is_leaf : slice_get (all_leaves t) r.leaf ≡ Some p
