-- E25 in a circuit (FIRRTL spec, "Clock Type", "Last Connect Semantics"): a clock leaf with two live drives, or a clock that a dynamic index picks.
-- It stands at the leaf's declaration; for a register's own clock at the register, by its path. The evidence is the first in the text of the dynamic indices
-- that pick a clock in a live drive, in the node or in the register's clock, its place twice; else the first two live drives, of which an invalid is one. Told
-- is the fault of the first leaf. So a clock is known by the input at which its chain of drives ends, a choice of this project.
use Rattle.std.specs.Prelude.{◌≡◌, List, [], ◌∷◌, ◌++◌, false, take, length, ◌+◌, ◌⊎◌, ℕ, codes}
use Rattle.fir_base.specs.Lists.{In}
use Rattle.fir_ast.specs.declared.place.Place.{Place}
use Rattle.fir_ast.specs.Circuits.{CircuitTree}
use Rattle.fir_ast.specs.Expressions.{Expression, reference}
use Rattle.fir_ast.specs.Texts.{place_text}
use Rattle.fir_ast.specs.Faults.{E25, Fault}
use Rattle.fir_pass.specs.Groups.{Group}
use Rattle.fir_meaning.specs.Elaborated.{IsSourceOf}
use Rattle.fir_meaning.specs.Lack.{is_before}
use Rattle.fir_meaning.specs.LeafTypes.{LeafType, a_clock, number}
use Rattle.fir_meaning.specs.LeafPaths.{LeafPath, path_text}
use Rattle.fir_meaning.specs.SourceChoices.{IsLive}
use Rattle.fir_meaning.specs.SourceCircuits.{PlacedLeaf, all_leaves, leaf_path}
use Rattle.fir_meaning.specs.SourceDependence.{PlacedModule, all_modules}
use Rattle.fir_meaning.specs.SourceDesigns.{SourceDesign}
use Rattle.fir_meaning.specs.SourceDrives.{Drive, module_drives}
use Rattle.fir_meaning.specs.SourceFacts.{source_depth}
use Rattle.fir_meaning.specs.SourceLoops.{StandsAt}
use Rattle.fir_meaning.specs.SourceRanks.{HasRank, Rank, comes_before}
use Rattle.fir_meaning.specs.SourceReads.{index_places}
use Rattle.fir_meaning.specs.SourceRoles.{SourceRole, computed, register, sink}

-- at a leaf, with the places of two statements, or of an index twice
abbrev pub clock_fault : Place → List ℕ → Place → Place → Fault
clock_fault p leaf a b = record { code = E25; place = p; evidence = codes "clock " ++ leaf ++ codes " " ++ place_text a ++ codes " " ++ place_text b }

-- where the dynamic indices of a reference stand; no other expression picks a clock
abbrev pub picking_places : Expression → List Place
picking_places (reference p n ps) = index_places ps
picking_places e = []

-- a drive is live for a leaf of the module, under some choice
abbrev pub IsLiveIn : PlacedModule → LeafPath → Drive → Type 0
IsLiveIn m x d = IsLive (source_depth m.scene x) x (module_drives m.scene) d

module _ (t : SourceDesign) where
  -- the leaf at a path is one of the module
  pub record IsWithin (m : PlacedModule) (leaf x : LeafPath) : Type 0 where
    pub among : In (all_modules t) m
    pub is : m.at ++ leaf ≡ x

  -- an index stands at the place that picks a clock for a leaf that statements drive
  pub record DrivePicks (x : LeafPath) (place : Place) : Type 0 where
    pub holder : PlacedModule
    pub leaf : LeafPath
    pub within : IsWithin holder leaf x
    pub drive : Drive
    pub live : IsLiveIn holder leaf drive
    pub among : In (drive.driven.index_places ++ drive.given.index_places) place

  -- by what the leaf holds and its role
  abbrev pub PicksFor : LeafPath → LeafType → SourceRole → Place → Type 0
  PicksFor x a_clock sink place = DrivePicks x place
  PicksFor x a_clock (computed scope e q) place = In (picking_places e) place
  PicksFor x holds (register scope clock reset q) place = In (picking_places clock) place
  PicksFor x _ _ place = ⊥

  abbrev pub PicksClock : PlacedLeaf → Place → Type 0
  PicksClock p place = PicksFor (leaf_path p) p.leaf.holds p.leaf.role place

  -- a clock leaf is told by its path, and a register by its own: the names of its instances and its name
  abbrev pub told_path : PlacedLeaf → LeafType → LeafPath
  told_path p a_clock = leaf_path p
  told_path p (number h) = take (length p.at + 1) (leaf_path p)

  pub record ShowsPickedClock (p : PlacedLeaf) (f : Fault) : Type 0 where
    pub index : Place
    pub picks : PicksClock p index
    pub none_before : (other : Place) → PicksClock p other → is_before other index ≡ false
    pub place : Place
    pub stands : StandsAt t (leaf_path p) place
    pub is : f ≡ clock_fault place (path_text (told_path p p.leaf.holds)) index index

  pub record ShowsTwoLive (p : PlacedLeaf) (f : Fault) : Type 0 where
    pub is_clock : p.leaf.holds ≡ a_clock
    pub is_sink : p.leaf.role ≡ sink
    pub none_picks : (place : Place) → PicksClock p place → ⊥
    pub holder : PlacedModule
    pub leaf : LeafPath
    pub within : IsWithin holder leaf (leaf_path p)
    -- the first two that are live, in the order of the text
    pub before : List Drive
    pub first : Drive
    pub between : List Drive
    pub second : Drive
    pub after : List Drive
    pub are : module_drives holder.scene ≡ before ++ first ∷ between ++ second ∷ after
    pub first_live : IsLiveIn holder leaf first
    pub second_live : IsLiveIn holder leaf second
    pub none_before : (d : Drive) → In before d → IsLiveIn holder leaf d → ⊥
    pub none_between : (d : Drive) → In between d → IsLiveIn holder leaf d → ⊥
    pub place : Place
    pub stands : StandsAt t (leaf_path p) place
    pub is : f ≡ clock_fault place (path_text (leaf_path p)) first.place second.place

  abbrev pub ShowsAt : PlacedLeaf → Fault → Type 0
  ShowsAt p f = ShowsPickedClock p f ⊎ ShowsTwoLive p f

  pub record ShowsClockFault (f : Fault) : Type 0 where
    pub leaf : PlacedLeaf
    pub among : In (all_leaves t) leaf
    pub shows : ShowsAt leaf f

  -- at a leaf before which no other shows one
  pub record TellsClockFault (f : Fault) : Type 0 where
    pub leaf : PlacedLeaf
    pub rank : Rank
    pub has_rank : HasRank t leaf rank
    pub shows : ShowsAt leaf f
    pub first :
        (other : PlacedLeaf) (its_rank : Rank) (its_fault : Fault) → HasRank t other its_rank → ShowsAt other its_fault
        → comes_before its_rank rank ≡ false

-- in the source of a circuit
pub record IsOfSource (Holds : SourceDesign → Fault → Type 0) (c : CircuitTree) (f : Fault) : Type 0 where
  pub source : SourceDesign
  pub is_source : IsSourceOf c source
  pub holds : Holds source f

abbrev pub clock_group : CircuitTree → Group
clock_group c = record { shows = IsOfSource ShowsClockFault c; tells = IsOfSource TellsClockFault c }
