-- Choices, and which drive of a leaf is live under one (FIRRTL spec, "Last Connect Semantics", "Conditional Last Connect Semantics").
-- A choice gives each when and each drive through dynamic indices an outcome, independently, whatever their conditions say. A leaf counts the whens from its
-- own declaration inward. The last drive that reaches the leaf is live. One through dynamic indices reaches it only where they pick it, a choice of this
-- project.
use Rattle.std.specs.Prelude.{◌≡◌, ℕ, List, [], ◌∷◌, ◌++◌, drop, flat_map, Bool, true, false, not, ◌&&◌, ◌||◌, if◌then◌else◌, Option, Some, None}
use Rattle.fir_meaning.specs.LeafPaths.{LeafPath}
use Rattle.fir_meaning.specs.ModuleScenes.{Scene, scope_before}
use Rattle.fir_meaning.specs.SourceDrives.{Drive}
use Rattle.fir_meaning.specs.SourceReads.{reads}
use Rattle.fir_meaning.specs.SamePaths.{same_path}
use Rattle.fir_meaning.specs.Visits.{Branch}

-- by the ways of whens and drives: whether the first block is taken, and whether the indices pick the leaf
abbrev pub Choice : Type 0
Choice = List Bool → Bool

abbrev pub has_path : List LeafPath → LeafPath → Bool
has_path [] x = false
has_path (y ∷ ys) x = same_path y x || has_path ys x

abbrev pub are_taken : Choice → List Branch → Bool
are_taken f [] = true
are_taken f (b ∷ bs) = (if b.is_first then f b.way else not (f b.way)) && are_taken f bs

abbrev pub later : {A : Type 0} → Option A → Option A → Option A
later (Some d) old = Some d
later None old = old

-- for a leaf, and how many whens stand round its declaration
module _ (depth : ℕ) (x : LeafPath) where
  abbrev pub may_drive : Drive → Bool
  may_drive d = has_path d.driven.leaves x

  abbrev pub reaches : Choice → Drive → Bool
  reaches f d = are_taken f (drop depth d.under) && may_drive d && (not d.driven.is_picked || f d.way)

  -- the last of the drives that reach the leaf
  abbrev pub last_reaching : Choice → List Drive → Option Drive
  last_reaching f [] = None
  last_reaching f (d ∷ ds) = later (last_reaching f ds) (if reaches f d then Some d else None)

  -- a drive is live under some choice
  pub record IsLive (ds : List Drive) (d : Drive) : Type 0 where
    pub choice : Choice
    pub last : last_reaching choice ds ≡ Some d

  -- what it reads for the leaf: the conditions from the leaf's declaration inward, the indices on the leaf's side, and what is given
  abbrev pub live_reads : Scene → Drive → List LeafPath
  live_reads s d =
      flat_map (λ (b : Branch). reads (scope_before s b.before) b.condition []) (drop depth d.under) ++ d.driven.index_reads ++ d.given.reads
