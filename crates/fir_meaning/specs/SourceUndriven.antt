-- Which choices leave a leaf of a module undriven, and which of them is told (FIRRTL spec, "Initialization of Components").
-- A choice is told by the outcomes of the whens, and of the drives through dynamic indices, that it reaches and that drive the leaf or hold what does. A when
-- that holds the leaf's declaration is not told. The first choice is told.
use Rattle.std.specs.Prelude.{◌≡◌, ℕ, List, [], ◌∷◌, drop, flat_map, length, Bool, not, ◌&&◌, nat_lt, if◌then◌else◌, None}
use Rattle.std.specs.List.{list_any}
use Rattle.fir_ast.specs.declared.fault.Outcome.{Outcome}
use Rattle.fir_ast.specs.declared.fault.Outcome.TheVariants as outcome
use Rattle.fir_ast.specs.Statements.{Statement, when}
use Rattle.fir_meaning.specs.LeafPaths.{LeafPath}
use Rattle.fir_meaning.specs.ModuleScenes.{Scene}
use Rattle.fir_meaning.specs.Outcomes.{ComesFirst, told_once, write_told}
use Rattle.fir_meaning.specs.SourceChoices.{Choice, are_taken, last_reaching, may_drive}
use Rattle.fir_meaning.specs.SourceDrives.{Drive, drives}
use Rattle.fir_meaning.specs.Visits.{Visit, visits}

-- in a module, for a leaf and how many whens stand round its declaration
module _ (s : Scene) (depth : ℕ) (x : LeafPath) where
  -- whether a drive of the leaf stands in the statement
  abbrev pub holds_drive : Visit → Bool
  holds_drive v = list_any (may_drive depth x) (flat_map (drives s) (visits v.way v.before v.under v.statement))

  abbrev pub told_drive : Choice → Drive → List Outcome
  told_drive f d = write_told (d.driven.is_picked && may_drive depth x d) d.place (f d.way)

  abbrev pub told_statement : Choice → Visit → Statement → List Outcome
  told_statement f v (when p c a b) =
      if not (nat_lt (length v.under) depth) && holds_drive v then outcome.When p (f v.way) ∷ [] else []
  told_statement f v statement = flat_map (told_drive f) (drives s v)

  abbrev pub told : Choice → Visit → List Outcome
  told f v = if are_taken f (drop depth v.under) then told_statement f v v.statement else []

  module _ (vs : List Visit) where
    abbrev pub IsUndriven : Choice → Type 0
    IsUndriven f = last_reaching depth x f (flat_map (drives s) vs) ≡ None

    abbrev pub told_all : Choice → List Outcome
    told_all f = flat_map (told f) vs

    -- a choice of which these outcomes are told leaves the leaf undriven, and of each that does the outcomes come no earlier
    pub record IsFirstUndriven (outcomes : List Outcome) : Type 0 where
      pub choice : Choice
      pub undriven : IsUndriven choice
      pub are : told_once (told_all choice) ≡ outcomes
      pub first : (other : Choice) → IsUndriven other → ComesFirst (told_all choice) (told_all other)
