-- What whens do to leaves (FIRRTL spec, "Conditionals", "Conditional Last Connect Semantics", "Conditional Scopes").
-- A leaf that is declared outside of a when takes what the block that is run stores, and from a block that is not run it takes nothing. A leaf that is declared
-- within whens counts none of them.
use Rattle.std.specs.Prelude.{◌≡◌, ℕ, ◌≤◌, List, [], ◌∷◌, ◌++◌, length, Bool, if◌then◌else◌, Option}
use Rattle.fir_base.specs.Lists.{In}
use Rattle.fir_ast.specs.declared.place.Place.{Place}
use Rattle.fir_ast.specs.Expressions.{Expression}
use Rattle.fir_ast.specs.Statements.{Block, when}
use Rattle.fir_meaning.specs.LeafPaths.{LeafPath, named}
use Rattle.fir_meaning.specs.TypeGroup.{scope_at}
use Rattle.fir_meaning.specs.Visibility.{Before, opened, reopened, behind_block}
use Rattle.fir_meaning.specs.PathStores.{DesignStore}
use Rattle.fir_meaning.specs.ModuleScenes.{Scene}
use Rattle.fir_meaning.specs.TreeValues.{TypesByPath, ValuesByPath}
use Rattle.fir_meaning.specs.SourceDesigns.{InstanceOf, Instances, instances_of}
use Rattle.fir_meaning.specs.SourceFacts.{source_depth}
use Rattle.fir_meaning.specs.SourceStores.{Gifts, below}
use Rattle.fir_source_laws.specs.working.SparedLeaves.{is_one}
use Rattle.fir_source_laws.specs.working.TreeStatements.{IsBelow, exec_all_in, exec_in}

-- the block that is run stores what it would store in the place of the when, at a leaf declared outside that is of no instance declared inside
abbrev pub WhenRunsOneOf : Type 0 → Type 0
WhenRunsOneOf V =
    (s : Scene) (holds : TypesByPath) (env : ValuesByPath) (gifts : LeafPath → Gifts V) (path : LeafPath) (is : Instances)
    (before : Before) (p : Place) (c : Expression) (a b : Block) (taken : List Bool) (store : DesignStore V) (x : LeafPath)
    → source_depth s x ≤ length taken
    → ((i : InstanceOf) → In (instances_of (when p c a b)) i → IsBelow (named i.named.name ∷ []) x → ⊥)
    → exec_in s holds env gifts path is before (when p c a b) taken store (path ++ x)
    ≡ (if is_one (below path holds) (below path env) (scope_at s.own.modules before) c
    then exec_all_in s holds env gifts path is (opened before) a taken store (path ++ x)
    else exec_all_in s holds env gifts path is (reopened before (behind_block (opened before) a)) b taken store (path ++ x))

abbrev pub WhenRunsOne : Type 0
WhenRunsOne = WhenRunsOneOf ℕ × WhenRunsOneOf (Option ℕ)

-- a leaf that is declared within so many whens takes the same, whichever of them are taken
abbrev pub InnerLeavesCountNoneOf : Type 0 → Type 0
InnerLeavesCountNoneOf V =
    (s : Scene) (holds : TypesByPath) (env : ValuesByPath) (gifts : LeafPath → Gifts V) (path : LeafPath) (is : Instances)
    (before : Before) (b : Block) (outer other inner : List Bool) (store : DesignStore V) (x : LeafPath)
    → length outer ≤ source_depth s x → length other ≡ length outer
    → exec_all_in s holds env gifts path is before b (outer ++ inner) store (path ++ x)
    ≡ exec_all_in s holds env gifts path is before b (other ++ inner) store (path ++ x)

abbrev pub InnerLeavesCountNone : Type 0
InnerLeavesCountNone = InnerLeavesCountNoneOf ℕ × InnerLeavesCountNoneOf (Option ℕ)
