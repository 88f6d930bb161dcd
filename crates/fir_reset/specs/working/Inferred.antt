-- What is inferred of a circuit: which of its Resets are asynchronous, by the numbers of leaves.
use Rattle.std.specs.Prelude.{◌≡◌, ◌↔◌, ℕ, ◌+◌, List, [], ◌∷◌, Bool, true, Option, Some, None, option_map, slice_get, unwrap_or}
use Rattle.fir_ast.specs.Circuits.{ModuleTree, CircuitTree}
use Rattle.fir_ast.specs.Faults.{Fault}
use Rattle.fir_meaning.specs.LeafPaths.{LeafPath, named}
use Rattle.fir_meaning.specs.Visibility.{declarations}
use Rattle.fir_meaning.specs.TypedScopes.{known}
use Rattle.fir_meaning.specs.ComponentTypes.{typed_scope}
use Rattle.fir_types.specs.working.Notes.{position_of}
use Rattle.fir_types.specs.working.LeafNumbers.{first_leaves}
use Rattle.fir_meaning.specs.ResetItems.{ResetItem, leaf_item, value_item, End}
use Rattle.fir_meaning.specs.ResetJoins.{type_of_known}
use Rattle.fir_meaning.specs.ResetWalks.{IsReset, IsLeafOf, IsAsynchronous, ShowsResets}
use Rattle.fir_reset.specs.working.LeafClasses.{offset_where}

-- the number of a leaf behind the first of its declaration
abbrev pub number_behind : Option ℕ → Option ℕ → Option ℕ
number_behind None o = None
number_behind (Some first) o = option_map (λ k. first + k) o

abbrev pub first_of_position : CircuitTree → ℕ → ℕ → Option ℕ
first_of_position c number position = slice_get (unwrap_or (slice_get (first_leaves c) number) []) position

abbrev pub number_in : CircuitTree → ℕ → Option ModuleTree → LeafPath → Option ℕ
number_in c number (Some m) (named x ∷ path) =
    number_behind
    (first_of_position c number (position_of (typed_scope c.modules (declarations m)) x))
    (offset_where (type_of_known (known (typed_scope c.modules (declarations m)) x)) path)
number_in c number _ _ = None

-- all elements of a vector share their numbers, and an instance has those of its module's ports
abbrev pub leaf_number : CircuitTree → ResetItem → Option ℕ
leaf_number c (leaf_item number path) = number_in c number (slice_get c.modules number) path
leaf_number c (value_item p) = None

-- under the number of each Reset stands whether it is asynchronous, and no walk joins a UInt and an AsyncReset
pub record AreInferred (c : CircuitTree) (found : List Bool) : Type 0 where
  pub each : (e : End) (number : ℕ) → IsLeafOf c e → IsReset e → leaf_number c e.item ≡ Some number → IsAsynchronous c e ↔ (slice_get found number ≡ Some true)
  pub clear : (f : Fault) → ShowsResets c f → ⊥
