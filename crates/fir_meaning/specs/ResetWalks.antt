-- Walks along joins, and which Resets are asynchronous (FIRRTL spec, "Reset Inference").
-- A Reset is an AsyncReset where a walk through Resets leads from it to an AsyncReset, else a UInt of one bit, also where nothing fixes it, a choice of this
-- project. A circuit in which a walk through Resets leads from a UInt to an AsyncReset shows E18; each such walk that repeats no item may be told.
use Rattle.std.specs.Prelude.{◌≡◌, ℕ, ◌⊎◌, List, [], ◌∷◌, ◌++◌, map, Option, Some, slice_get, codes}
use Rattle.std.specs.List.{AllByRecursion}
use Rattle.fir_base.specs.Lists.{In, Distinct}
use Rattle.fir_ast.specs.Types.{DataType, uint, reset, async_reset}
use Rattle.fir_ast.specs.Circuits.{ModuleTree, CircuitTree}
use Rattle.fir_ast.specs.Texts.{place_text}
use Rattle.fir_ast.specs.Faults.{Fault, E18}
use Rattle.fir_pass.specs.Groups.{Group, any_of}
use Rattle.fir_meaning.specs.LeafPaths.{named, path_text}
use Rattle.fir_meaning.specs.TypeLeaves.{TypeLeaf, type_leaves}
use Rattle.fir_meaning.specs.TypedScopes.{Known}
use Rattle.fir_meaning.specs.Components.{find}
use Rattle.fir_meaning.specs.Visibility.{declarations}
use Rattle.fir_meaning.specs.ComponentTypes.{typed_scope}
use Rattle.fir_meaning.specs.ResetItems.{ResetItem, leaf_item, value_item, End, declared_at}
use Rattle.fir_meaning.specs.ResetJoins.{joins, AreElements}

-- a leaf of what a module declares
pub record IsLeafOf (c : CircuitTree) (e : End) : Type 0 where
  pub number : ℕ
  pub inside : ModuleTree
  pub is_module : slice_get c.modules number ≡ Some inside
  pub declared : Known
  pub is_declared : In (typed_scope c.modules (declarations inside)) declared
  pub data_type : DataType
  pub has_type : declared.data_type ≡ Some data_type
  pub leaf : TypeLeaf
  pub is_leaf : In (type_leaves data_type) leaf
  pub item : e.item ≡ leaf_item number (named declared.name ∷ leaf.path)
  pub ground_type : e.ground_type ≡ leaf.ground_type
  pub place : e.place ≡ declared_at e.place (find (declarations inside) declared.name)

-- two that are joined, in either order, or one leaf of two elements
abbrev pub Joined : CircuitTree → End → End → Type 0
Joined c a b =
    In (joins c) (record { one = a; other = b }) ⊎ In (joins c) (record { one = b; other = a }) ⊎ (IsLeafOf c a × IsLeafOf c b × AreElements a b)

abbrev pub IsReset : End → Type 0
IsReset e = e.ground_type ≡ reset

abbrev pub IsAsyncReset : End → Type 0
IsAsyncReset e = e.ground_type ≡ async_reset

-- of any width
abbrev pub IsUInt : End → Type 0
IsUInt e = (width : Option ℕ) × (e.ground_type ≡ uint width)

-- a Reset from which a walk through Resets leads to an AsyncReset
pub data IsAsynchronous (c : CircuitTree) : End → Type 0 where
  meets : (e f : End) → IsReset e → Joined c e f → IsAsyncReset f → IsAsynchronous c e
  goes_on : (e f : End) → IsReset e → Joined c e f → IsAsynchronous c f → IsAsynchronous c e

-- each is joined to the one before it
abbrev pub IsChain : CircuitTree → End → List End → Type 0
IsChain c e [] = Unit {0}
IsChain c e (f ∷ fs) = Joined c e f × IsChain c f fs

abbrev pub items_of : List End → List ResetItem
items_of es = map (λ e. e.item) es

-- from a UInt through Resets, of which the first stands in front of the others, to an AsyncReset
pub record IsResetWalk (c : CircuitTree) (begins first : End) (others : List End) (ends : End) : Type 0 where
  pub uint_end : IsUInt begins
  pub resets : AllByRecursion IsReset (first ∷ others)
  pub async_end : IsAsyncReset ends
  pub chain : IsChain c begins (first ∷ others ++ ends ∷ [])
  pub once : Distinct (begins ∷ first ∷ others ++ ends ∷ [])

abbrev pub reset_item_text : ResetItem → List ℕ
reset_item_text (leaf_item number path) = path_text path
reset_item_text (value_item p) = place_text p

abbrev pub items_text : List ResetItem → List ℕ
items_text [] = []
items_text (x ∷ []) = reset_item_text x
items_text (x ∷ xs) = reset_item_text x ++ codes " - " ++ items_text xs

abbrev pub reset_fault : End → End → List End → End → Fault
reset_fault begins first others ends =
    record { code = E18; place = first.place; evidence = codes "resets " ++ items_text (items_of (begins ∷ first ∷ others ++ ends ∷ [])) }

pub record ShowsResets (c : CircuitTree) (f : Fault) : Type 0 where
  pub begins : End
  pub first : End
  pub others : List End
  pub ends : End
  pub walk : IsResetWalk c begins first others ends
  pub is : f ≡ reset_fault begins first others ends

abbrev pub reset_group : CircuitTree → Group
reset_group c = any_of (ShowsResets c)
