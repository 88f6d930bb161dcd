-- The graph as the code has it.
use Rattle.std.specs.Prelude.{◌≡◌, ℕ, List, [], ◌∷◌, ◌++◌, map, Option, Some, slice_get}
use Rattle.std.specs.BTreeMap.{get}
use Rattle.std.specs.Cmp.Lexicographic.{slice_cmp}
use Rattle.std.specs.Ordering.{nat_cmp}
use Rattle.fir_ast.specs.declared.place.Place.{Place}
use Rattle.fir_ast.specs.Types.{reset}
use Rattle.fir_ast.specs.Circuits.{CircuitTree}
use Rattle.fir_meaning.specs.LeafPaths.{LeafPath}
use Rattle.fir_meaning.specs.LeafPaths as path
use Rattle.fir_infer_resets.specs.declared.item.Step.{Step}
use Rattle.fir_infer_resets.specs.declared.item.Step.TheVariants as step
use Rattle.fir_infer_resets.specs.declared.item.Item.{Item as ItemOfCode}
use Rattle.fir_infer_resets.specs.declared.item.Item.TheVariants as code
use Rattle.fir_infer_resets.specs.declared.item.End.{End as EndOfCode}
use Rattle.fir_infer_resets.specs.declared.joined.Joined.{Joined}
use Rattle.fir_infer_resets.specs.working.BuiltGraphs.{HasKind, IsBuilt}
use Rattle.fir_reset.specs.working.ElementPaths.{any_element}
use Rattle.fir_reset.specs.working.DeclaredLeaves.{IsNoInstance}
use Rattle.fir_reset.specs.working.LeafClasses.{Class, class_of}
use Rattle.fir_infer_resets.specs.working.PathKeys.{path_key}
use Rattle.fir_infer_resets.specs.working.ResetGraphs.{IsJoined}
use Rattle.fir_meaning.specs.ResetItems.{ResetItem, leaf_item, value_item, End}
use Rattle.fir_meaning.specs.ResetJoins.{Join}
use Rattle.fir_meaning.specs.ResetWalks.{IsReset}

abbrev pub step_of : Step → path.Step
step_of (step.Named x) = path.named x.now
step_of (step.Element i) = path.element i

abbrev pub path_of : List Step → LeafPath
path_of steps = map step_of steps

abbrev pub item_of : ItemOfCode → ResetItem
item_of (code.Leaf number steps) = leaf_item number (path_of steps.items)
item_of (code.Value p) = value_item p

pub record IsEnd (own : EndOfCode) (e : End) : Type 0 where
  pub item : item_of own.item ≡ e.item
  pub kind : HasKind e own.kind
  pub place : own.place ≡ e.place

abbrev pub AreEnds : List EndOfCode → List End → Type 0
AreEnds [] [] = Unit {0}
AreEnds (own ∷ owns) (e ∷ es) = IsEnd own e × AreEnds owns es
AreEnds _ _ = ⊥

-- a Reset of a module, which is a leaf of that path
abbrev pub reset_end : ℕ → LeafPath → Place → End
reset_end number leaf p = record { item = leaf_item number leaf; ground_type = reset; place = p }

-- the number under a key
abbrev pub under_key : Joined → ℕ → LeafPath → Option ℕ
under_key joined number leaf = get (slice_cmp nat_cmp) joined.numbers (path_key number leaf)

-- the Reset of the class that is no instance's, and whose elements are all the first
pub record HasFirst (c : CircuitTree) (ends : List End) (k : Class) : Type 0 where
  pub first : ℕ
  pub number : ℕ
  pub path : LeafPath
  pub place : Place
  pub is : slice_get ends first ≡ Some (reset_end number path place)
  pub firsts : map any_element path ≡ path
  pub no_instance : IsNoInstance c number path
  pub class : class_of c (leaf_item number path) ≡ Some k

-- the graph is built of these joins, and the table knows its Resets
pub record Holds (c : CircuitTree) (js : List Join) (joined : Joined) : Type 0 where
  pub ends : List End
  pub are : AreEnds joined.ends.items ends
  pub same_kinds : map (λ e. e.kind) joined.ends.items ≡ joined.kinds.items
  pub built : IsBuilt c js ends joined.graph.items joined.kinds.items
  pub known : (number x : ℕ) (leaf : LeafPath) → under_key joined number leaf ≡ Some x → (p : Place) × (slice_get ends x ≡ Some (reset_end number leaf p))
  pub all : (number x : ℕ) (leaf : LeafPath) (p : Place) → slice_get ends x ≡ Some (reset_end number leaf p) → under_key joined number leaf ≡ Some x
  pub classes : (x : ℕ) (e : End) (k : Class) → slice_get ends x ≡ Some e → IsReset e → class_of c e.item ≡ Some k → HasFirst c ends k

-- the old ends keep their numbers
abbrev pub Extends : List End → List End → Type 0
Extends old new = (more : List End) × (new ≡ old ++ more)

-- the end has the number, in the graph that has grown
pub record HasNumber {c : CircuitTree} {js : List Join} {old : Joined} (before : Holds c js old) (e : End) (new : Joined) (number : ℕ) : Type 0 where
  pub holds : Holds c js new
  pub extends : Extends before.ends holds.ends
  pub is : slice_get holds.ends number ≡ Some e

-- and these are joined in it
pub record IsJoinedIn {c : CircuitTree} {js : List Join} {old : Joined} (before : Holds c js old) (one other : ℕ) (new : Joined) : Type 0 where
  pub holds : Holds c js new
  pub same : holds.ends ≡ before.ends
  pub kept : (x y : ℕ) → IsJoined old.graph.items x y → IsJoined new.graph.items x y
  pub joined : IsJoined new.graph.items one other

-- more joins of the circuit stand in the graph
pub record HoldsMore {c : CircuitTree} {js : List Join} {old : Joined} (before : Holds c js old) (more : List Join) (new : Joined) : Type 0 where
  pub holds : Holds c (js ++ more) new
  pub extends : Extends before.ends holds.ends
