-- The elaborated design below a module: each instance with the design of its module in the place of its statement (FIRRTL spec, "Instances").
-- It is tied to the modules twice: as the one design whose bodies are theirs, and as what elaboration to enough depth gives. A module that holds itself, or
-- one that does, has no design.
use Rattle.std.specs.Prelude.{◌≡◌, ℕ, zero, suc, ◌<◌, List, [], slice_index_or}
use Rattle.fir_ast.specs.declared.place.Place.{Place}
use Rattle.fir_meaning.specs.working.Terms.{Term, Picks}
use Rattle.fir_meaning.specs.working.LeafBlocks.{HeldInstance, LeafBlock, LeafStatement}
use Rattle.fir_meaning.specs.working.LeafBlocks as over
use Rattle.fir_meaning.specs.working.LeafModules.{LeafModule}

mutual
  pub data Item : Type 0 where
    drive : Place → ℕ → Picks → Term → Item
    when : Place → Term → Items → Items → Item
    instance : HeldInstance → Design → Item

  pub data Items : Type 0 where
    done : Items
    then : Item → Items → Items

  -- a module, and its statements with the designs of its instances
  pub data Design : Type 0 where
    made_of : LeafModule → Items → Design

-- the statements, each instance without its design
abbrev mutual
  pub statement_of : Item → LeafStatement
  statement_of (drive p b ps t) = over.drive p b ps t
  statement_of (when p c a b) = over.when p c (block_of a) (block_of b)
  statement_of (instance i d) = over.instance i

  pub block_of : Items → LeafBlock
  block_of done = over.done
  block_of ((then) i is) = over.then (statement_of i) (block_of is)

abbrev pub empty_module : LeafModule
empty_module = record {
  named = record { place = record { line = 0; col = 0 }; name = [] };
  declared = [];
  port_leaves = 0;
  leaves = [];
  arrays = [];
  memories = [];
  body = over.done;
}

-- the module of that number; without it, one with nothing in it
abbrev pub module_of : List LeafModule → ℕ → LeafModule
module_of modules x = slice_index_or modules x empty_module

module _ (modules : List LeafModule) where
  -- every instance's design is that of its module
  abbrev mutual
    pub IsItemIn : Item → Type 0
    IsItemIn (drive p b ps t) = Unit {0}
    IsItemIn (when p c a b) = AreItemsIn a × AreItemsIn b
    IsItemIn (instance i d) = IsDesignOf (module_of modules i.module_number) d

    pub AreItemsIn : Items → Type 0
    AreItemsIn done = Unit {0}
    AreItemsIn ((then) i is) = IsItemIn i × AreItemsIn is

    pub IsDesignOf : LeafModule → Design → Type 0
    IsDesignOf m (made_of c is) = (c ≡ m) × (block_of is ≡ m.body) × AreItemsIn is

-- a block with what stands for each module in it
abbrev mutual
  pub item_with : (ℕ → Design) → LeafStatement → Item
  item_with child (over.drive p b ps t) = drive p b ps t
  item_with child (over.when p c a b) = when p c (items_with child a) (items_with child b)
  item_with child (over.instance i) = instance i (child i.module_number)

  pub items_with : (ℕ → Design) → LeafBlock → Items
  items_with child over.done = done
  items_with child (over.then s b) = (then) (item_with child s) (items_with child b)

-- the design of a module, to a depth of n modules
unfoldable pub elaborated : ℕ → List LeafModule → LeafModule → Design
elaborated zero modules m = made_of m done
elaborated (suc n) modules m = made_of m (items_with (λ x. elaborated n modules (module_of modules x)) m.body)

-- P of the number of each module that is instantiated
abbrev mutual
  pub EachInstance : (ℕ → Type 0) → LeafStatement → Type 0
  EachInstance P (over.when p c a b) = AllInstances P a × AllInstances P b
  EachInstance P (over.instance i) = P i.module_number
  EachInstance P _ = Unit {0}

  pub AllInstances : (ℕ → Type 0) → LeafBlock → Type 0
  AllInstances P over.done = Unit {0}
  AllInstances P (over.then s b) = EachInstance P s × AllInstances P b

-- no module holds itself: each module's rank is above those of its instances
pub record IsRanked (modules : List LeafModule) (rank : ℕ → ℕ) : Type 0 where
  pub each : (x : ℕ) → AllInstances (λ y. rank y < rank x) (module_of modules x).body
