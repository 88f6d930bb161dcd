-- The walk over both blocks of a when.
use Rattle.std.proofs.Common.{◌≡◌, ℕ, ◌+◌, List, ◌++◌, refl, ap, ◌∙◌, subst, append_assoc}
use Rattle.fir_ast.specs.declared.place.Place.{Place}
use Rattle.fir_ast.specs.Circuits.{CircuitTree}
use Rattle.fir_ast.specs.Expressions.{Expression}
use Rattle.fir_ast.specs.Statements.{when, Block}
use Rattle.fir_meaning.specs.Components.{Declarations}
use Rattle.fir_meaning.specs.Visibility.{Before, behind, behind_block, opened, reopened}
use Rattle.fir_names.proofs.BehindStatements.{adds_block}
use Rattle.fir_types.specs.working.Walked.{Begins}
use Rattle.fir_types.proofs.KnownScopes.{begins_before}
use Rattle.fir_ground.specs.working.DeclarationDrivers.{DriverMeant, drivers_in, drivers_in_block}
use Rattle.fir_leaf.specs.declared.node.Node.{Node}
use Rattle.fir_meaning.specs.ModuleScenes.{Scene}
use Rattle.fir_meaning.specs.working.LeafedModules.{arrays_in, arrays_in_block, leaves_in, leaves_in_block, memories_in, memories_in_block}
use Rattle.fir_leaf_table.specs.declared.frame.Frame.{Frame}
use Rattle.fir_leaf_table.specs.declared.walk.Walk.{Walk}
use Rattle.fir_leaf_table.specs.working.Walks.{ComesBehind, EntersAt}
use Rattle.fir_leaf_table.proofs.BlockWalks.{comes_as, comes_then, counts_as, enters_behind}

module _ (frame : Frame) (c : CircuitTree) (s : Scene) (before : Before) (nodes : List Node) (rest : List DriverMeant) (p : Place) (e : Expression) (a b : Block)
  where
    abbrev pub between : Before
    between = reopened before (behind_block (opened before) a)

    abbrev pub first_drivers : List DriverMeant
    first_drivers = drivers_in_block c.modules (opened before) a

    abbrev pub second_drivers : List DriverMeant
    second_drivers = drivers_in_block c.modules between b

    -- what is declared in the first block is declared in the whole
    pub first_begins : (whole : Declarations) → Begins (behind before (when p e a b)).declared whole → Begins (behind_block (opened before) a).declared whole
    first_begins whole g =
        let more = adds_block between b in
        begins_before whole (behind_block (opened before) a).declared more.added (subst (λ ds. Begins ds whole) more.declared g)

    module _ (depth inside : ℕ) (old : Walk) (deeper : inside ≡ depth + 1)
        (enters : EntersAt frame c s before nodes (drivers_in c.modules before (when p e a b) ++ rest) depth old) where
      inside_is : inside ≡ before.depth + 1
      inside_is = deeper ∙ ap (λ k. k + 1) enters.deep

      pub first_enters : EntersAt frame c s (opened before) nodes (first_drivers ++ (second_drivers ++ rest)) inside old
      first_enters = record {
        frames = enters.frames;
        counts = counts_as s before (opened before) old refl enters.counts;
        deep = inside_is;
        no_node = enters.no_node;
        drivers = enters.drivers ∙ append_assoc first_drivers second_drivers rest;
      }

      module _ (mid : Walk) (one : ComesBehind s (behind_block (opened before) a) nodes (second_drivers ++ rest) (leaves_in_block s (opened before) a)
          (arrays_in_block s (opened before) a) (memories_in_block s (opened before) a) old mid) where
        pub second_enters : EntersAt frame c s between nodes (second_drivers ++ rest) inside mid
        second_enters =
            enters_behind frame c s (opened before) (behind_block (opened before) a) between nodes (first_drivers ++ (second_drivers ++ rest))
            (second_drivers ++ rest) (second_drivers ++ rest) inside inside (leaves_in_block s (opened before) a) (arrays_in_block s (opened before) a)
            (memories_in_block s (opened before) a) old mid first_enters one refl inside_is refl

        pub when_passed : (new : Walk) → ComesBehind s (behind_block between b) nodes rest (leaves_in_block s between b) (arrays_in_block s between b)
            (memories_in_block s between b) mid new
            → ComesBehind s (behind before (when p e a b)) nodes rest (leaves_in s before (when p e a b)) (arrays_in s before (when p e a b))
            (memories_in s before (when p e a b)) old new
        when_passed new two =
            comes_as s (behind_block between b) (behind before (when p e a b)) nodes rest (leaves_in s before (when p e a b)) (arrays_in s before (when p e a b))
            (memories_in s before (when p e a b)) old new refl
            (comes_then s (behind_block (opened before) a) (behind_block between b) nodes (second_drivers ++ rest) rest (leaves_in_block s (opened before) a)
            (leaves_in_block s between b) (arrays_in_block s (opened before) a) (arrays_in_block s between b) (memories_in_block s (opened before) a)
            (memories_in_block s between b) old mid new one two)
