-- The walk over a when: its condition, and then its blocks.
use Rattle.std.proofs.Common.{◌≡◌, ℕ, ◌+◌, ◌≤◌, List, [], ◌∷◌, ◌++◌, ap, ◌∙◌, subst, Vec, Global, append_assoc, arith}
use Rattle.fir_ast.specs.declared.place.Place.{Place}
use Rattle.fir_ast.specs.Expressions.{Expression}
use Rattle.fir_ast.specs.Statements.{when, Block}
use Rattle.fir_ast.specs.Circuits.{ModuleTree}
use Rattle.fir_meaning.specs.Components.{Declarations}
use Rattle.fir_meaning.specs.CostGroup.{cost_limit}
use Rattle.fir_meaning.specs.Costs.{ModuleCosts, cost_of, cost_of_block, size}
use Rattle.fir_meaning.specs.TypeGroup.{scope_at}
use Rattle.fir_meaning.specs.Visibility.{Before, opened, reopened, behind, behind_block}
use Rattle.fir_names.proofs.BehindStatements.{adds_block}
use Rattle.fir_types.specs.working.ModuleNotes.{block_notes, statement_notes}
use Rattle.fir_types.specs.working.Notes.{Note, expression_notes}
use Rattle.fir_types.specs.working.Walked.{Begins}
use Rattle.fir_types.proofs.KnownScopes.{begins_before}
use Rattle.fir_leaf.specs.declared.statement.LeafWhen.{LeafWhen}
use Rattle.fir_leaf.specs.declared.statement.LeafStmt.{LeafStmt}
use Rattle.fir_leaf.specs.declared.statement.LeafStmt.TheVariants as code
use Rattle.fir_meaning.specs.working.LeafBlocks.{LeafBlock}
use Rattle.fir_meaning.specs.working.LeafBlocks as over
use Rattle.fir_meaning.specs.working.Leafed.{first_term, terms}
use Rattle.fir_meaning.specs.working.LeafedBlocks.{leafed, leafed_all}
use Rattle.fir_leaf.specs.working.NodeBlocks.{block_in}
use Rattle.fir_leaf.specs.working.Nodes.{Grows, node_term}
use Rattle.fir_meaning.specs.working.Terms.{Term}
use Rattle.fir_ground.specs.declared.driver.Driver.{Driver}
use Rattle.fir_ground.specs.declared.frame.Frame.{Frame}
use Rattle.fir_ground.specs.declared.walk.Walk.{Walk}
use Rattle.fir_ground.specs.working.DeclarationDrivers.{DriverMeant, Driven, drivers_in, drivers_in_block}
use Rattle.fir_leaf_pairs.specs.working.Drives.{sinks_in}
use Rattle.fir_ground.specs.working.Expressions.{ExpandsFirst}
use Rattle.fir_ground.specs.working.Grounds.{Enters}
use Rattle.fir_ground.specs.working.Statements.{ComesBehind, EntersAt}
use Rattle.fir_ground.proofs.DriversCome.{driven_later, driven_then}
use Rattle.fir_leaf_pairs.proofs.Emitting.{emitted_one, emitted_whole, when_is}
use Rattle.fir_leaf_pairs.proofs.Entries.{grows_on}
use Rattle.fir_leaf_pairs.proofs.Giving.{term_keeps}
use Rattle.fir_ground.proofs.PlaceWalks.{enters_behind, enters_notes, enters_place}

module _ (frame : Frame) (modules : List ModuleTree) (costs : ModuleCosts) (whole : Declarations) (before : Before) (p : Place) (e : Expression) (a b : Block)
    (rest : List Note) where
  abbrev pub between : Before
  between = reopened before (behind_block (opened before) a)

  abbrev pub first_notes : List Note
  first_notes = block_notes modules (opened before) a

  abbrev pub second_notes : List Note
  second_notes = block_notes modules between b

  -- what is declared in the first block, and before, is declared in the whole
  pub first_begins : Begins (behind before (when p e a b)).declared whole → Begins (behind_block (opened before) a).declared whole
  first_begins g = let x = adds_block between b in begins_before whole (behind_block (opened before) a).declared x.added
      (subst (λ ds. Begins ds whole) x.declared g)

  condition_begins : Begins (behind before (when p e a b)).declared whole → Begins before.declared whole
  condition_begins g =
      let x = adds_block (opened before) a in begins_before whole before.declared x.added (subst (λ ds. Begins ds whole) x.declared (first_begins g))

  -- what the blocks cost
  pub first_cost : cost_of modules costs before (when p e a b) ≤ cost_limit → cost_of_block modules costs (opened before) a ≤ cost_limit
  first_cost h =
      let all : 1 + size (scope_at modules before) e + cost_of_block modules costs (opened before) a + cost_of_block modules costs between b ≤ cost_limit = h
      in omega arith

  pub second_cost : cost_of modules costs before (when p e a b) ≤ cost_limit → cost_of_block modules costs between b ≤ cost_limit
  second_cost h =
      let all : 1 + size (scope_at modules before) e + cost_of_block modules costs (opened before) a + cost_of_block modules costs between b ≤ cost_limit = h
      in omega arith

  module _ (was : ℕ) (old : Walk) (enters : EntersAt frame modules whole before (statement_notes modules before (when p e a b) ++ rest) was old) where
    at_condition : EntersAt frame modules whole before (expression_notes (scope_at modules before) e ++ (first_notes ++ (second_notes ++ rest))) was old
    at_condition =
        let es = expression_notes (scope_at modules before) e in
        enters_notes frame modules whole before (((es ++ first_notes) ++ second_notes) ++ rest) (es ++ (first_notes ++ (second_notes ++ rest))) was old
        (append_assoc (es ++ first_notes) second_notes rest ∙ append_assoc es first_notes (second_notes ++ rest)) enters

    pub condition_enters : Begins (behind before (when p e a b)).declared whole
        → Enters frame.ground (scope_at modules before) (expression_notes (scope_at modules before) e ++ (first_notes ++ (second_notes ++ rest))) old
    condition_enters begins =
        enters_place frame modules whole before before (expression_notes (scope_at modules before) e ++ (first_notes ++ (second_notes ++ rest))) was old
        at_condition
        (condition_begins begins)

    module _ (second : Walk) (id : ℕ) (k : ExpandsFirst frame.ground (first_notes ++ (second_notes ++ rest)) old second id
        (first_term (terms (scope_at modules before) e))) where
      pub first_enters : EntersAt frame modules whole (opened before) (first_notes ++ (second_notes ++ rest)) was second
      first_enters =
          enters_behind frame modules whole before (opened before) (statement_notes modules before (when p e a b) ++ rest)
          (first_notes ++ (second_notes ++ rest)) was was old second enters
          k.comes.ahead enters.counted

      module _ (third : Walk) (m : ℕ) (none made : List LeafStmt)
          (one : ComesBehind frame (behind_block (opened before) a) (second_notes ++ rest) (leafed_all modules (sinks_in frame.sinks.now) (opened before) a)
          (drivers_in_block modules (opened before) a) second third m none made) where
        pub second_enters : EntersAt frame modules whole between (second_notes ++ rest) m third
        second_enters =
            enters_behind frame modules whole before between (statement_notes modules before (when p e a b) ++ rest) (second_notes ++ rest) was m old third
            enters one.comes.ahead
            one.counted

        pub when_passed : (last : Walk) (n : ℕ) (nothing others front out : List LeafStmt) (w : LeafWhen) → none ≡ [] → nothing ≡ []
            → ComesBehind frame (behind_block between b) rest (leafed_all modules (sinks_in frame.sinks.now) between b)
            (drivers_in_block modules between b) third last n nothing others
            → w.place ≡ p → w.condition ≡ id → w.then_block.items ≡ made → w.else_block.items ≡ others → out ≡ front ++ code.When w ∷ []
            → ComesBehind frame (behind before (when p e a b)) rest (leafed modules (sinks_in frame.sinks.now) before (when p e a b))
            (drivers_in modules before (when p e a b)) old last n front out
        when_passed last n nothing others front out w none_is nothing_is two at chosen first other grown =
            let may = sinks_in frame.sinks.now in
            let condition : Term = first_term (terms (scope_at modules before) e) in
            let x : LeafBlock = leafed_all modules may (opened before) a in
            let y : LeafBlock = leafed_all modules may between b in
            let xs : List DriverMeant = drivers_in_block modules (opened before) a in
            let ys : List DriverMeant = drivers_in_block modules between b in
            let later_third : Grows third.nodes.items last.nodes.items = two.comes.grows in
            let later_second : Grows second.nodes.items last.nodes.items =
            grows_on second.nodes.items third.nodes.items last.nodes.items one.comes.grows later_third in
            record {
              comes = record { grows = grows_on old.nodes.items second.nodes.items last.nodes.items k.comes.grows later_second; ahead = two.comes.ahead };
              counted = two.counted;
              emitted =
                  emitted_one last.nodes.items front out (code.When w) (over.when p condition x y) grown
                  (λ later g.
                  let from_second : Grows second.nodes.items later = grows_on second.nodes.items last.nodes.items later later_second g in
                  let from_third : Grows third.nodes.items later = grows_on third.nodes.items last.nodes.items later later_third g in
                  when_is later w ∙ ap (λ q. over.when q (node_term later w.condition) (block_in later w.then_block.items)
                  (block_in later w.else_block.items)) at
                  ∙ ap (λ i. over.when p (node_term later i) (block_in later w.then_block.items) (block_in later w.else_block.items)) chosen
                  ∙ ap (λ c. over.when p c (block_in later w.then_block.items) (block_in later w.else_block.items))
                  (term_keeps second.nodes.items later id from_second k.shows.within ∙ k.shows.term)
                  ∙ ap (λ l. over.when p condition (block_in later l) (block_in later w.else_block.items)) first
                  ∙ ap (λ z. over.when p condition z (block_in later w.else_block.items))
                  (emitted_whole third.nodes.items later none made x none_is from_third one.emitted)
                  ∙ ap (λ l. over.when p condition x (block_in later l)) other
                  ∙ ap (over.when p condition x) (emitted_whole last.nodes.items later nothing others y nothing_is g two.emitted));
              driven =
                  subst (λ (v : Vec Driver Global). Driven last.nodes.items v.items last.drivers.items (xs ++ ys)) k.comes.drivers
                  (driven_then last.nodes.items second.drivers.items third.drivers.items last.drivers.items xs ys
                  (driven_later third.nodes.items last.nodes.items second.drivers.items third.drivers.items xs later_third one.driven) two.driven);
            }
