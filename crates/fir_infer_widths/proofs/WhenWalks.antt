-- The walk over a when: its condition, and then its blocks.
use Rattle.std.proofs.Common.{List, [], ◌++◌, refl, sym, subst, ◌∙◌, append_assoc}
use Rattle.fir_ast.specs.declared.place.Place.{Place}
use Rattle.fir_ast.specs.Expressions.{Expression}
use Rattle.fir_ast.specs.Statements.{when, Block}
use Rattle.fir_ast.specs.Circuits.{CircuitTree}
use Rattle.fir_meaning.specs.Components.{Declarations}
use Rattle.fir_meaning.specs.Visibility.{Before, opened, reopened, behind, behind_block, declarations}
use Rattle.fir_meaning.specs.TypeGroup.{scope_at}
use Rattle.fir_meaning.specs.SizedDeclarations.{NumberedModule, sized_at}
use Rattle.fir_meaning.specs.SizedTypes.{Sized}
use Rattle.fir_meaning.specs.WidthExpressions.{Width, Rule}
use Rattle.fir_meaning.specs.WidthRules.{rules_in, rules_in_block}
use Rattle.fir_names.proofs.BehindStatements.{adds_block}
use Rattle.fir_types.specs.working.ModuleNotes.{block_notes, statement_notes}
use Rattle.fir_types.specs.working.Notes.{Note, expression_notes}
use Rattle.fir_types.specs.working.Walked.{Begins}
use Rattle.fir_types.proofs.KnownScopes.{begins_before}
use Rattle.fir_infer_widths.specs.declared.ground.Ground.{Ground}
use Rattle.fir_width.specs.declared.side.Side.{Side}
use Rattle.fir_infer_widths.specs.declared.walk.Walk.{Walk}
use Rattle.fir_infer_widths.specs.working.Spots.{spots_in, spots_in_block, spots_of_condition}
use Rattle.fir_infer_widths.specs.working.Walks.{ComesBehind, ComesTo, Enters, EntersAt}
use Rattle.fir_infer_widths.proofs.PlaceWalks.{at_behind, at_same, behind_same, behind_then, enters_at_notes, enters_place}

module _ (c : CircuitTree) (g : Ground) (m : NumberedModule) (before : Before) (p : Place) (e : Expression) (a b : Block) (meant : List Width) (rules : List Rule) (rest : List Note) where
  abbrev pub between : Before
  between = reopened before (behind_block (opened before) a)

  abbrev pub first_notes : List Note
  first_notes = block_notes m.modules (opened before) a

  abbrev pub second_notes : List Note
  second_notes = block_notes m.modules between b

  -- what is declared in the first block, and before, is declared in the whole
  pub first_begins : (all : Declarations) → Begins (behind before (when p e a b)).declared all → Begins (behind_block (opened before) a).declared all
  first_begins all g = let x = adds_block between b in begins_before all (behind_block (opened before) a).declared x.added (subst (λ ds. Begins ds all) x.declared g)

  pub condition_begins : (all : Declarations) → Begins (behind before (when p e a b)).declared all → Begins before.declared all
  condition_begins all g =
      let x = adds_block (opened before) a in begins_before all before.declared x.added (subst (λ ds. Begins ds all) x.declared (first_begins all g))

  module _ (old : Walk) (enters : EntersAt c g m before meant rules (statement_notes m.modules before (when p e a b) ++ rest) old) where
    at_condition : EntersAt c g m before meant rules (expression_notes (scope_at m.modules before) e ++ (first_notes ++ (second_notes ++ rest))) old
    at_condition =
        let es = expression_notes (scope_at m.modules before) e in
        enters_at_notes c g m before meant rules (((es ++ first_notes) ++ second_notes) ++ rest) (es ++ (first_notes ++ (second_notes ++ rest))) old
        (append_assoc (es ++ first_notes) second_notes rest ∙ append_assoc es first_notes (second_notes ++ rest)) enters

    pub condition_enters : Begins (behind before (when p e a b)).declared (declarations m.inside)
        → Enters g (scope_at m.modules before) (sized_at m before) meant rules (expression_notes (scope_at m.modules before) e ++ (first_notes ++ (second_notes ++ rest))) old
    condition_enters begins = enters_place c g m before before meant rules _ old at_condition (condition_begins (declarations m.inside) begins)

    module _ (s : Sized) (side : Side) (second : Walk)
        (k : ComesTo c g meant rules (first_notes ++ (second_notes ++ rest)) (spots_of_condition (sized_at m before) e) s old second side) where
      abbrev behind_condition : ComesBehind c g before meant rules [] (first_notes ++ (second_notes ++ rest)) (spots_of_condition (sized_at m before) e) old second
      behind_condition = record { comes = k.comes; declared = k.stays ∙ enters.declared }

      pub first_enters : EntersAt c g m (opened before) (meant ++ k.comes.more) (rules ++ []) (first_notes ++ (second_notes ++ rest)) second
      first_enters =
          at_same c g m before (opened before) (meant ++ k.comes.more) (rules ++ []) (first_notes ++ (second_notes ++ rest)) second refl
          (at_behind c g m before before meant rules [] _ (first_notes ++ (second_notes ++ rest)) (spots_of_condition (sized_at m before) e) old second at_condition behind_condition)

      module _ (third : Walk)
          (one : ComesBehind c g (behind_block (opened before) a) (meant ++ k.comes.more) (rules ++ []) (rules_in_block m (opened before) a) (second_notes ++ rest)
          (spots_in_block m (opened before) a) second third) where
        pub second_enters : EntersAt c g m between ((meant ++ k.comes.more) ++ one.comes.more) ((rules ++ []) ++ rules_in_block m (opened before) a) (second_notes ++ rest) third
        second_enters =
            at_same c g m (behind_block (opened before) a) between _ _ (second_notes ++ rest) third refl
            (at_behind c g m (opened before) (behind_block (opened before) a) (meant ++ k.comes.more) (rules ++ []) (rules_in_block m (opened before) a) (first_notes ++ (second_notes ++ rest))
            (second_notes ++ rest) (spots_in_block m (opened before) a) second third first_enters one)

        pub when_passed : (last : Walk)
            → ComesBehind c g (behind_block between b) ((meant ++ k.comes.more) ++ one.comes.more) ((rules ++ []) ++ rules_in_block m (opened before) a) (rules_in_block m between b) rest
            (spots_in_block m between b) third last
            → ComesBehind c g (behind before (when p e a b)) meant rules (rules_in m before (when p e a b)) rest (spots_in m before (when p e a b)) old last
        when_passed last two =
            let one_spots = spots_in_block m (opened before) a in
            let two_spots = spots_in_block m between b in
            let condition = spots_of_condition (sized_at m before) e in
            let asked = rules_in_block m (opened before) a ++ rules_in_block m between b in
            let both = behind_then c g before (behind_block between b) meant rules [] asked (first_notes ++ (second_notes ++ rest)) rest condition (one_spots ++ two_spots) old second last
            behind_condition
            (behind_then c g (behind_block (opened before) a) (behind_block between b) (meant ++ k.comes.more) (rules ++ []) (rules_in_block m (opened before) a) (rules_in_block m between b)
            (second_notes ++ rest) rest one_spots two_spots second third last one two) in
            behind_same c g (behind_block between b) (behind before (when p e a b)) meant rules asked rest ((condition ++ one_spots) ++ two_spots) old last refl
            (subst (λ spots. ComesBehind c g (behind_block between b) meant rules asked rest spots old last) (sym (append_assoc condition one_spots two_spots)) both)
