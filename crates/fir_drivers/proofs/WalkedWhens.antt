-- The walk over a when.
use Rattle.std.proofs.Common.{◌≡◌, ℕ, ◌+◌, ◌<◌, List, Bool, true, false, not, ◌&&◌, ◌||◌, if◌then◌else◌, length, map, Some, refl, sym, ap, ◌∙◌, subst, nat_lt, arith, ⊎_elim}
use Rattle.std.specs.Prelude.{Err, Ok, OnOk, Result, slice_get, unwrap_or}
use Rattle.std.proofs.lemmas.Bool.{cases_Bool}
use Rattle.std.proofs.lemmas.Option.{slice_get_within}
use Rattle.fir_ast.specs.declared.place.Place.{Place}
use Rattle.fir_meaning.specs.working.LeafBlocks.{LeafStatement, LeafBlock, when}
use Rattle.fir_meaning.specs.working.TermReads.{is_among}
use Rattle.fir_meaning.specs.working.TermValues.{Holds}
use Rattle.fir_meaning.specs.working.Terms.{Term}
use Rattle.fir_meaning.specs.working.UndrivenChoices.{drives_any}
use Rattle.fir_leaf.specs.declared.statement.LeafWhen.{LeafWhen}
use Rattle.fir_leaf.specs.declared.statement.LeafStmt.TheVariants as code
use Rattle.fir_leaf.specs.working.Nodes.{node_term}
use Rattle.fir_leaf.specs.working.NodeBlocks.{block_in, statement_in}
use Rattle.fir_leaf_types.specs.working.TypedBlocks.{IsTyped}
use Rattle.fir_leaf_types.specs.working.TypedTerms.{one_bit}
use Rattle.fir_driven.specs.working.Covering.{depth_in}
use Rattle.fir_driven.proofs.LeafViews.{when_view}
use Rattle.fir_net.specs.declared.node.Node.{Node}
use Rattle.fir_connect.specs.working.Drivers.{driver, driver_all}
use Rattle.fir_connect.specs.working.Lowered.{lowered}
use Rattle.fir_connect.specs.working.LoweredLaws.{types_of}
use Rattle.fir_connect.specs.working.NetTerms.{NetTerm, choice}
use Rattle.fir_merge.specs.declared.bound.Bound.{Bound}
use Rattle.fir_merge.specs.working.Bounds.{StandsFor}
use Rattle.fir_merge.specs.working.Entries.{value_in}
use Rattle.fir_merge.specs.working.NodeTerms.{Grows}
use Rattle.fir_merge.proofs.GrownTerms.{grows_more}
use Rattle.fir_merge.proofs.StandingValues.{stands_later}
use Rattle.fir_drivers.specs.declared.setting.Setting.{Setting}
use Rattle.fir_drivers.specs.working.Slots.{Merges, PutsBack, SlotStands, slot_at}
use Rattle.fir_drivers.specs.working.TargetLists.{ListsTargets, StacksBlock, StacksStatement, is_target}
use Rattle.fir_drivers.specs.working.Walks.{TakesList, Walks, WalksBlock, WalksStatement}
use Rattle.fir_drivers.proofs.LaterSettings.{lowered_stands, set_later}
use Rattle.fir_drivers.proofs.QuietStatements.{neither, quiet_all}
use Rattle.fir_drivers.proofs.SlotSteps.{slot_later}

-- what a when makes of a leaf, by whether it chooses for it
abbrev tested : Holds → NetTerm → Bool → Bool → NetTerm → NetTerm → NetTerm → NetTerm → NetTerm
tested holds c inner driven through_both one other old = if inner then through_both else if driven then choice holds c one other else old

tested_true : (holds : Holds) (c : NetTerm) (inner driven : Bool) (through_both one other old : NetTerm) → (not inner && driven) ≡ true
    → choice holds c one other ≡ tested holds c inner driven through_both one other old
tested_true holds c true driven through_both one other old h = absurd cc
tested_true holds c false true through_both one other old h = refl
tested_true holds c false false through_both one other old h = absurd cc

tested_false : (holds : Holds) (c : NetTerm) (inner driven : Bool) (through_both one other old : NetTerm) → (not inner && driven) ≡ false
    → (driven ≡ false → through_both ≡ old) → through_both ≡ tested holds c inner driven through_both one other old
tested_false holds c true driven through_both one other old h quiet = refl
tested_false holds c false true through_both one other old h quiet = absurd cc
tested_false holds c false false through_both one other old h quiet = quiet refl

module _ (holds : Holds) (depths : List ℕ) (k : ℕ) (p : Place) (c : Term) (a b : LeafBlock) (net one two new : List Node)
    (slots first second third last : List Bound) (targets : List ℕ) (condition nothing : Bound) (long : length slots ≡ length depths)
    (lists : ListsTargets depths k a b targets) (to_one : Grows net one) (to_two : Grows one two)
    (walks_then : Walks holds net one slots first (λ y t. driver_all holds (depth_in depths y) y a (k + 1) t))
    (puts : PutsBack first second targets (slot_at slots nothing))
    (walks_else : Walks holds one two second third (λ y t. driver_all holds (depth_in depths y) y b (k + 1) t))
    (merges : Merges two new third last condition targets (slot_at first nothing) (slot_at third nothing))
    (of_c : StandsFor holds net condition (lowered holds c)) where
  same_slots : length third ≡ length slots
  same_slots = walks_else.same_length ∙ puts.same_length ∙ walks_then.same_length

  module _ (x : ℕ) (t : NetTerm) (h : SlotStands holds net slots x t) where
    abbrev depth : ℕ
    depth = depth_in depths x

    abbrev by_then : NetTerm
    by_then = driver_all holds depth x a (k + 1) t

    within : x < length slots
    within = slice_get_within slots x h.bound h.is

    target : is_among targets x ≡ is_target depths k a b x
    target = let lt : x < length depths = omega (arith, within, long) in lists x lt

    at_slot : (bs : List Bound) (z : Bound) → slice_get bs x ≡ Some z → z ≡ slot_at bs nothing x
    at_slot bs z is = sym (ap (λ o. unwrap_or o nothing) is)

    chosen : is_among targets x ≡ true → SlotStands holds new last x (driver holds depth x (when p c a b) k t)
    chosen among =
        let after_then = walks_then.each x t h in
        let back = puts.each x after_then.bound after_then.is in
        let had : slice_get second x ≡ Some h.bound = rw among at back ∙ ap Some (sym (at_slot slots h.bound h.is)) in
        let before_else : SlotStands holds one second x t =
        record { bound = h.bound; is = had; stands = stands_later holds net one h.bound t to_one h.stands } in
        let after_else = walks_else.each x t before_else in
        let there : x < length third = omega (arith, within, same_slots) in
        let of_one = stands_later holds one two after_then.bound by_then to_two after_then.stands in
        subst (SlotStands holds new last x)
        (tested_true holds (lowered holds c) (nat_lt k depth) (drives_any x a || drives_any x b) (driver_all holds depth x b (k + 1) by_then) by_then
        (driver_all holds depth x b (k + 1) t) t (sym target ∙ among))
        (merges.chosen holds x (lowered holds c) by_then (driver_all holds depth x b (k + 1) t) there among
        (stands_later holds net two condition (lowered holds c) (grows_more net one two to_one to_two) of_c)
        (subst (λ (z : Bound). StandsFor holds two z by_then) (at_slot first after_then.bound after_then.is) of_one)
        (subst (λ (z : Bound). StandsFor holds two z (driver_all holds depth x b (k + 1) t)) (at_slot third after_else.bound after_else.is) after_else.stands))

    passed : is_among targets x ≡ false → SlotStands holds new last x (driver holds depth x (when p c a b) k t)
    passed none =
        let after_then = walks_then.each x t h in
        let back = puts.each x after_then.bound after_then.is in
        let kept : slice_get second x ≡ Some after_then.bound = rw none at back in
        let before_else : SlotStands holds one second x by_then = record { bound = after_then.bound; is = kept; stands = after_then.stands } in
        let after_else = walks_else.each x by_then before_else in
        subst (SlotStands holds new last x)
        (tested_false holds (lowered holds c) (nat_lt k depth) (drives_any x a || drives_any x b) (driver_all holds depth x b (k + 1) by_then) by_then
        (driver_all holds depth x b (k + 1) t) t (sym target ∙ none)
        (λ quiet.
        let both = neither (drives_any x a) (drives_any x b) quiet in
        quiet_all holds depth x b (k + 1) by_then both.1 ∙ quiet_all holds depth x a (k + 1) t both.0))
        (slot_later holds two new third last x (driver_all holds depth x b (k + 1) by_then) merges.grows (merges.others x none) after_else)

  pub walks_chosen : Walks holds net new slots last (λ y t. driver holds (depth_in depths y) y (when p c a b) k t)
  walks_chosen = record {
    same_length = merges.same_length ∙ same_slots;
    each = λ x t h. ⊎_elim (chosen x t h) (passed x t h) (cases_Bool (is_among targets x));
  }

-- the slots of leaves, behind what is passed on
pub listed : (bs items from slots : List Bound) (nothing : Bound) (xs leaves : List ℕ) → bs ≡ items → items ≡ map (slot_at from nothing) xs → from ≡ slots
    → xs ≡ leaves → bs ≡ map (slot_at slots nothing) leaves
listed bs items from slots nothing xs leaves a b c d = a ∙ b ∙ (λ j. map (slot_at (c j) nothing) (d j))

-- two clauses of one call
pub on_ok_both : {T E P Q R : Type 0} (r : Result T E) → (P → Q → R) → OnOk r P → OnOk r Q → OnOk r R
on_ok_both (Ok x) f p q = f p q
on_ok_both (Err e) f p q = tt

-- by what is taken from the lists and by the walks of the blocks
module _ (s : Setting) (w : LeafWhen) (k : ℕ) (net one two new : List Node) (slots first second third last : List Bound) (targets : List ℕ) (condition : Bound)
    (lists_one lists_two lists_three lists_four : List (List ℕ)) (taken : TakesList lists_one lists_two targets)
    (is_condition : condition ≡ value_in s.nodes.now s.bounds.now s.nothing.now w.condition) (to_one : Grows net one) (to_two : Grows one two)
    (walks_then : WalksBlock s (block_in s.nodes.now w.then_block.items) (k + 1) net one slots first lists_two lists_three)
    (puts : PutsBack first second targets (slot_at slots s.nothing.now))
    (walks_else : WalksBlock s (block_in s.nodes.now w.else_block.items) (k + 1) one two second third lists_three lists_four)
    (merges : Merges two new third last condition targets (slot_at first s.nothing.now) (slot_at third s.nothing.now)) where
  pub when_walks : WalksStatement s (statement_in s.nodes.now (code.When w)) k net new slots last lists_one lists_four
  when_walks = λ held rest set typed long stacks.
      let nodes = s.nodes.now in
      let depths = s.depths.now in
      let view = when_view nodes w in
      let parts = subst (IsTyped held) view typed in
      let stacked = subst (λ (z : LeafStatement). StacksStatement depths z k rest lists_one) view stacks in
      let from = taken stacked.1 stacked.2 stacked.6 in
      let a = block_in nodes w.then_block.items in
      let b = block_in nodes w.else_block.items in
      let stacks_then = subst (StacksBlock depths a (k + 1) stacked.0) (sym from.0) stacked.4 in
      let by_then = walks_then held stacked.0 set parts.1 long stacks_then in
      let long_second : length second ≡ length depths = puts.same_length ∙ by_then.1.same_length ∙ long in
      let stacks_else = subst (StacksBlock depths b (k + 1) rest) (sym by_then.0) stacked.3 in
      let by_else = walks_else held rest (set_later held s net one to_one set) parts.2 long_second stacks_else in
      let lists = subst (ListsTargets depths k a b) (sym from.1) stacked.5 in
      let of_c = subst (λ (z : Bound). StandsFor (types_of held) net z (lowered (types_of held) (node_term nodes w.condition))) (sym is_condition)
      (lowered_stands held s net w.condition one_bit set parts.0) in (
        by_else.0,
        subst
            (λ (z : LeafStatement). Walks (types_of held) net new slots last (λ y t. driver (types_of held) (depth_in depths y) y z k t))
            (sym view)
            (walks_chosen (types_of held) depths k w.place (node_term nodes w.condition) a b net one two new slots first second third last targets condition
            s.nothing.now long lists to_one to_two by_then.1 puts by_else.1 merges of_c),
      )
