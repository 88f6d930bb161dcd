-- The walk that finds the told choice, in the blocks of a when.
use Rattle.std.proofs.Common.{◌≡◌, ℕ, ◌+◌, ◌<◌, ◌≤◌, List, [], ◌∷◌, ◌++◌, Bool, true, false, ◌&&◌, ◌||◌, take, length, nat_lt, refl, sym, ap, ◌∙◌, arith, append_assoc, append-nil}
use Rattle.std.proofs.lemmas.Bool.{and_right, or_right}
use Rattle.std.proofs.lemmas.Bool.Decides.{nat_tests}
use Rattle.std.proofs.lemmas.List.{take_at}
use Rattle.fir_ast.specs.declared.fault.Outcome.{Outcome}
use Rattle.fir_ast.specs.declared.fault.Outcome.TheVariants as outcome
use Rattle.fir_ast.specs.declared.place.Place.{Place}
use Rattle.fir_meaning.specs.working.LeafBlocks.{LeafBlock, when}
use Rattle.fir_meaning.specs.working.Terms.{Term}
use Rattle.fir_meaning.specs.working.Choices.{covers, covers_all}
use Rattle.fir_meaning.specs.working.UndrivenChoices.{drives_any}
use Rattle.fir_driven.specs.declared.choice.Asked.{Asked}
use Rattle.fir_driven.specs.declared.choice.Told.{Told}
use Rattle.fir_driven.specs.working.Missed.{missed_all}
use Rattle.fir_driven.specs.working.MissWalks.{MissesBlock, MissesStatement}
use Rattle.fir_driven.proofs.DrivenMisses.{covers_drives}
use Rattle.fir_driven.proofs.MissesInBlocks.{misses_as, misses_then, or_comm}

and_true : (a : Bool) → (a && true) ≡ a
and_true true = refl
and_true false = refl

-- what was put behind others is taken away
pub back_to : (before after added : List Outcome) (o : Outcome) (n : ℕ) → length before ≡ n → after ≡ (before ++ o ∷ []) ++ added → take n after ≡ before
back_to before after added o n is grown = ap (take n) (grown ∙ append_assoc before (o ∷ []) added) ∙ take_at before (o ∷ added) n is

module _ (asked : Asked) (p : Place) (c : Term) (a b : LeafBlock) (k : ℕ) where
  -- a when round the declaration of the leaf
  pub misses_inner : (first second told : Told) (before between after : List Outcome) → k < asked.depth
      → MissesBlock asked a (k + 1) first before between → MissesBlock asked b (k + 1) second between after
      → told.covered ≡ (first.covered || second.covered) → told.drives ≡ (first.drives || second.drives)
      → MissesStatement asked (when p c a b) k told before after
  misses_inner first second told before between after lt u v is_covered is_driven =
      let early : nat_lt k asked.depth ≡ true = grind (arith, nat_tests) in
      let depth = asked.depth in
      let x = asked.leaf in
      let covers_a = covers_all depth x a (k + 1) in
      let covers_b = covers_all depth x b (k + 1) in
      let both = misses_then covers_a covers_b (drives_any x a) (drives_any x b) (missed_all depth x a (k + 1)) (missed_all depth x b (k + 1)) first second told
      before between after u v is_covered is_driven in
      rw early (misses_as (covers_a || covers_b) (covers_b || covers_a) (drives_any x a || drives_any x b) (drives_any x a || drives_any x b)
      (missed_all depth x a (k + 1) ++ missed_all depth x b (k + 1)) (missed_all depth x a (k + 1) ++ missed_all depth x b (k + 1)) told before after
      (or_comm covers_a covers_b) refl refl both)

  module _ (late : asked.depth ≤ k) where
    not_early : nat_lt k asked.depth ≡ false
    not_early = grind (arith, nat_tests)

    -- the second block covers the leaf, so the when is 1
    pub misses_one : (first told : Told) (before after : List Outcome) → covers_all asked.depth asked.leaf b (k + 1) ≡ true
        → MissesBlock asked a (k + 1) first (before ++ outcome.When p true ∷ []) after → told.covered ≡ first.covered → told.drives ≡ true
        → MissesStatement asked (when p c a b) k told before after
    misses_one first told before after second_covers u is_covered is_driven =
        let covers_a = covers_all asked.depth asked.leaf a (k + 1) in
        let driven = or_right (drives_any asked.leaf a) (drives_any asked.leaf b) (covers_drives asked.depth asked.leaf b (k + 1) second_covers) in
        let covered : covers_a ≡ covers asked.depth asked.leaf (when p c a b) k = rw (not_early, second_covers) (sym (and_true covers_a)) in
        record {
          covered = is_covered ∙ u.covered ∙ covered;
          drives = is_driven ∙ sym driven;
          added = outcome.When p true ∷ u.added;
          grows = u.grows ∙ append_assoc before (outcome.When p true ∷ []) u.added;
          missed = λ e. rw (not_early, driven, second_covers) (ap (λ l. outcome.When p true ∷ l) (u.missed (covered ∙ e)));
        }

    module _ (second told : Told) (before after : List Outcome) (u : MissesBlock asked b (k + 1) second (before ++ outcome.When p false ∷ []) after)
        (missed_second : second.covered ≡ false) (is_covered : told.covered ≡ false)
        (is_driven : told.drives ≡ (second.drives || drives_any asked.leaf a)) where
      may_miss : covers_all asked.depth asked.leaf b (k + 1) ≡ false
      may_miss = sym u.covered ∙ missed_second

      not_covered : covers asked.depth asked.leaf (when p c a b) k ≡ false
      not_covered = rw (not_early, may_miss) (and_right (covers_all asked.depth asked.leaf a (k + 1)) false refl)

      driven : (drives_any asked.leaf a || drives_any asked.leaf b) ≡ told.drives
      driven = or_comm (drives_any asked.leaf a) (drives_any asked.leaf b) ∙ ap (λ d. d || drives_any asked.leaf a) (sym u.drives) ∙ sym is_driven

      -- the second block may miss the leaf, so the when is 0
      pub misses_zero : told.drives ≡ true → MissesStatement asked (when p c a b) k told before after
      misses_zero e =
          let there = driven ∙ e in
          record {
            covered = is_covered ∙ sym not_covered;
            drives = sym driven;
            added = outcome.When p false ∷ u.added;
            grows = u.grows ∙ append_assoc before (outcome.When p false ∷ []) u.added;
            missed = λ _. rw (not_early, there, may_miss) (ap (λ l. outcome.When p false ∷ l) (u.missed may_miss));
          }

      -- no statement may drive the leaf, so the when is not told
      pub misses_nowhere : told.drives ≡ false → MissesStatement asked (when p c a b) k told before before
      misses_nowhere e =
          let nowhere = driven ∙ e in
          record {
            covered = is_covered ∙ sym not_covered;
            drives = sym driven;
            added = [];
            grows = sym (append-nil before);
            missed = λ _. rw (not_early, nowhere) refl;
          }
