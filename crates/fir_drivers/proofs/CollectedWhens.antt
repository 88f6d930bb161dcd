-- The lists of a when, and the leaves that it chooses for.
use Rattle.std.proofs.Common.{◌≡◌, ℕ, ◌+◌, ◌<◌, ◌≤◌, List, [], ◌∷◌, ◌++◌, Bool, false, ◌||◌, length, refl, ◌∙◌, arith, ⊎_elim}
use Rattle.std.proofs.lemmas.Bool.{cases_lt, lt-ltb, le-ltb}
use Rattle.fir_ast.specs.declared.place.Place.{Place}
use Rattle.fir_meaning.specs.working.TermReads.{is_among}
use Rattle.fir_meaning.specs.working.Terms.{Term}
use Rattle.fir_meaning.specs.working.LeafBlocks.{LeafBlock, when}
use Rattle.fir_meaning.specs.working.UndrivenChoices.{drives, drives_any}
use Rattle.fir_driven.specs.working.Covering.{depth_in}
use Rattle.fir_drivers.specs.working.TargetLists.{Collects, ListsTargets, StacksBlock, StacksStatement, TakesOuter}
use Rattle.fir_driven.proofs.AmongLeaves.{among_both}

either_listed : (second both one two : Bool) → second ≡ (false || two) → both ≡ (second || one) → both ≡ (one || two)
either_listed second both one two h k = grind arith

module _ (depths : List ℕ) (k : ℕ) (p : Place) (c : Term) (a b : LeafBlock) (marks_one marks_two marks_three : List Bool)
    (lists_before between inside lists_after : List (List ℕ)) (second both own before after : List ℕ)
    (else_collects : Collects depths (k + 1) (λ x. drives_any x b) (StacksBlock depths b (k + 1)) marks_one lists_before between [] second)
    (then_collects : Collects depths (k + 1) (λ x. drives_any x a) (StacksBlock depths a (k + 1)) marks_two between inside second both)
    (takes : TakesOuter depths k both own marks_three) (grown : after ≡ before ++ own) (pushed : lists_after ≡ inside ++ own ∷ []) where
  driven_inside : (x : ℕ) → x < length depths → depth_in depths x ≤ k → is_among both x ≡ (drives_any x a || drives_any x b)
  driven_inside x within out =
      let further : depth_in depths x ≤ k + 1 = omega arith in
      either_listed (is_among second x) (is_among both x) (drives_any x a) (drives_any x b) (else_collects.listed x within further)
      (then_collects.listed x within further)

  own_targets : ListsTargets depths k a b own
  own_targets x within =
      takes.listed x within
      ∙ ⊎_elim (λ (in_ : k < depth_in depths x). rw (lt-ltb k (depth_in depths x) in_) refl)
      (λ (out : depth_in depths x ≤ k). rw (driven_inside x within out) refl)
      (cases_lt k (depth_in depths x))

  outer_driven : (x : ℕ) → x < length depths → depth_in depths x ≤ k → is_among after x ≡ (is_among before x || drives x (when p c a b))
  outer_driven x within out = rw (grown, among_both before own x, own_targets x within, le-ltb k (depth_in depths x) out) refl

  pub when_collects :
      Collects depths k (λ x. drives x (when p c a b)) (StacksStatement depths (when p c a b) k) marks_three lists_before lists_after before after
  when_collects = record {
    unmarked = takes.unmarked;
    stacks = (between, inside, own, else_collects.stacks, then_collects.stacks, own_targets, pushed);
    listed = outer_driven;
  }
