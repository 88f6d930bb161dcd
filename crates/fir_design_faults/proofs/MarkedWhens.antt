-- A when over leaves beside a when of the text, with the marks of what is live.
use Rattle.std.proofs.Common.{◌≡◌, ℕ, ◌+◌, List, [], ◌∷◌, ◌++◌, Bool, true, false, not, ◌&&◌, drop, length, map, nat_lt, if◌then◌else◌, refl, sym, ap, ◌∙◌, append-nil, arith, subst}
use Rattle.std.specs.List.{list_any}
use Rattle.std.proofs.lemmas.Bool.{ltb-false, ltb-true}
use Rattle.std.proofs.lemmas.List.{drop-append-le, length-append}
use Rattle.fir_base.proofs.Twins.{distinct_joined}
use Rattle.fir_ast.specs.declared.fault.Outcome.{Outcome}
use Rattle.fir_ast.specs.declared.place.Place.{Place}
use Rattle.fir_ast.specs.Expressions.{Expression}
use Rattle.fir_meaning.specs.ModuleScenes.{Scene, scope_before}
use Rattle.fir_meaning.specs.SourceChoices.{Choice, are_taken, may_drive}
use Rattle.fir_meaning.specs.SourceDrives.{Drive}
use Rattle.fir_meaning.specs.SourceReads as tree
use Rattle.fir_meaning.specs.Visibility.{Before}
use Rattle.fir_meaning.specs.Visits.{Branch, branch}
use Rattle.fir_meaning.specs.working.Choices.{Live, below, covers_all, lives_all, unless}
use Rattle.fir_meaning.specs.working.LeafBlocks.{LeafBlock}
use Rattle.fir_meaning.specs.working.LeafBlocks as leafed
use Rattle.fir_meaning.specs.working.LeafedBlocks.{alone}
use Rattle.fir_meaning.specs.working.TermReads as by_number
use Rattle.fir_meaning.specs.working.Terms.{Term}
use Rattle.fir_source_faults.specs.working.ReadsByPath.{path_in, paths_in}
use Rattle.fir_source_faults.proofs.TakenBranches.{drop_all, taken_more}
use Rattle.fir_source_faults.proofs.WhenPieces.{when_piece, when_told}
use Rattle.fir_design_faults.proofs.ClockMarks.{Covers, IsNever, IsReached, Marked, begin_both, begin_further, marked_below, marks_joined, marks_within, stand_apart}
use Rattle.fir_design_faults.proofs.MarkedPieces.{Full, covers_of}

module _ (s : Scene) (depth x : ℕ) (way : List Bool) (under : List Branch) (k : ℕ) (long : length under ≡ k) (before : Before) (c : Expression) (t : Term)
    (reads : paths_in s (by_number.reads t) ≡ tree.reads (scope_before s before) c []) (p : Place) (a b : LeafBlock) (ds es : List Drive)
    (told_a told_b : Choice → List Outcome) (holds : Bool) (held : list_any (may_drive depth (path_in s x)) (ds ++ es) ≡ holds) where
  abbrev first : Branch
  first = branch way before c true

  abbrev second : Branch
  second = branch way before c false

  more : (br : Branch) → length (under ++ br ∷ []) ≡ k + 1
  more br = length-append under (br ∷ []) ∙ ap (λ n. n + 1) long

  beyond : nat_lt k depth ≡ true → (br : Branch) → drop depth (under ++ br ∷ []) ≡ drop depth under
  beyond lt br =
      drop_all depth (under ++ br ∷ []) (omega (arith, more br, ltb-true k depth lt)) ∙ sym (drop_all depth under (omega (arith, long, ltb-true k depth lt)))

  within : nat_lt k depth ≡ false → (br : Branch) → drop depth (under ++ br ∷ []) ≡ drop depth under ++ br ∷ []
  within lt br = drop-append-le depth under (br ∷ []) (omega (arith, long, ltb-false k depth lt))

  taken_within : nat_lt k depth ≡ false → (h : Choice) (br : Branch) → are_taken h (drop depth under) ≡ true
      → are_taken h (drop depth (under ++ br ∷ [])) ≡ ((if br.is_first then h br.way else not (h br.way)) && true)
  taken_within lt h br taken =
      ap (are_taken h) (within lt br) ∙ taken_more h (drop depth under) br
      ∙ ap (λ z. z && ((if br.is_first then h br.way else not (h br.way)) && true)) taken

  module _ (at_a : Full s depth x (way ++ false ∷ []) (under ++ first ∷ []) (k + 1) a ds told_a)
      (at_b : Full s depth x (way ++ true ∷ []) (under ++ second ∷ []) (k + 1) b es told_b) where
    abbrev Whole : List Live → Type 0
    Whole =
        Marked s (IsReached depth (path_in s x) way (drop depth under) (ds ++ es)) (IsNever depth (path_in s x) (ds ++ es)) (ds ++ es)

    abbrev ls : List Live
    ls = lives_all depth x a (k + 1)

    abbrev ms : List Live
    ms = lives_all depth x b (k + 1)

    -- the leaf is declared in the when
    outside : nat_lt k depth ≡ true → Whole (unless (covers_all depth x b (k + 1)) ls ++ ms)
    outside lt =
        marks_joined depth (path_in s x) s way ds es ls ms at_a.kept.begin at_b.kept.begin (drop depth under) (covers_all depth x b (k + 1))
        (subst (λ o. Covers depth (path_in s x) (way ++ true ∷ []) o es (covers_all depth x b (k + 1))) (beyond lt second)
        (covers_of s depth x (way ++ true ∷ []) (under ++ second ∷ []) (k + 1) b es told_b at_b.piece))
        (λ h none. (at_a.piece.unreached h (ap (are_taken h) (beyond lt first) ∙ none)).0)
        (subst (λ o. Marked s (IsReached depth (path_in s x) (way ++ false ∷ []) o ds) (IsNever depth (path_in s x) ds) ds ls) (beyond lt first) at_a.kept.marks)
        (subst (λ o. Marked s (IsReached depth (path_in s x) (way ++ true ∷ []) o es) (IsNever depth (path_in s x) es) es ms) (beyond lt second) at_b.kept.marks)

    inner : nat_lt k depth ≡ false → Whole (map (below t) (ls ++ ms))
    inner lt =
        marked_below s (IsReached depth (path_in s x) way (drop depth under) (ds ++ es)) (IsNever depth (path_in s x) (ds ++ es)) t (ds ++ es) (ls ++ ms)
        (marks_within depth (path_in s x) s way ds es ls ms at_a.kept.begin at_b.kept.begin (drop depth under) (drop depth (under ++ first ∷ []))
        (drop depth (under ++ second ∷ []))
        (λ h taken is. (
          taken_within lt h first taken ∙ ap (λ z. z && true) is,
          (at_b.piece.unreached h (taken_within lt h second taken ∙ ap (λ z. not z && true) is)).0,
        ))
        (λ h taken is. taken_within lt h second taken ∙ ap (λ z. not z && true) is)
        at_a.kept.marks at_b.kept.marks)

    when_marks : Whole (lives_all depth x (alone (leafed.when p t a b)) k)
    when_marks = by (nat_lt k depth) refl
      where
        by : (lt : Bool) → nat_lt k depth ≡ lt
            → Whole ((if lt then unless (covers_all depth x b (k + 1)) ls ++ ms else map (below t) (ls ++ ms)) ++ [])
        by true lt = subst Whole (sym (append-nil (unless (covers_all depth x b (k + 1)) ls ++ ms))) (outside lt)
        by false lt = subst Whole (sym (append-nil (map (below t) (ls ++ ms)))) (inner lt)

    pub when_full : Full s depth x way under k (alone (leafed.when p t a b)) (ds ++ es)
        (when_told s depth x way under k long before c t reads p a b ds es told_a told_b holds held)
    when_full = record {
      piece = when_piece s depth x way under k long before c t reads p a b ds es told_a told_b holds held at_a.piece at_b.piece;
      kept = record {
        begin = begin_both way ds es (begin_further way false ds at_a.kept.begin) (begin_further way true es at_b.kept.begin);
        once = distinct_joined ds es at_a.kept.once at_b.kept.once (stand_apart way ds es at_a.kept.begin at_b.kept.begin);
        marks = when_marks;
      };
    }
