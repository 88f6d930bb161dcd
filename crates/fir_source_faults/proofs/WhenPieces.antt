-- A when over leaves beside a when of the text.
use Rattle.std.proofs.Common.{◌≡◌, ℕ, ◌+◌, List, [], ◌∷◌, ◌++◌, Bool, true, false, not, ◌&&◌, ◌||◌, drop, flat_map, length, nat_lt, if◌then◌else◌, Option, refl, sym, ap, ap₂, ◌∙◌, append-nil, arith, subst}
use Rattle.std.specs.List.{list_any}
use Rattle.std.proofs.lemmas.Bool.{ltb-false, ltb-true, or_parts}
use Rattle.std.proofs.lemmas.Grind.{flat_map-append}
use Rattle.std.proofs.lemmas.List.{drop-append-le, length-append}
use Rattle.std.proofs.lemmas.List.Folds.{list_any-append}
use Rattle.fir_ast.specs.declared.fault.Outcome.{Outcome}
use Rattle.fir_ast.specs.declared.fault.Outcome.TheVariants as outcome
use Rattle.fir_ast.specs.declared.place.Place.{Place}
use Rattle.fir_ast.specs.Expressions.{Expression}
use Rattle.fir_meaning.specs.working.Choices as over
use Rattle.fir_meaning.specs.working.Choices.{Live, below, first_part, last_all, second_part}
use Rattle.fir_meaning.specs.working.LeafBlocks.{LeafBlock}
use Rattle.fir_meaning.specs.working.LeafBlocks as leafed
use Rattle.fir_meaning.specs.LeafPaths.{LeafPath}
use Rattle.fir_meaning.specs.working.LeafedBlocks.{alone}
use Rattle.fir_meaning.specs.ModuleScenes.{Scene, scope_before}
use Rattle.fir_meaning.specs.SourceChoices.{Choice, are_taken, last_reaching, later, may_drive}
use Rattle.fir_meaning.specs.SourceDrives.{Drive}
use Rattle.fir_meaning.specs.SourceReads as tree
use Rattle.fir_meaning.specs.working.TermReads as by_number
use Rattle.fir_meaning.specs.working.Terms.{Term}
use Rattle.fir_meaning.specs.working.UndrivenChoices as numbered
use Rattle.fir_meaning.specs.working.UndrivenChoices.{drives_any}
use Rattle.fir_meaning.specs.Visibility.{Before}
use Rattle.fir_meaning.specs.Visits.{Branch, branch}
use Rattle.fir_source_faults.specs.working.ReadsByPath.{path_in, paths_in}
use Rattle.fir_source_faults.proofs.JoinedChoices.{last_behind, nothing_later, nothing_told, split}
use Rattle.fir_source_faults.proofs.Pieces.{Agree, Piece, SameLast, condition_reads, inside, outer_reads, same_later}
use Rattle.fir_source_faults.proofs.TakenBranches.{drop_all, moved_in, or_false, taken_more, told_first, told_second}

module _ (s : Scene) (depth x : ℕ) (way : List Bool) (under : List Branch) (k : ℕ) (long : length under ≡ k) (before : Before) (c : Expression) (t : Term)
    (reads : paths_in s (by_number.reads t) ≡ tree.reads (scope_before s before) c []) (p : Place) (a b : LeafBlock) (ds es : List Drive)
    (told_a told_b : Choice → List Outcome) (holds : Bool) (held : list_any (may_drive depth (path_in s x)) (ds ++ es) ≡ holds) where
  abbrev path : LeafPath
  path = path_in s x

  abbrev first : Branch
  first = branch way before c true

  abbrev second : Branch
  second = branch way before c false

  abbrev pub when_block : LeafBlock
  when_block = alone (leafed.when p t a b)

  abbrev pub when_itself : Choice → List Outcome
  when_itself h =
      if are_taken h (drop depth under) then (if not (nat_lt (length under) depth) && holds then outcome.When p (h way) ∷ [] else []) else []

  abbrev pub when_told : Choice → List Outcome
  when_told h = when_itself h ++ (told_a h ++ told_b h)

  more : (br : Branch) → length (under ++ br ∷ []) ≡ k + 1
  more br = length-append under (br ∷ []) ∙ ap (λ n. n + 1) long

  beyond : nat_lt k depth ≡ true → (br : Branch) → drop depth (under ++ br ∷ []) ≡ []
  beyond lt br = drop_all depth (under ++ br ∷ []) (omega (arith, more br, ltb-true k depth lt))

  beyond_all : nat_lt k depth ≡ true → drop depth under ≡ []
  beyond_all lt = drop_all depth under (omega (arith, long, ltb-true k depth lt))

  within : nat_lt k depth ≡ false → (br : Branch) → drop depth (under ++ br ∷ []) ≡ drop depth under ++ br ∷ []
  within lt br = drop-append-le depth under (br ∷ []) (omega (arith, long, ltb-false k depth lt))

  outer_within : nat_lt k depth ≡ false → (br : Branch)
      → outer_reads s depth (under ++ br ∷ []) ≡ outer_reads s depth under ++ (condition_reads s br ++ [])
  outer_within lt br = ap (flat_map (condition_reads s)) (within lt br) ∙ flat_map-append (condition_reads s) (drop depth under) (br ∷ [])

  taken_within : nat_lt k depth ≡ false → (h : Choice) (br : Branch) → are_taken h (drop depth under) ≡ true
      → are_taken h (drop depth (under ++ br ∷ [])) ≡ ((if br.is_first then h br.way else not (h br.way)) && true)
  taken_within lt h br taken =
      ap (are_taken h) (within lt br) ∙ taken_more h (drop depth under) br
      ∙ ap (λ z. z && ((if br.is_first then h br.way else not (h br.way)) && true)) taken

  module _ (at_a : Piece s depth x (way ++ false ∷ []) (under ++ first ∷ []) (k + 1) a ds told_a)
      (at_b : Piece s depth x (way ++ true ∷ []) (under ++ second ∷ []) (k + 1) b es told_b) where
    when_holds : (drives_any x a || drives_any x b) ≡ holds
    when_holds = ap₂ (λ q r. q || r) at_a.holds at_b.holds ∙ sym (list_any-append (may_drive depth path) ds es) ∙ held

    -- what stands in a when that is not reached is not
    not_taken : (h : Choice) (br : Branch) → are_taken h (drop depth under) ≡ false → are_taken h (drop depth (under ++ br ∷ [])) ≡ false
    not_taken h br none = by (nat_lt k depth) refl
      where
        by : (lt : Bool) → nat_lt k depth ≡ lt → are_taken h (drop depth (under ++ br ∷ [])) ≡ false
        by true lt = let all : are_taken h (drop depth under) ≡ true = ap (are_taken h) (beyond_all lt) in cc
        by false lt =
            ap (are_taken h) (within lt br) ∙ taken_more h (drop depth under) br
            ∙ ap (λ z. z && ((if br.is_first then h br.way else not (h br.way)) && true)) none

    module _ (f : over.Choice) (g h : Choice) (agrees : (w : List Bool) → h (way ++ w) ≡ g w) (taken : are_taken h (drop depth under) ≡ true)
        (same : g [] ≡ f (false ∷ []))
        (one : Agree s depth x (way ++ false ∷ []) (under ++ first ∷ []) (k + 1) a ds told_a (first_part (first_part f)) (first_part g))
        (two : Agree s depth x (way ++ true ∷ []) (under ++ second ∷ []) (k + 1) b es told_b (second_part (first_part f)) (second_part g)) where
      here : h way ≡ f (false ∷ [])
      here = ap h (sym (append-nil way)) ∙ agrees [] ∙ same

      in_a : are_taken h (drop depth (under ++ first ∷ [])) ≡ true
          → SameLast s depth x (outer_reads s depth (under ++ first ∷ [])) (last_all depth x a (k + 1) (first_part (first_part f))) (last_reaching depth path h ds)
          × (numbered.told_all depth x a (k + 1) (first_part (first_part f)) ≡ told_a h)
      in_a = one h (inside way false h g (first_part g) agrees (λ w. refl))

      in_b : are_taken h (drop depth (under ++ second ∷ [])) ≡ true
          → SameLast s depth x (outer_reads s depth (under ++ second ∷ [])) (last_all depth x b (k + 1) (second_part (first_part f))) (last_reaching depth path h es)
          × (numbered.told_all depth x b (k + 1) (second_part (first_part f)) ≡ told_b h)
      in_b = two h (inside way true h g (second_part g) agrees (λ w. refl))

      abbrev Goal : Type 0
      Goal = SameLast s depth x (outer_reads s depth under) (last_all depth x when_block k f) (last_reaching depth path h (ds ++ es))
          × (numbered.told_all depth x when_block k f ≡ when_told h)

      -- the leaf is declared in the when
      by_outside : nat_lt k depth ≡ true → Goal
      by_outside lt =
          let none : (br : Branch) → outer_reads s depth (under ++ br ∷ []) ≡ outer_reads s depth under =
          λ br. ap (flat_map (condition_reads s)) (beyond lt br ∙ sym (beyond_all lt)) in
          let left = in_a (ap (are_taken h) (beyond lt first)) in
          let right = in_b (ap (are_taken h) (beyond lt second)) in
          let lasts =
          same_later s depth x (outer_reads s depth under) (last_all depth x b (k + 1) (second_part (first_part f)))
          (last_all depth x a (k + 1) (first_part (first_part f))) (last_reaching depth path h es) (last_reaching depth path h ds)
          (subst (λ (o : List LeafPath). SameLast s depth x o (last_all depth x b (k + 1) (second_part (first_part f))) (last_reaching depth path h es)) (none second) right.0)
          (subst (λ (o : List LeafPath). SameLast s depth x o (last_all depth x a (k + 1) (first_part (first_part f))) (last_reaching depth path h ds)) (none first) left.0)
          in
          let itself : when_itself h ≡ [] = rw (taken, long, lt) refl in (
            rw (lt, last_behind depth path h ds es) lasts,
            rw (lt, itself)
                (append-nil (numbered.told_all depth x a (k + 1) (first_part (first_part f)) ++ numbered.told_all depth x b (k + 1) (second_part (first_part f)))
                ∙ ap₂ (λ (os ps : List Outcome). os ++ ps) left.1 right.1),
          )

      itself_within : nat_lt k depth ≡ false → when_itself h ≡ (if holds then outcome.When p (f (false ∷ [])) ∷ [] else [])
      itself_within lt = rw (taken, long, lt, here) refl

      nothing_held : holds ≡ false → (drives_any x a ≡ false) × (drives_any x b ≡ false)
      nothing_held e = or_parts (drives_any x a) (drives_any x b) (when_holds ∙ e)

      by_within : nat_lt k depth ≡ false → (v : Bool) → f (false ∷ []) ≡ v → Goal
      by_within lt true is =
          let first_taken : are_taken h (drop depth (under ++ first ∷ [])) ≡ true =
          taken_within lt h first taken ∙ ap (λ z. z && true) (here ∙ is) in
          let second_not : are_taken h (drop depth (under ++ second ∷ [])) ≡ false =
          taken_within lt h second taken ∙ ap (λ z. not z && true) (here ∙ is) in
          let left = in_a first_taken in
          let none = at_b.unreached h second_not in
          let inner = last_all depth x a (k + 1) (first_part (first_part f)) in
          let lasts = moved_in s depth x (outer_reads s depth under) t (condition_reads s first) inner (last_reaching depth path h ds) reads
          (subst (λ (o : List LeafPath). SameLast s depth x o inner (last_reaching depth path h ds)) (outer_within lt first) left.0) in (
            rw (lt, is, last_behind depth path h ds es, none.0) lasts,
            rw (lt, itself_within lt, is, when_holds)
                (told_first holds (outcome.When p true) (numbered.told_all depth x a (k + 1) (first_part (first_part f))) (told_a h) (told_b h) left.1 none.1
                (λ e. nothing_told depth x a (k + 1) (first_part (first_part f)) (nothing_held e).0)),
          )
      by_within lt false is =
          let first_not : are_taken h (drop depth (under ++ first ∷ [])) ≡ false =
          taken_within lt h first taken ∙ ap (λ z. z && true) (here ∙ is) in
          let second_taken : are_taken h (drop depth (under ++ second ∷ [])) ≡ true =
          taken_within lt h second taken ∙ ap (λ z. not z && true) (here ∙ is) in
          let right = in_b second_taken in
          let none = at_a.unreached h first_not in
          let inner = last_all depth x b (k + 1) (second_part (first_part f)) in
          let lasts = moved_in s depth x (outer_reads s depth under) t (condition_reads s second) inner (last_reaching depth path h es) reads
          (subst (λ (o : List LeafPath). SameLast s depth x o inner (last_reaching depth path h es)) (outer_within lt second) right.0) in (
            rw (lt, is, last_behind depth path h ds es, none.0, nothing_later (last_reaching depth path h es)) lasts,
            rw (lt, itself_within lt, is, when_holds)
                (told_second holds (outcome.When p false) (numbered.told_all depth x b (k + 1) (second_part (first_part f))) (told_a h) (told_b h) right.1 none.1
                (λ e. nothing_told depth x b (k + 1) (second_part (first_part f)) (nothing_held e).1)),
          )

      when_agrees : Goal
      when_agrees = by (nat_lt k depth) refl
        where
          by : (lt : Bool) → nat_lt k depth ≡ lt → Goal
          by true lt = by_outside lt
          by false lt = by_within lt (f (false ∷ [])) refl

    pub when_piece : Piece s depth x way under k when_block (ds ++ es) when_told
    when_piece = record {
      forth = λ f.
          let one = at_a.forth (first_part (first_part f)) in
          let two = at_b.forth (second_part (first_part f)) in
          let g = split (f (false ∷ [])) one.0 two.0 in
          (g, λ h agrees taken. when_agrees f g h agrees taken refl one.1 two.1);
      back = λ g.
          let one = at_a.back (first_part g) in
          let two = at_b.back (second_part g) in
          let f = split true (split (g []) one.0 two.0) g in
          (f, λ h agrees taken. when_agrees f g h agrees taken refl one.1 two.1);
      unreached = λ h none.
          let one = at_a.unreached h (not_taken h first none) in
          let two = at_b.unreached h (not_taken h second none) in (
            last_behind depth path h ds es ∙ ap₂ (λ (o p : Option Drive). later o p) two.0 one.0,
            rw (none, one.1, two.1) refl,
          );
      holds = or_false (drives_any x a || drives_any x b) ∙ when_holds ∙ sym held;
    }
