-- Statements over leaves beside the drives of a text's statements: for each choice on the ones there is a choice on the others with the same drive live and the
-- same told.
use Rattle.std.proofs.Common.{◌≡◌, ℕ, List, [], ◌∷◌, ◌++◌, Bool, true, false, ◌||◌, drop, flat_map, Option, Some, None, refl, sym, ap, ap₂, ◌∙◌, append_assoc}
use Rattle.std.specs.List.{list_any}
use Rattle.std.proofs.lemmas.List.Folds.{list_any-append}
use Rattle.fir_ast.specs.declared.fault.Outcome.{Outcome}
use Rattle.fir_meaning.specs.working.Choices as over
use Rattle.fir_meaning.specs.working.Choices.{Live, first_part, last_all, second_part}
use Rattle.fir_meaning.specs.working.LeafBlocks.{LeafBlock, joined}
use Rattle.fir_meaning.specs.LeafPaths.{LeafPath}
use Rattle.fir_meaning.specs.ModuleScenes.{Scene, scope_before}
use Rattle.fir_meaning.specs.SourceChoices.{Choice, are_taken, last_reaching, later, live_reads, may_drive}
use Rattle.fir_meaning.specs.SourceDrives.{Drive}
use Rattle.fir_meaning.specs.SourceReads as tree
use Rattle.fir_meaning.specs.working.UndrivenChoices as numbered
use Rattle.fir_meaning.specs.working.UndrivenChoices.{drives_any}
use Rattle.fir_meaning.specs.Visits.{Branch}
use Rattle.fir_source_faults.specs.working.ReadsByPath.{path_in, paths_in}
use Rattle.fir_source_faults.proofs.JoinedChoices.{drives_joined, last_behind, last_joined, last_merged, merged, past, split, told_joined, told_merged}

-- what the conditions of branches read
abbrev pub condition_reads : Scene → Branch → List LeafPath
condition_reads s b = tree.reads (scope_before s b.before) b.condition []

abbrev pub outer_reads : Scene → ℕ → List Branch → List LeafPath
outer_reads s depth under = flat_map (condition_reads s) (drop depth under)

-- a choice at a way and at one of the two below it
pub inside : (way : List Bool) (end : Bool) (h g part : Choice) → ((w : List Bool) → h (way ++ w) ≡ g w)
    → ((w : List Bool) → g (end ∷ w) ≡ part w) → (w : List Bool) → h ((way ++ end ∷ []) ++ w) ≡ part w
inside way end h g part agrees is w = ap h (append_assoc way (end ∷ []) w) ∙ agrees (end ∷ w) ∙ is w

-- for a leaf, and how many whens stand round its declaration
module _ (s : Scene) (depth x : ℕ) where
  -- a live statement and a drive, where conditions stand round the statement that read these
  pub record SameAt (outer : List LeafPath) (l : Live) (d : Drive) : Type 0 where
    pub place : l.place ≡ d.place
    pub reads : outer ++ paths_in s (over.live_reads l) ≡ live_reads depth (path_in s x) s d

  abbrev pub SameLast : List LeafPath → Option Live → Option Drive → Type 0
  SameLast outer None None = Unit {0}
  SameLast outer (Some l) (Some d) = SameAt outer l d
  SameLast outer _ _ = ⊥

  pub same_later : (outer : List LeafPath) (a b : Option Live) (c d : Option Drive) → SameLast outer a c → SameLast outer b d
      → SameLast outer (over.later a b) (later c d)
  same_later outer None b None d h i = i
  same_later outer None b (Some c) d h i = absurd h
  same_later outer (Some a) b None d h i = absurd h
  same_later outer (Some a) b (Some c) d h i = h

  -- of a statement at a way, under branches, so many of which there are
  module _ (way : List Bool) (under : List Branch) (k : ℕ) where
    abbrev pub Agree : LeafBlock → List Drive → (Choice → List Outcome) → over.Choice → Choice → Type 0
    Agree b ds told f g =
        (h : Choice) → ((w : List Bool) → h (way ++ w) ≡ g w) → are_taken h (drop depth under) ≡ true
        → SameLast (outer_reads s depth under) (last_all depth x b k f) (last_reaching depth (path_in s x) h ds)
        × (numbered.told_all depth x b k f ≡ told h)

    pub record Piece (b : LeafBlock) (ds : List Drive) (told : Choice → List Outcome) : Type 0 where
      pub forth : (f : over.Choice) → (g : Choice) × Agree b ds told f g
      pub back : (g : Choice) → (f : over.Choice) × Agree b ds told f g
      pub unreached : (h : Choice) → are_taken h (drop depth under) ≡ false → (last_reaching depth (path_in s x) h ds ≡ None) × (told h ≡ [])
      pub holds : drives_any x b ≡ list_any (may_drive depth (path_in s x)) ds

    pub retold : (b : LeafBlock) (ds : List Drive) (told other : Choice → List Outcome) → ((h : Choice) → told h ≡ other h) → Piece b ds told
        → Piece b ds other
    retold b ds told other same piece = record {
      forth = λ f.
          let to = piece.forth f in
          (to.0, λ h agrees taken. let both = to.1 h agrees taken in (both.0, both.1 ∙ same h));
      back = λ g.
          let to = piece.back g in
          (to.0, λ h agrees taken. let both = to.1 h agrees taken in (both.0, both.1 ∙ same h));
      unreached = λ h none. let both = piece.unreached h none in (both.0, sym (same h) ∙ both.1);
      holds = piece.holds;
    }

  module _ (way : List Bool) (under : List Branch) (k : ℕ) (a b : LeafBlock) (ds es : List Drive) (told_a told_b : Choice → List Outcome) where
    abbrev told_both : Choice → List Outcome
    told_both h = told_a h ++ told_b h

    both_agree : (f f₁ f₂ : over.Choice) (g g₁ g₂ : Choice)
        → last_all depth x (joined a b) k f ≡ over.later (last_all depth x b k f₂) (last_all depth x a k f₁)
        → numbered.told_all depth x (joined a b) k f ≡ numbered.told_all depth x a k f₁ ++ numbered.told_all depth x b k f₂
        → ((w : List Bool) → g (false ∷ w) ≡ g₁ w) → ((w : List Bool) → g (true ∷ w) ≡ g₂ w)
        → Agree (way ++ false ∷ []) under k a ds told_a f₁ g₁ → Agree (way ++ true ∷ []) under k b es told_b f₂ g₂
        → Agree way under k (joined a b) (ds ++ es) told_both f g
    both_agree f f₁ f₂ g g₁ g₂ is_last is_told is₁ is₂ first second h agrees taken =
        let one = first h (inside way false h g g₁ agrees is₁) taken in
        let two = second h (inside way true h g g₂ agrees is₂) taken in
        let path = path_in s x in
        let all : SameLast (outer_reads s depth under) (over.later (last_all depth x b k f₂) (last_all depth x a k f₁))
        (later (last_reaching depth path h es) (last_reaching depth path h ds)) =
        same_later (outer_reads s depth under) (last_all depth x b k f₂) (last_all depth x a k f₁) (last_reaching depth path h es) (last_reaching depth path h ds) two.0 one.0 in
        (rw (is_last, last_behind depth path h ds es) all, is_told ∙ ap₂ (λ (os ps : List Outcome). os ++ ps) one.1 two.1)

    -- one behind the other
    pub both_pieces : Piece (way ++ false ∷ []) under k a ds told_a → Piece (way ++ true ∷ []) under k b es told_b
        → Piece way under k (joined a b) (ds ++ es) (λ h. told_a h ++ told_b h)
    both_pieces first second = record {
      forth = λ f.
          let one = first.forth f in
          let two = second.forth (past a f) in (
            split true one.0 two.0,
            both_agree f f (past a f) (split true one.0 two.0) one.0 two.0 (last_joined depth x a b k f) (told_joined depth x a b k f) (λ w. refl) (λ w. refl)
                one.1 two.1,
          );
      back = λ g.
          let one = first.back (first_part g) in
          let two = second.back (second_part g) in (
            merged a one.0 two.0,
            both_agree (merged a one.0 two.0) one.0 two.0 g (first_part g) (second_part g) (last_merged depth x a b k one.0 two.0)
                (told_merged depth x a b k one.0 two.0) (λ w. refl) (λ w. refl) one.1 two.1,
          );
      unreached = λ h none.
          let one = first.unreached h none in
          let two = second.unreached h none in (
            last_behind depth (path_in s x) h ds es ∙ ap₂ (λ (o p : Option Drive). later o p) two.0 one.0,
            ap₂ (λ (os ps : List Outcome). os ++ ps) one.1 two.1,
          );
      holds =
          drives_joined x a b ∙ ap₂ (λ p q. p || q) first.holds second.holds
          ∙ sym (list_any-append (may_drive depth (path_in s x)) ds es);
    }
