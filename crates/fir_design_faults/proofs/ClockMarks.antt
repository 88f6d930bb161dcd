-- The live statements of a leaf over numbers beside the drives of a text: which of the drives are live, in their order, and what each gives.
use Rattle.std.proofs.Common.{◌≡◌, append_assoc, ℕ, ◌<◌, List, [], ◌∷◌, ◌++◌, Bool, true, false, if◌then◌else◌, append-nil, map, length, Option, Some, None, refl, sym, ap, ◌∙◌, inl, inr, ◌⊎◌, ⊎_elim, subst}
use Rattle.std.specs.List.{AllByRecursion}
use Rattle.std.proofs.lemmas.List.{append_cancel_left}
use Rattle.std.proofs.lemmas.Option.{same_Some, none-some}
use Rattle.fir_base.specs.Lists.{In}
use Rattle.fir_base.proofs.Members.{in_either}
use Rattle.fir_meaning.specs.LeafPaths.{LeafPath}
use Rattle.fir_meaning.specs.ModuleScenes.{Scene}
use Rattle.fir_meaning.specs.SourceChoices.{Choice, are_taken, last_reaching, later, reaches}
use Rattle.fir_meaning.specs.SourceDrives.{Drive, Side}
use Rattle.fir_meaning.specs.Visits.{Branch}
use Rattle.fir_meaning.specs.working.Choices.{Live, below, unless}
use Rattle.fir_meaning.specs.working.LeafedModules.{module_leaves}
use Rattle.fir_meaning.specs.working.TermReads as by_number
use Rattle.fir_meaning.specs.working.Terms.{Term, absent, read}
use Rattle.fir_leaf.specs.working.ClockFaults.{index_places, picking_places}
use Rattle.fir_source_faults.specs.working.ReadsByPath.{paths_in}
use Rattle.fir_source_faults.proofs.JoinedChoices.{last_behind, split}
use Rattle.fir_source_faults.proofs.Pieces.{inside}

-- the leaves that a term names, where it is a reference, and whether indices pick among them
abbrev pub leaves_given : Term → List ℕ
leaves_given (read b ps) = by_number.reached b ps
leaves_given _ = []

abbrev pub is_picked : Term → Bool
is_picked (read b ps) = by_number.is_picked ps
is_picked (absent t ps) = by_number.is_picked ps
is_picked _ = false

-- a term and a side of a connect name the same leaves, through the same indices
pub record SameGiven (s : Scene) (t : Term) (g : Side) : Type 0 where
  pub leaves : paths_in s (leaves_given t) ≡ g.leaves
  pub within : AllByRecursion (λ y. y < length (module_leaves s)) (leaves_given t)
  pub picked : is_picked t ≡ g.is_picked
  pub places : picking_places t ≡ g.index_places

-- a live statement and a drive stand at one place, go through the same indices, and name the same
pub record SameSides (s : Scene) (l : Live) (d : Drive) : Type 0 where
  pub place : l.place ≡ d.place
  pub through : index_places l.through ≡ d.driven.index_places
  pub given : SameGiven s l.given d.given

-- of the drives, in their order, those that are live beside the live statements, and those that are not
module _ (s : Scene) where
  abbrev mutual
    pub Marked : (Drive → Type 0) → (Drive → Type 0) → List Drive → List Live → Type 0
    Marked is_live is_not [] ls = ls ≡ []
    Marked is_live is_not (d ∷ ds) ls =
        (is_not d × Marked is_live is_not ds ls)
        ⊎ ((l : Live) × (rest : List Live) × (ls ≡ l ∷ rest) × is_live d × SameSides s l d × Marked is_live is_not ds rest)

  pub marked_still : (p n q m : Drive → Type 0) (ds : List Drive) (ls : List Live) → ((d : Drive) → In ds d → p d → q d)
      → ((d : Drive) → In ds d → n d → m d) → Marked p n ds ls → Marked q m ds ls
  marked_still p n q m [] ls f g h = h
  marked_still p n q m (d ∷ ds) ls f g (inl h) = inl (g d (inl refl) h.0, marked_still p n q m ds ls (λ e i. f e (inr i)) (λ e i. g e (inr i)) h.1)
  marked_still p n q m (d ∷ ds) ls f g (inr h) =
      inr (h.0, h.1, h.2, f d (inl refl) h.3, h.4, marked_still p n q m ds h.1 (λ e i. f e (inr i)) (λ e i. g e (inr i)) h.5)

  pub marked_behind : (p n : Drive → Type 0) (ds es : List Drive) (ls ms : List Live) → Marked p n ds ls → Marked p n es ms → Marked p n (ds ++ es) (ls ++ ms)
  marked_behind p n [] es ls ms h k = subst (λ (ns : List Live). Marked p n es (ns ++ ms)) (sym h) k
  marked_behind p n (d ∷ ds) es ls ms (inl h) k = inl (h.0, marked_behind p n ds es ls ms h.1 k)
  marked_behind p n (d ∷ ds) es ls ms (inr h) k =
      inr (h.0, h.1 ++ ms, ap (λ (ns : List Live). ns ++ ms) h.2, h.3, h.4, marked_behind p n ds es h.1 ms h.5 k)

  pub none_marked : (p n : Drive → Type 0) (ds : List Drive) → ((d : Drive) → In ds d → n d) → Marked p n ds []
  none_marked p n [] h = refl
  none_marked p n (d ∷ ds) h = inl (h d (inl refl), none_marked p n ds (λ e i. h e (inr i)))

  -- below a condition
  pub marked_below : (p n : Drive → Type 0) (c : Term) (ds : List Drive) (ls : List Live) → Marked p n ds ls → Marked p n ds (map (below c) ls)
  marked_below p n c [] ls h = ap (map (below c)) h
  marked_below p n c (d ∷ ds) ls (inl h) = inl (h.0, marked_below p n c ds ls h.1)
  marked_below p n c (d ∷ ds) ls (inr h) =
      inr (
        below c h.0,
        map (below c) h.1,
        ap (map (below c)) h.2,
        h.3,
        record { place = h.4.place; through = h.4.through; given = h.4.given },
        marked_below p n c ds h.1 h.5,
      )

-- the ways of drives begin with that of the statement
abbrev pub BeginWith : List Bool → List Drive → Type 0
BeginWith way ds = (d : Drive) → In ds d → (w : List Bool) × (d.way ≡ way ++ w)

pub begin_further : (way : List Bool) (end : Bool) (ds : List Drive) → BeginWith (way ++ end ∷ []) ds → BeginWith way ds
begin_further way end ds h d i = let is = h d i in (end ∷ is.0, is.1 ∙ append_assoc way (end ∷ []) is.0)

pub begin_both : (way : List Bool) (ds es : List Drive) → BeginWith way ds → BeginWith way es → BeginWith way (ds ++ es)
begin_both way ds es h k d i = ⊎_elim (λ (j : In ds d). h d j) (λ (j : In es d). k d j) (in_either ds es d i)

pub begins_alone : (way : List Bool) (d : Drive) → d.way ≡ way → BeginWith way (d ∷ [])
begins_alone way d is c (inl e) = ([], ap (λ (b : Drive). b.way) (sym e) ∙ is ∙ sym (append-nil way))
begins_alone way d is c (inr i) = absurd i

pub none_begin : (way : List Bool) → BeginWith way []
none_begin way d i = absurd i

pub stand_apart : (way : List Bool) (ds es : List Drive) → BeginWith (way ++ false ∷ []) ds → BeginWith (way ++ true ∷ []) es
    → (d : Drive) → In ds d → In es d → ⊥
stand_apart way ds es h k d i j =
    let one = begin_further way false ds h d i in
    let a = h d i in
    let b = k d j in
    let same : way ++ (false ∷ a.0) ≡ way ++ (true ∷ b.0) =
    sym (a.1 ∙ append_assoc way (false ∷ []) a.0) ∙ (b.1 ∙ append_assoc way (true ∷ []) b.0) in
    let ends : false ∷ a.0 ≡ true ∷ b.0 = append_cancel_left way (false ∷ a.0) (true ∷ b.0) same in
    absurd (cc)

later_some : (o p : Option Drive) (d : Drive) → later o p ≡ Some d → (o ≡ Some d) ⊎ ((o ≡ None) × (p ≡ Some d))
later_some (Some c) p d e = inl e
later_some None p d e = inr (refl, e)

chosen_is : (b : Bool) (c d : Drive) → (if b then Some c else None) ≡ Some d → c ≡ d
chosen_is true c d e = same_Some c d e
chosen_is false c d e = absurd (none-some d e)

-- for a leaf, and how many whens stand round its declaration
module _ (depth : ℕ) (x : LeafPath) where
  pub last_in : (h : Choice) (ds : List Drive) (d : Drive) → last_reaching depth x h ds ≡ Some d → In ds d
  last_in h [] d e = absurd (none-some d e)
  last_in h (c ∷ ds) d e =
      ⊎_elim (λ (i : last_reaching depth x h ds ≡ Some d). inr (last_in h ds d i))
      (λ (i : (last_reaching depth x h ds ≡ None) × ((if reaches depth x h c then Some c else None) ≡ Some d)). inl (chosen_is (reaches depth x h c) c d i.1))
      (later_some (last_reaching depth x h ds) (if reaches depth x h c then Some c else None) d e)

  -- live where the branches are taken, and never live
  abbrev pub IsReached : List Bool → List Branch → List Drive → Drive → Type 0
  IsReached way outer ds d =
      (g : Choice) × ((h : Choice) → ((w : List Bool) → h (way ++ w) ≡ g w) → are_taken h outer ≡ true → last_reaching depth x h ds ≡ Some d)

  abbrev pub IsNever : List Drive → Drive → Type 0
  IsNever ds d = (h : Choice) → last_reaching depth x h ds ≡ Some d → ⊥

  -- whether some of the drives is reached under every choice
  pub record Covers (way : List Bool) (outer : List Branch) (ds : List Drive) (covered : Bool) : Type 0 where
    pub always : covered ≡ true → (h : Choice) → are_taken h outer ≡ true → last_reaching depth x h ds ≡ None → ⊥
    pub maybe : covered ≡ false
        → (g : Choice) × ((h : Choice) → ((w : List Bool) → h (way ++ w) ≡ g w) → are_taken h outer ≡ true → last_reaching depth x h ds ≡ None)

  module _ (s : Scene) (way : List Bool) (ds es : List Drive) (ls ms : List Live) (first : BeginWith (way ++ false ∷ []) ds)
      (second : BeginWith (way ++ true ∷ []) es) where
    both_ways : (h : Choice) (d : Drive) → last_reaching depth x h (ds ++ es) ≡ Some d → (last_reaching depth x h es ≡ Some d) ⊎ ((last_reaching depth x h es ≡ None) × (last_reaching depth x h ds ≡ Some d))
    both_ways h d e = later_some (last_reaching depth x h es) (last_reaching depth x h ds) d (sym (last_behind depth x h ds es) ∙ e)

    behind_is : (h : Choice) (o : Option Drive) → last_reaching depth x h es ≡ o → last_reaching depth x h (ds ++ es) ≡ later o (last_reaching depth x h ds)
    behind_is h o e = last_behind depth x h ds es ∙ ap (λ (p : Option Drive). later p (last_reaching depth x h ds)) e

    never_first : (d : Drive) → In ds d → IsNever ds d → IsNever (ds ++ es) d
    never_first d i n h e =
        ⊎_elim (λ (k : last_reaching depth x h es ≡ Some d). stand_apart way ds es first second d i (last_in h es d k))
        (λ (k : (last_reaching depth x h es ≡ None) × (last_reaching depth x h ds ≡ Some d)). n h k.1) (both_ways h d e)

    never_second : (d : Drive) → In es d → IsNever es d → IsNever (ds ++ es) d
    never_second d i n h e =
        ⊎_elim (λ (k : last_reaching depth x h es ≡ Some d). n h k)
        (λ (k : (last_reaching depth x h es ≡ None) × (last_reaching depth x h ds ≡ Some d)). stand_apart way ds es first second d (last_in h ds d k.1) i) (both_ways h d e)

    -- one behind the other
    module _ (outer : List Branch) (covered : Bool) (covers : Covers (way ++ true ∷ []) outer es covered)
        (unreached : (h : Choice) → are_taken h outer ≡ false → last_reaching depth x h ds ≡ None) where
      reached_second : (d : Drive) → IsReached (way ++ true ∷ []) outer es d → IsReached way outer (ds ++ es) d
      reached_second d r = (
        split true (λ w. true) r.0,
        λ h agrees taken. behind_is h (Some d) (r.1 h (inside way true h (split true (λ w. true) r.0) r.0 agrees (λ w. refl)) taken),
      )

      reached_first : covered ≡ false → (d : Drive) → IsReached (way ++ false ∷ []) outer ds d → IsReached way outer (ds ++ es) d
      reached_first e d r =
          let miss = covers.maybe e in (
            split true r.0 miss.0,
            λ h agrees taken.
                behind_is h None (miss.1 h (inside way true h (split true r.0 miss.0) miss.0 agrees (λ w. refl)) taken)
                ∙ r.1 h (inside way false h (split true r.0 miss.0) r.0 agrees (λ w. refl)) taken,
          )

      never_covered : covered ≡ true → (d : Drive) → In ds d → IsNever (ds ++ es) d
      never_covered c d i h e =
          ⊎_elim (λ (k : last_reaching depth x h es ≡ Some d). stand_apart way ds es first second d i (last_in h es d k))
          (λ (k : (last_reaching depth x h es ≡ None) × (last_reaching depth x h ds ≡ Some d)). by k.0 k.1 (are_taken h outer) refl) (both_ways h d e)
        where
          by : last_reaching depth x h es ≡ None → last_reaching depth x h ds ≡ Some d → (t : Bool) → are_taken h outer ≡ t → ⊥
          by none some true taken = covers.always c h taken none
          by none some false not = none-some d (sym (unreached h not) ∙ some)

      pub marks_joined : Marked s (IsReached (way ++ false ∷ []) outer ds) (IsNever ds) ds ls
          → Marked s (IsReached (way ++ true ∷ []) outer es) (IsNever es) es ms
          → Marked s (IsReached way outer (ds ++ es)) (IsNever (ds ++ es)) (ds ++ es) (unless covered ls ++ ms)
      marks_joined a b =
          marked_behind s (IsReached way outer (ds ++ es)) (IsNever (ds ++ es)) ds es (unless covered ls) ms (by covered refl)
          (marked_still s (IsReached (way ++ true ∷ []) outer es) (IsNever es) (IsReached way outer (ds ++ es)) (IsNever (ds ++ es)) es ms
          (λ d i r. reached_second d r) never_second b)
        where
          by : (c : Bool) → covered ≡ c → Marked s (IsReached way outer (ds ++ es)) (IsNever (ds ++ es)) ds (unless c ls)
          by true e = none_marked s (IsReached way outer (ds ++ es)) (IsNever (ds ++ es)) ds (never_covered e)
          by false e =
              marked_still s (IsReached (way ++ false ∷ []) outer ds) (IsNever ds) (IsReached way outer (ds ++ es)) (IsNever (ds ++ es)) ds ls
              (λ d i r. reached_first e d r) never_first a

    -- in the two blocks of a when, of which one is taken
    module _ (outer outer_first outer_second : List Branch)
        (take_first : (h : Choice) → are_taken h outer ≡ true → h way ≡ true → (are_taken h outer_first ≡ true) × (last_reaching depth x h es ≡ None))
        (take_second : (h : Choice) → are_taken h outer ≡ true → h way ≡ false → are_taken h outer_second ≡ true) where
      here : (h g : Choice) → ((w : List Bool) → h (way ++ w) ≡ g w) → h way ≡ g []
      here h g agrees = ap h (sym (append-nil way)) ∙ agrees []

      within_first : (d : Drive) → IsReached (way ++ false ∷ []) outer_first ds d → IsReached way outer (ds ++ es) d
      within_first d r =
          let g = split true r.0 (λ w. true) in (
            g,
            λ h agrees taken.
                let to = take_first h taken (here h g agrees) in
                behind_is h None to.1 ∙ r.1 h (inside way false h g r.0 agrees (λ w. refl)) to.0,
          )

      within_second : (d : Drive) → IsReached (way ++ true ∷ []) outer_second es d → IsReached way outer (ds ++ es) d
      within_second d r =
          let g = split false (λ w. true) r.0 in (
            g,
            λ h agrees taken. behind_is h (Some d) (r.1 h (inside way true h g r.0 agrees (λ w. refl)) (take_second h taken (here h g agrees))),
          )

      pub marks_within : Marked s (IsReached (way ++ false ∷ []) outer_first ds) (IsNever ds) ds ls
          → Marked s (IsReached (way ++ true ∷ []) outer_second es) (IsNever es) es ms
          → Marked s (IsReached way outer (ds ++ es)) (IsNever (ds ++ es)) (ds ++ es) (ls ++ ms)
      marks_within a b =
          marked_behind s (IsReached way outer (ds ++ es)) (IsNever (ds ++ es)) ds es ls ms
          (marked_still s (IsReached (way ++ false ∷ []) outer_first ds) (IsNever ds) (IsReached way outer (ds ++ es)) (IsNever (ds ++ es)) ds ls
          (λ d i r. within_first d r) never_first a)
          (marked_still s (IsReached (way ++ true ∷ []) outer_second es) (IsNever es) (IsReached way outer (ds ++ es)) (IsNever (ds ++ es)) es ms
          (λ d i r. within_second d r) never_second b)
