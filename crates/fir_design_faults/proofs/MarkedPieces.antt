-- Statements over leaves beside drives of a text, with the marks of those that are live: one drive, none, and one behind the other.
use Rattle.std.proofs.Common.{◌≡◌, ℕ, ◌+◌, List, [], ◌∷◌, ◌++◌, Bool, true, false, not, ◌&&◌, ◌||◌, nat_lt, drop, if◌then◌else◌, Option, Some, None, option_map, refl, sym, ap, ap₂, ◌∙◌, append_assoc, append-nil, inl, inr, subst}
use Rattle.std.specs.List.{list_any}
use Rattle.std.proofs.lemmas.Bool.{and_right, or_parts}
use Rattle.std.proofs.lemmas.Option.{none-some}
use Rattle.std.proofs.Math.Bool.{or-true}
use Rattle.fir_base.specs.Lists.{Distinct}
use Rattle.fir_base.proofs.Twins.{distinct_joined}
use Rattle.fir_ast.specs.declared.fault.Outcome.{Outcome}
use Rattle.fir_ast.specs.declared.place.Place.{Place}
use Rattle.fir_meaning.specs.LeafPaths.{LeafPath}
use Rattle.fir_meaning.specs.ModuleScenes.{Scene}
use Rattle.fir_meaning.specs.SourceChoices.{Choice, are_taken, has_path, last_reaching, may_drive}
use Rattle.fir_meaning.specs.SourceDrives.{Drive, Side}
use Rattle.fir_meaning.specs.Visits.{Branch}
use Rattle.fir_meaning.specs.working.Choices as over
use Rattle.fir_meaning.specs.working.Choices.{Live, below, covers, covers_all, driving, first_part, last_all, later, lives, lives_all, second_part, unless}
use Rattle.fir_meaning.specs.working.LeafBlocks.{LeafBlock, LeafStatement, done, drive, instance, joined, then, when}
use Rattle.fir_meaning.specs.working.LeafBlocks as leafed
use Rattle.fir_meaning.specs.working.LeafedBlocks.{alone}
use Rattle.fir_meaning.specs.working.TermReads as by_number
use Rattle.fir_meaning.specs.working.TermReads.{is_among}
use Rattle.fir_meaning.specs.working.Terms.{Picks, Term}
use Rattle.fir_meaning.specs.working.UndrivenChoices as numbered
use Rattle.fir_meaning.specs.working.UndrivenChoices.{drives_any}
use Rattle.fir_leaf.specs.working.ClockFaults.{index_places}
use Rattle.fir_leaf.proofs.LiveStatements.{covered_all}
use Rattle.fir_source_faults.specs.working.ReadsByPath.{path_in, paths_in}
use Rattle.fir_source_faults.proofs.DrivePieces as bare
use Rattle.fir_source_faults.proofs.DrivePieces.{told_by}
use Rattle.fir_source_faults.proofs.JoinedChoices.{split}
use Rattle.fir_source_faults.proofs.Pieces.{Piece, SameLast, both_pieces}
use Rattle.fir_source_faults.proofs.Pieces as pieces
use Rattle.fir_design_faults.proofs.ClockMarks.{BeginWith, Covers, IsNever, IsReached, Marked, SameGiven, begin_both, begin_further, marks_joined, none_marked, stand_apart}

module _ (depth x : ℕ) where
  -- some choice leaves the leaf undriven where not every one drives it
  abbrev pub Missed : (over.Choice → Option Live) → Type 0
  Missed last_of = (f : over.Choice) × (last_of f ≡ None)

  none_both : (p q : Option Live) → p ≡ None → q ≡ None → later p q ≡ None
  none_both None q e f = f
  none_both (Some m) q e f = absurd (cc)

  none_under : (c : Term) (p : Option Live) → p ≡ None → option_map (below c) p ≡ None
  none_under c p e = rw e refl

  drive_missed : (m p : Bool) (l : Live) → (m && not p) ≡ false → (if m && (not p || false) then Some l else None) ≡ None
  drive_missed true false l c = absurd (cc)
  drive_missed true true l c = refl
  drive_missed false p l c = refl

  abbrev when_lasts : Bool → Term → LeafBlock → LeafBlock → ℕ → over.Choice → Option Live
  when_lasts early c a b k f =
      if early
      then later (last_all depth x b (k + 1) (second_part f)) (last_all depth x a (k + 1) (first_part f))
      else option_map (below c) (if f [] then last_all depth x a (k + 1) (first_part f) else last_all depth x b (k + 1) (second_part f))

  mutual
    missed : (z : LeafStatement) (k : ℕ) → covers depth x z k ≡ false → Missed (over.last depth x z k)
    missed (drive p b ps t) k c = (λ way. false, drive_missed (is_among (by_number.reached b ps) x) (by_number.is_picked ps) (driving p ps t) c)
    missed (when p c a b) k v = by (nat_lt k depth) (covers_all depth x a (k + 1)) (covers_all depth x b (k + 1)) (missed_all a (k + 1)) (missed_all b (k + 1)) v
      where
        by : (early ca cb : Bool) → (ca ≡ false → Missed (last_all depth x a (k + 1))) → (cb ≡ false → Missed (last_all depth x b (k + 1)))
            → (if early then cb || ca else ca && cb) ≡ false → Missed (when_lasts early c a b k)
        by true ca true f g e = absurd (cc)
        by true ca false f g e =
            let one = f e in
            let two = g refl in
            (split true one.0 two.0, none_both (last_all depth x b (k + 1) two.0) (last_all depth x a (k + 1) one.0) two.1 one.1)
        by false true cb f g e = let two = g e in (split false two.0 two.0, none_under c (last_all depth x b (k + 1) two.0) two.1)
        by false false cb f g e = let one = f refl in (split true one.0 one.0, none_under c (last_all depth x a (k + 1) one.0) one.1)
    missed (instance i) k c = (λ way. false, refl)

    pub missed_all : (b : LeafBlock) (k : ℕ) → covers_all depth x b k ≡ false → Missed (last_all depth x b k)
    missed_all done k c = (λ way. false, refl)
    missed_all ((then) z b) k c = by (covers depth x z k) (covers_all depth x b k) (missed z k) (missed_all b k) c
      where
        by : (ca cb : Bool) → (ca ≡ false → Missed (over.last depth x z k)) → (cb ≡ false → Missed (last_all depth x b k)) → (cb || ca) ≡ false
            → Missed (last_all depth x ((then) z b) k)
        by ca true f g e = absurd (cc)
        by ca false f g e =
            let one = f e in
            let two = g refl in
            (split true one.0 two.0, none_both (last_all depth x b k two.0) (over.last depth x z k one.0) two.1 one.1)

  -- one block behind another
  covers_joined : (a b : LeafBlock) (k : ℕ) → covers_all depth x (joined a b) k ≡ (covers_all depth x b k || covers_all depth x a k)
  covers_joined done b k = by (covers_all depth x b k)
    where
      by : (c : Bool) → c ≡ (c || false)
      by true = refl
      by false = refl
  covers_joined ((then) z a) b k =
      ap (λ c. c || covers depth x z k) (covers_joined a b k) ∙ by (covers_all depth x b k) (covers_all depth x a k) (covers depth x z k)
    where
      by : (c d e : Bool) → ((c || d) || e) ≡ (c || (d || e))
      by true d e = refl
      by false d e = refl

  pub lives_joined : (a b : LeafBlock) (k : ℕ)
      → lives_all depth x (joined a b) k ≡ unless (covers_all depth x b k) (lives_all depth x a k) ++ lives_all depth x b k
  lives_joined done b k = by (covers_all depth x b k)
    where
      nothing : List Live
      nothing = []

      by : (c : Bool) → lives_all depth x b k ≡ unless c nothing ++ lives_all depth x b k
      by true = refl
      by false = refl
  lives_joined ((then) z a) b k =
      ap₂ (λ (c : Bool) (ls : List Live). unless c (lives depth x z k) ++ ls) (covers_joined a b k) (lives_joined a b k)
      ∙ by (covers_all depth x b k) (covers_all depth x a k) (lives depth x z k) (lives_all depth x a k) (lives_all depth x b k)
    where
      by : (c d : Bool) (ls ms ns : List Live) → unless (c || d) ls ++ (unless c ms ++ ns) ≡ unless c (unless d ls ++ ms) ++ ns
      by true d ls ms ns = refl
      by false d ls ms ns = sym (append_assoc (unless d ls) ms ns)

module _ (s : Scene) (depth x : ℕ) where
  -- nothing is live in both
  none_by : (outer : List LeafPath) (o : Option Live) (p : Option Drive) → SameLast s depth x outer o p → o ≡ None → p ≡ None
  none_by outer None None h e = refl
  none_by outer None (Some d) h e = absurd h
  none_by outer (Some l) p h e = absurd (cc)

  none_back : (outer : List LeafPath) (o : Option Live) (p : Option Drive) → SameLast s depth x outer o p → p ≡ None → o ≡ None
  none_back outer None None h e = refl
  none_back outer (Some l) None h e = absurd h
  none_back outer o (Some d) h e = absurd (cc)

  module _ (way : List Bool) (under : List Branch) (k : ℕ) where
    pub record Kept (b : LeafBlock) (ds : List Drive) : Type 0 where
      pub begin : BeginWith way ds
      pub once : Distinct ds
      pub marks :
          Marked s (IsReached depth (path_in s x) way (drop depth under) ds) (IsNever depth (path_in s x) ds) ds (lives_all depth x b k)

    pub record Full (b : LeafBlock) (ds : List Drive) (told : Choice → List Outcome) : Type 0 where
      pub piece : Piece s depth x way under k b ds told
      pub kept : Kept b ds

    pub covers_of : (b : LeafBlock) (ds : List Drive) (told : Choice → List Outcome) → Piece s depth x way under k b ds told
        → Covers depth (path_in s x) way (drop depth under) ds (covers_all depth x b k)
    covers_of b ds told piece = record {
      always = λ c h taken none.
          let to = piece.back (λ w. h (way ++ w)) in
          let both = to.1 h (λ w. refl) taken in
          covered_all depth x b k c to.0
          (none_back (pieces.outer_reads s depth under) (last_all depth x b k to.0) (last_reaching depth (path_in s x) h ds) both.0 none);
      maybe = λ c.
          let miss = missed_all depth x b k c in
          let to = piece.forth miss.0 in (
            to.0,
            λ h agrees taken.
                let both = to.1 h agrees taken in
                none_by (pieces.outer_reads s depth under) (last_all depth x b k miss.0) (last_reaching depth (path_in s x) h ds) both.0 miss.1,
          );
    }

  pub retold : (way : List Bool) (under : List Branch) (k : ℕ) (b : LeafBlock) (ds : List Drive) (told other : Choice → List Outcome)
      → ((h : Choice) → told h ≡ other h) → Full way under k b ds told → Full way under k b ds other
  retold way under k b ds told other same f = record { piece = pieces.retold s depth x way under k b ds told other same f.piece; kept = f.kept }

  pub both_full : (way : List Bool) (under : List Branch) (k : ℕ) (a b : LeafBlock) (ds es : List Drive) (told_a told_b : Choice → List Outcome)
      → Full (way ++ false ∷ []) under k a ds told_a → Full (way ++ true ∷ []) under k b es told_b
      → Full way under k (joined a b) (ds ++ es) (λ h. told_a h ++ told_b h)
  both_full way under k a b ds es told_a told_b first second = record {
    piece = both_pieces s depth x way under k a b ds es told_a told_b first.piece second.piece;
    kept = record {
      begin = begin_both way ds es (begin_further way false ds first.kept.begin) (begin_further way true es second.kept.begin);
      once = distinct_joined ds es first.kept.once second.kept.once (stand_apart way ds es first.kept.begin second.kept.begin);
      marks =
          subst (Marked s (IsReached depth (path_in s x) way (drop depth under) (ds ++ es)) (IsNever depth (path_in s x) (ds ++ es)) (ds ++ es))
          (sym (lives_joined depth x a b k))
          (marks_joined depth (path_in s x) s way ds es (lives_all depth x a k) (lives_all depth x b k) first.kept.begin second.kept.begin
          (drop depth under) (covers_all depth x b k) (covers_of (way ++ true ∷ []) under k b es told_b second.piece)
          (λ h none. (first.piece.unreached h none).0) first.kept.marks second.kept.marks);
    };
  }

  module _ (under : List Branch) (k : ℕ) where
    abbrev pub Beside : List Bool → LeafBlock → List Drive → Type 0
    Beside way b ds = Full way under k b ds (told_by s depth x under k ds)

    pub both_beside : (way : List Bool) (a b : LeafBlock) (ds es : List Drive) → Beside (way ++ false ∷ []) a ds → Beside (way ++ true ∷ []) b es
        → Beside way (joined a b) (ds ++ es)
    both_beside way a b ds es first second = record {
      piece = bare.both_beside s depth x under k way a b ds es first.piece second.piece;
      kept = (both_full way under k a b ds es (told_by s depth x under k ds) (told_by s depth x under k es) first second).kept;
    }

    nothing_last : (h : Choice) (ds : List Drive) → list_any (may_drive depth (path_in s x)) ds ≡ false → last_reaching depth (path_in s x) h ds ≡ None
    nothing_last h [] e = refl
    nothing_last h (d ∷ ds) e =
        let both = or_parts (may_drive depth (path_in s x) d) (list_any (may_drive depth (path_in s x)) ds) e in
        rw (nothing_last h ds both.1, both.0, and_right (are_taken h (drop depth d.under)) false refl) refl

    module _ (way : List Bool) where
      pub idle : (b : LeafBlock) (ds : List Drive) → ((f : over.Choice) → last_all depth x b k f ≡ None)
          → ((f : over.Choice) → numbered.told_all depth x b k f ≡ []) → drives_any x b ≡ false → list_any (may_drive depth (path_in s x)) ds ≡ false
          → BeginWith way ds → Distinct ds → lives_all depth x b k ≡ [] → Beside way b ds
      idle b ds last_none told_none none absent begin once no_lives = record {
        piece = bare.idle s depth x under k way b ds last_none told_none none absent;
        kept = record {
          begin = begin;
          once = once;
          marks =
              subst (Marked s (IsReached depth (path_in s x) way (drop depth under) ds) (IsNever depth (path_in s x) ds) ds) (sym no_lives)
              (none_marked s (IsReached depth (path_in s x) way (drop depth under) ds) (IsNever depth (path_in s x) ds) ds
              (λ d i h e. none-some d (sym (nothing_last h ds absent) ∙ e)));
        };
      }

      module _ (p : Place) (b : ℕ) (ps : Picks) (t : Term) (driven given : Side) where
        abbrev pub the_drive : Drive
        the_drive = record { way = way; place = p; under = under; driven = driven; given = given }

        one_begins : BeginWith way (the_drive ∷ [])
        one_begins d (inl e) = ([], ap (λ (c : Drive). c.way) (sym e) ∙ sym (append-nil way))
        one_begins d (inr i) = absurd i

        one_marked : is_among (by_number.reached b ps) x ≡ has_path driven.leaves (path_in s x) → index_places ps ≡ driven.index_places → SameGiven s t given
            → Marked s (IsReached depth (path_in s x) way (drop depth under) (the_drive ∷ [])) (IsNever depth (path_in s x) (the_drive ∷ [])) (the_drive ∷ [])
            (lives_all depth x (alone (leafed.drive p b ps t)) k)
        one_marked among through gives = rw among (by (has_path driven.leaves (path_in s x)) refl)
          where
            by : (c : Bool) → has_path driven.leaves (path_in s x) ≡ c
                → Marked s (IsReached depth (path_in s x) way (drop depth under) (the_drive ∷ [])) (IsNever depth (path_in s x) (the_drive ∷ [])) (the_drive ∷ [])
                ((if c then driving p ps t ∷ [] else []) ++ [])
            by true e =
                inr (
                  driving p ps t,
                  [],
                  refl,
                  (
                    λ w. true,
                    λ h agrees taken.
                        let here : h way ≡ true = ap h (sym (append-nil way)) ∙ agrees [] in
                        rw (taken, e, here, or-true (not driven.is_picked)) refl,
                  ),
                  record { place = refl; through = through; given = gives },
                  refl,
                )
            by false e =
                inl (
                  λ h is.
                      let nothing : last_reaching depth (path_in s x) h (the_drive ∷ []) ≡ None = rw (e, and_right (are_taken h (drop depth under)) false refl) refl in
                      none-some the_drive (sym nothing ∙ is),
                  refl,
                )

        pub one_drive : is_among (by_number.reached b ps) x ≡ has_path driven.leaves (path_in s x) → by_number.is_picked ps ≡ driven.is_picked
            → paths_in s (by_number.picks_read ps) ≡ driven.index_reads → paths_in s (by_number.reads t) ≡ given.reads
            → index_places ps ≡ driven.index_places → SameGiven s t given
            → Beside way (alone (leafed.drive p b ps t)) (record { way = way; place = p; under = under; driven = driven; given = given } ∷ [])
        one_drive among picked indices gives through names = record {
          piece = bare.one_drive s depth x under k way p b ps t driven given among picked indices gives;
          kept = record { begin = one_begins; once = (λ i. i, tt); marks = one_marked among through names };
        }
