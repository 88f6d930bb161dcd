-- One statement over leaves beside one drive of the text, and statements and drives of which none drives the leaf.
use Rattle.std.proofs.Common.{◌≡◌, ℕ, List, [], ◌∷◌, ◌++◌, Bool, true, false, not, ◌&&◌, ◌||◌, drop, flat_map, if◌then◌else◌, Some, None, refl, sym, ap, ap₂, ◌∙◌, append_assoc, append-nil}
use Rattle.std.specs.List.{list_any}
use Rattle.std.proofs.lemmas.Bool.{and_right, or_parts}
use Rattle.std.proofs.lemmas.Grind.{flat_map-append}
use Rattle.std.proofs.lemmas.List.{map-append}
use Rattle.fir_ast.specs.declared.fault.Outcome.{Outcome}
use Rattle.fir_ast.specs.declared.place.Place.{Place}
use Rattle.fir_meaning.specs.working.Choices as over
use Rattle.fir_meaning.specs.working.Choices.{Live, driving, last_all}
use Rattle.fir_meaning.specs.working.LeafBlocks.{LeafBlock, joined}
use Rattle.fir_meaning.specs.working.LeafBlocks as leafed
use Rattle.fir_meaning.specs.LeafPaths.{LeafPath}
use Rattle.fir_meaning.specs.working.LeafedBlocks.{alone}
use Rattle.fir_meaning.specs.ModuleScenes.{Scene}
use Rattle.fir_meaning.specs.SourceChoices.{Choice, are_taken, has_path, last_reaching, may_drive}
use Rattle.fir_meaning.specs.SourceDrives.{Drive, Side}
use Rattle.fir_meaning.specs.SourceUndriven.{told_drive}
use Rattle.fir_meaning.specs.working.TermReads as by_number
use Rattle.fir_meaning.specs.working.TermReads.{is_among}
use Rattle.fir_meaning.specs.working.Terms.{Picks, Term}
use Rattle.fir_meaning.specs.working.UndrivenChoices as numbered
use Rattle.fir_meaning.specs.working.UndrivenChoices.{drives_any}
use Rattle.fir_meaning.specs.Visits.{Branch}
use Rattle.fir_source_faults.specs.working.ReadsByPath.{path_in, paths_in}
use Rattle.fir_source_faults.proofs.Pieces.{Agree, Piece, SameAt, SameLast, both_pieces, outer_reads, retold}

module _ (s : Scene) (depth x : ℕ) (under : List Branch) (k : ℕ) where
  abbrev path : LeafPath
  path = path_in s x

  -- what drives of one statement tell, where it is reached
  abbrev pub told_by : List Drive → Choice → List Outcome
  told_by ds h = if are_taken h (drop depth under) then flat_map (told_drive s depth (path_in s x) h) ds else []

  abbrev pub Beside : List Bool → LeafBlock → List Drive → Type 0
  Beside way b ds = Piece s depth x way under k b ds (told_by ds)

  pub both_beside : (way : List Bool) (a b : LeafBlock) (ds es : List Drive) → Beside (way ++ false ∷ []) a ds → Beside (way ++ true ∷ []) b es
      → Beside way (joined a b) (ds ++ es)
  both_beside way a b ds es first second =
      retold s depth x way under k (joined a b) (ds ++ es) (λ h. told_by ds h ++ told_by es h) (told_by (ds ++ es))
      (λ h. by h (are_taken h (drop depth under))) (both_pieces s depth x way under k a b ds es (told_by ds) (told_by es) first second)
    where
      by : (h : Choice) (taken : Bool)
          → (if taken then flat_map (told_drive s depth path h) ds else []) ++ (if taken then flat_map (told_drive s depth path h) es else [])
          ≡ (if taken then flat_map (told_drive s depth path h) (ds ++ es) else [])
      by h true = sym (flat_map-append (told_drive s depth path h) ds es)
      by h false = refl

  -- drives that may not drive the leaf
  nothing_last : (h : Choice) (ds : List Drive) → list_any (may_drive depth path) ds ≡ false → last_reaching depth path h ds ≡ None
  nothing_last h [] e = refl
  nothing_last h (d ∷ ds) e =
      let both = or_parts (may_drive depth path d) (list_any (may_drive depth path) ds) e in
      rw (nothing_last h ds both.1, both.0, and_right (are_taken h (drop depth d.under)) false refl) refl

  nothing_told_by : (h : Choice) (ds : List Drive) → list_any (may_drive depth path) ds ≡ false → flat_map (told_drive s depth path h) ds ≡ []
  nothing_told_by h [] e = refl
  nothing_told_by h (d ∷ ds) e =
      let both = or_parts (may_drive depth path d) (list_any (may_drive depth path) ds) e in
      rw (both.0, and_right d.driven.is_picked false refl, nothing_told_by h ds both.1) refl

  module _ (way : List Bool) where
    pub idle : (b : LeafBlock) (ds : List Drive) → ((f : over.Choice) → last_all depth x b k f ≡ None)
        → ((f : over.Choice) → numbered.told_all depth x b k f ≡ []) → drives_any x b ≡ false → list_any (may_drive depth path) ds ≡ false
        → Beside way b ds
    idle b ds last_none told_none none absent =
        let nothing : (h : Choice) → told_by ds h ≡ [] = λ h. by h (are_taken h (drop depth under)) in
        let agree : (f : over.Choice) (g : Choice) → Agree s depth x way under k b ds (told_by ds) f g =
        λ f g h agrees taken. (rw (last_none f, nothing_last h ds absent) tt, told_none f ∙ sym (nothing h)) in
        record {
          forth = λ f. (f, agree f f);
          back = λ g. (g, agree g g);
          unreached = λ h none. (nothing_last h ds absent, nothing h);
          holds = none ∙ sym absent;
        }
      where
        by : (h : Choice) (taken : Bool) → (if taken then flat_map (told_drive s depth path h) ds else []) ≡ []
        by h true = nothing_told_by h ds absent
        by h false = refl

    module _ (p : Place) (b : ℕ) (ps : Picks) (t : Term) (driven given : Side) where
      abbrev pub the_drive : Drive
      the_drive = record { way = way; place = p; under = under; driven = driven; given = given }

      abbrev pub the_block : LeafBlock
      the_block = alone (leafed.drive p b ps t)

      pub one_drive : is_among (by_number.reached b ps) x ≡ has_path driven.leaves (path_in s x) → by_number.is_picked ps ≡ driven.is_picked
          → paths_in s (by_number.picks_read ps) ≡ driven.index_reads → paths_in s (by_number.reads t) ≡ given.reads
          → Beside way (alone (leafed.drive p b ps t)) (record { way = way; place = p; under = under; driven = driven; given = given } ∷ [])
      one_drive among picked indices gives = record {
        forth = λ f. ((λ w. f (false ∷ [])), λ h agrees taken. agree f h taken (here h (λ w. f (false ∷ [])) agrees));
        back = λ g. ((λ w. g []), λ h agrees taken. agree (λ w. g []) h taken (here h g agrees));
        unreached = λ h none. (rw none refl, rw none refl);
        holds = ap (λ o. o || false) among;
      }
        where
          live : Live
          live = driving p ps t

          same : SameAt s depth x (outer_reads s depth under) live the_drive
          same = record {
            place = refl;
            reads =
                let apart : paths_in s (over.live_reads live) ≡ paths_in s (by_number.picks_read ps) ++ paths_in s (by_number.reads t) =
                map-append (path_in s) (by_number.picks_read ps) (by_number.reads t) in
                ap (λ (qs : List LeafPath). outer_reads s depth under ++ qs) (apart ∙ ap₂ (λ (qs rs : List LeafPath). qs ++ rs) indices gives)
                ∙ sym (append_assoc (outer_reads s depth under) driven.index_reads given.reads);
          }

          here : (h g : Choice) → ((w : List Bool) → h (way ++ w) ≡ g w) → h way ≡ g []
          here h g agrees = ap h (sym (append-nil way)) ∙ agrees []

          chosen : (c : Bool) → SameLast s depth x (outer_reads s depth under) (if c then Some live else None) (if c then Some the_drive else None)
          chosen true = same
          chosen false = tt

          agree : (f : over.Choice) (h : Choice) → are_taken h (drop depth under) ≡ true → h way ≡ f (false ∷ [])
              → SameLast s depth x (outer_reads s depth under) (last_all depth x the_block k f) (last_reaching depth path h (the_drive ∷ []))
              × (numbered.told_all depth x the_block k f ≡ told_by (the_drive ∷ []) h)
          agree f h taken e =
              (rw (among, picked, taken, e) (chosen (has_path driven.leaves path && (not driven.is_picked || f (false ∷ [])))), rw (among, picked, taken, e) refl)
