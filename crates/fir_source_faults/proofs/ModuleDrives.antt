-- Over the numbered leaves of a module the same drives are live as by paths, with the same reads, and the same choices leave a leaf undriven.
use Rattle.std.proofs.Common.{◌≡◌, ℕ, ◌<◌, List, [], true, drop, flat_map, length, Option, Some, None, refl, sym, ap, ◌∙◌, subst, append-nil}
use Rattle.std.specs.Prelude.{unwrap_or}
use Rattle.fir_meaning.specs.working.Choices as over
use Rattle.fir_meaning.specs.working.Choices.{Live}
use Rattle.fir_meaning.specs.working.LeafBlocks.{LeafBlock}
use Rattle.fir_meaning.specs.working.LeafModules.{depth_at}
use Rattle.fir_meaning.specs.LeafPaths.{LeafPath}
use Rattle.fir_meaning.specs.ModuleScenes.{Scene, behind_all_ports}
use Rattle.fir_meaning.specs.working.LeafedModules.{leafed_module, module_leaves}
use Rattle.fir_meaning.specs.SourceChoices.{Choice, are_taken, last_reaching}
use Rattle.fir_meaning.specs.SourceDrives.{Drive, module_drives}
use Rattle.fir_meaning.specs.SourceFacts.{source_depth}
use Rattle.fir_meaning.specs.SourceUndriven.{told_all}
use Rattle.fir_meaning.specs.working.UndrivenChoices as numbered
use Rattle.fir_meaning.specs.Visits.{Visit, module_visits}
use Rattle.fir_design.proofs.FineScenes.{IsFineScene, fine_scene, leaf_path}
use Rattle.fir_design.proofs.SourceLeaves.{source_depth_is}
use Rattle.fir_source_faults.specs.working.DrivesByPath.{DrivesByPath, ModulesDriveByPath, SameLive, SameUndriven}
use Rattle.fir_source_faults.specs.working.ReadsByPath.{ModulesReadByPath, ReadsByPath, path_in, scope_of_module}
use Rattle.fir_source_faults.proofs.BlockPieces.{block_piece}
use Rattle.fir_source_faults.proofs.Pieces.{Agree, Piece, SameLast, condition_reads, outer_reads}
use Rattle.fir_source_faults.proofs.TakenBranches.{drop_nothing}

module _ (s : Scene) (fine : IsFineScene s) (x : ℕ) (reading : ReadsByPath s) (lt : x < length (module_leaves s)) where
  abbrev path : LeafPath
  path = path_in s x

  abbrev depth : ℕ
  depth = source_depth s (path_in s x)

  abbrev body : LeafBlock
  body = (leafed_module s).body

  abbrev vs : List Visit
  vs = module_visits s.own.inside

  abbrev whole : Piece s (source_depth s (path_in s x)) x [] [] 0 (leafed_module s).body (module_drives s)
      (told_all s (source_depth s (path_in s x)) (path_in s x) (module_visits s.own.inside))
  whole =
      block_piece s fine (source_depth s (path_in s x)) x reading lt s.own.inside.body (behind_all_ports s.own.inside) [] [] 0 refl
      ([], append-nil (scope_of_module s)) fine.legal

  depth_is : depth_at (leafed_module s) x ≡ source_depth s (path_in s x)
  depth_is = sym (ap (source_depth s) (leaf_path s fine x) ∙ source_depth_is s fine x lt)

  none_round : (h : Choice) → are_taken h (drop depth []) ≡ true
  none_round h = ap (are_taken h) (drop_nothing depth)

  no_reads : outer_reads s depth [] ≡ []
  no_reads = ap (flat_map (condition_reads s)) (drop_nothing depth)

  Agreeing : over.Choice → Choice → Type 0
  Agreeing f g =
      SameLast s depth x [] (over.last_all depth x body 0 f) (last_reaching depth path g (module_drives s))
      × (numbered.told_all depth x body 0 f ≡ told_all s depth path vs g)

  agreeing : (f : over.Choice) (g : Choice) → Agree s depth x [] [] 0 body (module_drives s) (told_all s depth path vs) f g
      → SameLast s depth x [] (over.last_all depth x body 0 f) (last_reaching depth path g (module_drives s))
      × (numbered.told_all depth x body 0 f ≡ told_all s depth path vs g)
  agreeing f g agree =
      let both = agree g (λ w. refl) (none_round g) in
      (subst (λ (o : List LeafPath). SameLast s depth x o (over.last_all depth x body 0 f) (last_reaching depth path g (module_drives s))) no_reads both.0, both.1)

  live_of : (o : Option Live) (p : Option Drive) (l : Live) → SameLast s depth x [] o p → o ≡ Some l → (d : Drive) × (p ≡ Some d) × SameLive s x l d
  live_of None p l h e = absurd (cc)
  live_of (Some m) None l h e = absurd h
  live_of (Some m) (Some d) l h e =
      let same : m ≡ l = ap (λ o. unwrap_or o m) e in
      (d, refl, subst (λ (n : Live). SameLive s x n d) same (record { place = h.place; reads = h.reads }))

  drive_of : (o : Option Live) (p : Option Drive) (d : Drive) → SameLast s depth x [] o p → p ≡ Some d → (l : Live) × (o ≡ Some l) × SameLive s x l d
  drive_of o None d h e = absurd (cc)
  drive_of None (Some c) d h e = absurd h
  drive_of (Some l) (Some c) d h e =
      let same : c ≡ d = ap (λ o. unwrap_or o c) e in
      (l, refl, subst (λ (n : Drive). SameLive s x l n) same (record { place = h.place; reads = h.reads }))

  none_of : (o : Option Live) (p : Option Drive) → SameLast s depth x [] o p → o ≡ None → p ≡ None
  none_of None None h e = refl
  none_of None (Some d) h e = absurd h
  none_of (Some l) p h e = absurd (cc)

  none_back : (o : Option Live) (p : Option Drive) → SameLast s depth x [] o p → p ≡ None → o ≡ None
  none_back None None h e = refl
  none_back (Some l) None h e = absurd h
  none_back o (Some d) h e = absurd (cc)

  undriven_same : (f : over.Choice) (g : Choice) → SameLast s depth x [] (over.last_all depth x body 0 f) (last_reaching depth path g (module_drives s))
      → numbered.told_all depth x body 0 f ≡ told_all s depth path vs g → over.last_all depth x body 0 f ≡ None
      → last_reaching depth path g (module_drives s) ≡ None → SameUndriven s x f g
  undriven_same f g same told_same by_number by_path = record {
    by_number = subst (λ n. numbered.IsUndriven n x body f) (sym depth_is) by_number;
    by_path = by_path;
    told = subst (λ n. numbered.told_all n x body 0 f ≡ told_all s depth path vs g) (sym depth_is) told_same;
  }

  pub drives_by_path : DrivesByPath s x
  drives_by_path = record {
    same_depth = depth_is;
    live = λ l is.
        let there = subst (λ n. over.IsLive n x body l) depth_is is in
        let to = whole.forth there.choice in
        let both = agreeing there.choice to.0 to.1 in
        let found = live_of (over.last_all depth x body 0 there.choice) (last_reaching depth path to.0 (module_drives s)) l both.0 there.last in
        (found.0, record { choice = to.0; last = found.1 }, found.2);
    live_back = λ d is.
        let to = whole.back is.choice in
        let both = agreeing to.0 is.choice to.1 in
        let found = drive_of (over.last_all depth x body 0 to.0) (last_reaching depth path is.choice (module_drives s)) d both.0 is.last in
        let there : over.IsLive depth x body found.0 = record { choice = to.0; last = found.1 } in
        (found.0, subst (λ n. over.IsLive n x body found.0) (sym depth_is) there, found.2);
    undriven = λ f none.
        let there = subst (λ n. numbered.IsUndriven n x body f) depth_is none in
        let to = whole.forth f in
        let both = agreeing f to.0 to.1 in (
          to.0,
          undriven_same f to.0 both.0 both.1 there
              (none_of (over.last_all depth x body 0 f) (last_reaching depth path to.0 (module_drives s)) both.0 there),
        );
    undriven_back = λ g none.
        let to = whole.back g in
        let both = agreeing to.0 g to.1 in (
          to.0,
          undriven_same to.0 g both.0 both.1
              (none_back (over.last_all depth x body 0 to.0) (last_reaching depth path g (module_drives s)) both.0 none) none,
        );
  }

pub modules_drive : ModulesReadByPath → ModulesDriveByPath
modules_drive reads c s x names types i lt = drives_by_path s (fine_scene c s names types i) x (reads c s names types i) lt
