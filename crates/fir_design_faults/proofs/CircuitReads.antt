-- A leaf of a design is read by a live statement of the whole exactly where by a live drive of one of its modules, by path.
use Rattle.std.proofs.Common.{◌≡◌, ℕ, ◌<◌, List, [], ◌∷◌, ◌++◌, map, length, refl, sym, ap, ◌∙◌, subst}
use Rattle.fir_base.specs.Lists.{In}
use Rattle.fir_base.proofs.Members.{in_map, in_map_from}
use Rattle.fir_meaning.specs.LeafPaths.{LeafPath}
use Rattle.fir_meaning.specs.ModuleScenes.{Scene}
use Rattle.fir_meaning.specs.SourceChoices as tree
use Rattle.fir_meaning.specs.SourceChoices.{IsLive}
use Rattle.fir_meaning.specs.SourceDependence.{DriveReads, PlacedModule, all_modules, from_main}
use Rattle.fir_meaning.specs.SourceDesigns.{SourceDesign}
use Rattle.fir_meaning.specs.SourceDrives.{module_drives}
use Rattle.fir_meaning.specs.SourceFacts.{source_depth}
use Rattle.fir_meaning.specs.working.Choices.{Live, LiveReads, live_reads, lives_all}
use Rattle.fir_meaning.specs.working.LeafCircuits.{LeafCircuit, depth_of}
use Rattle.fir_meaning.specs.working.LeafModules.{LeafModule, depth_at}
use Rattle.fir_meaning.specs.working.LeafedModules.{leafed_module, module_leaves}
use Rattle.fir_meaning.specs.working.Numberings.{Numbering, number}
use Rattle.fir_leaf.specs.working.SoundDesigns.{circuit_path}
use Rattle.fir_leaf.proofs.LiveStatements.{lives_are_live}
use Rattle.fir_source_faults.specs.working.DrivesByPath.{DrivesByPath}
use Rattle.fir_source_faults.specs.working.ReadsByPath.{path_in, paths_in}
use Rattle.fir_source_faults.proofs.CircuitLeaves.{one_number}
use Rattle.fir_design_faults.proofs.DesignDrives.{DrivesBelow, InRegion}
use Rattle.fir_design_faults.proofs.DrivenPaths.{DriveLeaves}
use Rattle.fir_design_faults.proofs.DesignReads.{block_live, live_drives}
use Rattle.fir_design_faults.proofs.LastDrives.{last_among}
use Rattle.fir_design_faults.proofs.MovedLives.{live_moved}
use Rattle.fir_design_faults.proofs.FlatDrives.{Member}
use Rattle.fir_design_faults.proofs.FlatLives.{moved_live}
use Rattle.fir_design_faults.proofs.ReadStatements.{AreReading}

-- what is known of the module of each instance
pub record HolderFacts (s : Scene) : Type 0 where
  pub reading : AreReading (leafed_module s) (leafed_module s).body
  pub drives : (x : ℕ) → x < length (module_leaves s) → DrivesByPath s x
  pub leaves : DriveLeaves s (module_drives s)

pub mapped_twice : (s : Scene) (at : LeafPath) (xs : List ℕ) → map (λ y. at ++ path_in s y) xs ≡ from_main at (paths_in s xs)
mapped_twice s at [] = refl
mapped_twice s at (x ∷ xs) = ap (λ (qs : List LeafPath). (at ++ path_in s x) ∷ qs) (mapped_twice s at xs)

module _ (g : LeafCircuit) (t : SourceDesign) (m : LeafModule) (first low high : ℕ)
    (below : DrivesBelow g.leaves m (all_modules t) first low high g.body 0)
    (once : (x y : ℕ) → x < length g.leaves → y < length g.leaves → circuit_path g x ≡ circuit_path g y → x ≡ y)
    (named : (x : ℕ) → x < length g.leaves → circuit_path g x ≡ [] → ⊥)
    (facts : (h : PlacedModule) → In (all_modules t) h → HolderFacts h.scene) where
  module _ (h : PlacedModule) (among : In (all_modules t) h) where
    abbrev member : Member g.leaves g.body 0 (InRegion m first low high) h
    member = below.member h among

    abbrev n : Numbering
    n = (below.member h among).numbers

    reads_there : (z k : ℕ) (l : Live) → In (lives_all (depth_at (leafed_module h.scene) z) z (leafed_module h.scene).body k) l
        → map (circuit_path g) (live_reads (moved_live n l)) ≡ from_main h.at (paths_in h.scene (live_reads l))
    reads_there z k l i =
        live_moved n (leafed_module h.scene) member.stands.ports (circuit_path g) (λ y. h.at ++ path_in h.scene y) member.stands.path l
        (block_live (leafed_module h.scene) (depth_at (leafed_module h.scene) z) z (leafed_module h.scene).body k (facts h among).reading l i)
        ∙ mapped_twice h.scene h.at (live_reads l)

  pub reads_by_path : (x y : ℕ) → x < length g.leaves → LiveReads (depth_of g x) x g.body y → DriveReads t (circuit_path g x) (circuit_path g y)
  reads_by_path x y lt r =
      let i = (lives_are_live (depth_of g x) x g.body r.live).1 r.is_live in
      let dv = below.found x (live_drives m (depth_of g x) x g.body 0 r.live i) in
      let h = dv.holder in
      let mem = below.member h dv.among in
      let z = dv.leaf in
      let inner = leafed_module h.scene in
      let agrees = (mem.agrees z dv.within (mem.only z dv.within dv.drives)).0 in
      let same : number mem.numbers z ≡ x = once (number mem.numbers z) x (mem.stands.within z dv.within) lt (mem.stands.path z dv.within ∙ sym dv.path) in
      let there : In (lives_all (depth_of g (number mem.numbers z)) (number mem.numbers z) g.body 0) r.live =
      subst (λ v. In (lives_all (depth_of g v) v g.body 0) r.live) (sym same) i in
      let from = in_map_from (moved_live mem.numbers) (lives_all (depth_at inner z) z inner.body 0) r.live (subst (λ ls. In ls r.live) agrees.lives there) in
      let by = (facts h dv.among).drives z dv.within in
      let d = by.live from.0 ((lives_are_live (depth_at inner z) z inner.body from.0).0 from.1) in
      let read : In (live_reads (moved_live mem.numbers from.0)) y = subst (λ (l : Live). In (live_reads l) y) (sym from.2) r.read in
      let paths : In (from_main h.at (paths_in h.scene (live_reads from.0))) (circuit_path g y) =
      subst (λ qs. In qs (circuit_path g y)) (reads_there h dv.among z 0 from.0 from.1)
      (in_map (circuit_path g) (live_reads (moved_live mem.numbers from.0)) y read) in
      record {
        holder = h;
        among = dv.among;
        leaf = path_in h.scene z;
        is = sym dv.path;
        drive = d.0;
        live = d.1;
        reads = subst (λ qs. In (from_main h.at qs) (circuit_path g y)) d.2.reads paths;
      }

  pub reads_by_number : (x y : ℕ) → x < length g.leaves → y < length g.leaves → DriveReads t (circuit_path g x) (circuit_path g y)
      → LiveReads (depth_of g x) x g.body y
  reads_by_number x y lt less r =
      let h = r.holder in
      let own = facts h r.among in
      let mem = below.member h r.among in
      let inner = leafed_module h.scene in
      let last = last_among (source_depth h.scene r.leaf) r.leaf r.live.choice (module_drives h.scene) r.drive r.live.last in
      let z = own.leaves r.drive last.0 r.leaf last.1 in
      let live = subst (λ q. IsLive (source_depth h.scene q) q (module_drives h.scene) r.drive) (sym z.path) r.live in
      let reads = subst (λ q. In (from_main h.at (tree.live_reads (source_depth h.scene q) q h.scene r.drive)) (circuit_path g y)) (sym z.path) r.reads in
      let l = (own.drives z.leaf z.within).live_back r.drive live in
      let i = (lives_are_live (depth_at inner z.leaf) z.leaf inner.body l.0).1 l.1 in
      let agrees = (mem.agrees z.leaf z.within (mem.only z.leaf z.within (live_drives inner (depth_at inner z.leaf) z.leaf inner.body 0 l.0 i))).0 in
      let xx = number mem.numbers z.leaf in
      let same : xx ≡ x = once xx x (mem.stands.within z.leaf z.within) lt (mem.stands.path z.leaf z.within ∙ ap (λ q. h.at ++ q) z.path ∙ r.is) in
      let moved_in : In (map (moved_live mem.numbers) (lives_all (depth_at inner z.leaf) z.leaf inner.body 0)) (moved_live mem.numbers l.0) =
      in_map (moved_live mem.numbers) (lives_all (depth_at inner z.leaf) z.leaf inner.body 0) l.0 i in
      let whole : In (lives_all (depth_of g xx) xx g.body 0) (moved_live mem.numbers l.0) =
      subst (λ ls. In ls (moved_live mem.numbers l.0)) (sym agrees.lives) moved_in in
      let here : In (lives_all (depth_of g x) x g.body 0) (moved_live mem.numbers l.0) =
      subst (λ v. In (lives_all (depth_of g v) v g.body 0) (moved_live mem.numbers l.0)) same whole in
      let paths : In (map (circuit_path g) (live_reads (moved_live mem.numbers l.0))) (circuit_path g y) =
      subst (λ qs. In qs (circuit_path g y)) (sym (reads_there h r.among z.leaf 0 l.0 i))
      (subst (λ qs. In (from_main h.at qs) (circuit_path g y)) (sym l.2.reads) reads) in
      let w = in_map_from (circuit_path g) (live_reads (moved_live mem.numbers l.0)) (circuit_path g y) paths in
      record {
        live = moved_live mem.numbers l.0;
        is_live = (lives_are_live (depth_of g x) x g.body (moved_live mem.numbers l.0)).0 here;
        read = subst (In (live_reads (moved_live mem.numbers l.0))) (one_number g once named w.0 y less w.2) w.1;
      }
