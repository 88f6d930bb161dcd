-- What is live for a leaf in the leaf circuit of a design is what is live for it in one module, moved: in the one that drives it.
use Rattle.std.proofs.Common.{◌≡◌, ℕ, ◌<◌, List, ◌++◌, map, true, length, sym, ap, ◌∙◌, subst}
use Rattle.fir_base.specs.Lists.{In}
use Rattle.fir_meaning.specs.LeafPaths.{LeafPath}
use Rattle.fir_meaning.specs.SourceClocks.{IsLiveIn, IsWithin}
use Rattle.fir_meaning.specs.SourceDependence.{PlacedModule, all_modules}
use Rattle.fir_meaning.specs.SourceDesigns.{SourceDesign}
use Rattle.fir_meaning.specs.SourceDrives.{Drive, module_drives}
use Rattle.fir_meaning.specs.SourceFacts.{source_depth}
use Rattle.fir_meaning.specs.working.Choices.{Live, lives_all}
use Rattle.fir_meaning.specs.working.LeafCircuits.{LeafCircuit, depth_of}
use Rattle.fir_meaning.specs.working.LeafModules.{LeafModule, depth_at}
use Rattle.fir_meaning.specs.working.LeafedModules.{leafed_module, module_leaves}
use Rattle.fir_meaning.specs.working.Numberings.{Numbering, number}
use Rattle.fir_meaning.specs.working.UndrivenChoices.{drives_any}
use Rattle.fir_leaf.specs.working.ClockRoots.{lives_of}
use Rattle.fir_leaf.specs.working.SoundDesigns.{circuit_path}
use Rattle.fir_design.proofs.FineScenes.{IsFineScene}
use Rattle.fir_source_faults.specs.working.ReadsByPath.{path_in}
use Rattle.fir_source_faults.proofs.ModuleReads.{scene_reads}
use Rattle.fir_design_faults.proofs.ClockMarks.{Marked}
use Rattle.fir_design_faults.proofs.DesignDrives.{DrivesBelow}
use Rattle.fir_design_faults.proofs.DesignReads.{live_drives}
use Rattle.fir_design_faults.proofs.DrivenPaths.{module_driven}
use Rattle.fir_design_faults.proofs.FlatLives.{moved_live}
use Rattle.fir_design_faults.proofs.LastDrives.{last_among}
use Rattle.fir_design_faults.proofs.MarkedModules.{drives_marked, marked_drive}

module _ (g : LeafCircuit) (t : SourceDesign) where
  -- in the module, at the path of the leaf in it
  pub record AreLives (x : ℕ) (h : PlacedModule) (q : LeafPath) : Type 0 where
    pub within : IsWithin t h q (circuit_path g x)
    pub numbers : Numbering
    pub inner : List Live
    pub moved : lives_of g x ≡ map (moved_live numbers) inner
    pub marked : Marked h.scene (IsLiveIn h q) (λ d. IsLiveIn h q d → ⊥) (module_drives h.scene) inner

  pub record HasLives (x : ℕ) : Type 0 where
    pub holder : PlacedModule
    pub leaf : LeafPath
    pub lives : AreLives x holder leaf

module _ (g : LeafCircuit) (t : SourceDesign) (m : LeafModule) (first low high : ℕ)
    (below : DrivesBelow g.leaves m (all_modules t) first low high g.body 0)
    (once : (x y : ℕ) → x < length g.leaves → y < length g.leaves → circuit_path g x ≡ circuit_path g y → x ≡ y)
    (fine : (h : PlacedModule) → In (all_modules t) h → IsFineScene h.scene) where
  -- of a leaf that the module drives
  lives_there : (x : ℕ) → x < length g.leaves → (h : PlacedModule) → In (all_modules t) h → (z : ℕ) → z < length (module_leaves h.scene)
      → drives_any z (leafed_module h.scene).body ≡ true → h.at ++ path_in h.scene z ≡ circuit_path g x → AreLives g t x h (path_in h.scene z)
  lives_there x lt h among z within drives path =
      let inner = leafed_module h.scene in
      let mem = below.member h among in
      let agrees = (mem.agrees z within (mem.only z within drives)).0 in
      let same : number mem.numbers z ≡ x = once (number mem.numbers z) x (mem.stands.within z within) lt (mem.stands.path z within ∙ path) in
      let f = fine h among in
      record {
        within = record { among = among; is = path };
        numbers = mem.numbers;
        inner = lives_all (depth_at inner z) z inner.body 0;
        moved =
            subst (λ v. lives_all (depth_of g v) v g.body 0 ≡ map (moved_live mem.numbers) (lives_all (depth_at inner z) z inner.body 0)) same
            agrees.lives;
        marked = drives_marked h.scene f (scene_reads h.scene f) z within;
      }

  pub to_module : (x : ℕ) → x < length g.leaves → (l : Live) → In (lives_of g x) l → HasLives g t x
  to_module x lt l i =
      let dv = below.found x (live_drives m (depth_of g x) x g.body 0 l i) in
      record {
        holder = dv.holder;
        leaf = path_in dv.holder.scene dv.leaf;
        lives = lives_there x lt dv.holder dv.among dv.leaf dv.within dv.drives (sym dv.path);
      }

  pub to_whole : (x : ℕ) → x < length g.leaves → (h : PlacedModule) (q : LeafPath) (d : Drive) → IsWithin t h q (circuit_path g x) → IsLiveIn h q d
      → AreLives g t x h q
  to_whole x lt h q d w live =
      let s = h.scene in
      let f = fine h w.among in
      let reading = scene_reads s f in
      let last = last_among (source_depth s q) q live.choice (module_drives s) d live.last in
      let z = module_driven s f reading d last.0 q last.1 in
      let own : IsLiveIn h (path_in s z.leaf) d = subst (λ p. IsLiveIn h p d) (sym z.path) live in
      let inner = leafed_module s in
      let lives = lives_all (depth_at inner z.leaf) z.leaf inner.body 0 in
      let l = marked_drive s (IsLiveIn h (path_in s z.leaf)) (module_drives s) lives (drives_marked s f reading z.leaf z.within) d last.0 own in
      let drives = live_drives inner (depth_at inner z.leaf) z.leaf inner.body 0 l.0 l.1 in
      subst (AreLives g t x h) z.path
      (lives_there x lt h w.among z.leaf z.within drives (ap (λ p. h.at ++ p) z.path ∙ w.is))
