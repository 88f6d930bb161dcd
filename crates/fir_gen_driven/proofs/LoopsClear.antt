-- No leaf depends on itself: only the output depends on something, and that is a register.
use Rattle.std.proofs.Common.{◌≡◌, ℕ, List, [], ◌∷◌, ◌++◌, Bool, Some, refl, sym, ap, ◌∙◌, subst}
use Rattle.fir_base.specs.Lists.{In}
use Rattle.fir_base.proofs.Members.{in_map_from}
use Rattle.fir_ast.specs.declared.place.Place.{Place}
use Rattle.fir_ast.specs.Faults.{Fault}
use Rattle.fir_pass.specs.Groups.{IsClear}
use Rattle.fir_meaning.specs.LeafPaths.{LeafPath}
use Rattle.fir_meaning.specs.LeafTypes.{LeafType}
use Rattle.fir_meaning.specs.ModuleScenes.{Scene}
use Rattle.fir_meaning.specs.SourceChoices.{Choice, IsLive, last_reaching, live_reads}
use Rattle.fir_meaning.specs.SourceCircuits.{leaf_path}
use Rattle.fir_meaning.specs.SourceDependence.{Depends, DriveReads, IsDependenceWalk, PlacedModule, RoleDepends, from_main, reads_if}
use Rattle.fir_meaning.specs.SourceDrives.{Drive, module_drives}
use Rattle.fir_meaning.specs.SourceFacts.{source_depth}
use Rattle.fir_meaning.specs.SourceLoops.{ShowsLoop, loop_group}
use Rattle.fir_meaning.specs.SourceRoles.{SourceRole, register, sink, source}
use Rattle.fir_gen.specs.working.GenTree.{gen_tree}
use Rattle.fir_gen_driven.proofs.LastDrives.{output, output_is_last, output_reads}
use Rattle.fir_gen_driven.proofs.GenLeaves.{IsFine}
use Rattle.fir_gen_driven.proofs.GenScenes.{IsGenScene}
use Rattle.fir_gen_driven.proofs.GenSources.{alone, leaf_fine, module_alone, none_of_source}

module _ (s : Scene) (gen : IsGenScene s) where
  -- what is live for the output does not read it
  output_unread : (depth : ℕ) (choice : Choice) (d : Drive) → last_reaching depth output choice (module_drives s) ≡ Some d
      → In (from_main [] (live_reads depth output s d)) output → ⊥
  output_unread depth choice d live among =
      let known = output_is_last depth choice (module_drives s) gen.ends in
      let same : gen.ends.last ≡ d = cc in
      let there = in_map_from (λ (path : LeafPath). [] ++ path) (live_reads depth output s d) output among in
      let read : In (live_reads depth output s d) output = subst (In (live_reads depth output s d)) there.2 there.1 in
      gen.ends.reads
      (subst (λ (xs : List LeafPath). In xs output) (output_reads depth s (module_drives s) gen.ends)
      (subst (λ (e : Drive). In (live_reads depth output s e) output) (sym same) read))

  not_itself : DriveReads (alone s) output output → ⊥
  not_itself h = within h.holder h.leaf h.drive (module_alone s h.holder h.among) h.is h.live h.reads
    where
      here : (leaf : LeafPath) (d : Drive) → leaf ≡ output → IsLive (source_depth s leaf) leaf (module_drives s) d
          → In (from_main [] (live_reads (source_depth s leaf) leaf s d)) output → ⊥
      here leaf d e live =
          subst (λ (x : LeafPath). In (from_main [] (live_reads (source_depth s leaf) x s d)) output → ⊥) (sym e)
          (output_unread (source_depth s leaf) live.choice d
          (subst (λ (x : LeafPath). last_reaching (source_depth s leaf) x live.choice (module_drives s) ≡ Some d) e live.last))

      within : (m : PlacedModule) (leaf : LeafPath) (d : Drive) → record { at = []; scene = s } ≡ m → m.at ++ leaf ≡ output
          → IsLive (source_depth m.scene leaf) leaf (module_drives m.scene) d
          → In (from_main m.at (live_reads (source_depth m.scene leaf) leaf m.scene d)) output → ⊥
      within m leaf d same =
          subst (λ (m : PlacedModule). m.at ++ leaf ≡ output → IsLive (source_depth m.scene leaf) leaf (module_drives m.scene) d
          → In (from_main m.at (live_reads (source_depth m.scene leaf) leaf m.scene d)) output → ⊥) same (here leaf d)

  -- a leaf that depends on something is the output, on what its live drive reads
  role_depends : (at x path : LeafPath) (h : LeafType) (r : SourceRole) (y : LeafPath) → IsFine path h r → x ≡ at ++ path → at ≡ []
      → RoleDepends (alone s) at x r y → (x ≡ output) × DriveReads (alone s) x y
  role_depends at x path h sink y fine e top reads =
      let front : at ++ path ≡ path = ap (λ (front : LeafPath). front ++ path) top in
      (e ∙ front ∙ fine.0, reads)
  role_depends at x path h source y fine e top reads = absurd reads
  role_depends at x path h (register scope clock (Some reset) q) y fine e top reads =
      absurd (subst (λ (b : Bool). In (from_main at (reads_if b reset q)) y) fine.1 reads)
  role_depends at x path h r y fine e top reads = absurd fine

  depends : (x y : LeafPath) → Depends (alone s) x y → (x ≡ output) × DriveReads (alone s) x y
  depends x y (p, among, is, reads) =
      let fine = leaf_fine s gen p among in
      subst (λ (x : LeafPath). (x ≡ output) × DriveReads (alone s) x y) is
      (role_depends p.at (leaf_path p) p.leaf.path p.leaf.holds p.leaf.role y fine.1 refl fine.0 reads)

  -- so nothing depends on the output
  no_reader : (x y : LeafPath) → Depends (alone s) x y → y ≡ output → ⊥
  no_reader x y h e =
      let it = depends x y h in
      not_itself (subst (λ (z : LeafPath). DriveReads (alone s) output z) e (subst (λ (z : LeafPath). DriveReads (alone s) z y) it.0 it.1))

  -- a walk of one step at least begins with the output
  begins : (x : LeafPath) (ys : List LeafPath) (last final : LeafPath) → IsDependenceWalk (alone s) x (ys ++ last ∷ []) final → x ≡ output
  begins x [] last final h = (depends x last h.0).0
  begins x (y ∷ ys) last final h = (depends x y h.0).0

  no_closed_walk : (x : LeafPath) (ys : List LeafPath) → IsDependenceWalk (alone s) x (ys ++ x ∷ []) x → ⊥
  no_closed_walk x [] h = no_reader x x h.0 (depends x x h.0).0
  no_closed_walk x (y ∷ ys) h = no_reader x y h.0 (begins y ys x x h.1)

  clear_alone : (f : Fault) → ShowsLoop (alone s) f → ⊥
  clear_alone f h = no_closed_walk h.first h.between h.walk

pub loops_clear : (at : ℕ → ℕ → Place) (n : ℕ) → IsClear (loop_group (gen_tree at n))
loops_clear at n f h = none_of_source at n h.source h.is_source ShowsLoop clear_alone f h.shows
