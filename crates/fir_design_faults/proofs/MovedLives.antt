-- What a live statement reads over moved numbers is what it reads over the module's, moved.
use Rattle.std.proofs.Common.{◌≡◌, ℕ, ◌<◌, List, [], ◌∷◌, ◌++◌, map, flat_map, length, refl}
use Rattle.std.specs.List.{AllByRecursion}
use Rattle.fir_meaning.specs.LeafPaths.{LeafPath}
use Rattle.fir_meaning.specs.working.Choices.{Live, live_reads}
use Rattle.fir_meaning.specs.working.LeafModules.{LeafModule}
use Rattle.fir_meaning.specs.working.Numberings.{Numbering, moved, moved_picks, number}
use Rattle.fir_meaning.specs.working.TermReads.{picks_read, reads}
use Rattle.fir_meaning.specs.working.Terms.{Term}
use Rattle.fir_design_faults.proofs.AllTerms.{AllTermIn}
use Rattle.fir_design_faults.proofs.DesignReads.{LiveIn}
use Rattle.fir_design_faults.proofs.FlatLives.{moved_live}
use Rattle.fir_design_faults.proofs.MovedReads.{joined_paths, picks_moved, reads_moved}

-- reads of moved live statements
module _ (n : Numbering) (m : LeafModule) (ports : n.ports ≡ m.port_leaves) (outer inner : ℕ → LeafPath)
    (same : (x : ℕ) → x < length m.leaves → outer (number n x) ≡ inner x) where
  under_moved : (ts : List Term) → AllByRecursion (AllTermIn m) ts → map outer (flat_map reads (map (moved n) ts)) ≡ map inner (flat_map reads ts)
  under_moved [] h = refl
  under_moved (t ∷ ts) h =
      joined_paths n m ports outer inner same (reads (moved n t)) (flat_map reads (map (moved n) ts)) (reads t) (flat_map reads ts)
      (reads_moved n m ports outer inner same t h.0) (under_moved ts h.1)

  pub live_moved : (l : Live) → LiveIn m l → map outer (live_reads (moved_live n l)) ≡ map inner (live_reads l)
  live_moved l h =
      joined_paths n m ports outer inner same (flat_map reads (map (moved n) l.under) ++ picks_read (moved_picks n l.through)) (reads (moved n l.given))
      (flat_map reads l.under ++ picks_read l.through) (reads l.given)
      (joined_paths n m ports outer inner same (flat_map reads (map (moved n) l.under)) (picks_read (moved_picks n l.through)) (flat_map reads l.under)
      (picks_read l.through) (under_moved l.under h.under) (picks_moved n m ports outer inner same l.through h.through))
      (reads_moved n m ports outer inner same l.given h.given)
