-- What a role reads over moved numbers is what it reads over the module's, moved.
use Rattle.std.proofs.Common.{◌≡◌, ℕ, ◌<◌, List, [], ◌∷◌, map, length, true, false, Bool, Option, Some, None, option_map, refl, ap₂, inl, inr}
use Rattle.fir_base.specs.Lists.{In}
use Rattle.fir_meaning.specs.LeafPaths.{LeafPath}
use Rattle.fir_meaning.specs.working.Dependence.{reads_if, reset_reads}
use Rattle.fir_meaning.specs.working.LeafModules as role
use Rattle.fir_meaning.specs.working.LeafModules.{LeafModule, LeafReset, Need, Role}
use Rattle.fir_meaning.specs.working.Numberings.{Numbering, moved, moved_need, moved_reset, moved_role, number}
use Rattle.fir_meaning.specs.working.TermReads.{reads}
use Rattle.fir_meaning.specs.working.Terms.{Term}
use Rattle.fir_source_faults.proofs.RoleReads.{role_reads}
use Rattle.fir_design_faults.proofs.AllTerms.{AllTermIn, MayResetReads, RoleReads}
use Rattle.fir_design_faults.proofs.MovedReads.{joined_paths, reads_moved}

module _ (n : Numbering) (m : LeafModule) (ports : n.ports ≡ m.port_leaves) (outer inner : ℕ → LeafPath)
    (same : (x : ℕ) → x < length m.leaves → outer (number n x) ≡ inner x) where
  if_moved : (b : Bool) (c i : Term) → AllTermIn m c → AllTermIn m i
      → map outer (reads_if b (record { is_async = b; condition = moved n c; init = moved n i }))
      ≡ map inner (reads_if b (record { is_async = b; condition = c; init = i }))
  if_moved true c i h k =
      joined_paths n m ports outer inner same (reads (moved n c)) (reads (moved n i)) (reads c) (reads i) (reads_moved n m ports outer inner same c h)
      (reads_moved n m ports outer inner same i k)
  if_moved false c i h k = refl

  pub reset_moved : (r : Option LeafReset) → MayResetReads m r → map outer (reset_reads (option_map (moved_reset n) r)) ≡ map inner (reset_reads r)
  reset_moved None h = refl
  reset_moved (Some r) h = if_moved r.is_async r.condition r.init h.condition h.init

  needs_moved : (xs : List Need) → ((y : ℕ) → In (map (λ (x : Need). x.leaf) xs) y → y < length m.leaves)
      → map outer (map (λ (x : Need). x.leaf) (map (moved_need n) xs)) ≡ map inner (map (λ (x : Need). x.leaf) xs)
  needs_moved [] h = refl
  needs_moved (x ∷ xs) h =
      ap₂ (λ (q : LeafPath) (qs : List LeafPath). q ∷ qs) (same x.leaf (h x.leaf (inl refl))) (needs_moved xs (λ y i. h y (inr i)))

  -- where all that it reads are leaves of the module
  pub role_moved : (array : ℕ) (r : Role) → RoleReads m r → ((y : ℕ) → In (role_reads r) y → y < length m.leaves)
      → map outer (role_reads (moved_role n array r)) ≡ map inner (role_reads r)
  role_moved array role.source h k = refl
  role_moved array role.sink h k = refl
  role_moved array (role.computed t) h k = reads_moved n m ports outer inner same t h
  role_moved array (role.register c r) h k = reset_moved r h.1
  role_moved array (role.reading r) h k =
      ap₂ (λ (q : LeafPath) (qs : List LeafPath). q ∷ qs) (same r.address (k r.address (inl refl))) (needs_moved r.needs (λ y i. k y (inr i)))
  role_moved array (role.pipe r c u) h k = refl
