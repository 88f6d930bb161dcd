-- In the net of what is kept all is needed, and no port, register, pipe or array is missing.
use Rattle.std.proofs.Common.{◌≡◌, ◌||◌, List, true, refl, ap₂, sym, ◌∙◌, subst}
use Rattle.std.proofs.lemmas.List.{length-map}
use Rattle.fir_base.specs.Lists.{In}
use Rattle.fir_base.proofs.Members.{in_map}
use Rattle.fir_net.specs.declared.leaf.Role.{Role}
use Rattle.fir_net.specs.declared.net.FlatNet.{FlatNet}
use Rattle.fir_net.specs.declared.reads.Read.{Read}
use Rattle.fir_net.specs.working.IsNet.{is_port, is_state}
use Rattle.fir_drop_dead.specs.working.IsLive.{IsLive, IsNeeded, KeepsState, itself, of_needed, of_write, whole_reads, write_reads}
use Rattle.fir_drop_dead.specs.working.Marks.{Marked, has}
use Rattle.fir_drop_dead.specs.working.Moved.{kept_net, moved_array, moved_leaf, moved_read, moved_role, moved_write}
use Rattle.fir_drop_dead.specs.working.Needed.{AreNeeded}
use Rattle.fir_drop_dead.specs.working.Numbers.{place}
use Rattle.fir_drop_dead.proofs.KeptDependence.{old_of, whole_moved}
use Rattle.fir_drop_dead.proofs.KeptLeaves.{moved_there}
use Rattle.fir_drop_dead.proofs.KeptReads.{same_port, same_state}

module _ (net : FlatNet) (m : Marked) (are : AreNeeded net m) where
  abbrev other : FlatNet
  other = kept_net m net

  root_moved : (r : Role) → (is_port r || is_state r) ≡ true → (is_port (moved_role m r) || is_state (moved_role m r)) ≡ true
  root_moved r h = ap₂ (λ a b. a || b) (same_port m r) (same_state m r) ∙ h

  needed_moved : (v : Read) → IsNeeded net v → (has m v ≡ true) × IsNeeded other (moved_read m v)
  needed_moved v (itself k l at root) =
      let h = are.roots k l at root in
      (h, itself (place m.leaves k) (moved_leaf m l) (moved_there (moved_leaf m) m.leaves net.leaves k l at h) (root_moved l.role root))
  needed_moved v (of_write a w r at among n) = (
    are.writes a w at among r n,
    of_write (moved_array m a) (moved_write m w) (moved_read m r) (in_map (moved_array m) net.arrays a at) (in_map (moved_write m) a.writes w among)
        (in_map (moved_read m) (write_reads w) r n),
  )
  needed_moved v (of_needed u r need n) =
      let before = needed_moved u need in (
        are.closed u before.0 r n,
        of_needed (moved_read m u) (moved_read m r) before.1
            (subst (λ (rs : List Read). In rs (moved_read m r)) (sym (whole_moved net m are u before.0)) (in_map (moved_read m) (whole_reads net u) r n)),
      )

  pub kept_live : IsLive other
  kept_live = record {
    each = λ v of. let r = old_of net m are v of in subst (IsNeeded other) r.is (needed_moved r.read (are.needed r.read r.marked)).1;
  }

  pub kept_state : KeepsState net other
  kept_state = record {
    leaves = λ k l at root.
        let h = are.roots k l at root in
        (place m.leaves k, moved_leaf m l, moved_there (moved_leaf m) m.leaves net.leaves k l at h, refl, root_moved l.role root);
    arrays = length-map net.arrays (moved_array m);
  }
