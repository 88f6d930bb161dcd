-- The terms of the roles of a module in its net read leaves of the module.
use Rattle.std.proofs.Common.{◌≡◌, ℕ, ◌<◌, Bool, true, false, nat_lt, length, Option, Some, None, option_map, refl, sym, subst, inl, inr, ⊎_elim, ◌++◌, ◌⊎◌}
use Rattle.std.proofs.lemmas.Bool.{ltb-false, ltb-true}
use Rattle.fir_base.specs.Lists.{In}
use Rattle.fir_base.proofs.Members.{in_either}
use Rattle.fir_meaning.specs.ModuleScenes.{Scene}
use Rattle.fir_meaning.specs.working.LeafBlocks.{LeafBlock}
use Rattle.fir_meaning.specs.working.LeafModules as over
use Rattle.fir_meaning.specs.working.LeafModules.{LeafModule, LeafReset, Role, depth_at, role_at}
use Rattle.fir_meaning.specs.working.LeafedModules.{leafed_module}
use Rattle.fir_meaning.specs.working.TermValues.{Holds}
use Rattle.fir_connect.specs.working.NetReads.{each_read, net_reads}
use Rattle.fir_connect.specs.working.NetRoles.{net_reset, net_role, net_role_at, net_types}
use Rattle.fir_connect.specs.working.NetTerms.{NetTerm, NetTerms}
use Rattle.fir_connect.specs.working.NetTerms as net
use Rattle.fir_design.proofs.FineScenes.{IsFineScene}
use Rattle.fir_design_faults.proofs.AllTerms.{MayResetReads, RoleReads}
use Rattle.fir_design_faults.proofs.ReadStatements.{AreReading}
use Rattle.fir_design_faults.proofs.SceneReads.{scene_reading}
use Rattle.fir_copies.proofs.NetLeaves.{NetIn, NetsIn, driver_in, lowered_in}
use Rattle.fir_copies.proofs.PortRoles.{port_role_is}
use Rattle.fir_copies.proofs.TypedDesigns.{role_reads_own}
use Rattle.fir_flatten.specs.working.DesignNets.{ReadsBelow, ResetReadsBelow, RoleReadsBelow}

module _ (m : LeafModule) where
  mutual
    reads_below : (t : NetTerm) → NetIn m t → ReadsBelow (length m.leaves) t
    reads_below (net.value v) h y i = absurd i
    reads_below (net.leaf x) h y (inl e) = subst (λ z. z < length m.leaves) e h
    reads_below (net.leaf x) h y (inr i) = absurd i
    reads_below (net.operation op ts ks t) h y i = all_below ts h y i
    reads_below (net.mux c a b t) h y i =
        ⊎_elim
        (λ (j : In (net_reads c ++ net_reads a) y).
        ⊎_elim (λ (k : In (net_reads c) y). reads_below c h.0 y k) (λ (k : In (net_reads a) y). reads_below a h.1 y k)
        (in_either (net_reads c) (net_reads a) y j)) (λ (j : In (net_reads b) y). reads_below b h.2 y j)
        (in_either (net_reads c ++ net_reads a) (net_reads b) y i)

    all_below : (ts : NetTerms) → NetsIn m ts → (y : ℕ) → In (each_read ts) y → y < length m.leaves
    all_below net.no_terms h y i = absurd i
    all_below (net.term t ts) h y i =
        ⊎_elim (λ (j : In (net_reads t) y). reads_below t h.0 y j) (λ (j : In (each_read ts) y). all_below ts h.1 y j)
        (in_either (net_reads t) (each_read ts) y i)

  module _ (holds : Holds) where
    reset_below : (r : Option LeafReset) → MayResetReads m r → ResetReadsBelow (length m.leaves) (option_map (net_reset holds) r)
    reset_below None h = tt
    reset_below (Some r) h =
        (reads_below _ (lowered_in m holds r.condition h.condition), reads_below _ (lowered_in m holds r.init h.init))

    role_below : (depth x : ℕ) (b : LeafBlock) → AreReading m b → x < length m.leaves → (r : Role) → RoleReads m r
        → RoleReadsBelow (length m.leaves) (net_role holds depth b x r)
    role_below depth x b reading lt over.source h = tt
    role_below depth x b reading lt over.sink h = reads_below _ (driver_in m holds depth x b false reading lt)
    role_below depth x b reading lt (over.computed t) h = reads_below _ (lowered_in m holds t h)
    role_below depth x b reading lt (over.register clock reset) h =
        (reads_below _ (lowered_in m holds clock h.0), reset_below reset h.1, reads_below _ (driver_in m holds depth x b true reading lt))
    role_below depth x b reading lt (over.reading r) h = tt
    role_below depth x b reading lt (over.pipe r clock under) h = tt

-- in a module of a circuit without a fault of names or types
pub roles_below : (s : Scene) → IsFineScene s → (x : ℕ) → x < length (leafed_module s).leaves
    → RoleReadsBelow (length (leafed_module s).leaves) (net_role_at (leafed_module s) x)
roles_below s fine x lt =
    role_below (leafed_module s) (net_types (leafed_module s)) (depth_at (leafed_module s) x) x (leafed_module s).body (scene_reading s fine) lt
    (role_at (leafed_module s) x) (by (nat_lt x (leafed_module s).port_leaves) refl)
  where
    of_port : (r : Role) → (r ≡ over.source) ⊎ (r ≡ over.sink) → RoleReads (leafed_module s) r
    of_port r (inl e) = subst (RoleReads (leafed_module s)) (sym e) tt
    of_port r (inr e) = subst (RoleReads (leafed_module s)) (sym e) tt

    by : (b : Bool) → nat_lt x (leafed_module s).port_leaves ≡ b → RoleReads (leafed_module s) (role_at (leafed_module s) x)
    by true e = of_port (role_at (leafed_module s) x) (port_role_is s x (ltb-true x (leafed_module s).port_leaves e))
    by false e = role_reads_own s fine x (ltb-false x (leafed_module s).port_leaves e) lt
