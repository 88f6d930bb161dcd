-- The leaves that are reached from what stands for a leaf or a node are reached from it in the net, so that constants stay constant.
use Rattle.std.proofs.Common.{◌≡◌, ℕ, zero, suc, List, ◌++◌, length, map, refl, sym, ap, ◌∙◌, subst, inl, inr, ◌⊎◌, arith}
use Rattle.std.specs.Prelude.{slice_get, Option, Some, None, option_map}
use Rattle.std.proofs.lemmas.Option.{slice_get_within}
use Rattle.fir_base.specs.Lists.{In}
use Rattle.fir_base.proofs.Elements.{all_there, get_in, number_of}
use Rattle.fir_base.proofs.Members.{in_map_from}
use Rattle.fir_net.specs.declared.leaf.Leaf.{Leaf}
use Rattle.fir_net.specs.declared.leaf.Register.{Register}
use Rattle.fir_net.specs.declared.leaf.Reset.{Reset}
use Rattle.fir_net.specs.declared.leaf.ResetKind.TheVariants.{Asynchronous}
use Rattle.fir_net.specs.declared.leaf.Role.{Role}
use Rattle.fir_net.specs.declared.leaf.Role.TheVariants as role
use Rattle.fir_net.specs.declared.net.FlatNet.{FlatNet}
use Rattle.fir_net.specs.declared.node.Node.{Node}
use Rattle.fir_net.specs.declared.reads.Read.{Read}
use Rattle.fir_net.specs.declared.reads.Read.TheVariants as read
use Rattle.fir_net.specs.working.Dependence.{Reads, leaf_reads, node_reads, reads_of, support_of}
use Rattle.fir_net.specs.working.IsNet.{CanBeReset, IsLeaf, IsNet, IsRole}
use Rattle.fir_net.specs.working.IsOrder.{IsOrder}
use Rattle.fir_net.specs.working.IsWritable.{HasConstantInits, IsConstant, Reaches, itself as reached, through, is_input_or_state}
use Rattle.fir_fold_rules.specs.declared.replacement.Replacement.{Replacement}
use Rattle.fir_fold_rules.specs.declared.replacement.Replacement.TheVariants as by
use Rattle.fir_fold_rules.specs.working.Replaces.{IsWithin, Replaces, among as among_these, of_node}
use Rattle.fir_fold.specs.working.FoldedNet.{folded_net}
use Rattle.fir_fold.specs.working.Standing.{leaf_read, node_read, reset_read, role_read}
use Rattle.fir_fold.specs.working.Walking.{IsBy, IsWalked, StandsBefore, StandsForLeaf, StandsForNode, Walking, leaf, literal, of_driver, read_by}
use Rattle.fir_fold.proofs.Entries.{get_more}
use Rattle.fir_fold.proofs.FoldedLeaves.{input_role, map_from, option_from}
use Rattle.fir_fold.proofs.FoldedNets.{all_done, can_of}
use Rattle.fir_fold.proofs.FoldedOrders.{reads_over}
use Rattle.fir_fold.proofs.NodeSteps.{support_read}
use Rattle.fir_fold.proofs.Stood.{reads_driver, reads_node}

register_from : (f : Read → Read) (x : Role) (own : Register) → role_read f x ≡ role.Register own → (q : Register) × (x ≡ role.Register q) × (own.reset ≡ option_map (reset_read f) q.reset)
register_from f role.Input own e = cc
register_from f role.Clock own e = cc
register_from f (role.Output r) own e = cc
register_from f (role.Wire r) own e = cc
register_from f (role.Register q) own e =
    let same : ◌≡◌ {A = Register} (record { clock = q.clock; reset = option_map (reset_read f) q.reset; next = option_map f q.next }) own = cc in
    (q, refl, ap (λ (x : Register). x.reset) (sym same))
register_from f (role.Reading r) own e = cc
register_from f (role.Pipe p) own e = cc
register_from f (role.ClockOutput c) own e = cc
register_from f (role.ClockWire c) own e = cc

module _ (net : FlatNet) (order : List Read) (ordered : IsOrder net order) (whole : IsNet net) (w : Walking) (h : IsWalked net order (length order) w) where
  abbrev other : FlatNet
  other = folded_net net w

  step_of : (v x : Read) → Reaches (folded_net net w) v x → (v ≡ x) ⊎ ((y : Read) × Reads (folded_net net w) v y × Reaches (folded_net net w) y x)
  step_of _ _ (reached v) = inl refl
  step_of _ _ (through v y x r rest) = inr (y, r, rest)

  reads_within : (before behind : List Node) → w.nodes ≡ before ++ behind → (k : ℕ) (r : Read) → In (node_reads (slice_get before k)) r → Reads (folded_net net w) (read.Node k) r
  reads_within before behind parts k r i = by (slice_get before k) refl i
    where
      by : (o : Option Node) → slice_get before k ≡ o → In (node_reads o) r → Reads (folded_net net w) (read.Node k) r
      by None at m = absurd m
      by (Some x) at m = reads_node (folded_net net w) k x r (ap (λ (ns : List Node). slice_get ns k) parts ∙ get_more before behind k x at) m

  -- what is reached from what is within others is reached from one of them
  from_within : (before behind : List Node) → w.nodes ≡ before ++ behind → (rs : List Read) (r x : Read) → IsWithin before rs r → Reaches (folded_net net w) r x
      → (y : Read) × In rs y × Reaches (folded_net net w) y x
  from_within before behind parts rs _ x (among_these r i) reaches = (r, i, reaches)
  from_within before behind parts rs _ x (of_node k r deep i) reaches =
      from_within before behind parts rs (read.Node k) x deep (through (read.Node k) r x (reads_within before behind parts k r i) reaches)

  abbrev Leads : Read → Type 0
  Leads v = (j : ℕ) → Reaches (folded_net net w) (read_by w v) (read.Leaf j) → Reaches net v (read.Leaf j)

  module _ (n : ℕ) (before : (x : Read) → StandsBefore order n x → Leads x) where
    sooner_one : (v x : Read) → (d : StandsBefore order (suc n) v) → Reads net v x → StandsBefore order n x
    sooner_one v x d r = let a = ordered.after d.place v x d.is r in let low = d.before in record { place = a.0; before = omega (arith, a.1, low); is = a.2 }

    -- from one that it reads
    one_leads : (v x y : Read) → StandsBefore order (suc n) v → Reads net v x → read_by w x ≡ y → (j : ℕ) → Reaches (folded_net net w) y (read.Leaf j) → Reaches net v (read.Leaf j)
    one_leads v x y d r e j reaches =
        through v x (read.Leaf j) r (before x (sooner_one v x d r) j (subst (λ (z : Read). Reaches (folded_net net w) z (read.Leaf j)) (sym e) reaches))

    module _ (k : ℕ) (m : Node) (at : slice_get net.nodes k ≡ Some m) (d : StandsBefore order (suc n) (read.Node k)) (s : StandsForNode net.leaves k m w) where
      within_leads : (r : Read) → IsWithin s.before (support_of (node_read (read_by w) m)) r → (j : ℕ) → Reaches (folded_net net w) r (read.Leaf j) → Reaches net (read.Node k) (read.Leaf j)
      within_leads r deep j reaches =
          let y = from_within s.before s.behind s.parts (support_of (node_read (read_by w) m)) r (read.Leaf j) deep reaches in
          let x = in_map_from (read_by w) (support_of m) y.0 (subst (λ (rs : List Read). In rs y.0) (support_read (read_by w) m) y.1) in
          one_leads (read.Node k) x.0 y.0 d (reads_node net k m x.0 at x.1) x.2 j y.2

      by_rule : (b : Replacement) → Replaces net.leaves s.before (node_read (read_by w) m) b → IsBy w.nodes b (read_by w (read.Node k)) → Leads (read.Node k)
      by_rule (by.Read r) f is j reaches = within_leads r f.within j (subst (λ (z : Read). Reaches (folded_net net w) z (read.Leaf j)) is reaches)
      by_rule (by.Node x) f is j reaches =
          steps (step_of (read.Node is.0) (read.Leaf j) (subst (λ (z : Read). Reaches (folded_net net w) z (read.Leaf j)) is.1 reaches))
        where
          steps : (read.Node is.0 ≡ read.Leaf j) ⊎ ((y : Read) × Reads (folded_net net w) (read.Node is.0) y × Reaches (folded_net net w) y (read.Leaf j)) → Reaches net (read.Node k) (read.Leaf j)
          steps (inl e) = cc
          steps (inr y) =
              let i = get_in (node_reads (slice_get w.nodes is.0)) y.1.place y.0 y.1.is in
              within_leads y.0 (f.within y.0 (subst (λ (o : Option Node). In (node_reads o) y.0) is.2 i)) j y.2

      node_leads : Leads (read.Node k)
      node_leads = by_rule s.replacement s.replaces s.is

    leaf_leads : (k : ℕ) (l : Leaf) → slice_get net.leaves k ≡ Some l → StandsBefore order (suc n) (read.Leaf k) → StandsForLeaf net.leaves k l w → Leads (read.Leaf k)
    leaf_leads k l at d (leaf none settles) j reaches =
        steps (step_of (read.Leaf k) (read.Leaf j) (subst (λ (z : Read). Reaches (folded_net net w) z (read.Leaf j)) settles reaches))
      where
        steps : (read.Leaf k ≡ read.Leaf j) ⊎ ((y : Read) × Reads (folded_net net w) (read.Leaf k) y × Reaches (folded_net net w) y (read.Leaf j)) → Reaches net (read.Leaf k) (read.Leaf j)
        steps (inl e) = subst (λ (z : Read). Reaches net (read.Leaf k) z) e (reached (read.Leaf k))
        steps (inr y) =
            let i = get_in (reads_of (folded_net net w) (read.Leaf k)) y.1.place y.0 y.1.is in
            let x = in_map_from (read_by w) (leaf_reads (slice_get net.leaves k)) y.0 (subst (λ (rs : List Read). In rs y.0) (reads_over net order ordered whole w h (read.Leaf k)) i) in
            let p = number_of (leaf_reads (slice_get net.leaves k)) x.0 x.1 in
            one_leads (read.Leaf k) x.0 y.0 d (record { place = p.0; is = p.1 }) x.2 j y.2
    leaf_leads k l at d (of_driver c drives same typed) j reaches =
        one_leads (read.Leaf k) c (read_by w c) d (reads_driver net k l c at drives) refl j (subst (λ (z : Read). Reaches (folded_net net w) z (read.Leaf j)) same reaches)
    leaf_leads k l at d (literal c v x i drives reads is stands place) j reaches =
        steps (step_of (read.Node i) (read.Leaf j) (subst (λ (z : Read). Reaches (folded_net net w) z (read.Leaf j)) stands reaches))
      where
        steps : (read.Node i ≡ read.Leaf j) ⊎ ((y : Read) × Reads (folded_net net w) (read.Node i) y × Reaches (folded_net net w) y (read.Leaf j)) → Reaches net (read.Leaf k) (read.Leaf j)
        steps (inl e) = cc
        steps (inr y) = absurd (subst (λ (o : Option Node). In (node_reads o) y.0) place (get_in (node_reads (slice_get w.nodes i)) y.1.place y.0 y.1.is))

    leads_at : (v : Read) → StandsBefore order (suc n) v → Leads v
    leads_at (read.Leaf k) d =
        let s = (h.stood (read.Leaf k) (record { place = d.place; before = slice_get_within order d.place (read.Leaf k) d.is; is = d.is })).stands in
        leaf_leads k s.0 s.1 d s.2
    leads_at (read.Node k) d =
        let s = (h.stood (read.Node k) (record { place = d.place; before = slice_get_within order d.place (read.Node k) d.is; is = d.is })).stands in
        node_leads k s.0 s.1 d s.2

  leads : (n : ℕ) (v : Read) → StandsBefore order n v → Leads v
  leads zero v d = let low = d.before in absurd (omega (arith, low))
  leads (suc n) v d = leads_at n (leads n) v d

  pub constant_inits : HasConstantInits net → HasConstantInits (folded_net net w)
  constant_inits constant = record { each = each }
    where
      each : (k : ℕ) (m : Leaf) (own : Register) (reset : Reset) → slice_get (map (leaf_read (read_by w)) net.leaves) k ≡ Some m → m.role ≡ role.Register own → own.reset ≡ Some reset
          → reset.kind ≡ Asynchronous → IsConstant (folded_net net w) reset.init
      each k m own reset at is has kind =
          let l = map_from (leaf_read (read_by w)) net.leaves k m at in
          let q = register_from (read_by w) l.0.role own (ap (λ (x : Leaf). x.role) (sym l.2) ∙ is) in
          let r = option_from (reset_read (read_by w)) q.0.reset reset (sym q.2 ∙ has) in
          let was = constant.each k l.0 q.0 r.0 l.1 q.1 r.1 (ap (λ (x : Reset). x.kind) (sym r.2) ∙ kind) in
          let driven = subst (IsRole net.leaves net.nodes l.0.signed l.0.width) q.1 (all_there (IsLeaf net.leaves net.nodes) net.leaves whole.leaves k l.0 l.1).driven in
          let can = (subst (CanBeReset net.leaves net.nodes l.0.signed) r.1 driven.1).init.can in
          record {
            none = λ j n reaches there.
                let x = map_from (leaf_read (read_by w)) net.leaves j n there in
                let reach =
                leads (length order) r.0.init (all_done net order ordered whole w h r.0.init (can_of net order ordered whole w h r.0.init can)) j
                (subst (λ (z : Reset). Reaches (folded_net net w) z.init (read.Leaf j)) r.2 reaches) in
                ap (λ (y : Leaf). is_input_or_state y.role) x.2 ∙ input_role (read_by w) x.0.role ∙ was.none j x.0 reach x.1;
          }
