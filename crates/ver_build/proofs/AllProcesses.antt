-- The order has each process of the tree, and no other.
use Rattle.std.proofs.Common.{◌≡◌, ℕ, List, [], ◌∷◌, ◌++◌, map, flat_map, refl, sym, ap, ◌∙◌, inl, ⊎_elim, subst, Some}
use Rattle.std.proofs.lemmas.Option.{slice_get_within}
use Rattle.fir_base.specs.Lists.{In}
use Rattle.fir_base.proofs.Elements.{there, get_in, number_of}
use Rattle.fir_base.proofs.Members.{in_left, in_right, in_either, in_map, in_map_from, in_flat_map, in_flat_map_from}
use Rattle.fir_net.specs.declared.reads.Read.{Read}
use Rattle.fir_net.specs.declared.reads.Read.TheVariants as read
use Rattle.fir_net.specs.declared.leaf.Reset.{Reset}
use Rattle.fir_net.specs.declared.net.FlatNet.{FlatNet}
use Rattle.fir_net_names.specs.declared.name_table.NameTable.{NameTable}
use Rattle.fir_net_names.specs.working.LeafNamed.{name_at}
use Rattle.ver_ast.specs.declared.tree.Assign.{Assign}
use Rattle.ver_ast.specs.declared.tree.Resetting.{Resetting}
use Rattle.ver_ast.specs.Nets.{assigns, resets}
use Rattle.ver_ast.specs.Processes.{Process, assigning, showing, processes}
use Rattle.ver_build.specs.declared.places.Places.{Places}
use Rattle.ver_build.specs.declared.right_sides.Inner.{Inner}
use Rattle.ver_build.specs.working.Blocks.{leaf_net, own_net}
use Rattle.ver_build.specs.working.Built.{at_number, inner_assign, inners, order_inners, read_inners, reset_inners, late_inners}
use Rattle.ver_build.proofs.Premises.{Premises}
use Rattle.ver_build.proofs.Parts.{in_parts, assigns_of, output_assigns}
use Rattle.ver_build.proofs.Nets.{resets_are}
use Rattle.ver_build.proofs.Words.{IsWord, net_is, net_of}
use Rattle.ver_build.proofs.ClockAssigns.{assigns_are}
use Rattle.ver_build.proofs.Placed.{inner_process}
use Rattle.ver_build.proofs.ShownWords.{HasShown, leaf_shown, word_resetting, given_is, resetting_in, reset_of, shown_view}
use Rattle.ver_build.proofs.ProcessOrder.{given, process_order}
use Rattle.ver_build.specs.working.ArrayBlocks.{write_inners}

module _ (net : FlatNet) (t : NameTable) (p : Places) (order : List Read) (is : Premises net t p order) where
  abbrev pub come : Read → List Process
  come = given net t p order is

  abbrev outs : List Assign
  outs = output_assigns net t p order

  -- the net of a word's reset
  abbrev pub word_net : ℕ → List Inner
  word_net k = at_number (leaf_net p) p.resets net.leaves k

  pub word_net_is : (k : ℕ) (w : IsWord net t k) (r : Reset) → w.own.reset ≡ Some r → word_net k ≡ own_net p (Some r) (name_at p.resets k)
  word_net_is k w r has = net_is net t p k w ∙ ap (λ o. own_net p o (name_at p.resets k)) has

  leaf_there : (k : ℕ) → IsWord net t k → In order (read.Leaf k)
  leaf_there k w = let i = is.ordered.all (read.Leaf k) (slice_get_within net.leaves k w.leaf w.at) in get_in order i.0 (read.Leaf k) i.1

  abbrev writes : List Process
  writes = map inner_process (write_inners net p)

  abbrev tail : List Process
  tail = writes ++ map assigning outs

  coming : (q : Process) → In (flat_map come order) q → In (process_order net t p order is) q
  coming q m = in_left (flat_map come order) tail q m

  ending : (q : Process) → In tail q → In (process_order net t p order is) q
  ending q m = in_right (flat_map come order) tail q m

  -- each process is in the order
  read_in : (i : Inner) (r : Read) → In order r → In (read_inners net t p r) i → In (flat_map come order) (inner_process i)
  read_in i (read.Leaf k) there_is n =
      in_flat_map come order (read.Leaf k) (inner_process i) there_is
      (in_left (map inner_process (read_inners net t p (read.Leaf k))) (leaf_shown net t p k) (inner_process i)
      (in_map inner_process (read_inners net t p (read.Leaf k)) i n))
  read_in i (read.Node k) there_is n =
      in_flat_map come order (read.Node k) (inner_process i) there_is (in_map inner_process (read_inners net t p (read.Node k)) i n)

  -- what a word with a reset shows
  shown_in : (k : ℕ) → IsWord net t k → (q : Process) → In (leaf_shown net t p k) q → In (flat_map come order) q
  shown_in k w q m =
      in_flat_map come order (read.Leaf k) q (leaf_there k w) (in_right (map inner_process (read_inners net t p (read.Leaf k))) (leaf_shown net t p k) q m)

  inner_in : (i : Inner) → In (inners net t p order) i → In (process_order net t p order is) (inner_process i)
  inner_in i m =
      ⊎_elim
      (λ (o : In (order_inners net t p order) i). let r = in_flat_map_from (read_inners net t p) order i o in coming (inner_process i) (read_in i r.0 r.1 r.2))
      (λ (l : In (late_inners net p) i).
      ⊎_elim
      (λ (o : In (reset_inners net p) i).
      let n = net_of net t p is.whole is.table is.pipes i o in
      coming (inner_process i)
      (shown_in n.number n.word (inner_process i)
      (subst (λ (qs : List Process). In qs (inner_process i)) (sym (given_is net t p n.number n.word n.reset n.has))
      (in_left (map inner_process (own_net p (Some n.reset) (name_at p.resets n.number))) (showing (word_resetting net t p n.number n.word n.reset) ∷ [])
      (inner_process i)
      (in_map inner_process (own_net p (Some n.reset) (name_at p.resets n.number)) i
      (subst (λ (j : Inner). In (own_net p (Some n.reset) (name_at p.resets n.number)) j) (sym n.is)
      (let named = n.named in rw named (inl refl))))))))
      (λ (o : In (write_inners net p) i). ending (inner_process i) (in_left writes (map assigning outs) (inner_process i) (in_map inner_process (write_inners net p) i o)))
      (in_either (reset_inners net p) (write_inners net p) i l))
      (in_either (order_inners net t p order) (late_inners net p) i m)

  assign_in : (a : Assign) → In (assigns (in_parts net t p order)) a → In (process_order net t p order is) (assigning a)
  assign_in a m =
      ⊎_elim
      (λ (i : In (map inner_assign (inners net t p order)) a).
      let x = in_map_from inner_assign (inners net t p order) a i in
      subst (λ (b : Assign). In (process_order net t p order is) (assigning b)) x.2 (inner_in x.0 x.1))
      (λ (o : In outs a). ending (assigning a) (in_right writes (map assigning outs) (assigning a) (in_map assigning outs a o)))
      (in_either (map inner_assign (inners net t p order)) outs a (subst (λ (xs : List Assign). In xs a) (assigns_are net t p order is) m))

  reset_in : (b : Resetting) → In (resets (in_parts net t p order)) b → In (process_order net t p order is) (showing b)
  reset_in b m =
      let o = reset_of net t p is.whole is.table is.pipes b (subst (λ (bs : List Resetting). In bs b) (resets_are net t p order) m) in
      coming (showing b)
      (shown_in o.number o.word (showing b)
      (subst (λ (qs : List Process). In qs (showing b)) (sym (given_is net t p o.number o.word o.reset o.has))
      (in_right (map inner_process (own_net p (Some o.reset) (name_at p.resets o.number))) (showing (word_resetting net t p o.number o.word o.reset) ∷ [])
      (showing b) (inl (ap showing (sym o.is))))))

  pub each : (q : Process) → In (processes (in_parts net t p order)) q → In (process_order net t p order is) q
  each q m =
      let xs = assigns (in_parts net t p order) in
      let bs = resets (in_parts net t p order) in
      ⊎_elim
      (λ (i : In (map assigning xs) q). let a = in_map_from assigning xs q i in subst (In (process_order net t p order is)) a.2 (assign_in a.0 a.1))
      (λ (o : In (map showing bs) q). let b = in_map_from showing bs q o in subst (In (process_order net t p order is)) b.2 (reset_in b.0 b.1))
      (in_either (map assigning xs) (map showing bs) q m)

  -- and what is in it is a process
  assigned : (a : Assign) → In (assigns_of net t p order) a → In (processes (in_parts net t p order)) (assigning a)
  assigned a m =
      let xs = assigns (in_parts net t p order) in
      in_left (map assigning xs) (map showing (resets (in_parts net t p order))) (assigning a)
      (in_map assigning xs a (subst (λ (ys : List Assign). In ys a) (sym (assigns_are net t p order is)) m))

  inner_assigned : (i : Inner) → In (inners net t p order) i → In (processes (in_parts net t p order)) (inner_process i)
  inner_assigned i m = assigned (inner_assign i) (in_left (map inner_assign (inners net t p order)) outs (inner_assign i) (in_map inner_assign (inners net t p order) i m))

  pub shown : (k : ℕ) (h : HasShown net t p k) → In (processes (in_parts net t p order)) (showing (word_resetting net t p k h.word h.reset))
  shown k h =
      let b = word_resetting net t p k h.word h.reset in
      in_right (map assigning (assigns (in_parts net t p order))) (map showing (resets (in_parts net t p order))) (showing b)
      (in_map showing (resets (in_parts net t p order)) b
      (subst (λ (bs : List Resetting). In bs b) (sym (resets_are net t p order)) (resetting_in net t p k h.among h.word h.reset h.has)))

  own_assigned : (k : ℕ) (h : HasShown net t p k) (q : Process) → In (map inner_process (own_net p (Some h.reset) (name_at p.resets k))) q
      → In (processes (in_parts net t p order)) q
  own_assigned k h q m =
      let i = in_map_from inner_process (own_net p (Some h.reset) (name_at p.resets k)) q m in
      subst (In (processes (in_parts net t p order))) i.2
      (inner_assigned i.0
      (in_right (order_inners net t p order) (late_inners net p) i.0
      (in_left (reset_inners net p) (write_inners net p) i.0
      (in_flat_map word_net net.state k i.0 h.among (subst (λ (xs : List Inner). In xs i.0) (sym (word_net_is k h.word h.reset h.has)) i.1)))))

  -- what comes at a word with a reset
  shown_only : (k : ℕ) (q : Process) → In order (read.Leaf k) → In (leaf_shown net t p k) q → In (processes (in_parts net t p order)) q
  shown_only k q there_is m =
      let place = number_of order (read.Leaf k) there_is in
      let l = there net.leaves k (is.ordered.only place.0 (read.Leaf k) place.1) in
      ⊎_elim
      (λ (none : leaf_shown net t p k ≡ []). absurd (subst (λ (qs : List Process). In qs q) none m))
      (λ (h : HasShown net t p k).
      let own = map inner_process (own_net p (Some h.reset) (name_at p.resets k)) in
      let block = showing (word_resetting net t p k h.word h.reset) in
      ⊎_elim
      (λ (i : In own q). own_assigned k h q i)
      (λ (o : In (block ∷ []) q).
      ⊎_elim (λ (e : block ≡ q). subst (In (processes (in_parts net t p order))) e (shown k h)) (λ (x : ⊥). absurd x) o)
      (in_either own (block ∷ []) q (subst (λ (qs : List Process). In qs q) (given_is net t p k h.word h.reset h.has) m)))
      (shown_view net t p is.whole is.table k l.0 l.1)

  read_only : (r : Read) (q : Process) → In order r → In (map inner_process (read_inners net t p r)) q → In (processes (in_parts net t p order)) q
  read_only r q there_is m =
      let i = in_map_from inner_process (read_inners net t p r) q m in
      subst (In (processes (in_parts net t p order))) i.2
      (inner_assigned i.0 (in_left (order_inners net t p order) (late_inners net p) i.0 (in_flat_map (read_inners net t p) order r i.0 there_is i.1)))

  come_only : (r : Read) (q : Process) → In order r → In (come r) q → In (processes (in_parts net t p order)) q
  come_only (read.Leaf k) q there_is m =
      ⊎_elim
      (λ (i : In (map inner_process (read_inners net t p (read.Leaf k))) q). read_only (read.Leaf k) q there_is i)
      (λ (o : In (leaf_shown net t p k) q). shown_only k q there_is o)
      (in_either (map inner_process (read_inners net t p (read.Leaf k))) (leaf_shown net t p k) q m)
  come_only (read.Node k) q there_is m = read_only (read.Node k) q there_is m

  end_only : (q : Process) → In tail q → In (processes (in_parts net t p order)) q
  end_only q m =
      ⊎_elim
      (λ (i : In writes q).
      let x = in_map_from inner_process (write_inners net p) q i in
      subst (In (processes (in_parts net t p order))) x.2
      (inner_assigned x.0 (in_right (order_inners net t p order) (late_inners net p) x.0 (in_right (reset_inners net p) (write_inners net p) x.0 x.1))))
      (λ (o : In (map assigning outs) q).
      let a = in_map_from assigning outs q o in
      subst (In (processes (in_parts net t p order))) a.2 (assigned a.0 (in_right (map inner_assign (inners net t p order)) outs a.0 a.1)))
      (in_either writes (map assigning outs) q m)

  pub only : (q : Process) → In (process_order net t p order is) q → In (processes (in_parts net t p order)) q
  only q m =
      ⊎_elim
      (λ (i : In (flat_map come order) q). let r = in_flat_map_from come order q i in come_only r.0 q r.1 r.2)
      (λ (o : In tail q). end_only q o)
      (in_either (flat_map come order) tail q m)
