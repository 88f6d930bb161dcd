-- Each process stands once in the order: its target is the name of an inner net, of a register or of an output, and comes at one place.
use Rattle.std.proofs.Common.{◌≡◌, ℕ, List, [], ◌∷◌, ◌++◌, map, flat_map, true, refl, sym, ap, ◌∙◌, inl, inr, ◌⊎◌, ⊎_elim, subst, Option, Some, None}
use Rattle.std.specs.Prelude.{slice_get}
use Rattle.std.proofs.lemmas.List.{map-append}
use Rattle.std.proofs.lemmas.Simd.{map-map}
use Rattle.fir_base.specs.Lists.{In, Distinct}
use Rattle.fir_base.proofs.Elements.{there, get_in, number_of}
use Rattle.fir_base.proofs.Members.{in_left, in_right, in_either, in_flat_map, in_flat_map_from}
use Rattle.fir_base.proofs.Twins.{apart, distinct_left, distinct_right, distinct_joined}
use Rattle.fir_net.specs.declared.reads.Read.{Read}
use Rattle.fir_net.specs.declared.reads.Read.TheVariants as read
use Rattle.fir_net.specs.declared.leaf.Reset.{Reset}
use Rattle.fir_net.specs.declared.leaf.Role.{Role}
use Rattle.fir_net.specs.declared.leaf.Role.TheVariants as role
use Rattle.fir_net.specs.declared.net.FlatNet.{FlatNet}
use Rattle.fir_net.specs.working.Counted.{is_register}
use Rattle.fir_net_names.specs.declared.name_table.NameTable.{NameTable}
use Rattle.fir_net_names.specs.working.LeafNamed.{somes, name_at}
use Rattle.ver_ast.specs.Processes.{Process, assigning, showing, process_targets, target}
use Rattle.ver_ast.specs.Valid.{IsOrder}
use Rattle.ver_build.specs.declared.places.Places.{Places}
use Rattle.ver_build.specs.declared.right_sides.Inner.{Inner}
use Rattle.ver_build.specs.working.Blocks.{own_net}
use Rattle.ver_build.specs.working.Built.{inners, late_inners, order_inners, read_inners, reset_inners}
use Rattle.ver_build.proofs.Lists.{flat_mapped}
use Rattle.ver_build.proofs.Premises.{Premises}
use Rattle.ver_build.proofs.OrderedLeaves.{ordered_all, ordered_names, ordered_leaves, ordered_once, ordered_picked}
use Rattle.ver_build.proofs.Parts.{in_parts, output_assigns}
use Rattle.ver_build.proofs.LeafKinds.{is_output, picked}
use Rattle.ver_build.proofs.Picked.{picked_once, picked_apart}
use Rattle.ver_build.proofs.NamePlaces.{same_place}
use Rattle.ver_build.proofs.Nets.{inner_name}
use Rattle.ver_build.proofs.Driven.{output_targets_are}
use Rattle.ver_build.proofs.Words.{IsWord}
use Rattle.ver_build.proofs.Sizes.{names_once, no_inner}
use Rattle.ver_build.proofs.DistinctParts.{AreApart, parts_distinct, part_distinct, parts_apart}
use Rattle.ver_build.proofs.Placed.{inner_process}
use Rattle.ver_build.proofs.ShownWords.{HasShown, leaf_shown, word_resetting, given_is, shown_view}
use Rattle.ver_build.proofs.ProcessOrder.{ends, process_order, processes_ordered}
use Rattle.ver_build.proofs.AllProcesses.{come, word_net, word_net_is, each, only}
use Rattle.ver_build.specs.working.ArrayBlocks.{write_inners}

register_no_output : (r : Role) → is_register r ≡ true → is_output r ≡ true → ⊥
register_no_output (role.Register r) a b = cc
register_no_output _ a b = cc

module _ (net : FlatNet) (t : NameTable) (p : Places) (order : List Read) (is : Premises net t p order) where
  -- the names that come at a read
  abbrev come_names : Read → List (List ℕ)
  come_names r = map target (come net t p order is r)

  abbrev read_names : Read → List (List ℕ)
  read_names r = map inner_name (read_inners net t p r)

  abbrev net_names : ℕ → List (List ℕ)
  net_names k = map inner_name (word_net net t p order is k)

  own_names : (xs : List Inner) → map target (map inner_process xs) ≡ map inner_name xs
  own_names xs = map-map target inner_process xs

  -- those of all nets of the order, of resets and of writes
  abbrev firsts : List (List ℕ)
  firsts = map inner_name (order_inners net t p order)

  abbrev seconds : List (List ℕ)
  seconds = map inner_name (reset_inners net p)

  abbrev thirds : List (List ℕ)
  thirds = map inner_name (write_inners net p)

  firsts_are : map inner_name (order_inners net t p order) ≡ flat_map read_names order
  firsts_are = flat_mapped inner_name (read_inners net t p) read_names (λ r. refl) order

  resets_are : map inner_name (reset_inners net p) ≡ flat_map net_names net.state
  resets_are = flat_mapped inner_name (word_net net t p order is) net_names (λ k. refl) net.state

  all_are : map inner_name (inners net t p order) ≡ firsts ++ (seconds ++ thirds)
  all_are =
      map-append inner_name (order_inners net t p order) (late_inners net p)
      ∙ ap (λ (ns : List (List ℕ)). firsts ++ ns) (map-append inner_name (reset_inners net p) (write_inners net p))

  all_once : Distinct (firsts ++ (seconds ++ thirds))
  all_once = subst Distinct all_are (distinct_right (ordered_all net t) (map inner_name (inners net t p order)) (names_once net t p order is))

  late_once : Distinct (seconds ++ thirds)
  late_once = distinct_right firsts (seconds ++ thirds) all_once

  reads_once : Distinct (flat_map read_names order)
  reads_once = subst Distinct firsts_are (distinct_left firsts (seconds ++ thirds) all_once)

  resets_once : Distinct (flat_map net_names net.state)
  resets_once = subst Distinct resets_are (distinct_left seconds thirds late_once)

  writes_once : Distinct thirds
  writes_once = distinct_right seconds thirds late_once

  -- a name of an inner net
  in_firsts : (r : Read) (x : List ℕ) → In order r → In (read_names r) x → In firsts x
  in_firsts r x there_is m = subst (λ (ns : List (List ℕ)). In ns x) (sym firsts_are) (in_flat_map read_names order r x there_is m)

  in_seconds : (k : ℕ) (x : List ℕ) → In net.state k → In (net_names k) x → In seconds x
  in_seconds k x m n = subst (λ (ns : List (List ℕ)). In ns x) (sym resets_are) (in_flat_map net_names net.state k x m n)

  among_inners : (x : List ℕ) → In (firsts ++ (seconds ++ thirds)) x → In (map inner_name (inners net t p order)) x
  among_inners x m = subst (λ (ns : List (List ℕ)). In ns x) (sym all_are) m

  first_among : (x : List ℕ) → In firsts x → In (map inner_name (inners net t p order)) x
  first_among x m = among_inners x (in_left firsts (seconds ++ thirds) x m)

  second_among : (x : List ℕ) → In seconds x → In (map inner_name (inners net t p order)) x
  second_among x m = among_inners x (in_right firsts (seconds ++ thirds) x (in_left seconds thirds x m))

  third_among : (x : List ℕ) → In thirds x → In (map inner_name (inners net t p order)) x
  third_among x m = among_inners x (in_right firsts (seconds ++ thirds) x (in_right seconds thirds x m))

  -- a name at a word: of the net of its reset, or its own
  record IsWordName (k : ℕ) (x : List ℕ) : Type 0 where
    among : In net.state k
    word : IsWord net t k
    side : In (net_names k) x ⊎ (word.name ≡ x)

  -- a name that comes at a read: of its nets, or at its word
  data ComesAt (r : Read) (x : List ℕ) : Type 0 where
    at_nets : In (read_names r) x → ComesAt r x
    at_word : (k : ℕ) → r ≡ read.Leaf k → IsWordName k x → ComesAt r x

  shown_name : (k : ℕ) (x : List ℕ) → In order (read.Leaf k) → In (map target (leaf_shown net t p k)) x → IsWordName k x
  shown_name k x there_is m =
      let place = number_of order (read.Leaf k) there_is in
      let l = there net.leaves k (is.ordered.only place.0 (read.Leaf k) place.1) in
      ⊎_elim
      (λ (none : leaf_shown net t p k ≡ []). absurd (subst (λ (qs : List Process). In (map target qs) x) none m))
      (λ (h : HasShown net t p k).
      let own = own_net p (Some h.reset) (name_at p.resets k) in
      let block = showing (word_resetting net t p k h.word h.reset) in
      let names : map target (map inner_process own ++ block ∷ []) ≡ map inner_name own ++ h.word.name ∷ [] =
      map-append target (map inner_process own) (block ∷ []) ∙ ap (λ (ns : List (List ℕ)). ns ++ h.word.name ∷ []) (own_names own) in
      let given = subst (λ (qs : List Process). In (map target qs) x) (given_is net t p k h.word h.reset h.has) m in
      record {
        among = h.among;
        word = h.word;
        side =
            ⊎_elim
            (λ (i : In (map inner_name own) x).
            inl (subst (λ (xs : List Inner). In (map inner_name xs) x) (sym (word_net_is net t p order is k h.word h.reset h.has)) i))
            (λ (o : In (h.word.name ∷ []) x). ⊎_elim (λ (e : h.word.name ≡ x). inr e) (λ (y : ⊥). absurd y) o)
            (in_either (map inner_name own) (h.word.name ∷ []) x (subst (λ (ns : List (List ℕ)). In ns x) names given));
      })
      (shown_view net t p is.whole is.table k l.0 l.1)

  leaf_names : (k : ℕ) → come_names (read.Leaf k) ≡ read_names (read.Leaf k) ++ map target (leaf_shown net t p k)
  leaf_names k =
      map-append target (map inner_process (read_inners net t p (read.Leaf k))) (leaf_shown net t p k)
      ∙ ap (λ (ns : List (List ℕ)). ns ++ map target (leaf_shown net t p k)) (own_names (read_inners net t p (read.Leaf k)))

  comes_at : (r : Read) (x : List ℕ) → In order r → In (come_names r) x → ComesAt r x
  comes_at (read.Node k) x there_is m = at_nets (subst (λ (ns : List (List ℕ)). In ns x) (own_names (read_inners net t p (read.Node k))) m)
  comes_at (read.Leaf k) x there_is m =
      ⊎_elim
      (λ (a : In (read_names (read.Leaf k)) x). at_nets a)
      (λ (b : In (map target (leaf_shown net t p k)) x). at_word k refl (shown_name k x there_is b))
      (in_either (read_names (read.Leaf k)) (map target (leaf_shown net t p k)) x (subst (λ (ns : List (List ℕ)). In ns x) (leaf_names k) m))

  word_picked : (k : ℕ) (w : IsWord net t k) → In (picked is_register (ordered_names net t) (ordered_leaves net)) w.name
  word_picked k w = ordered_picked net t is.whole is.table is_register k w.leaf w.name w.at (ap is_register w.register) w.named

  -- a register is no inner net
  no_register : (k : ℕ) (w : IsWord net t k) (x : List ℕ) → w.name ≡ x → In (map inner_name (inners net t p order)) x → ⊥
  no_register k w x e m =
      no_inner net t p order is is_register x (subst (In (picked is_register (ordered_names net t) (ordered_leaves net))) e (word_picked k w)) m

  net_no_word : (r : Read) (m : ℕ) (x : List ℕ) → In order r → In (read_names r) x → IsWordName m x → ⊥
  net_no_word r m x there_is n h =
      ⊎_elim
      (λ (o : In (net_names m) x).
      apart firsts (seconds ++ thirds) all_once x (in_firsts r x there_is n) (in_left seconds thirds x (in_seconds m x h.among o)))
      (λ (e : h.word.name ≡ x). no_register m h.word x e (first_among x (in_firsts r x there_is n)))
      h.side

  same_net : (k m : ℕ) (x : List ℕ) → In net.state k → In net.state m → In (net_names k) x → In (net_names m) x → k ≡ m
  same_net k m x a b u v =
      let i = number_of net.state k a in
      let j = number_of net.state m b in
      let same = (parts_apart net_names net.state resets_once).each i.0 j.0 k m x i.1 j.1 u v in
      let both : Some k ≡ Some m = sym i.1 ∙ ap (slice_get net.state) same ∙ j.1 in
      cc

  same_word : (k m : ℕ) (x : List ℕ) → IsWordName k x → IsWordName m x → k ≡ m
  same_word k m x g h =
      ⊎_elim
      (λ (u : In (net_names k) x).
      ⊎_elim
      (λ (v : In (net_names m) x). same_net k m x g.among h.among u v)
      (λ (e : h.word.name ≡ x). absurd (no_register m h.word x e (second_among x (in_seconds k x g.among u))))
      h.side)
      (λ (d : g.word.name ≡ x).
      ⊎_elim
      (λ (v : In (net_names m) x). absurd (no_register k g.word x d (second_among x (in_seconds m x h.among v))))
      (λ (e : h.word.name ≡ x). same_place t.leaves (distinct_left (somes t.leaves) (somes t.arrays) is.once) k m x (g.word.named ∙ ap Some d) (h.word.named ∙ ap Some e))
      h.side)
      g.side

  places_apart : AreApart come_names order
  places_apart = record {
    each = λ i j r s x at other a b.
        each_apart i j r s x at other (comes_at r x (get_in order i r at) a) (comes_at s x (get_in order j s other) b);
  }
    where
      each_apart : (i j : ℕ) (r s : Read) (x : List ℕ) → slice_get order i ≡ Some r → slice_get order j ≡ Some s → ComesAt r x → ComesAt s x → i ≡ j
      each_apart i j r s x at other (at_nets a) (at_nets b) = (parts_apart read_names order reads_once).each i j r s x at other a b
      each_apart i j r s x at other (at_nets a) (at_word m e h) = absurd (net_no_word r m x (get_in order i r at) a h)
      each_apart i j r s x at other (at_word k d g) (at_nets b) = absurd (net_no_word s k x (get_in order j s other) b g)
      each_apart i j r s x at other (at_word k d g) (at_word m e h) =
          let same = same_word k m x g h in
          is.ordered.once i j r at (other ∙ ap Some (e ∙ ap read.Leaf (sym same) ∙ sym d))

  -- what comes at one place
  word_once : (k : ℕ) → In net.state k → (w : IsWord net t k) → (r : Reset) → w.own.reset ≡ Some r → (n : Option (List ℕ)) → name_at p.resets k ≡ n
      → Distinct (map target (map inner_process (own_net p (Some r) n) ++ showing (word_resetting net t p k w r) ∷ []))
  word_once k m w r has None named = (λ x. x, tt)
  word_once k m w r has (Some own) named = (
    λ x.
        ⊎_elim
        (λ (e : w.name ≡ own).
        no_register k w own e
        (second_among own (in_seconds k own m
        (subst (λ (xs : List Inner). In (map inner_name xs) own) (sym (word_net_is net t p order is k w r has ∙ ap (own_net p (Some r)) named)) (inl refl)))))
        (λ (o : ⊥). o)
        x,
    (λ x. x, tt),
  )

  shown_once : (k : ℕ) → In order (read.Leaf k) → Distinct (map target (leaf_shown net t p k))
  shown_once k m =
      let place = number_of order (read.Leaf k) m in
      let l = there net.leaves k (is.ordered.only place.0 (read.Leaf k) place.1) in
      ⊎_elim
      (λ (none : leaf_shown net t p k ≡ []). subst (λ (qs : List Process). Distinct (map target qs)) (sym none) tt)
      (λ (h : HasShown net t p k).
      subst (λ (qs : List Process). Distinct (map target qs)) (sym (given_is net t p k h.word h.reset h.has))
      (word_once k h.among h.word h.reset h.has (name_at p.resets k) refl))
      (shown_view net t p is.whole is.table k l.0 l.1)

  come_once : (r : Read) → In order r → Distinct (come_names r)
  come_once (read.Node k) m =
      subst Distinct (sym (own_names (read_inners net t p (read.Node k)))) (part_distinct read_names order reads_once (read.Node k) m)
  come_once (read.Leaf k) m =
      subst Distinct (sym (leaf_names k))
      (distinct_joined (read_names (read.Leaf k)) (map target (leaf_shown net t p k)) (part_distinct read_names order reads_once (read.Leaf k) m) (shown_once k m)
      (λ x a b. net_no_word (read.Leaf k) k x m a (shown_name k x m b)))

  outs_are : map target (map assigning (output_assigns net t p order)) ≡ picked is_output (ordered_names net t) (ordered_leaves net)
  outs_are = map-map target assigning (output_assigns net t p order) ∙ output_targets_are net t p order

  -- what comes at a read is none of a write and no output
  no_output : (r : Read) (x : List ℕ) → In order r → ComesAt r x → In (picked is_output (ordered_names net t) (ordered_leaves net)) x → ⊥
  no_output r x m (at_nets n) o = no_inner net t p order is is_output x o (first_among x (in_firsts r x m n))
  no_output r x m (at_word k d h) o =
      ⊎_elim
      (λ (u : In (net_names k) x). no_inner net t p order is is_output x o (second_among x (in_seconds k x h.among u)))
      (λ (e : h.word.name ≡ x).
      picked_apart is_register is_output register_no_output (ordered_names net t) (ordered_leaves net) (ordered_once net t is.whole is.table) x
      (subst (In (picked is_register (ordered_names net t) (ordered_leaves net))) e (word_picked k h.word)) o)
      h.side

  no_write : (r : Read) (x : List ℕ) → In order r → ComesAt r x → In thirds x → ⊥
  no_write r x m (at_nets n) o = apart firsts (seconds ++ thirds) all_once x (in_firsts r x m n) (in_right seconds thirds x o)
  no_write r x m (at_word k d h) o =
      ⊎_elim
      (λ (u : In (net_names k) x). apart seconds thirds late_once x (in_seconds k x h.among u) o)
      (λ (e : h.word.name ≡ x). no_register k h.word x e (third_among x o))
      h.side

  ends_are : map target (ends net t p order is) ≡ thirds ++ picked is_output (ordered_names net t) (ordered_leaves net)
  ends_are =
      map-append target (map inner_process (write_inners net p)) (map assigning (output_assigns net t p order))
      ∙ ap (λ (ns : List (List ℕ)). ns ++ map target (map assigning (output_assigns net t p order))) (own_names (write_inners net p))
      ∙ ap (λ (ns : List (List ℕ)). thirds ++ ns) outs_are

  ends_once : Distinct (thirds ++ picked is_output (ordered_names net t) (ordered_leaves net))
  ends_once =
      distinct_joined thirds (picked is_output (ordered_names net t) (ordered_leaves net)) writes_once
      (picked_once is_output (ordered_names net t) (ordered_leaves net) (ordered_once net t is.whole is.table))
      (λ x m o. no_inner net t p order is is_output x o (third_among x m))

  once : Distinct (process_targets (process_order net t p order is))
  once =
      let outs = picked is_output (ordered_names net t) (ordered_leaves net) in
      subst Distinct
      (sym (map-append target (flat_map (come net t p order is) order) (ends net t p order is)
      ∙ ap (λ (ns : List (List ℕ)). ns ++ map target (ends net t p order is))
      (flat_mapped target (come net t p order is) come_names (λ r. refl) order)
      ∙ ap (λ (ns : List (List ℕ)). flat_map come_names order ++ ns) ends_are))
      (distinct_joined (flat_map come_names order) (thirds ++ outs) (parts_distinct come_names order places_apart come_once) ends_once
      (λ x m o.
      let r = in_flat_map_from come_names order x m in
      let c = comes_at r.0 x r.1 r.2 in
      ⊎_elim
      (λ (w : In thirds x). no_write r.0 x r.1 c w)
      (λ (y : In outs x). no_output r.0 x r.1 c y)
      (in_either thirds outs x o)))

  pub is_order : IsOrder (in_parts net t p order) (process_order net t p order is)
  is_order = record { each = each net t p order is; only = only net t p order is; once = once; after = processes_ordered net t p order is }
