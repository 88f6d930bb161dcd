-- A leaf is passed: what is read in its place is a literal, what drives it, or itself.
use Rattle.std.proofs.Common.{◌≡◌, ℕ, ◌+◌, ◌<◌, List, [], ◌∷◌, ◌++◌, length, Bool, refl, sym, ap, ◌∙◌, subst, inl, inr, ◌⊎◌, arith, length-set, unwrap_or, option_map}
use Rattle.std.specs.Prelude.{slice_get, slice_set, Option, Some}
use Rattle.std.proofs.lemmas.Option.{slice_get_within}
use Rattle.fir_base.specs.Lists.{In}
use Rattle.fir_base.proofs.Elements.{all_there, number_of as place_of}
use Rattle.fir_base.proofs.Members.{in_either, in_left, in_map_from, in_right}
use Rattle.fir_base.proofs.Writes.{write_same, write_other}
use Rattle.fir_bits.specs.Forms.{no_type}
use Rattle.fir_bits.specs.Values.{IsBitVector}
use Rattle.fir_bits.specs.declared.values.Num.{Num}
use Rattle.fir_net.specs.declared.leaf.Leaf.{Leaf}
use Rattle.fir_net.specs.declared.leaf.Role.{Role}
use Rattle.fir_net.specs.declared.leaf.Role.TheVariants as role
use Rattle.fir_net.specs.declared.net.FlatNet.{FlatNet}
use Rattle.fir_net.specs.declared.node.Node.{Node}
use Rattle.fir_net.specs.declared.node.Node.TheVariants as node
use Rattle.fir_net.specs.declared.reads.Read.{Read}
use Rattle.fir_net.specs.declared.reads.Read.TheVariants as read
use Rattle.fir_net.specs.working.Dependence.{leaf_reads}
use Rattle.fir_net.specs.working.IsNet.{CanDrive, CanRead, IsLeaf, IsNet, IsRole, node_type, read_type}
use Rattle.fir_net.specs.working.IsOrder.{IsOrder}
use Rattle.fir_net.specs.working.Settled.{driver}
use Rattle.fir_net.specs.working.Values.{at_width, leaf_type, number_of, type_of_leaf}
use Rattle.fir_fold_rules.specs.working.Simplifies.{IsLiteralNode}
use Rattle.fir_fold.specs.working.Standing.{Standing, stands_for}
use Rattle.fir_fold.specs.working.Walking.{IsStood, IsWalked, PassesLeaf, Puts, ReadsFor, StandsBefore, StandsForLeaf, Walking, as_driver, as_literal, fitted_literal, itself, leaf, literal, of_driver, read_by, reads_in}
use Rattle.fir_fold.proofs.Entries.{placed_more}
use Rattle.fir_fold.proofs.Growing.{walked_put}
use Rattle.fir_fold.proofs.Passing.{Sets, fresh, placed_before, same_before, walked_passed}
use Rattle.fir_fold.proofs.Stood.{node_stays, reads_driver}

pub driver_drives : (net : FlatNet) (signed : Bool) (width : ℕ) (r : Role) (d : Read) → driver r ≡ Some d → IsRole net.leaves net.nodes signed width r → CanDrive net.leaves net.nodes signed d
driver_drives net signed width role.Input d e h = cc
driver_drives net signed width role.Clock d e h = cc
driver_drives net signed width (role.Output r) d e h = let same : r ≡ d = cc in subst (CanDrive net.leaves net.nodes signed) same h
driver_drives net signed width (role.Wire r) d e h = let same : r ≡ d = cc in subst (CanDrive net.leaves net.nodes signed) same h
driver_drives net signed width (role.Register r) d e h = cc
driver_drives net signed width (role.Reading r) d e h = cc
driver_drives net signed width (role.Pipe p) d e h = cc
driver_drives net signed width (role.ClockOutput c) d e h = cc
driver_drives net signed width (role.ClockWire c) d e h = cc

pub leaf_typed : (net : FlatNet) (k : ℕ) (l : Leaf) → slice_get net.leaves k ≡ Some l → leaf_type net.leaves k ≡ type_of_leaf l
leaf_typed net k l at = ap (λ (o : Option Leaf). unwrap_or (option_map type_of_leaf o) no_type) at

pub drives_leaf : (net : FlatNet) → IsNet net → (k : ℕ) (l : Leaf) (d : Read) → slice_get net.leaves k ≡ Some l → driver l.role ≡ Some d → CanDrive net.leaves net.nodes l.signed d
drives_leaf net whole k l d is drives = driver_drives net l.signed l.width l.role d drives (all_there (IsLeaf net.leaves net.nodes) net.leaves whole.leaves k l is).driven

module _ (net : FlatNet) (order : List Read) (ordered : IsOrder net order) (n : ℕ) (w : Walking) (h : IsWalked net order n w) (whole : IsNet net)
    (k : ℕ) (l : Leaf) (at : slice_get order n ≡ Some (read.Leaf k)) (is : slice_get net.leaves k ≡ Some l) where
  -- with a read set for it, behind the other entries
  abbrev passes : Walking → Read → Walking
  passes mid r = record { stands = record { leaves = slice_set mid.stands.leaves k r; nodes = mid.stands.nodes }; nodes = mid.nodes; entries = mid.entries ++ read.Leaf k ∷ [] }

  driver_done : (d : Read) → driver l.role ≡ Some d → StandsBefore order n d
  driver_done d drives = let a = ordered.after n (read.Leaf k) d at (reads_driver net k l d is drives) in record { place = a.0; before = a.1; is = a.2 }

  module _ (mid : Walking) (hm : IsWalked net order n mid) (r : Read) where
    abbrev stands_after : Standing
    stands_after = record { leaves = slice_set mid.stands.leaves k r; nodes = mid.stands.nodes }

    abbrev entries_after : List Read
    entries_after = mid.entries ++ read.Leaf k ∷ []

    abbrev after : Walking
    after = passes mid r

    others : (x : Read) → (read.Leaf k ≡ x → ⊥) → read_by after x ≡ read_by mid x
    others (read.Node j) differs = refl
    others (read.Leaf j) differs = ap (λ (o : Option Read). unwrap_or o (read.Leaf j)) (write_other mid.stands.leaves k r j (λ e. differs (ap read.Leaf (sym e))))

    low : k < length mid.stands.leaves
    low = let a = slice_get_within net.leaves k l is in omega (arith, a, hm.leaves_long)

    here : read_by after (read.Leaf k) ≡ r
    here = ap (λ (o : Option Read). unwrap_or o (read.Leaf k)) (write_same mid.stands.leaves k r low)

    sets : Sets net order ordered n mid hm (read.Leaf k) at stands_after entries_after
    sets = record { leaves_long = length-set mid.stands.leaves k r ∙ hm.leaves_long; nodes_long = hm.nodes_long; others = others; more = λ x i. in_left mid.entries (read.Leaf k ∷ []) x i }

    before_same : (x : Read) → StandsBefore order n x → read_by after x ≡ read_by mid x
    before_same x d = same_before net order ordered n mid hm (read.Leaf k) at stands_after entries_after sets x d

    new_entry : In mid.entries (read.Leaf k) → ⊥
    new_entry i = fresh net order ordered n mid hm (read.Leaf k) at stands_after entries_after (read.Leaf k) (hm.only_leaves k i) refl

    read_here : (x : Read) → In (reads_in net.leaves after (read.Leaf k)) x → In mid.entries x
    read_here x i =
        let y = in_map_from (read_by after) (leaf_reads (slice_get net.leaves k)) x i in
        let p = place_of (leaf_reads (slice_get net.leaves k)) y.0 y.1 in
        let a = ordered.after n (read.Leaf k) y.0 at (record { place = p.0; is = p.1 }) in
        let d : StandsBefore order n y.0 = record { place = a.0; before = a.1; is = a.2 } in
        subst (In mid.entries) (sym (before_same y.0 d) ∙ y.2) (hm.stood y.0 d).placed

    only_nodes : (j : ℕ) → In (mid.entries ++ read.Leaf k ∷ []) (read.Node j) → In mid.entries (read.Node j)
    only_nodes j i = by (in_either mid.entries (read.Leaf k ∷ []) (read.Node j) i)
      where
        by : In mid.entries (read.Node j) ⊎ In (read.Leaf k ∷ []) (read.Node j) → In mid.entries (read.Node j)
        by (inl old) = old
        by (inr (inl e)) = cc
        by (inr (inr x)) = absurd x

    only_leaves : (j : ℕ) → In (mid.entries ++ read.Leaf k ∷ []) (read.Leaf j) → In mid.entries (read.Leaf j) ⊎ (read.Leaf k ≡ read.Leaf j)
    only_leaves j i = by (in_either mid.entries (read.Leaf k ∷ []) (read.Leaf j) i)
      where
        by : In mid.entries (read.Leaf j) ⊎ In (read.Leaf k ∷ []) (read.Leaf j) → In mid.entries (read.Leaf j) ⊎ (read.Leaf k ≡ read.Leaf j)
        by (inl old) = inl old
        by (inr (inl e)) = inr e
        by (inr (inr x)) = absurd x

    module _ (can : CanRead net.leaves net.nodes (read.Leaf k) → CanRead net.leaves mid.nodes r) (typed : read_type net.leaves mid.nodes r ≡ type_of_leaf l)
        (placed : In (mid.entries ++ read.Leaf k ∷ []) r) (settled : (j : ℕ) → r ≡ read.Leaf j → read_by after (read.Leaf j) ≡ read.Leaf j) (stands : StandsForLeaf net.leaves k l after) where
      stood : IsStood net after (read.Leaf k)
      stood = record {
        can = λ c. subst (CanRead net.leaves mid.nodes) (sym here) (can c);
        has_type = λ c. ap (read_type net.leaves mid.nodes) here ∙ typed ∙ sym (leaf_typed net k l is);
        placed = subst (In entries_after) (sym here) placed;
        settled = λ j e. settled j (sym here ∙ e);
        stands = (l, is, stands);
      }

      finish : IsWalked net order (n + 1) after
      finish =
          walked_passed net order ordered n mid hm (read.Leaf k) at stands_after entries_after sets stood
          (placed_more (reads_in net.leaves after) mid.entries (read.Leaf k) (placed_before net order ordered n mid hm (read.Leaf k) at stands_after entries_after sets) new_entry read_here)
          only_nodes only_leaves (λ j e. in_right mid.entries (read.Leaf k ∷ []) (read.Leaf j) (inl e))

  put_literal : (mid : Walking) (r d : Read) (v : Num) (j : ℕ) → driver l.role ≡ Some d → read_by w d ≡ read.Node j → slice_get w.nodes j ≡ Some (node.Literal v)
      → IsBitVector (number_of (type_of_leaf l) (at_width v l.width)).value → Puts w mid (fitted_literal l v) r
      → IsWalked net order (n + 1) (passes mid r)
  put_literal mid r d v j drives reads there vector p =
      let grown = walked_put net order ordered n w h (fitted_literal l v) vector tt (λ y i. absurd i) (λ y i. absurd i) r mid p in
      let low : p.number < length mid.nodes = slice_get_within mid.nodes p.number (fitted_literal l v) p.at in
      let same : read_by (after mid grown.0 r) d ≡ read_by w d = before_same mid grown.0 r d (driver_done d drives) ∙ ap (λ (s : Standing). stands_for s d) p.stands in
      finish mid grown.0 r (λ c. subst (CanRead net.leaves mid.nodes) (sym p.is) low)
      (ap (read_type net.leaves mid.nodes) p.is ∙ ap (λ (o : Option Node). unwrap_or (option_map node_type o) no_type) p.at)
      (in_left mid.entries (read.Leaf k ∷ []) r (subst (In mid.entries) (sym p.is) (grown.0.nodes_placed p.number low)))
      (λ i e. let clash : read.Node p.number ≡ read.Leaf i = sym p.is ∙ e in cc)
      (literal d v j p.number drives (same ∙ reads) (node_stays net w mid grown.1 j (node.Literal v) there) (here mid grown.0 r ∙ p.is) p.at)

  read_driver : (d : Read) → driver l.role ≡ Some d → read_type net.leaves w.nodes (read_by w d) ≡ type_of_leaf l → IsWalked net order (n + 1) (passes w (read_by w d))
  read_driver d drives typed =
      let r = read_by w d in
      let done = driver_done d drives in
      let s = h.stood d done in
      let same : read_by (after w h r) d ≡ r = before_same w h r d done in
      finish w h r (λ c. s.can (drives_leaf net whole k l d is drives).can) typed (in_left w.entries (read.Leaf k ∷ []) r s.placed)
      (λ j e. before_same w h r (read.Leaf j) (h.only_leaves j (subst (In w.entries) e s.placed)) ∙ s.settled j e)
      (of_driver d drives (here w h r ∙ sym same) (ap (read_type net.leaves w.nodes) same ∙ typed))

  read_itself : ((d : Read) → driver l.role ≡ Some d → IsLiteralNode w.nodes (read_by w d) → ⊥) → IsWalked net order (n + 1) (passes w (read.Leaf k))
  read_itself none =
      let r = read.Leaf k in
      finish w h r (λ c. c) (leaf_typed net k l is) (in_right w.entries (r ∷ []) r (inl refl))
      (λ j e. subst (λ (x : Read). read_by (after w h r) x ≡ x) e (here w h r))
      (leaf (λ d drives lit. none d drives (subst (IsLiteralNode w.nodes) (before_same w h r d (driver_done d drives)) lit)) (here w h r))

  by_reading : (mid : Walking) (r : Read) → ReadsFor net.leaves k l w mid r → IsWalked net order (n + 1) (passes mid r)
  by_reading mid r (as_literal d v j drives reads there vector puts) = put_literal mid r d v j drives reads there vector puts
  by_reading mid r (as_driver d drives e typed same) =
      subst (λ (u : Walking). IsWalked net order (n + 1) (passes u r)) (sym same) (subst (λ (x : Read). IsWalked net order (n + 1) (passes w x)) (sym e) (read_driver d drives typed))
  by_reading mid r (itself none e same) =
      subst (λ (u : Walking). IsWalked net order (n + 1) (passes u r)) (sym same) (subst (λ (x : Read). IsWalked net order (n + 1) (passes w x)) (sym e) (read_itself none))

  pub leaf_step : (new : Walking) → PassesLeaf net.leaves k l w new → IsWalked net order (n + 1) new
  leaf_step new p = subst (IsWalked net order (n + 1)) (sym p.is) (by_reading p.put p.by p.reads)
