-- The marks of the roots, which are ports, registers and pipes, what they read, and what is read by what writes arrays.
use Rattle.std.proofs.Common.{◌≡◌, ℕ, zero, suc, ◌+◌, ◌<◌, List, [], ◌∷◌, ◌++◌, length, get_or, take, Some, Bool, true, false, if◌then◌else◌, refl, ap, sym, ◌∙◌, subst, arith, inl, inr, ⊎_elim, append-nil, append_assoc}
use Rattle.std.specs.Prelude.{slice_get}
use Rattle.std.proofs.lemmas.List.{length-take-le, take_more}
use Rattle.std.proofs.lemmas.Option.{slice_get_within}
use Rattle.fir_base.specs.Lists.{In}
use Rattle.fir_base.proofs.Members.{in_either, in_left, in_right}
use Rattle.fir_net.specs.declared.array.Array.{Array}
use Rattle.fir_net.specs.declared.array.ArrayWrite.{ArrayWrite}
use Rattle.fir_net.specs.declared.leaf.Leaf.{Leaf}
use Rattle.fir_net.specs.declared.net.FlatNet.{FlatNet}
use Rattle.fir_net.specs.declared.reads.Read.{Read}
use Rattle.fir_net.specs.declared.reads.Read.TheVariants as read
use Rattle.fir_net.specs.working.Dependence.{IsOf}
use Rattle.fir_net.specs.working.IsNet.{IsNet}
use Rattle.fir_drop_dead.specs.working.IsLive.{IsNeeded, itself, of_needed, of_write, whole_leaf_reads, whole_reads, whole_role_reads, write_reads}
use Rattle.fir_drop_dead.specs.working.Marks.{Marked, has, marked_all, no_marks}
use Rattle.fir_drop_dead.specs.working.Needed.{AreMarked, arrays_reads, is_root, root_of, root_reads, writes_reads}
use Rattle.fir_drop_dead.proofs.MarkSteps.{IsLong, all_cases, all_long, all_new, all_stay, marked_joined, none_long, none_marked}
use Rattle.fir_drop_dead.proofs.WholeReads.{whole_reads_of, write_reads_of}

-- one more leaf, write or array
roots_push : (k : ℕ) (ls : List Leaf) (l : Leaf) → root_reads k (ls ++ l ∷ []) ≡ root_reads k ls ++ root_of (k + length ls) l
roots_push k [] l = let here : k + 0 ≡ k = omega arith in rw here (append-nil (root_of k l))
roots_push k (m ∷ ls) l =
    let here : (k + 1) + length ls ≡ k + suc (length ls) = omega arith in
    ap (λ (rs : List Read). root_of k m ++ rs) (roots_push (k + 1) ls l ∙ ap (λ (i : ℕ). root_reads (k + 1) ls ++ root_of i l) here)
    ∙ sym (append_assoc (root_of k m) (root_reads (k + 1) ls) (root_of (k + suc (length ls)) l))

pub roots_more : (ls : List Leaf) (i : ℕ) (l : Leaf) (m : Marked) → i < length ls → l ≡ get_or ls i l
    → marked_all (root_reads 0 (take (i + 1) ls)) m ≡ marked_all (root_of i l) (marked_all (root_reads 0 (take i ls)) m)
roots_more ls i l m within is =
    let long : 0 + length (take i ls) ≡ i = omega (arith, length-take-le i ls (omega arith)) in
    ap (λ (xs : List Leaf). marked_all (root_reads 0 xs) m) (take_more ls i l within ∙ ap (λ x. take i ls ++ x ∷ []) (sym is))
    ∙ ap (λ (rs : List Read). marked_all rs m) (roots_push 0 (take i ls) l ∙ ap (λ (k : ℕ). root_reads 0 (take i ls) ++ root_of k l) long)
    ∙ marked_joined (root_reads 0 (take i ls)) (root_of i l) m

pub root_there : (k : ℕ) (l : Leaf) → is_root l.role ≡ true → root_of k l ≡ read.Leaf k ∷ whole_role_reads l.role
root_there k l h = ap (λ (b : Bool). if b then read.Leaf k ∷ whole_role_reads l.role else []) h

pub root_none : (k : ℕ) (l : Leaf) → is_root l.role ≡ false → root_of k l ≡ []
root_none k l h = ap (λ (b : Bool). if b then read.Leaf k ∷ whole_role_reads l.role else []) h

writes_push : (ws : List ArrayWrite) (w : ArrayWrite) → writes_reads (ws ++ w ∷ []) ≡ writes_reads ws ++ write_reads w
writes_push [] w = append-nil (write_reads w)
writes_push (v ∷ ws) w = ap (λ (rs : List Read). write_reads v ++ rs) (writes_push ws w) ∙ sym (append_assoc (write_reads v) (writes_reads ws) (write_reads w))

pub writes_more : (ws : List ArrayWrite) (i : ℕ) (w : ArrayWrite) (m : Marked) → i < length ws → w ≡ get_or ws i w
    → marked_all (writes_reads (take (i + 1) ws)) m ≡ marked_all (write_reads w) (marked_all (writes_reads (take i ws)) m)
writes_more ws i w m within is =
    ap (λ (xs : List ArrayWrite). marked_all (writes_reads xs) m) (take_more ws i w within ∙ ap (λ x. take i ws ++ x ∷ []) (sym is))
    ∙ ap (λ (rs : List Read). marked_all rs m) (writes_push (take i ws) w) ∙ marked_joined (writes_reads (take i ws)) (write_reads w) m

arrays_push : (bs : List Array) (a : Array) → arrays_reads (bs ++ a ∷ []) ≡ arrays_reads bs ++ writes_reads a.writes
arrays_push [] a = append-nil (writes_reads a.writes)
arrays_push (b ∷ bs) a =
    ap (λ (rs : List Read). writes_reads b.writes ++ rs) (arrays_push bs a) ∙ sym (append_assoc (writes_reads b.writes) (arrays_reads bs) (writes_reads a.writes))

pub arrays_more : (bs : List Array) (i : ℕ) (a : Array) (m : Marked) → i < length bs → a ≡ get_or bs i a
    → marked_all (arrays_reads (take (i + 1) bs)) m ≡ marked_all (writes_reads a.writes) (marked_all (arrays_reads (take i bs)) m)
arrays_more bs i a m within is =
    ap (λ (xs : List Array). marked_all (arrays_reads xs) m) (take_more bs i a within ∙ ap (λ x. take i bs ++ x ∷ []) (sym is))
    ∙ ap (λ (rs : List Read). marked_all rs m) (arrays_push (take i bs) a) ∙ marked_joined (arrays_reads (take i bs)) (writes_reads a.writes) m

-- the members of these lists
pub record IsRootRead (from : ℕ) (ls : List Leaf) (v : Read) : Type 0 where
  pub place : ℕ
  pub leaf : Leaf
  pub at : slice_get ls place ≡ Some leaf
  pub root : is_root leaf.role ≡ true
  pub is : In (read.Leaf (from + place) ∷ whole_role_reads leaf.role) v

root_cases : (k : ℕ) (l : Leaf) (v : Read) → In (root_of k l) v → (is_root l.role ≡ true) × In (read.Leaf k ∷ whole_role_reads l.role) v
root_cases k l v = by (is_root l.role) refl
  where
    by : (b : Bool) → is_root l.role ≡ b → In (if b then read.Leaf k ∷ whole_role_reads l.role else []) v → (is_root l.role ≡ true) × In (read.Leaf k ∷ whole_role_reads l.role) v
    by true e n = (e, n)
    by false e n = absurd n

roots_from : (k : ℕ) (ls : List Leaf) (v : Read) → In (root_reads k ls) v → IsRootRead k ls v
roots_from k [] v n = absurd n
roots_from k (l ∷ ls) v n =
    ⊎_elim
    (λ (here : In (root_of k l) v).
    let r = root_cases k l v here in
    let same : k + 0 ≡ k = omega arith in
    record {
      place = 0;
      leaf = l;
      at = refl;
      root = r.0;
      is = subst (λ (i : ℕ). In (read.Leaf i ∷ whole_role_reads l.role) v) (sym same) r.1;
    })
    (λ (behind : In (root_reads (k + 1) ls) v).
    let r = roots_from (k + 1) ls v behind in
    let same : (k + 1) + r.place ≡ k + suc r.place = omega arith in
    record {
      place = suc r.place;
      leaf = r.leaf;
      at = r.at;
      root = r.root;
      is = subst (λ (i : ℕ). In (read.Leaf i ∷ whole_role_reads r.leaf.role) v) same r.is;
    })
    (in_either (root_of k l) (root_reads (k + 1) ls) v n)

roots_among : (k : ℕ) (ls : List Leaf) (j : ℕ) (l : Leaf) (v : Read) → slice_get ls j ≡ Some l → is_root l.role ≡ true → In (read.Leaf (k + j) ∷ whole_role_reads l.role) v
    → In (root_reads k ls) v
roots_among k [] j l v at root n = cc
roots_among k (x ∷ ls) zero l v at root n =
    let same : x ≡ l = cc in
    let here : k + 0 ≡ k = omega arith in
    let is : root_of k l ≡ read.Leaf k ∷ whole_role_reads l.role = root_there k l root in
    in_left (root_of k x) (root_reads (k + 1) ls) v
    (subst (λ (y : Leaf). In (root_of k y) v) (sym same)
    (subst (λ (rs : List Read). In rs v) (sym is) (subst (λ (i : ℕ). In (read.Leaf i ∷ whole_role_reads l.role) v) here n)))
roots_among k (x ∷ ls) (suc j) l v at root n =
    let here : k + suc j ≡ (k + 1) + j = omega arith in
    in_right (root_of k x) (root_reads (k + 1) ls) v
    (roots_among (k + 1) ls j l v at root (subst (λ (i : ℕ). In (read.Leaf i ∷ whole_role_reads l.role) v) here n))

writes_from : (ws : List ArrayWrite) (v : Read) → In (writes_reads ws) v → (w : ArrayWrite) × In ws w × In (write_reads w) v
writes_from [] v n = absurd n
writes_from (w ∷ ws) v n =
    ⊎_elim
    (λ (here : In (write_reads w) v). (w, inl refl, here))
    (λ (behind : In (writes_reads ws) v). let r = writes_from ws v behind in (r.0, inr r.1, r.2))
    (in_either (write_reads w) (writes_reads ws) v n)

writes_among : (ws : List ArrayWrite) (w : ArrayWrite) (v : Read) → In ws w → In (write_reads w) v → In (writes_reads ws) v
writes_among [] w v at n = absurd at
writes_among (x ∷ ws) w v (inl e) n = in_left (write_reads x) (writes_reads ws) v (subst (λ (y : ArrayWrite). In (write_reads y) v) (sym e) n)
writes_among (x ∷ ws) w v (inr at) n = in_right (write_reads x) (writes_reads ws) v (writes_among ws w v at n)

arrays_from : (bs : List Array) (v : Read) → In (arrays_reads bs) v → (a : Array) × In bs a × In (writes_reads a.writes) v
arrays_from [] v n = absurd n
arrays_from (a ∷ bs) v n =
    ⊎_elim
    (λ (here : In (writes_reads a.writes) v). (a, inl refl, here))
    (λ (behind : In (arrays_reads bs) v). let r = arrays_from bs v behind in (r.0, inr r.1, r.2))
    (in_either (writes_reads a.writes) (arrays_reads bs) v n)

arrays_among : (bs : List Array) (a : Array) (v : Read) → In bs a → In (writes_reads a.writes) v → In (arrays_reads bs) v
arrays_among [] a v at n = absurd at
arrays_among (x ∷ bs) a v (inl e) n = in_left (writes_reads x.writes) (arrays_reads bs) v (subst (λ (y : Array). In (writes_reads y.writes) v) (sym e) n)
arrays_among (x ∷ bs) a v (inr at) n = in_right (writes_reads x.writes) (arrays_reads bs) v (arrays_among bs a v at n)

-- marks of what is needed, among them those of all roots
pub record HasRoots (net : FlatNet) (m : Marked) : Type 0 where
  pub long : IsLong net m
  pub needed : (v : Read) → has m v ≡ true → IsNeeded net v
  pub roots : (k : ℕ) (l : Leaf) → slice_get net.leaves k ≡ Some l → is_root l.role ≡ true → has m (read.Leaf k) ≡ true
  pub root_reads : (k : ℕ) (l : Leaf) → slice_get net.leaves k ≡ Some l → is_root l.role ≡ true → AreMarked m (whole_role_reads l.role)
  pub writes : (a : Array) (w : ArrayWrite) → In net.arrays a → In a.writes w → AreMarked m (write_reads w)

module _ (net : FlatNet) (whole : IsNet net) where
  abbrev none : Marked
  none = no_marks (length net.leaves) (length net.nodes)

  abbrev first : Marked
  first = marked_all (root_reads 0 net.leaves) none

  abbrev both : Marked
  both = marked_all (arrays_reads net.arrays) first

  pub leaf_reads_are : (k : ℕ) (l : Leaf) (v : Read) → slice_get net.leaves k ≡ Some l → In (whole_role_reads l.role) v → In (whole_reads net (read.Leaf k)) v
  leaf_reads_are k l v at n = subst (λ (rs : List Read). In rs v) (sym (ap whole_leaf_reads at)) n

  root_needed : (v : Read) → In (root_reads 0 net.leaves) v → IsNeeded net v
  root_needed v n =
      let r = roots_from 0 net.leaves v n in
      let here : 0 + r.place ≡ r.place = omega arith in
      let own : IsNeeded net (read.Leaf r.place) = itself r.place r.leaf r.at r.root in
      ⊎_elim
      (λ (e : read.Leaf (0 + r.place) ≡ v). subst (IsNeeded net) (ap read.Leaf (sym here) ∙ e) own)
      (λ (among : In (whole_role_reads r.leaf.role) v). of_needed (read.Leaf r.place) v own (leaf_reads_are r.place r.leaf v r.at among))
      r.is

  root_of_net : (v : Read) → In (root_reads 0 net.leaves) v → IsOf net v
  root_of_net v n =
      let r = roots_from 0 net.leaves v n in
      let within = slice_get_within net.leaves r.place r.leaf r.at in
      ⊎_elim
      (λ (e : read.Leaf (0 + r.place) ≡ v). let of : IsOf net (read.Leaf (0 + r.place)) = omega arith in subst (IsOf net) e of)
      (λ (among : In (whole_role_reads r.leaf.role) v). whole_reads_of net whole (read.Leaf r.place) v (leaf_reads_are r.place r.leaf v r.at among))
      r.is

  write_needed : (v : Read) → In (arrays_reads net.arrays) v → IsNeeded net v
  write_needed v n =
      let a = arrays_from net.arrays v n in
      let w = writes_from a.0.writes v a.2 in
      of_write a.0 w.0 v a.1 w.1 w.2

  write_of_net : (v : Read) → In (arrays_reads net.arrays) v → IsOf net v
  write_of_net v n =
      let a = arrays_from net.arrays v n in
      let w = writes_from a.0.writes v a.2 in
      write_reads_of net whole a.0 w.0 v a.1 w.1 w.2

  first_long : IsLong net first
  first_long = all_long net (root_reads 0 net.leaves) none (none_long net)

  root_marked : (v : Read) → In (root_reads 0 net.leaves) v → has both v ≡ true
  root_marked v n = all_stay (arrays_reads net.arrays) v first (all_new net (root_reads 0 net.leaves) none (none_long net) root_of_net v n)

  among : (k : ℕ) (l : Leaf) (v : Read) → slice_get net.leaves k ≡ Some l → is_root l.role ≡ true → In (read.Leaf k ∷ whole_role_reads l.role) v → has both v ≡ true
  among k l v at root n =
      let here : 0 + k ≡ k = omega arith in
      root_marked v (roots_among 0 net.leaves k l v at root (subst (λ (i : ℕ). In (read.Leaf i ∷ whole_role_reads l.role) v) (sym here) n))

  both_needed : (v : Read) → has both v ≡ true → IsNeeded net v
  both_needed v h =
      ⊎_elim
      (λ (o : has first v ≡ true).
      ⊎_elim
      (λ (p : has none v ≡ true). absurd (none_marked (length net.leaves) (length net.nodes) v p))
      (λ (n : In (root_reads 0 net.leaves) v). root_needed v n)
      (all_cases (root_reads 0 net.leaves) v none o))
      (λ (n : In (arrays_reads net.arrays) v). write_needed v n)
      (all_cases (arrays_reads net.arrays) v first h)

  pub has_roots : HasRoots net both
  has_roots = record {
    long = all_long net (arrays_reads net.arrays) first first_long;
    needed = both_needed;
    roots = λ k l at root. among k l (read.Leaf k) at root (inl refl);
    root_reads = λ k l at root v n. among k l v at root (inr n);
    writes = λ a w at among v n.
        all_new net (arrays_reads net.arrays) first first_long write_of_net v (arrays_among net.arrays a v at (writes_among a.writes w v among n));
  }
