-- The walk along an order, step by step.
-- The place of a leaf or a node is written once, after the places of all that it hangs on, so what has been passed stays as it is.
use Rattle.std.proofs.Common.{◌≡◌, ℕ, zero, suc, ◌+◌, ◌*◌, ◌^◌, ◌<◌, ◌≤◌, List, [], ◌∷◌, ◌++◌, length, get_or, take, flat_map, refl, sym, ap, ◌∙◌, inl, inr, ⊎_elim, ◌⊎◌, subst, arith, Option, Some, unwrap_or, append-nil}
use Rattle.std.specs.Prelude.{slice_get}
use Rattle.std.proofs.Math.ListN.{set}
use Rattle.std.proofs.lemmas.List.{length-set, get_or-set_same, get_or-set_other}
use Rattle.std.proofs.lemmas.Option.{unwrap_or-slice_get, same_Some, slice_get_within as within}
use Rattle.std.proofs.Math.Seq.{take-length}
use Rattle.std.proofs.Math.Nat.{eq-or-lt_of_le}
use Rattle.std.specs.List.{AllByRecursion}
use Rattle.ver_words.specs.Names.{IsName}
use Rattle.fir_base.proofs.Each.{all_joined}
use Rattle.fir_base.proofs.Elements.{there}
use Rattle.fir_net.specs.declared.array.ArrayRead.{ArrayRead}
use Rattle.fir_net.specs.declared.leaf.Role.{Role}
use Rattle.fir_net.specs.declared.leaf.Role.TheVariants as role
use Rattle.fir_net.specs.declared.leaf.Leaf.{Leaf}
use Rattle.fir_net.specs.declared.reads.Read.{Read}
use Rattle.fir_net.specs.declared.reads.Read.TheVariants as read
use Rattle.fir_net.specs.declared.node.Node.{Node}
use Rattle.fir_net.specs.declared.net.FlatNet.{FlatNet}
use Rattle.fir_net_names.specs.declared.name_table.NameTable.{NameTable}
use Rattle.fir_net_names.specs.working.TableNames.{table_names}
use Rattle.fir_net.specs.working.Dependence.{IsOf}
use Rattle.fir_net.specs.working.IsOrder.{IsOrder}
use Rattle.ver_build.specs.declared.places.NodePlace.{NodePlace}
use Rattle.ver_build.specs.working.Places.{nowhere, node_at, source_name, IsNodePlace, IsReadingPlace, node_names, node_names_at, role_names, leaf_names_at, read_names, inner_names, AreInnerTo, AreNodePlaces}
use Rattle.ver_build.specs.working.Walks.{HasRoomFor, IsLeafRead, IsNumbered, IsPlaceNoted, IsReadingNamed, IsReadPassed, IsRoleRead}
use Rattle.ver_build.proofs.Lists.{flat_more}

-- elements of a list after one is written
pub at_set : {A : Type 0} → (xs : List A) (k : ℕ) (x d : A) → k < length xs → unwrap_or (slice_get (set xs k x) k) d ≡ x
at_set xs k x d h = unwrap_or-slice_get (set xs k x) k d ∙ get_or-set_same xs k x d h

pub at_other : {A : Type 0} → (xs : List A) (k j : ℕ) (x d : A) → (j ≡ k → ⊥) → unwrap_or (slice_get (set xs k x) j) d ≡ unwrap_or (slice_get xs j) d
at_other xs k j x d h = unwrap_or-slice_get (set xs k x) j d ∙ get_or-set_other xs k j x d h ∙ sym (unwrap_or-slice_get xs j d)

-- inner names, some behind others
pub joined_to : (taken : List (List ℕ)) (xs ys : List (List ℕ)) (a b c : ℕ) → AreInnerTo taken a xs b → AreInnerTo taken b ys c
    → AreInnerTo taken a (xs ++ ys) c
joined_to taken [] ys a b c h k = subst (λ (n : ℕ). AreInnerTo taken n ys c) (sym h) k
joined_to taken (x ∷ xs) ys a b c h k = (h.0, h.1, h.2, joined_to taken xs ys (h.0 + 1) b c h.3 k)

-- the same parts of the same elements
same_flat : {A B : Type 0} → (f g : A → List B) (xs : List A) (n : ℕ) → ((j : ℕ) (x : A) → j < n → slice_get xs j ≡ Some x → f x ≡ g x)
    → flat_map f (take n xs) ≡ flat_map g (take n xs)
same_flat f g xs zero e = refl
same_flat f g [] (suc n) e = refl
same_flat {A} {B} f g (x ∷ xs) (suc n) e =
    ap (λ (ys : List B). ys ++ flat_map f (take n xs)) (e zero x (omega arith) refl)
    ∙ ap (λ (ys : List B). g x ++ ys) (same_flat f g xs n (λ j y h k. e (suc j) y (omega arith) k))

-- the nodes among the first i of the order have their places, and so has what leaves among these read of arrays, and their nets have names up to that number
pub record NodeWalk (net : FlatNet) (t : NameTable) (order : List Read) (nodes readings : List NodePlace) (i from : ℕ) : Type 0 where
  pub room : length nodes ≡ length net.nodes
  pub reading_room : HasRoomFor net.leaves readings
  pub done : (j k : ℕ) (n : Node) → j < i → slice_get order j ≡ Some (read.Node k) → slice_get net.nodes k ≡ Some n → IsNodePlace n (node_at nodes k)
  pub read_done :
      (j k : ℕ) (l : Leaf) (r : ArrayRead) → j < i → slice_get order j ≡ Some (read.Leaf k) → slice_get net.leaves k ≡ Some l → l.role ≡ role.Reading r
      → IsReadingPlace net l.signed l.width r (node_at readings k)
  pub named : AreInnerTo (table_names t) 0 (inner_names net nodes readings (take i order)) from
  pub spelled : AllByRecursion IsName (inner_names net nodes readings (take i order))

-- a leaf that reads no array has no names
no_names : (l : Leaf) (d : Role) (p : NodePlace) → l.role ≡ d → ((r : ArrayRead) → d ≡ role.Reading r → ⊥) → role_names l.role p ≡ []
no_names l (role.Reading r) p is none = absurd (none r refl)
no_names l role.Input p is none = rw is refl
no_names l role.Clock p is none = rw is refl
no_names l (role.Output r) p is none = rw is refl
no_names l (role.Wire r) p is none = rw is refl
no_names l (role.Register r) p is none = rw is refl
no_names l (role.Pipe q) p is none = rw is refl
no_names l (role.ClockOutput c) p is none = rw is refl
no_names l (role.ClockWire c) p is none = rw is refl

module _ (net : FlatNet) (t : NameTable) (order : List Read) (is : IsOrder net order) where
  -- the number of a leaf or a node that the order has is not past the end
  node_below : (i k : ℕ) → slice_get order i ≡ Some (read.Node k) → k < length net.nodes
  node_below i k at = is.only i (read.Node k) at

  pub leaf_below : (i k : ℕ) → slice_get order i ≡ Some (read.Leaf k) → k < length net.leaves
  leaf_below i k at = is.only i (read.Leaf k) at

  other_node : (i j k m : ℕ) → j < i → slice_get order i ≡ Some (read.Node k) → slice_get order j ≡ Some (read.Node m) → m ≡ k → ⊥
  other_node i j k m less at other same =
      let here : i ≡ j = is.once i j (read.Node k) at (other ∙ ap (λ (x : ℕ). Some (read.Node x)) same) in
      omega arith

  pub other_leaf : (i j k m : ℕ) → j < i → slice_get order i ≡ Some (read.Leaf k) → slice_get order j ≡ Some (read.Leaf m) → m ≡ k → ⊥
  other_leaf i j k m less at other same =
      let here : i ≡ j = is.once i j (read.Leaf k) at (other ∙ ap (λ (x : ℕ). Some (read.Leaf x)) same) in
      omega arith

  pub nodes_begin : (nodes : List NodePlace) → length nodes ≡ length net.nodes → NodeWalk net t order nodes [] 0 0
  nodes_begin nodes long = record {
    room = long;
    reading_room = inl refl;
    done = λ j k n h. absurd (omega arith);
    read_done = λ j k l r h. absurd (omega arith);
    named = refl;
    spelled = tt;
  }

  module _ (nodes readings : List NodePlace) (i from : ℕ) (r : Read) (less : i < length order) (at : slice_get order i ≡ Some r)
      (walk : NodeWalk net t order nodes readings i from) where
    got : r ≡ get_or order i r
    got = sym (sym (unwrap_or-slice_get order i r) ∙ ap (λ o. unwrap_or o r) at)

    -- what is passed now, or was before
    passed : (j : ℕ) (x : Read) → j < i + 1 → slice_get order j ≡ Some x → (r ≡ x) ⊎ (j < i)
    passed j x h there_is =
        ⊎_elim
        (λ (same : j ≡ i). let e : Some r ≡ Some x = sym at ∙ ap (slice_get order) (sym same) ∙ there_is in inl (same_Some r x e))
        (λ (below : j < i). inr below)
        (eq-or-lt_of_le (let le : j ≤ i = omega arith in le))

    module _ (new noted : List NodePlace) (names : List (List ℕ))
        (same : (j : ℕ) (x : Read) → j < i → slice_get order j ≡ Some x → read_names net new noted x ≡ read_names net nodes readings x)
        (here : read_names net new noted r ≡ names) where
      names_more : inner_names net new noted (take (i + 1) order) ≡ inner_names net nodes readings (take i order) ++ names
      names_more =
          flat_more (read_names net new noted) order i r less got
          ∙ ap (λ xs. xs ++ read_names net new noted r) (same_flat (read_names net new noted) (read_names net nodes readings) order i same)
          ∙ ap (λ xs. inner_names net nodes readings (take i order) ++ xs) here

    -- a leaf that reads no array is passed by
    module _ (none : read_names net nodes readings r ≡ []) (no_node : (k : ℕ) → r ≡ read.Node k → ⊥)
        (no_reading : (k : ℕ) (l : Leaf) (a : ArrayRead) → r ≡ read.Leaf k → slice_get net.leaves k ≡ Some l → l.role ≡ role.Reading a → ⊥) where
      by_names : inner_names net nodes readings (take (i + 1) order) ≡ inner_names net nodes readings (take i order)
      by_names = names_more nodes readings [] (λ j x h e. refl) none ∙ append-nil (inner_names net nodes readings (take i order))

      pub nodes_pass : NodeWalk net t order nodes readings (i + 1) from
      nodes_pass = record {
        room = walk.room;
        reading_room = walk.reading_room;
        done = λ j k n h e node.
            ⊎_elim (λ (is_here : r ≡ read.Node k). absurd (no_node k is_here)) (λ (below : j < i). walk.done j k n below e node) (passed j (read.Node k) h e);
        read_done = λ j k l a h e leaf reads.
            ⊎_elim (λ (is_here : r ≡ read.Leaf k). absurd (no_reading k l a is_here leaf reads)) (λ (below : j < i). walk.read_done j k l a below e leaf reads)
            (passed j (read.Leaf k) h e);
        named = rw by_names walk.named;
        spelled = rw by_names walk.spelled;
      }

  -- a node gets its place
  module _ (nodes readings : List NodePlace) (i from to k : ℕ) (n : Node) (p : NodePlace) (less : i < length order) (at : slice_get order i ≡ Some (read.Node k))
      (node : slice_get net.nodes k ≡ Some n) (numbered : IsNumbered t n from p to) (walk : NodeWalk net t order nodes readings i from) where
    long : k < length nodes
    long = let r = walk.room in let b = node_below i k at in omega arith

    same_read : (j : ℕ) (r : Read) → j < i → slice_get order j ≡ Some r → read_names net (set nodes k p) readings r ≡ read_names net nodes readings r
    same_read j (read.Leaf m) below e = refl
    same_read j (read.Node m) below e = ap (node_names_at (slice_get net.nodes m)) (at_other nodes k m p nowhere (other_node i j k m below at e))

    more : inner_names net (set nodes k p) readings (take (i + 1) order) ≡ inner_names net nodes readings (take i order) ++ node_names n p
    more =
        names_more nodes readings i from (read.Node k) less at walk (set nodes k p) readings (node_names n p) same_read
        (ap (λ o. node_names_at o (node_at (set nodes k p) k)) node ∙ ap (node_names n) (at_set nodes k p nowhere long))

    node_done : (j m : ℕ) (x : Node) → j < i + 1 → slice_get order j ≡ Some (read.Node m) → slice_get net.nodes m ≡ Some x
        → IsNodePlace x (node_at (set nodes k p) m)
    node_done j m x below is_at other =
        ⊎_elim
        (λ (e : read.Node k ≡ read.Node m).
        let number : k ≡ m = cc in
        let one : n ≡ x = let o : Some n ≡ Some x = sym node ∙ ap (slice_get net.nodes) number ∙ other in cc in
        subst (λ (y : ℕ). IsNodePlace x (node_at (set nodes k p) y)) number
        (subst (IsNodePlace x) (sym (at_set nodes k p nowhere long)) (subst (λ (y : Node). IsNodePlace y p) one numbered.place)))
        (λ (before : j < i).
        subst (IsNodePlace x) (sym (at_other nodes k m p nowhere (other_node i j k m before at is_at))) (walk.done j m x before is_at other))
        (passed nodes readings i from (read.Node k) less at walk j (read.Node m) below is_at)

    pub nodes_next : NodeWalk net t order (set nodes k p) readings (i + 1) to
    nodes_next = record {
      room = length-set nodes k p ∙ walk.room;
      reading_room = walk.reading_room;
      done = node_done;
      read_done = λ j m l a h e leaf reads.
          ⊎_elim (λ (is_here : read.Node k ≡ read.Leaf m). absurd (cc)) (λ (below : j < i). walk.read_done j m l a below e leaf reads)
          (passed nodes readings i from (read.Node k) less at walk j (read.Leaf m) h e);
      named = rw more (joined_to (table_names t) (inner_names net nodes readings (take i order)) (node_names n p) 0 from to walk.named numbered.named);
      spelled = rw more (all_joined IsName (inner_names net nodes readings (take i order)) (node_names n p) walk.spelled numbered.spelled);
    }

  -- what a leaf reads of an array gets its place
  module _ (nodes readings new : List NodePlace) (i from to k : ℕ) (l : Leaf) (a : ArrayRead) (less : i < length order)
      (at : slice_get order i ≡ Some (read.Leaf k)) (leaf : slice_get net.leaves k ≡ Some l) (reads : l.role ≡ role.Reading a)
      (named : IsReadingNamed net t k l.signed l.width a from readings new to) (walk : NodeWalk net t order nodes readings i from) where
    noted : IsPlaceNoted net.leaves k named.place readings new
    noted = named.noted walk.reading_room (leaf_below i k at)

    abbrev own_names : List (List ℕ)
    own_names = named.place.helpers ++ source_name named.place.held.source

    same_leaf : (j : ℕ) (r : Read) → j < i → slice_get order j ≡ Some r → read_names net nodes new r ≡ read_names net nodes readings r
    same_leaf j (read.Leaf m) below e = ap (leaf_names_at (slice_get net.leaves m)) (noted.others m (other_leaf i j k m below at e))
    same_leaf j (read.Node m) below e = refl

    read_more : inner_names net nodes new (take (i + 1) order) ≡ inner_names net nodes readings (take i order) ++ own_names
    read_more =
        names_more nodes readings i from (read.Leaf k) less at walk nodes new own_names same_leaf
        (ap (λ o. leaf_names_at o (node_at new k)) leaf ∙ ap (λ d. role_names d (node_at new k)) reads
        ∙ ap (λ (q : NodePlace). q.helpers ++ source_name q.held.source) noted.here)

    leaf_done : (j m : ℕ) (x : Leaf) (b : ArrayRead) → j < i + 1 → slice_get order j ≡ Some (read.Leaf m) → slice_get net.leaves m ≡ Some x
        → x.role ≡ role.Reading b → IsReadingPlace net x.signed x.width b (node_at new m)
    leaf_done j m x b below is_at other has =
        ⊎_elim
        (λ (e : read.Leaf k ≡ read.Leaf m).
        let number : k ≡ m = cc in
        let one : l ≡ x = let o : Some l ≡ Some x = sym leaf ∙ ap (slice_get net.leaves) number ∙ other in cc in
        let same : a ≡ b = let o : role.Reading a ≡ role.Reading b = sym reads ∙ ap (λ (y : Leaf). y.role) one ∙ has in cc in
        let mine : IsReadingPlace net l.signed l.width a named.place = record { held = named.own.held; helpers = named.own.counted } in
        subst (λ (y : ℕ). IsReadingPlace net x.signed x.width b (node_at new y)) number
        (subst (IsReadingPlace net x.signed x.width b) (sym noted.here)
        (subst (λ (y : ArrayRead). IsReadingPlace net x.signed x.width y named.place) same
        (subst (λ (y : Leaf). IsReadingPlace net y.signed y.width a named.place) one mine))))
        (λ (before : j < i).
        subst (IsReadingPlace net x.signed x.width b) (sym (noted.others m (other_leaf i j k m before at is_at))) (walk.read_done j m x b before is_at other has))
        (passed nodes readings i from (read.Leaf k) less at walk j (read.Leaf m) below is_at)

    pub reading_next : NodeWalk net t order nodes new (i + 1) to
    reading_next = record {
      room = walk.room;
      reading_room = inr noted.room;
      done = λ j m n h e node.
          ⊎_elim (λ (is_here : read.Leaf k ≡ read.Node m). absurd (cc)) (λ (below : j < i). walk.done j m n below e node)
          (passed nodes readings i from (read.Leaf k) less at walk j (read.Node m) h e);
      read_done = leaf_done;
      named = rw read_more (joined_to (table_names t) (inner_names net nodes readings (take i order)) own_names 0 from to walk.named named.own.named);
      spelled = rw read_more (all_joined IsName (inner_names net nodes readings (take i order)) own_names walk.spelled named.own.spelled);
    }

  -- another leaf
  module _ (nodes readings : List NodePlace) (i from k : ℕ) (l : Leaf) (less : i < length order) (at : slice_get order i ≡ Some (read.Leaf k))
      (leaf : slice_get net.leaves k ≡ Some l) (none : (a : ArrayRead) → l.role ≡ role.Reading a → ⊥) (walk : NodeWalk net t order nodes readings i from) where
    leaf_by : NodeWalk net t order nodes readings (i + 1) from
    leaf_by =
        nodes_pass nodes readings i from (read.Leaf k) less at walk
        (ap (λ o. leaf_names_at o (node_at readings k)) leaf ∙ no_names l l.role (node_at readings k) refl none)
        (λ m e. absurd (cc))
        (λ m x a e other has.
        let number : k ≡ m = cc in
        let one : l ≡ x = let o : Some l ≡ Some x = sym leaf ∙ ap (slice_get net.leaves) number ∙ other in cc in
        none a (ap (λ (y : Leaf). y.role) one ∙ has))

  role_step : (nodes readings new : List NodePlace) (i from to k : ℕ) (l : Leaf) (d : Role) → i < length order → slice_get order i ≡ Some (read.Leaf k)
      → slice_get net.leaves k ≡ Some l → l.role ≡ d → IsRoleRead net t k l.signed l.width d from readings new to
      → NodeWalk net t order nodes readings i from → NodeWalk net t order nodes new (i + 1) to
  role_step nodes readings new i from to k l (role.Reading a) less at leaf same step walk = reading_next nodes readings new i from to k l a less at leaf same step walk
  role_step nodes readings new i from to k l role.Input less at leaf same step walk =
      rw (step.0, step.1) (leaf_by nodes readings i from k l less at leaf (λ a e. let bad : role.Input ≡ role.Reading a = sym same ∙ e in cc) walk)
  role_step nodes readings new i from to k l role.Clock less at leaf same step walk =
      rw (step.0, step.1) (leaf_by nodes readings i from k l less at leaf (λ a e. let bad : role.Clock ≡ role.Reading a = sym same ∙ e in cc) walk)
  role_step nodes readings new i from to k l (role.Output r) less at leaf same step walk =
      rw (step.0, step.1) (leaf_by nodes readings i from k l less at leaf (λ a e. let bad : role.Output r ≡ role.Reading a = sym same ∙ e in cc) walk)
  role_step nodes readings new i from to k l (role.Wire r) less at leaf same step walk =
      rw (step.0, step.1) (leaf_by nodes readings i from k l less at leaf (λ a e. let bad : role.Wire r ≡ role.Reading a = sym same ∙ e in cc) walk)
  role_step nodes readings new i from to k l (role.Register r) less at leaf same step walk =
      rw (step.0, step.1) (leaf_by nodes readings i from k l less at leaf (λ a e. let bad : role.Register r ≡ role.Reading a = sym same ∙ e in cc) walk)
  role_step nodes readings new i from to k l (role.Pipe q) less at leaf same step walk =
      rw (step.0, step.1) (leaf_by nodes readings i from k l less at leaf (λ a e. let bad : role.Pipe q ≡ role.Reading a = sym same ∙ e in cc) walk)
  role_step nodes readings new i from to k l (role.ClockOutput c) less at leaf same step walk =
      rw (step.0, step.1) (leaf_by nodes readings i from k l less at leaf (λ a e. let bad : role.ClockOutput c ≡ role.Reading a = sym same ∙ e in cc) walk)
  role_step nodes readings new i from to k l (role.ClockWire c) less at leaf same step walk =
      rw (step.0, step.1) (leaf_by nodes readings i from k l less at leaf (λ a e. let bad : role.ClockWire c ≡ role.Reading a = sym same ∙ e in cc) walk)

  pub nodes_step : (nodes new readings noted : List NodePlace) (i from to : ℕ) (r : Read) → i < length order → slice_get order i ≡ Some r
      → IsReadPassed net t r from nodes new readings noted to
      → NodeWalk net t order nodes readings i from → NodeWalk net t order new noted (i + 1) to
  nodes_step nodes new readings noted i from to (read.Leaf k) less at passed walk =
      let l = there net.leaves k (leaf_below i k at) in
      let step : IsRoleRead net t k l.0.signed l.0.width l.0.role from readings noted to =
      subst (λ (o : Option Leaf). IsLeafRead net t k o from readings noted to) l.1 passed.1 in
      rw passed.0 (role_step nodes readings noted i from to k l.0 l.0.role less at l.1 refl step walk)
  nodes_step nodes new readings noted i from to (read.Node k) less at passed walk =
      let step = passed.1 in
      rw (passed.0, step.3) (nodes_next nodes readings i from to k step.0 step.1 less at step.2 step.4 walk)

  -- all have been passed
  pub nodes_end : (nodes readings : List NodePlace) (i from : ℕ) → i ≡ length order → NodeWalk net t order nodes readings i from
      → AreNodePlaces net t order nodes readings from
  nodes_end nodes readings i from end walk = record {
    held = record {
      each = λ k n at.
          let place = is.all (read.Node k) (within net.nodes k n at) in
          walk.done place.0 k n (rw end (within order place.0 (read.Node k) place.1)) place.1 at;
    };
    read = record {
      each = λ k l r at reads.
          let place = is.all (read.Leaf k) (within net.leaves k l at) in
          walk.read_done place.0 k l r (rw end (within order place.0 (read.Leaf k) place.1)) place.1 at reads;
    };
    named = subst (λ rs. AreInnerTo (table_names t) 0 (inner_names net nodes readings rs) from) all walk.named;
    spelled = subst (λ (rs : List Read). AllByRecursion IsName (inner_names net nodes readings rs)) all walk.spelled;
  }
    where
      all : take i order ≡ order
      all = ap (λ (n : ℕ). take n order) end ∙ take-length order

-- the loop along the order
pub record NodeLoop (net : FlatNet) (t : NameTable) (order : List Read) (nodes readings : List NodePlace) (i from : ℕ) : Type 0 where
  pub near : from ≤ 2 ^ 127
  pub walk : IsOrder net order → NodeWalk net t order nodes readings i from

pub loop_begins : (net : FlatNet) (t : NameTable) (order : List Read) (nodes : List NodePlace) → length nodes ≡ length net.nodes
    → NodeLoop net t order nodes [] 0 0
loop_begins net t order nodes long = record { near = omega arith; walk = λ is. nodes_begin net t order is nodes long }

pub loop_goes_on : (net : FlatNet) (t : NameTable) (order : List Read) (nodes new readings noted : List NodePlace) (i from to : ℕ) (r : Read) → i < length order
    → slice_get order i ≡ Some r
    → from ≤ 2 ^ 126 → to ≤ from + 5 * 2 ^ 63 → (IsOf net r → length nodes ≡ length net.nodes → IsReadPassed net t r from nodes new readings noted to)
    → NodeLoop net t order nodes readings i from → NodeLoop net t order new noted (i + 1) to
loop_goes_on net t order nodes new readings noted i from to r less at few near passed before = record {
  near = omega arith;
  walk = λ is. let walk = before.walk is in nodes_step net t order is nodes new readings noted i from to r less at (passed (is.only i r at) walk.room) walk;
}
