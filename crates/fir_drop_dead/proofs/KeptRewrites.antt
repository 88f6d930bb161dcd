-- The net of what is kept is the old one written anew, under the old numbers of its leaves.
use Rattle.std.proofs.Common.{◌≡◌, ◌||◌, ℕ, zero, suc, ◌<◌, ◌≤◌, List, [], ◌∷◌, length, map, Some, None, Bool, true, false, refl, ap, sym, ◌∙◌, subst, arith, inl, inr, option_map}
use Rattle.std.specs.Prelude.{slice_get, Option, MatchBool}
use Rattle.std.proofs.lemmas.Option.{slice_get_within}
use Rattle.fir_base.specs.Lists.{In}
use Rattle.fir_base.proofs.Elements.{all_there, number_of, there}
use Rattle.fir_base.proofs.Members.{in_left, in_right}
use Rattle.fir_bits.specs.declared.values.Num.{Num}
use Rattle.fir_net.specs.declared.array.Array.{Array}
use Rattle.fir_net.specs.declared.array.ArrayRead.{ArrayRead}
use Rattle.fir_net.specs.declared.array.ArrayWrite.{ArrayWrite}
use Rattle.fir_net.specs.declared.leaf.Leaf.{Leaf}
use Rattle.fir_net.specs.declared.leaf.Reset.{Reset}
use Rattle.fir_net.specs.declared.leaf.Role.{Role}
use Rattle.fir_net.specs.declared.leaf.Role.TheVariants as role
use Rattle.fir_net.specs.declared.net.FlatNet.{FlatNet}
use Rattle.fir_net.specs.declared.reads.Read.{Read}
use Rattle.fir_net.specs.declared.reads.Read.TheVariants as read
use Rattle.fir_net.specs.working.IsNet.{AreInside, ArePortsFirst, IsNet, is_port, is_state}
use Rattle.fir_net.specs.working.Laws.{NodesHaveTheirValues}
use Rattle.fir_net.specs.working.Values.{at_width}
use Rattle.fir_equivalence.specs.working.Rewrites.{AreSameArrays, AreSameWrites, IsSameArrayRead, IsSameAt, IsSameLeaf, IsSameNext, IsSameNumber, IsSameOptionalReset, IsSameRole, Rewrites}
use Rattle.fir_drop_dead.specs.working.IsLive.{optional_read, whole_reset_reads, whole_role_reads, write_reads}
use Rattle.fir_drop_dead.specs.working.Marks.{Marked, has, mark_at}
use Rattle.fir_drop_dead.specs.working.Moved.{kept_net, moved_array, moved_array_read, moved_leaf, moved_leaf_number, moved_read, moved_reset, moved_role, moved_write}
use Rattle.fir_drop_dead.specs.working.Needed.{AreMarked, AreNeeded}
use Rattle.fir_drop_dead.specs.working.Numbers.{number, place}
use Rattle.fir_drop_dead.proofs.ConstantInits.{inits_kept}
use Rattle.fir_drop_dead.proofs.KeptItems.{number_place, place_first}
use Rattle.fir_drop_dead.proofs.KeptLeaves.{leaf_reads_kept, moved_from, moved_there}
use Rattle.fir_drop_dead.proofs.KeptValues.{value_moved}
use Rattle.fir_drop_dead.proofs.KeptWhole.{kept_whole, state_leaf}

-- all leaves before a port are ports
inside_none : (ls : List Leaf) (k : ℕ) (l : Leaf) → AreInside ls → slice_get ls k ≡ Some l → is_port l.role ≡ true → ⊥
inside_none ls k l inside at port = let none = all_there (λ (x : Leaf). is_port x.role ≡ false) ls inside k l at in cc

ports_before : (ls : List Leaf) (j k : ℕ) (l : Leaf) → ArePortsFirst ls → j ≤ k → slice_get ls k ≡ Some l → is_port l.role ≡ true
    → (x : Leaf) × (slice_get ls j ≡ Some x) × (is_port x.role ≡ true)
ports_before [] j k l first le at port = cc
ports_before (y ∷ ls) zero zero l first le at port = (l, at, port)
ports_before (y ∷ ls) (suc j) zero l first le at port = absurd (omega arith)
ports_before (y ∷ ls) zero (suc k) l first le at port = (y, refl, by (is_port y.role) refl first)
  where
    by : (b : Bool) → is_port y.role ≡ b → MatchBool b (ArePortsFirst ls) (AreInside ls) → is_port y.role ≡ true
    by true e f = e
    by false e f = absurd (inside_none ls k l f at port)
ports_before (y ∷ ls) (suc j) (suc k) l first le at port = ports_before ls j k l (rest (is_port y.role) first) (omega arith) at port
  where
    rest : (b : Bool) → MatchBool b (ArePortsFirst ls) (AreInside ls) → ArePortsFirst ls
    rest true f = f
    rest false f = absurd (inside_none ls k l f at port)

numbers_back : (m : Marked) (ks : List ℕ) → ((k : ℕ) → In ks k → mark_at m.leaves k ≡ true) → map (number m.leaves) (map (moved_leaf_number m) ks) ≡ ks
numbers_back m [] h = refl
numbers_back m (k ∷ ks) h = λ i. number_place m.leaves k (h k (inl refl)) i ∷ numbers_back m ks (λ j n. h j (inr n)) i

module _ (law : NodesHaveTheirValues) (net : FlatNet) (whole : IsNet net) (m : Marked) (are : AreNeeded net m) where
  abbrev other : FlatNet
  other = kept_net m net

  abbrev back : ℕ → ℕ
  back = number m.leaves

  same_at : (width : ℕ) (r : Read) → has m r ≡ true → IsSameAt net other back width r (moved_read m r)
  same_at width r h state tick env clock settled = ap (λ (v : Num). at_width v width) (value_moved law net whole m are env r h)

  same_number : (r : Read) → has m r ≡ true → IsSameNumber net other back r (moved_read m r)
  same_number r h state tick env clock settled = ap (λ (v : Num). v.value.number) (value_moved law net whole m are env r h)

  reset_same : (width : ℕ) (r : Option Reset) → AreMarked m (whole_reset_reads r) → IsSameOptionalReset net other back width r (option_map (moved_reset m) r)
  reset_same width None h = tt
  reset_same width (Some r) h = record {
    kind = refl;
    condition = same_number r.condition (h r.condition (inl refl));
    init = same_at width r.init (h r.init (inr (inl refl)));
  }

  next_same : (width : ℕ) (r : Option Read) → AreMarked m (optional_read r) → IsSameNext net other back width r (option_map (moved_read m) r)
  next_same width None h = tt
  next_same width (Some r) h = same_at width r (h r (inl refl))

  array_read_same : (r : ArrayRead) → has m r.address ≡ true → has m r.enable ≡ true → IsSameArrayRead net other back r (moved_array_read m r)
  array_read_same r h g = record { array = refl; address = same_number r.address h; enable = same_number r.enable g }

  role_same : (width : ℕ) (r : Role) → AreMarked m (whole_role_reads r) → IsSameRole net other back width r (moved_role m r)
  role_same width role.Input h = tt
  role_same width role.Clock h = tt
  role_same width (role.Output r) h = same_at width r (h r (inl refl))
  role_same width (role.Wire r) h = same_at width r (h r (inl refl))
  role_same width (role.Register r) h =
      let front = read.Leaf r.clock ∷ whole_reset_reads r.reset in
      record {
        clock = number_place m.leaves r.clock (h (read.Leaf r.clock) (inl refl));
        reset = reset_same width r.reset (λ v n. h v (in_left front (optional_read r.next) v (inr n)));
        next = next_same width r.next (λ v n. h v (in_right front (optional_read r.next) v n));
      }
  role_same width (role.Reading r) h = array_read_same r (h r.address (inl refl)) (h r.enable (inr (inl refl)))
  role_same width (role.Pipe p) h = record {
    clock = number_place m.leaves p.clock (h (read.Leaf p.clock) (inl refl));
    read = array_read_same p.read (h p.read.address (inr (inl refl))) (h p.read.enable (inr (inr (inl refl))));
    is_new = refl;
  }
  role_same width (role.ClockOutput None) h = refl
  role_same width (role.ClockOutput (Some k)) h = ap Some (number_place m.leaves k (h (read.Leaf k) (inl refl)))
  role_same width (role.ClockWire None) h = refl
  role_same width (role.ClockWire (Some k)) h = ap Some (number_place m.leaves k (h (read.Leaf k) (inl refl)))

  leaf_same : (j : ℕ) (x : Leaf) → slice_get other.leaves j ≡ Some x → (l : Leaf) × (slice_get net.leaves (back j) ≡ Some l) × IsSameLeaf net other back l x
  leaf_same j x at =
      let r = moved_from (moved_leaf m) m.leaves net.leaves j x at in
      let l = r.item in (
        l,
        ap (slice_get net.leaves) r.from.number ∙ r.from.at,
        subst (IsSameLeaf net other back l) r.is
            (record {
              path = refl;
              signed = refl;
              width = refl;
              role = role_same l.width l.role (leaf_reads_kept net m are r.from.old l r.from.at r.from.marked);
            }),
      )

  leaf_once : (j k : ℕ) → j < length other.leaves → k < length other.leaves → back j ≡ back k → j ≡ k
  leaf_once j k low high e =
      let a = there other.leaves j low in
      let b = there other.leaves k high in
      let p = moved_from (moved_leaf m) m.leaves net.leaves j a.0 a.1 in
      let q = moved_from (moved_leaf m) m.leaves net.leaves k b.0 b.1 in
      sym p.from.place ∙ ap (place m.leaves) (sym p.from.number ∙ e ∙ q.from.number) ∙ q.from.place

  port_root : (r : Role) → is_port r ≡ true → (is_port r || is_state r) ≡ true
  port_root r h = ap (λ b. b || is_state r) h

  port_same : (k : ℕ) (l : Leaf) → slice_get net.leaves k ≡ Some l → is_port l.role ≡ true → (k < length other.leaves) × (back k ≡ k)
  port_same k l at port =
      let all : (j : ℕ) → j ≤ k → mark_at m.leaves j ≡ true =
      λ j le. let x = ports_before net.leaves j k l whole.ports_first le at port in are.roots j x.0 x.1 (port_root x.0.role x.2) in
      let first = place_first m.leaves k all in
      let marked = are.roots k l at (port_root l.role port) in
      let within = slice_get_within other.leaves (place m.leaves k) (moved_leaf m l) (moved_there (moved_leaf m) m.leaves net.leaves k l at marked) in
      (subst (λ (j : ℕ). j < length other.leaves) first within, ap back (sym first) ∙ number_place m.leaves k marked)

  writes_same : (width : ℕ) (ws : List ArrayWrite) → ((w : ArrayWrite) → In ws w → AreMarked m (write_reads w)) → AreSameWrites net other back width ws (map (moved_write m) ws)
  writes_same width [] h = tt
  writes_same width (w ∷ ws) h =
      let own = h w (inl refl) in (
        record {
          clock = number_place m.leaves w.clock (own (read.Leaf w.clock) (inl refl));
          condition = same_number w.condition (own w.condition (inr (inl refl)));
          address = same_number w.address (own w.address (inr (inr (inl refl))));
          given = same_at width w.given (own w.given (inr (inr (inr (inl refl)))));
        },
        writes_same width ws (λ x n. h x (inr n)),
      )

  arrays_same : (bs : List Array) → ((a : Array) → In bs a → (w : ArrayWrite) → In a.writes w → AreMarked m (write_reads w)) → AreSameArrays net other back bs (map (moved_array m) bs)
  arrays_same [] h = tt
  arrays_same (a ∷ bs) h = (
    record { path = refl; signed = refl; width = refl; words = refl; writes = writes_same a.width a.writes (h a (inl refl)) },
    arrays_same bs (λ x n. h x (inr n)),
  )

  pub kept_rewrites : Rewrites net other back
  kept_rewrites = record {
    whole = kept_whole net whole m are;
    name = refl;
    leaves = leaf_same;
    once = leaf_once;
    ports = port_same;
    state = numbers_back m net.state (λ k n. let p = number_of net.state k n in state_leaf net whole m are p.0 k p.1);
    arrays = arrays_same net.arrays (λ a n w among. are.writes a w n among);
    array_order = refl;
    inits = inits_kept net m are;
  }
