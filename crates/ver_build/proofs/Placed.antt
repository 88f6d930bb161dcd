-- Processes along the order of a net, each of which reads only what is known before it.
-- The nets of a node come at the node, each behind all that it reads; what comes at leaves is given. Where at each leaf it makes the leaf's value known, the
-- whole is in order.
use Rattle.std.proofs.Common.{◌≡◌, ℕ, List, [], ◌∷◌, ◌++◌, length, map, flat_map, Bool, true, false, refl, sym, ap, ◌∙◌, inl, inr, ◌⊎◌, ⊎_elim, subst, append_assoc, append-nil}
use Rattle.std.specs.Prelude.{slice_get, Option, Some, None, unwrap_or}
use Rattle.std.specs.List.{AllByRecursion}
use Rattle.fir_base.specs.Lists.{In, EachIn}
use Rattle.fir_base.proofs.Each.{each_more}
use Rattle.fir_base.proofs.Members.{in_either}
use Rattle.fir_base.proofs.Elements.{there, get_behind, get_left, number_of, get_in}
use Rattle.fir_net.specs.declared.reads.Read.{Read}
use Rattle.fir_net.specs.declared.reads.Read.TheVariants as read
use Rattle.fir_net.specs.declared.leaf.Role.{Role}
use Rattle.fir_net.specs.declared.leaf.Role.TheVariants as role
use Rattle.fir_net.specs.declared.leaf.Leaf.{Leaf}
use Rattle.fir_net.specs.declared.net.FlatNet.{FlatNet}
use Rattle.fir_net_names.specs.declared.name_table.NameTable.{NameTable}
use Rattle.fir_net.specs.declared.node.Node.{Node}
use Rattle.fir_net.specs.declared.array.ArrayRead.{ArrayRead}
use Rattle.fir_net.specs.working.Arrays.{words_of}
use Rattle.fir_net.specs.working.Dependence.{Reads, IsOf, support_of}
use Rattle.ver_ast.specs.Processes.{Process, assigning, target, process_reads}
use Rattle.ver_ast.specs.Valid.{ReadsBefore}
use Rattle.ver_build.specs.declared.held.Held.{Held}
use Rattle.ver_build.specs.declared.places.Places.{Places}
use Rattle.ver_build.specs.working.Held.{own_held}
use Rattle.ver_build.specs.declared.right_sides.Inner.{Inner}
use Rattle.fir_net_names.specs.working.LeafNamed.{name_at}
use Rattle.ver_build.specs.working.Places.{held_of, node_at, place_value, placed, read_width, source_name}
use Rattle.ver_build.specs.working.Built.{inner_assign, node_inners, read_inners}
use Rattle.ver_build.proofs.Premises.{Premises, all_by_number}
use Rattle.ver_build.proofs.TextOrder.{Within}
use Rattle.ver_build.proofs.Standing.{IsKnown, ReadsInTurn}
use Rattle.ver_build.proofs.OperandNames.{fit_known}
use Rattle.ver_build.proofs.NodeNets.{IsLiteral, IsEmpty, IsNetted, node_view, given_inners, no_inners, empty_inners, netted_inners}
use Rattle.ver_build.proofs.ReadsStand.{leaf_read}
use Rattle.ver_build.proofs.Fitting.{node_reads}
use Rattle.ver_build.proofs.ReadingNets.{IsNothingRead, IsRead, IsReadNetted, nothing_read, other_read, own_reading, reading_is, reading_own, reading_view}
use Rattle.ver_build.proofs.ArraySides.{reading_reads}
use Rattle.ver_build.proofs.LeafKinds.{is_reading}

-- the process of an inner net
abbrev pub inner_process : Inner → Process
inner_process i = assigning (inner_assign i)

-- what has a net of its own name that no assign gives
abbrev pub has_own : Role → Bool
has_own role.Input = true
has_own (role.Register r) = true
has_own _ = false

pub more_held : (known more : List (List ℕ)) (h : Held) → Within known more → IsKnown known h → IsKnown more h
more_held known more h f m = each_more (source_name h.source) known more f m

-- processes that read only what is known before them all
pub known_first : (known : List (List ℕ)) (qs more : List Process) → AllByRecursion (λ q. EachIn (process_reads q) known) qs
    → ((after : List (List ℕ)) → Within known after → ReadsBefore after more) → ReadsBefore known (qs ++ more)
known_first known [] more reads go = go known (λ x m. m)
known_first known (q ∷ qs) more reads go =
    (reads.0, known_first (target q ∷ known) qs more (still qs reads.1) (λ after f. go after (λ x m. f x (inr m))))
  where
    still : (rs : List Process) → AllByRecursion (λ r. EachIn (process_reads r) known) rs
        → AllByRecursion (λ r. EachIn (process_reads r) (target q ∷ known)) rs
    still [] h = tt
    still (r ∷ rs) h = (each_more (process_reads r) known (target q ∷ known) (λ x m. inr m) h.0, still rs h.1)

-- inner nets that read in turn, with what is behind them
pub in_turn : (known : List (List ℕ)) (xs : List Inner) (more : List Process) → ReadsInTurn known xs
    → ((after : List (List ℕ)) → Within known after → ((i : Inner) → In xs i → In after i.name) → ReadsBefore after more)
    → ReadsBefore known (map inner_process xs ++ more)
in_turn known [] more turn go = go known (λ x m. m) (λ i m. absurd m)
in_turn known (i ∷ xs) more turn go = (
  turn.0,
  in_turn (i.name ∷ known) xs more turn.1
      (λ after f g. go after (λ x m. f x (inr m))
      (λ j m. ⊎_elim (λ (e : i ≡ j). subst (λ (y : Inner). In after y.name) e (f i.name (inl refl))) (λ (n : In xs j). g j n) m)),
)

own_known : (known : List (List ℕ)) (signed : Bool) (w : ℕ) (n : Option (List ℕ)) → ((name : List ℕ) → n ≡ Some name → In known name)
    → IsKnown known (own_held signed w n)
own_known known signed w None h = tt
own_known known signed w (Some name) h = (h name refl, tt)

module _ (net : FlatNet) (t : NameTable) (p : Places) (order : List Read) (is : Premises net t p order) where
  role_known : (known : List (List ℕ)) (k : ℕ) (l : Leaf) (r : Role) → slice_get net.leaves k ≡ Some l → l.role ≡ r
      → (has_own r ≡ true → (name : List ℕ) → name_at t.leaves k ≡ Some name → In known name)
      → (is_reading r ≡ true → IsKnown known (place_value (placed p.leaves p.nodes p.readings (name_at t.leaves k) k l.signed l.width r)))
      → ((w : Read) → Reads net (read.Leaf k) w → IsKnown known (held_of p w))
      → IsKnown known (place_value (placed p.leaves p.nodes p.readings (name_at t.leaves k) k l.signed l.width r))
  role_known known k l role.Input at e own has below = own_known known l.signed l.width (name_at t.leaves k) (own refl)
  role_known known k l (role.Register r) at e own has below = own_known known l.signed l.width (name_at t.leaves k) (own refl)
  role_known known k l (role.Output r) at e own has below =
      fit_known known (held_of p r).signed l.width (held_of p r).source (below r (leaf_read net k l (role.Output r) 0 r at e refl))
  role_known known k l (role.Wire r) at e own has below =
      fit_known known (held_of p r).signed l.width (held_of p r).source (below r (leaf_read net k l (role.Wire r) 0 r at e refl))
  role_known known k l (role.Reading r) at e own has below = has refl
  role_known known k l _ at e own has below = tt

  -- where what a leaf hangs on is known, and its own name, its value is known
  pub leaf_known : (known : List (List ℕ)) (k : ℕ) (l : Leaf) → slice_get net.leaves k ≡ Some l
      → (has_own l.role ≡ true → (name : List ℕ) → name_at t.leaves k ≡ Some name → In known name)
      → (is_reading l.role ≡ true → IsKnown known (held_of p (read.Leaf k)))
      → ((w : Read) → Reads net (read.Leaf k) w → IsKnown known (held_of p w)) → IsKnown known (held_of p (read.Leaf k))
  leaf_known known k l at own has below =
      rw (is.places.leaves.each k l at)
      (role_known known k l l.role at refl own (λ e. subst (λ x. IsKnown known (place_value x)) (is.places.leaves.each k l at) (has e)) below)

  -- what is read of an array is known behind its nets
  reading_held : (k : ℕ) (l : Leaf) (r : ArrayRead) → slice_get net.leaves k ≡ Some l → l.role ≡ role.Reading r
      → held_of p (read.Leaf k) ≡ (node_at p.readings k).held
  reading_held k l r at same =
      ap place_value (is.places.leaves.each k l at
      ∙ ap (λ (d : Role). placed p.leaves p.nodes p.readings (name_at t.leaves k) k l.signed l.width d) same)

  reading_of : (d : Role) → is_reading d ≡ true → (r : ArrayRead) × (d ≡ role.Reading r)
  reading_of (role.Reading r) e = (r, refl)
  reading_of _ e = absurd (cc)

  reading_after : (known : List (List ℕ)) (k : ℕ) (l : Leaf) (more : List Process) → slice_get net.leaves k ≡ Some l
      → ((w : Read) → Reads net (read.Leaf k) w → IsKnown known (held_of p w))
      → ((after : List (List ℕ)) → Within known after → (is_reading l.role ≡ true → IsKnown after (held_of p (read.Leaf k))) → ReadsBefore after more)
      → ReadsBefore known (map inner_process (read_inners net t p (read.Leaf k)) ++ more)
  reading_after known k l more at below go = by (is_reading l.role) refl
    where
      netted : (h : IsRead net p k) → ReadsBefore known (map inner_process (read_inners net t p (read.Leaf k)) ++ more)
      netted h =
          let r = h.read in
          let is_at = below r.address (leaf_read net k h.leaf (role.Reading r) 0 r.address h.at h.reads refl) in
          let is_under = below r.enable (leaf_read net k h.leaf (role.Reading r) 1 r.enable h.at h.reads refl) in
          let own =
          reading_own (unwrap_or (name_at t.arrays r.array) []) (words_of net.arrays r.array) h.leaf.width (read_width net r.address)
          (held_of p r.address) (held_of p r.enable) (node_at p.readings k).helpers h.netted.name in
          subst (λ (xs : List Inner). ReadsBefore known (map inner_process xs ++ more)) (sym (reading_is net t p k h))
          (in_turn known (own_reading net t p k h) more
          (reading_reads (read_width net r.address) (held_of p r.address) (held_of p r.enable) known is_at is_under
          (unwrap_or (name_at t.arrays r.array) []) (words_of net.arrays r.array) h.leaf.width (node_at p.readings k).helpers h.netted.name)
          (λ after f g. go after f (λ e.
          subst (IsKnown after) (sym (reading_held k h.leaf r h.at h.reads ∙ h.netted.held)) (g _ own.1, tt))))

      by : (b : Bool) → is_reading l.role ≡ b → ReadsBefore known (map inner_process (read_inners net t p (read.Leaf k)) ++ more)
      by false e =
          subst (λ (xs : List Inner). ReadsBefore known (map inner_process xs ++ more)) (sym (other_read net t p k l at e))
          (go known (λ x m. m) (λ t. let bad : true ≡ false = sym t ∙ e in absurd (cc)))
      by true e =
          let r = reading_of l.role e in
          ⊎_elim
          (λ (n : IsNothingRead l.signed l.width (node_at p.readings k)).
          subst (λ (xs : List Inner). ReadsBefore known (map inner_process xs ++ more)) (sym (nothing_read net t p k l r.0 at r.1 n))
          (go known (λ x m. m) (λ t. subst (IsKnown known) (sym (reading_held k l r.0 at r.1 ∙ n.held)) tt)))
          (λ (h : IsReadNetted net l.signed l.width r.0 (node_at p.readings k)).
          netted (record { leaf = l; at = at; read = r.0; reads = r.1; netted = h }))
          (reading_view net l.signed l.width r.0 (node_at p.readings k) (is.places.nodes.read.each k l r.0 at r.1))

  -- what a read hangs on has been passed
  before_is : (before : List Read) (r : Read) (rest : List Read) → order ≡ before ++ r ∷ rest → (w : Read) → Reads net r w
      → (j : ℕ) × (slice_get before j ≡ Some w)
  before_is before r rest whole w reads =
      let here : slice_get order (length before) ≡ Some r = ap (λ (rs : List Read). slice_get rs (length before)) whole ∙ get_behind before rest r in
      let a = is.ordered.after (length before) r w here reads in
      (a.0, sym (get_left before (r ∷ rest) a.0 a.1) ∙ sym (ap (λ (rs : List Read). slice_get rs a.0) whole) ∙ a.2)

  read_there : (before : List Read) (r : Read) (rest : List Read) → order ≡ before ++ r ∷ rest → IsOf net r
  read_there before r rest whole =
      is.ordered.only (length before) r (ap (λ (rs : List Read). slice_get rs (length before)) whole ∙ get_behind before rest r)

  -- what the leaves before give, and what comes at a leaf, from names that are known first
  module _ (sources : List (List ℕ)) (at_leaf : ℕ → List Process)
      (leaf_step : (known : List (List ℕ)) (k : ℕ) (l : Leaf) (more : List Process) → slice_get net.leaves k ≡ Some l → Within sources known
      → (is_reading l.role ≡ true → IsKnown known (held_of p (read.Leaf k)))
      → ((w : Read) → Reads net (read.Leaf k) w → IsKnown known (held_of p w))
      → ((after : List (List ℕ)) → Within known after → IsKnown after (held_of p (read.Leaf k)) → ReadsBefore after more)
      → ReadsBefore known (at_leaf k ++ more)) where
    abbrev pub given_at : Read → List Process
    given_at (read.Leaf k) = map inner_process (read_inners net t p (read.Leaf k)) ++ at_leaf k
    given_at (read.Node k) = map inner_process (read_inners net t p (read.Node k))

    -- the sources, and the nets of what has been passed
    record Knows (known : List (List ℕ)) (before : List Read) : Type 0 where
      start : Within sources known
      passed : (j : ℕ) (r : Read) → slice_get before j ≡ Some r → IsKnown known (held_of p r)

    one_more : (known after : List (List ℕ)) (before : List Read) (r : Read) → Knows known before → Within known after → IsKnown after (held_of p r)
        → Knows after (before ++ r ∷ [])
    one_more known after before r k f h = record { start = λ x m. f x (k.start x m); passed = more }
      where
        more : (j : ℕ) (w : Read) → slice_get (before ++ r ∷ []) j ≡ Some w → IsKnown after (held_of p w)
        more j w e =
            ⊎_elim
            (λ (m : In before w). let n = number_of before w m in more_held known after (held_of p w) f (k.passed n.0 w n.1))
            (λ (m : In (r ∷ []) w). ⊎_elim (λ (same : r ≡ w). subst (λ (x : Read). IsKnown after (held_of p x)) same h) (λ (o : ⊥). absurd o) m)
            (in_either before (r ∷ []) w (get_in (before ++ r ∷ []) j w e))

    node_sources : (known : List (List ℕ)) (k : ℕ) (n : Node) → slice_get net.nodes k ≡ Some n
        → ((w : Read) → Reads net (read.Node k) w → IsKnown known (held_of p w)) → AllByRecursion (λ r. IsKnown known (held_of p r)) (support_of n)
    node_sources known k n at below =
        all_by_number (λ r. IsKnown known (held_of p r)) (support_of n) (λ i w e. below w (record { place = i; is = rw at e }))

    -- an entry of the order, with what is known behind it
    netted_after : (known : List (List ℕ)) (k : ℕ) (n : Node) (more : List Process) → slice_get net.nodes k ≡ Some n
        → (h : IsNetted p n (node_at p.nodes k)) → ((w : Read) → Reads net (read.Node k) w → IsKnown known (held_of p w))
        → ((after : List (List ℕ)) → Within known after → IsKnown after (held_of p (read.Node k)) → ReadsBefore after more)
        → ReadsBefore known (map inner_process (given_inners p n (node_at p.nodes k)) ++ more)
    netted_after known k n more at h below go =
        let here = node_at p.nodes k in
        rw (netted_inners p n here h)
        (in_turn known (node_inners p n here.helpers h.name) more
        (node_reads p known n here.helpers h.name (node_sources known k n at below))
        (λ after f g. go after f (rw h.held (g _ h.inside, tt))))

    node_after : (known : List (List ℕ)) (k : ℕ) (n : Node) (more : List Process) → slice_get net.nodes k ≡ Some n
        → ((w : Read) → Reads net (read.Node k) w → IsKnown known (held_of p w))
        → ((after : List (List ℕ)) → Within known after → IsKnown after (held_of p (read.Node k)) → ReadsBefore after more)
        → ReadsBefore known (map inner_process (given_inners p n (node_at p.nodes k)) ++ more)
    node_after known k n more at below go =
        let here = node_at p.nodes k in
        ⊎_elim
        (λ (l : IsLiteral n here). rw (no_inners p n here l) (go known (λ x m. m) (rw l.held tt)))
        (λ (o : IsEmpty n here ⊎ IsNetted p n here).
        ⊎_elim
        (λ (e : IsEmpty n here). rw (empty_inners p n here e) (go known (λ x m. m) (rw e.held tt)))
        (λ (h : IsNetted p n here). netted_after known k n more at h below go)
        o)
        (node_view p n here (is.places.nodes.held.each k n at))

    entry_after : (known : List (List ℕ)) (r : Read) (more : List Process) → IsOf net r → Within sources known
        → ((w : Read) → Reads net r w → IsKnown known (held_of p w))
        → ((after : List (List ℕ)) → Within known after → IsKnown after (held_of p r) → ReadsBefore after more)
        → ReadsBefore known (given_at r ++ more)
    entry_after known (read.Leaf k) more of start below go =
        let l = there net.leaves k of in
        rw (append_assoc (map inner_process (read_inners net t p (read.Leaf k))) (at_leaf k) more)
        (reading_after known k l.0 (at_leaf k ++ more) l.1 below
        (λ after f has. leaf_step after k l.0 more l.1 (λ x m. f x (start x m)) has (λ w reads. more_held known after (held_of p w) f (below w reads))
        (λ last g h. go last (λ x m. g x (f x m)) h)))
    entry_after known (read.Node k) more of start below go =
        let n = there net.nodes k of in
        rw n.1 (node_after known k n.0 more n.1 below go)

    module _ (rest_of : List Process) (last : (known : List (List ℕ)) → Within sources known → ((r : Read) → IsOf net r → IsKnown known (held_of p r)) → ReadsBefore known rest_of) where
      along : (before rest : List Read) (known : List (List ℕ)) → order ≡ before ++ rest → Knows known before
          → ReadsBefore known (flat_map given_at rest ++ rest_of)
      along before [] known whole knows =
          last known knows.start
          (λ r of.
          let i = is.ordered.all r of in
          knows.passed i.0 r (ap (λ (rs : List Read). slice_get rs i.0) (sym (whole ∙ append-nil before)) ∙ i.1))
      along before (r ∷ rest) known whole knows =
          rw (append_assoc (given_at r) (flat_map given_at rest) rest_of)
          (entry_after known r (flat_map given_at rest ++ rest_of) (read_there before r rest whole) knows.start
          (λ w reads. let j = before_is before r rest whole w reads in knows.passed j.0 w j.1)
          (λ after f h. along (before ++ r ∷ []) rest after (whole ∙ sym (append_assoc before (r ∷ []) rest)) (one_more known after before r knows f h)))

      pub in_order : ReadsBefore sources (flat_map given_at order ++ rest_of)
      in_order = along [] order sources refl (record { start = λ x m. m; passed = λ j r e. absurd (cc) })
