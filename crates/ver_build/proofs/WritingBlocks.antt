-- The blocks of arrays: each is on the one clock of all its writes that are on one, and is sound. An array has one where a write of it is on a clock.
use Rattle.std.proofs.Common.{◌≡◌, ℕ, zero, suc, ◌+◌, List, [], ◌∷◌, ◌++◌, map, Bool, true, false, refl, sym, ap, ◌∙◌, inl, inr, subst, arith, Option, Some, None, unwrap_or}
use Rattle.std.specs.Prelude.{flat_map, slice_get}
use Rattle.std.specs.Option.{is_some}
use Rattle.std.specs.List.{AllByRecursion}
use Rattle.std.proofs.lemmas.List.Concat.{flat_map-append}
use Rattle.std.proofs.lemmas.Simd.{map-map}
use Rattle.fir_base.specs.Lists.{In, Distinct, EachIn}
use Rattle.fir_base.proofs.Each.{all_from, each_joined, each_more, each_parts}
use Rattle.fir_base.proofs.Members.{in_flat_map_from, in_map, in_right}
use Rattle.fir_net.specs.declared.array.Array.{Array}
use Rattle.fir_net.specs.declared.array.ArrayWrite.{ArrayWrite}
use Rattle.fir_net.specs.declared.reads.Read.{Read}
use Rattle.fir_net.specs.declared.net.FlatNet.{FlatNet}
use Rattle.fir_net.specs.working.Arrays.{word_width}
use Rattle.fir_net.specs.working.IsWritable.{of_write}
use Rattle.fir_net_names.specs.declared.name_table.NameTable.{NameTable}
use Rattle.fir_net_names.specs.working.LeafNamed.{name_at}
use Rattle.ver_ast.specs.declared.tree.Verilog.{Verilog}
use Rattle.ver_ast.specs.declared.tree.Write.{Write}
use Rattle.ver_ast.specs.Names.{atom_names}
use Rattle.ver_ast.specs.ItemNames.{write_names}
use Rattle.ver_ast.specs.Nets.{SizedNet, Variable, variable_names, AlwaysBlock, writing_block, block_target, block_targets, clocks, first_array, names_of, nets}
use Rattle.ver_ast.specs.SoundSides.{HasWidth, IsOperand}
use Rattle.ver_ast.specs.Valid.{AreWrites, IsSoundBlock, IsWrite}
use Rattle.ver_build.specs.Arranged.{marked}
use Rattle.ver_build.specs.declared.places.Guard.{Guard}
use Rattle.ver_build.specs.declared.places.Places.{Places}
use Rattle.ver_build.specs.working.ArrayBlocks.{array_block, array_blocks, block_of, clocked_writes, first_clock, or_else, written, written_on}
use Rattle.ver_build.specs.working.ArrayTexts.{write_condition}
use Rattle.ver_build.specs.working.Operands.{atom_at}
use Rattle.ver_build.specs.working.Places.{along_writes, array_writes, clock_in, guard_at, held_of, read_width}
use Rattle.ver_build.proofs.Premises.{Premises}
use Rattle.ver_build.proofs.Parts.{in_parts}
use Rattle.ver_build.proofs.Nets.{sizes, nets_sized, arrays_are}
use Rattle.ver_build.proofs.StateArrays.{IsStateArray, array_at, array_name, name_is, state_variable, state_variables, width_is, write_at}
use Rattle.ver_build.proofs.WriteLists.{in_writes_from}
use Rattle.ver_build.proofs.ArraySides.{net_wide}
use Rattle.ver_build.proofs.Sizes.{guard_among, inner_among, inner_declared}
use Rattle.ver_build.proofs.ReadsStand.{address_narrow, read_wide}
use Rattle.ver_build.proofs.Fitting.{BlockAmong, atom_among, known_names}
use Rattle.ver_build.proofs.ClockEnds.{IsClockInput, ends_at, clock_is_port}
use Rattle.ver_build.proofs.Blocks.{block_names, clock_named, net_among}

-- the write of an array that is first on a clock, and that none is where there is no such
pub first_write : (p : Places) (ws : List ArrayWrite) (c : ℕ) → first_clock p ws ≡ Some c
    → (j : ℕ) × (w : ArrayWrite) × (slice_get ws j ≡ Some w) × (clock_in p.leaves w.clock ≡ Some c)
first_write p [] c e = absurd (cc)
first_write p (w ∷ ws) c e = by (clock_in p.leaves w.clock) refl e (first_write p ws c)
  where
    by : (o : Option ℕ) → clock_in p.leaves w.clock ≡ o → or_else o (first_clock p ws) ≡ Some c
        → (first_clock p ws ≡ Some c → (j : ℕ) × (v : ArrayWrite) × (slice_get ws j ≡ Some v) × (clock_in p.leaves v.clock ≡ Some c))
        → (j : ℕ) × (v : ArrayWrite) × (slice_get (w ∷ ws) j ≡ Some v) × (clock_in p.leaves v.clock ≡ Some c)
    by (Some d) is same rest = (0, w, refl, is ∙ same)
    by None is same rest = let r = rest same in (suc r.0, r.1, r.2, r.3)

pub no_write : (p : Places) (ws : List ArrayWrite) → first_clock p ws ≡ None → (j : ℕ) (w : ArrayWrite) → slice_get ws j ≡ Some w
    → clock_in p.leaves w.clock ≡ None
no_write p [] e j w at = absurd (cc)
no_write p (v ∷ ws) e j w at = by (clock_in p.leaves v.clock) refl e j at (λ same i here. no_write p ws same i w here)
  where
    by : (o : Option ℕ) → clock_in p.leaves v.clock ≡ o → or_else o (first_clock p ws) ≡ None → (j : ℕ) → slice_get (v ∷ ws) j ≡ Some w
        → (first_clock p ws ≡ None → (i : ℕ) → slice_get ws i ≡ Some w → clock_in p.leaves w.clock ≡ None) → clock_in p.leaves w.clock ≡ None
    by (Some d) is same j at rest = absurd (cc)
    by None is same zero at rest = let one : v ≡ w = cc in ap (λ (x : ArrayWrite). clock_in p.leaves x.clock) (sym one) ∙ is
    by None is same (suc j) at rest = rest same j at

-- the targets of marked members
pub in_marked : {A : Type 0} → (ms : List Bool) (xs : List A) (x : A) → In (marked ms xs) x → In xs x
in_marked [] xs x m = absurd m
in_marked (b ∷ ms) [] x m = absurd m
in_marked (true ∷ ms) (y ∷ xs) x (inl e) = inl e
in_marked (true ∷ ms) (y ∷ xs) x (inr m) = inr (in_marked ms xs x m)
in_marked (false ∷ ms) (y ∷ xs) x m = inr (in_marked ms xs x m)

pub marked_once : {A : Type 0} → (ms : List Bool) (xs : List A) → Distinct xs → Distinct (marked ms xs)
marked_once [] xs d = tt
marked_once (b ∷ ms) [] d = tt
marked_once (true ∷ ms) (x ∷ xs) d = (λ m. d.0 (in_marked ms xs x m), marked_once ms xs d.1)
marked_once (false ∷ ms) (x ∷ xs) d = marked_once ms xs d.1

-- writes that are all of one array
are_writes : (v : Verilog) (name : List ℕ) (ws : List Write) → AllByRecursion (IsWrite v name) ws → AreWrites v ws
are_writes v name [] h = tt
are_writes v name (w ∷ ws) h = subst (λ (n : List ℕ). AllByRecursion (IsWrite v n) (w ∷ ws)) (sym h.0.one_array) h

module _ (net : FlatNet) (t : NameTable) (p : Places) where
  -- whether an array has a block
  abbrev pub has_writes : ℕ → Bool
  has_writes k = is_some (first_clock p (array_writes (slice_get net.arrays k)))

  pub array_block_is : (k : ℕ) (a : IsStateArray net t k)
      → array_block net t p k (slice_get net.arrays k) (name_at t.arrays k) ≡ block_of t (first_clock p a.array.writes) (clocked_writes net p k a.array a.name)
  array_block_is k a = let at = a.at in let named = a.named in rw (at, named) refl

  -- the write of the net that is one of the tree
  pub record WriteOf (k : ℕ) (a : IsStateArray net t k) (x : Write) : Type 0 where
    pub place : ℕ
    pub write : ArrayWrite
    pub at : slice_get a.array.writes place ≡ Some write
    pub clock : ℕ
    pub clocked : clock_in p.leaves write.clock ≡ Some clock
    pub is : written net p a.name a.array.width write (guard_at p.guards k place) ≡ x

  pub write_of : (k : ℕ) (a : IsStateArray net t k) (x : Write) → In (clocked_writes net p k a.array a.name) x → WriteOf k a x
  write_of k a x m =
      let r = in_writes_from (λ j w. written_on net p a.name a.array.width (clock_in p.leaves w.clock) w (guard_at p.guards k j)) 0 a.array.writes x m in
      let start : 0 + r.0 ≡ r.0 = omega arith in
      by r.0 r.1 r.2 (clock_in p.leaves r.1.clock) refl
      (subst (λ (j : ℕ). In (written_on net p a.name a.array.width (clock_in p.leaves r.1.clock) r.1 (guard_at p.guards k j)) x) start r.3)
    where
      by : (j : ℕ) (w : ArrayWrite) → slice_get a.array.writes j ≡ Some w → (o : Option ℕ) → clock_in p.leaves w.clock ≡ o
          → In (written_on net p a.name a.array.width o w (guard_at p.guards k j)) x → WriteOf k a x
      by j w at None is n = absurd n
      by j w at (Some c) is (inl e) = record { place = j; write = w; at = at; clock = c; clocked = is; is = e }
      by j w at (Some c) is (inr o) = absurd o

  -- the array of a block
  pub record BlockOfArray (b : AlwaysBlock) : Type 0 where
    pub number : ℕ
    pub among : In net.array_order number
    pub array : IsStateArray net t number
    pub clock : ℕ
    pub first : first_clock p array.array.writes ≡ Some clock
    pub is : writing_block (record { clock = unwrap_or (name_at t.leaves clock) []; writes = clocked_writes net p number array.array array.name }) ≡ b

  first_named : (name : List ℕ) (k width n : ℕ) (ws : List ArrayWrite) (c : ℕ) → first_clock p ws ≡ Some c
      → first_array (along_writes (λ j w. written_on net p name width (clock_in p.leaves w.clock) w (guard_at p.guards k j)) n ws) ≡ name ∷ []
  first_named name k width n [] c e = absurd (cc)
  first_named name k width n (w ∷ ws) c e =
      by (clock_in p.leaves w.clock) (along_writes (λ j w. written_on net p name width (clock_in p.leaves w.clock) w (guard_at p.guards k j)) (n + 1) ws) e
      (first_named name k width (n + 1) ws c)
    where
      by : (o : Option ℕ) (behind : List Write) → or_else o (first_clock p ws) ≡ Some c → (first_clock p ws ≡ Some c → first_array behind ≡ name ∷ [])
          → first_array (written_on net p name width o w (guard_at p.guards k n) ++ behind) ≡ name ∷ []
      by (Some d) behind same rest = refl
      by None behind same rest = rest same

  -- the targets of blocks of arrays are the arrays that are so marked
  one_target : (k : ℕ) (a : IsStateArray net t k) (ms : List Bool) (xs : List (List ℕ)) (ys : List (List ℕ)) → marked ms xs ≡ ys
      → block_targets (array_block net t p k (slice_get net.arrays k) (name_at t.arrays k)) ++ ys ≡ marked (has_writes k ∷ ms) (array_name t k ∷ xs)
  one_target k a ms xs ys same =
      let at = a.at in
      ap (λ (bs : List AlwaysBlock). block_targets bs ++ ys) (array_block_is k a)
      ∙ by (first_clock p a.array.writes) refl
      ∙ ap (λ (o : Option Array). marked (is_some (first_clock p (array_writes o)) ∷ ms) (array_name t k ∷ xs)) (sym at)
    where
      by : (o : Option ℕ) → first_clock p a.array.writes ≡ o
          → block_targets (block_of t o (clocked_writes net p k a.array a.name)) ++ ys ≡ marked (is_some o ∷ ms) (array_name t k ∷ xs)
      by None e = sym same
      by (Some c) e =
          ap (λ (ns : List (List ℕ)). (ns ++ []) ++ ys) (first_named a.name k a.array.width 0 a.array.writes c e)
          ∙ ap (λ (n : List ℕ). n ∷ ys) (sym (name_is net t k a)) ∙ ap (λ (zs : List (List ℕ)). array_name t k ∷ zs) (sym same)

module _ (net : FlatNet) (t : NameTable) (p : Places) (order : List Read) (is : Premises net t p order) where
  abbrev v : Verilog
  v = in_parts net t p order

  abbrev ns : List SizedNet
  ns = sizes net t p order

  targets_along : (ks : List ℕ) → ((k : ℕ) → In ks k → In net.array_order k)
      → block_targets (flat_map (λ k. array_block net t p k (slice_get net.arrays k) (name_at t.arrays k)) ks)
      ≡ marked (map (has_writes net t p) ks) (map (array_name t) ks)
  targets_along [] h = refl
  targets_along (k ∷ ks) h =
      let a = array_at net t is.whole is.table k (h k (inl refl)) in
      let rest = targets_along ks (λ j m. h j (inr m)) in
      flat_map-append block_target (array_block net t p k (slice_get net.arrays k) (name_at t.arrays k))
      (flat_map (λ k. array_block net t p k (slice_get net.arrays k) (name_at t.arrays k)) ks)
      ∙ one_target net t p k a (map (has_writes net t p) ks) (map (array_name t) ks) _ (sym rest)

  pub array_targets_are : block_targets (array_blocks net t p) ≡ marked (map (has_writes net t p) net.array_order) (variable_names (state_variables net t))
  array_targets_are =
      targets_along net.array_order (λ k m. m)
      ∙ ap (marked (map (has_writes net t p) net.array_order)) (sym (map-map (λ (k : Variable). k.name) (state_variable net t) net.array_order))

  pub array_block_of : (b : AlwaysBlock) → In (array_blocks net t p) b → BlockOfArray net t p b
  array_block_of b m =
      let from = in_flat_map_from (λ (k : ℕ). array_block net t p k (slice_get net.arrays k) (name_at t.arrays k)) net.array_order b m in
      let a = array_at net t is.whole is.table from.0 from.1 in
      by from.0 from.1 a (first_clock p a.array.writes) refl (subst (λ (bs : List AlwaysBlock). In bs b) (array_block_is net t p from.0 a) from.2)
    where
      by : (k : ℕ) → In net.array_order k → (a : IsStateArray net t k) → (o : Option ℕ) → first_clock p a.array.writes ≡ o
          → In (block_of t o (clocked_writes net p k a.array a.name)) b → BlockOfArray net t p b
      by k m a None e n = absurd n
      by k m a (Some c) e (inl same) = record { number = k; among = m; array = a; clock = c; first = e; is = same }
      by k m a (Some c) e (inr o) = absurd o

  -- where the clock of a write ends
  pub write_clock : (k : ℕ) (a : IsStateArray net t k) (j : ℕ) (w : ArrayWrite) → slice_get a.array.writes j ≡ Some w → (c : ℕ)
      → clock_in p.leaves w.clock ≡ Some c → IsClockInput net t c
  write_clock k a j w at c is_at =
      let clock = (write_at net t k a j w at).clock in (ends_at net t p order is w.clock clock.0 c clock.1 is_at).clock

  -- all writes of an array that are on a clock are on one
  pub one_clock : (k : ℕ) (a : IsStateArray net t k) (i j : ℕ) (u w : ArrayWrite) → slice_get a.array.writes i ≡ Some u → slice_get a.array.writes j ≡ Some w
      → (c d : ℕ) → clock_in p.leaves u.clock ≡ Some c → clock_in p.leaves w.clock ≡ Some d → c ≡ d
  one_clock k a i j u w at other c d first second =
      let cu = (write_at net t k a i u at).clock in
      let cw = (write_at net t k a j w other).clock in
      is.writable.clocks.same k u.clock w.clock c d (of_write a.array i u a.at at) (of_write a.array j w a.at other)
      (ends_at net t p order is u.clock cu.0 c cu.1 first).there (ends_at net t p order is w.clock cw.0 d cw.1 second).there

  -- the condition of a write
  condition_wide : (k : ℕ) → In net.array_order k → (a : IsStateArray net t k) (j : ℕ) (w : ArrayWrite) → slice_get a.array.writes j ≡ Some w
      → (o : Option Guard) → guard_at p.guards k j ≡ o → HasWidth ns 1 (write_condition (held_of p w.condition) o)
  condition_wide k m a j w at None has =
      read_wide net t p order is 1 w.condition (write_at net t k a j w at).addressed.enable (omega arith) (omega arith)
  condition_wide k m a j w at (Some g) has =
      let second = inner_declared net t p order is _ (guard_among net t p order is k m a j w at g has _ (inr (inl refl))) in
      net_wide ns (state_variables net t) g.written 1 (omega arith) second

  written_sound : (k : ℕ) → In net.array_order k → (a : IsStateArray net t k) (j : ℕ) (w : ArrayWrite) → slice_get a.array.writes j ≡ Some w
      → IsWrite v a.name (written net p a.name a.array.width w (guard_at p.guards k j))
  written_sound k m a j w at =
      let write = write_at net t k a j w at in
      let addressed = write.addressed in
      let wide : word_width net.arrays k ≡ a.array.width = width_is net t k a in
      let some = a.some in
      let same = sym (nets_sized net t p order is) in
      record {
        one_array = refl;
        array = state_variable net t k;
        is_array = subst (λ (ks : List Variable). In ks (state_variable net t k)) (sym (arrays_are net t p order is.whole is.table))
            (in_map (state_variable net t) net.array_order k m);
        named = name_is net t k a;
        condition_wide = subst (λ (ss : List SizedNet). HasWidth ss 1 (write_condition (held_of p w.condition) (guard_at p.guards k j))) same
            (condition_wide k m a j w at (guard_at p.guards k j) refl);
        index_sound = subst (λ (ss : List SizedNet). IsOperand ss (atom_at (read_width net w.address) (held_of p w.address))) same
            (read_wide net t p order is (read_width net w.address) w.address addressed.address addressed.has_bits
            (address_narrow net t p order is w.address addressed.address)).operand;
        source_wide = subst (λ (u : ℕ). HasWidth (nets v) u (atom_at a.array.width (held_of p w.given))) (sym wide)
            (subst (λ (ss : List SizedNet). HasWidth ss a.array.width (atom_at a.array.width (held_of p w.given))) same
            (read_wide net t p order is a.array.width w.given write.given some a.whole.narrow));
      }

  pub array_block_sound : (b : AlwaysBlock) → In (array_blocks net t p) b → IsSoundBlock v b
  array_block_sound b m =
      let o = array_block_of b m in
      let f = first_write p o.array.array.writes o.clock o.first in
      let ws = clocked_writes net p o.number o.array.array o.array.name in
      subst (IsSoundBlock v) o.is (
        clock_is_port net t p order is o.clock (write_clock o.number o.array f.0 f.1 f.2 o.clock f.3),
        are_writes v o.array.name ws
            (all_from (IsWrite v o.array.name) ws
            (λ x n.
            let w = write_of net t p o.number o.array x n in
            subst (IsWrite v o.array.name) w.is (written_sound o.number o.among o.array w.place w.write w.at))),
      )

  -- its names are those of a clock, of the array and of nets
  condition_among : (k : ℕ) → In net.array_order k → (a : IsStateArray net t k) (j : ℕ) (w : ArrayWrite) → slice_get a.array.writes j ≡ Some w
      → (o : Option Guard) → guard_at p.guards k j ≡ o → EachIn (atom_names (write_condition (held_of p w.condition) o)) (names_of ns)
  condition_among k m a j w at None has = atom_among net t p order is 1 w.condition (write_at net t k a j w at).addressed.enable
  condition_among k m a j w at (Some g) has =
      let i = guard_among net t p order is k m a j w at g has _ (inr (inl refl)) in
      (in_map (λ (s : SizedNet). s.0) ns (g.written, 1) (inner_among net t p order is _ i), tt)

  write_among : (k : ℕ) → In net.array_order k → (a : IsStateArray net t k) (x : Write) → WriteOf net t p k a x
      → EachIn (write_names x) (block_names net t p order is)
  write_among k m a x o =
      let write = write_at net t k a o.place o.write o.at in
      let all = block_names net t p order is in
      let array : In (variable_names (state_variables net t)) (array_name t k) = in_map (λ (y : Variable). y.name) (state_variables net t) (state_variable net t k) (in_map (state_variable net t) net.array_order k m) in
      let held = λ (xs : List (List ℕ)) (h : EachIn xs (names_of ns)). each_more xs (names_of ns) all (net_among net t p order is) h in
      let condition = atom_names (write_condition (held_of p o.write.condition) (guard_at p.guards k o.place)) in
      let index = atom_names (atom_at (read_width net o.write.address) (held_of p o.write.address)) in
      let source = atom_names (atom_at a.array.width (held_of p o.write.given)) in
      subst (λ (y : Write). EachIn (write_names y) all) o.is (
        subst (λ (n : List ℕ). In all n) (name_is net t k a)
            (in_right (clocks v) (known_names net t p order is) (array_name t k) (in_right (names_of ns) (variable_names (state_variables net t)) (array_name t k) array)),
        each_joined (condition ++ index) source all
            (each_joined condition index all (held condition (condition_among k m a o.place o.write o.at (guard_at p.guards k o.place) refl))
            (held index (atom_among net t p order is (read_width net o.write.address) o.write.address write.addressed.address)))
            (held source (atom_among net t p order is a.array.width o.write.given write.given)),
      )

  pub array_block_among : (b : AlwaysBlock) → In (array_blocks net t p) b → BlockAmong (block_names net t p order is) b
  array_block_among b m =
      let o = array_block_of b m in
      let f = first_write p o.array.array.writes o.clock o.first in
      let ws = clocked_writes net p o.number o.array.array o.array.name in
      let all = block_names net t p order is in
      subst (BlockAmong all) o.is (
        clock_named net t p order is _ (clock_is_port net t p order is o.clock (write_clock o.number o.array f.0 f.1 f.2 o.clock f.3)),
        each_parts write_names ws all
            (all_from (λ (x : Write). EachIn (write_names x) all) ws
            (λ x n. write_among o.number o.among o.array x (write_of net t p o.number o.array x n))),
      )
