-- The assigns of the tree stand in an order, which begins with its inputs and registers.
-- The inner nets of nodes come in the order of the net, each behind all that it reads; what is read of arrays too; the nets of resets and of writes and the outputs behind
-- them read what is known then.
use Rattle.std.proofs.Common.{◌≡◌, ℕ, suc, ◌+◌, List, [], ◌∷◌, ◌++◌, map, flat_map, Bool, true, refl, sym, ap, ◌∙◌, inl, inr, ◌⊎◌, ⊎_elim, subst, append_assoc, append-nil}
use Rattle.std.specs.Prelude.{slice_get, Option, Some, None}
use Rattle.std.specs.List.{AllByRecursion}
use Rattle.std.proofs.lemmas.List.{map-append}
use Rattle.std.proofs.lemmas.Simd.{map-map}
use Rattle.fir_base.specs.Lists.{In, EachIn}
use Rattle.fir_base.proofs.Each.{all_from, all_mapped, each_joined}
use Rattle.fir_base.proofs.Members.{in_left, in_right}
use Rattle.fir_net.specs.declared.reads.Read.{Read}
use Rattle.fir_net.specs.declared.reads.Read.TheVariants as read
use Rattle.fir_net.specs.declared.leaf.Role.{Role}
use Rattle.fir_net.specs.declared.leaf.Role.TheVariants as role
use Rattle.fir_net.specs.declared.leaf.Leaf.{Leaf}
use Rattle.fir_net.specs.declared.net.FlatNet.{FlatNet}
use Rattle.fir_net.specs.working.Counted.{is_register}
use Rattle.fir_net.specs.working.Dependence.{IsOf, Reads}
use Rattle.fir_net.specs.working.IsNet.{CanRead, IsRole}
use Rattle.fir_net_names.specs.declared.name_table.NameTable.{NameTable}
use Rattle.fir_net_names.specs.working.LeafNamed.{name_at}
use Rattle.ver_ast.specs.declared.tree.Assign.{Assign}
use Rattle.ver_ast.specs.Names.{atom_names, rhs_names}
use Rattle.ver_ast.specs.Processes.{Process, assigning, process_reads}
use Rattle.ver_ast.specs.Valid.{ReadsBefore}
use Rattle.ver_build.specs.declared.places.Places.{Places}
use Rattle.ver_build.specs.declared.right_sides.Inner.{Inner}
use Rattle.ver_build.specs.working.Operands.{atom_at}
use Rattle.fir_net.specs.declared.array.Array.{Array}
use Rattle.fir_net.specs.declared.array.ArrayWrite.{ArrayWrite}
use Rattle.ver_build.specs.declared.places.Guard.{Guard}
use Rattle.ver_build.specs.working.ArrayBlocks.{array_write_inners, guarded_write, write_inners}
use Rattle.ver_build.specs.working.Places.{along_writes, guard_at, held_of, read_width}
use Rattle.ver_build.specs.working.Built.{inner_assign, inners, late_inners, leaf_assign, order_inners, read_inners, reset_inners, role_assign}
use Rattle.ver_build.proofs.Lists.{flat_mapped}
use Rattle.ver_build.proofs.Names.{all_zipped}
use Rattle.ver_build.proofs.Premises.{Premises, Whole}
use Rattle.ver_build.proofs.OrderedLeaves.{ordered_names, ordered_leaves, ordered_whole, ordered_picked}
use Rattle.ver_build.proofs.Parts.{assigns_of, output_assigns}
use Rattle.ver_build.proofs.LeafKinds.{is_input, is_reading, picked}
use Rattle.ver_build.proofs.Standing.{IsKnown, ReadsInTurn}
use Rattle.ver_build.proofs.OperandNames.{atom_known}
use Rattle.ver_build.proofs.Words.{net_of}
use Rattle.ver_build.proofs.ReadsStand.{word_reset, read_of}
use Rattle.ver_build.proofs.TextOrder.{Within}
use Rattle.ver_build.proofs.Placed.{has_own, in_turn, inner_process, known_first, leaf_known, more_held, given_at, in_order}
use Rattle.ver_build.proofs.ArraySides.{guard_reads}
use Rattle.ver_build.proofs.StateArrays.{array_at, write_at}

-- each assign reads only what is known before it
abbrev pub AssignsBefore : List (List ℕ) → List Assign → Type 0
AssignsBefore known xs = ReadsBefore known (map assigning xs)

input_or_register : (r : Role) → has_own r ≡ true → (is_input r ≡ true) ⊎ (is_register r ≡ true)
input_or_register role.Input e = inl refl
input_or_register (role.Register r) e = inr refl
input_or_register _ e = absurd (cc)

-- nets that read in turn, and others behind them
turn_joined : (known : List (List ℕ)) (xs ys : List Inner) → ReadsInTurn known xs
    → ((after : List (List ℕ)) → Within known after → ReadsInTurn after ys) → ReadsInTurn known (xs ++ ys)
turn_joined known [] ys turn h = h known (λ x m. m)
turn_joined known (i ∷ xs) ys turn h = (turn.0, turn_joined (i.name ∷ known) xs ys turn.1 (λ after f. h after (λ x m. f x (inr m))))

module _ (net : FlatNet) (t : NameTable) (p : Places) (order : List Read) (is : Premises net t p order) where
  -- what an operand reads
  pub atom_reads : (known : List (List ℕ)) → ((r : Read) → IsOf net r → IsKnown known (held_of p r)) → (r : Read) → IsOf net r → (w : ℕ)
      → EachIn (atom_names (atom_at w (held_of p r)) ++ []) known
  atom_reads known all r of w = each_joined (atom_names (atom_at w (held_of p r))) [] known (atom_known known w (held_of p r) (all r of)) tt

  role_reads : (known : List (List ℕ)) → ((r : Read) → IsOf net r → IsKnown known (held_of p r)) → (s : Bool) (r : Role) (w : ℕ) (n : Option (List ℕ))
      → IsRole net.leaves net.nodes s w r → AllByRecursion (λ (a : Assign). EachIn (rhs_names a.rhs) known) (role_assign p r w n)
  role_reads known all s (role.Output r) w None can = tt
  role_reads known all s (role.Output r) w (Some name) can = (atom_reads known all r (read_of net r can.can) w, tt)
  role_reads known all s _ w n can = tt

  -- outputs read what is known in the end
  pub outputs_known : (known : List (List ℕ)) → ((r : Read) → IsOf net r → IsKnown known (held_of p r))
      → AllByRecursion (λ q. EachIn (process_reads q) known) (map assigning (output_assigns net t p order))
  outputs_known known all =
      all_mapped (λ q. EachIn (process_reads q) known) assigning (output_assigns net t p order)
      (all_zipped (Whole net) (λ (a : Assign). EachIn (rhs_names a.rhs) known) (leaf_assign p)
      (λ l n h. role_reads known all l.signed l.role l.width n h.1.driven) (ordered_names net t) (ordered_leaves net) (ordered_whole net t is.whole is.table))

  resets_known : (known : List (List ℕ)) → ((r : Read) → IsOf net r → IsKnown known (held_of p r))
      → AllByRecursion (λ q. EachIn (process_reads q) known) (map inner_process (reset_inners net p))
  resets_known known all =
      all_mapped (λ q. EachIn (process_reads q) known) inner_process (reset_inners net p)
      (all_from (λ (i : Inner). EachIn (rhs_names i.rhs) known) (reset_inners net p)
      (λ i m.
      let o = net_of net t p is.whole is.table is.pipes i m in
      let can = (word_reset net t p order is o.number o.word o.reset o.has).condition in
      subst (λ (j : Inner). EachIn (rhs_names j.rhs) known) (sym o.is) (atom_reads known all o.reset.condition (read_of net o.reset.condition can) 1)))

  -- the names from which all values begin
  abbrev pub sources : List (List ℕ)
  sources = picked is_input (ordered_names net t) (ordered_leaves net) ++ picked is_register (ordered_names net t) (ordered_leaves net)

  source_in : (k : ℕ) (l : Leaf) → slice_get net.leaves k ≡ Some l → has_own l.role ≡ true → (name : List ℕ) → name_at t.leaves k ≡ Some name
      → In sources name
  source_in k l at kind name named =
      let ins = picked is_input (ordered_names net t) (ordered_leaves net) in
      let regs = picked is_register (ordered_names net t) (ordered_leaves net) in
      ⊎_elim
      (λ (i : is_input l.role ≡ true). in_left ins regs name (ordered_picked net t is.whole is.table is_input k l name at i named))
      (λ (r : is_register l.role ≡ true). in_right ins regs name (ordered_picked net t is.whole is.table is_register k l name at r named))
      (input_or_register l.role kind)

  -- the nets of writes read what is known then, and each other
  abbrev KnowsAll : List (List ℕ) → Type 0
  KnowsAll known = (r : Read) → IsOf net r → IsKnown known (held_of p r)

  more_all : (known after : List (List ℕ)) → Within known after → KnowsAll known → KnowsAll after
  more_all known after f all = λ r of. more_held known after (held_of p r) f (all r of)

  guarded_turn : (known : List (List ℕ)) → KnowsAll known → (words : ℕ) (w : ArrayWrite) → CanRead net.leaves net.nodes w.address
      → CanRead net.leaves net.nodes w.condition → (o : Option Guard) → ReadsInTurn known (guarded_write net p words w o)
  guarded_turn known all words w at under None = tt
  guarded_turn known all words w at under (Some g) =
      guard_reads (read_width net w.address) (held_of p w.address) (held_of p w.condition) known (all w.address (read_of net w.address at))
      (all w.condition (read_of net w.condition under)) words g

  along_turn : (known : List (List ℕ)) → KnowsAll known → (k words n : ℕ) (ws : List ArrayWrite)
      → ((j : ℕ) (w : ArrayWrite) → slice_get ws j ≡ Some w → CanRead net.leaves net.nodes w.address × CanRead net.leaves net.nodes w.condition)
      → ReadsInTurn known (along_writes (λ j w. guarded_write net p words w (guard_at p.guards k j)) n ws)
  along_turn known all k words n [] h = tt
  along_turn known all k words n (w ∷ ws) h =
      let first = h 0 w refl in
      turn_joined known (guarded_write net p words w (guard_at p.guards k n))
      (along_writes (λ j w. guarded_write net p words w (guard_at p.guards k j)) (n + 1) ws)
      (guarded_turn known all words w first.0 first.1 (guard_at p.guards k n))
      (λ after f. along_turn after (more_all known after f all) k words (n + 1) ws (λ j v at. h (suc j) v at))

  arrays_turn : (known : List (List ℕ)) → KnowsAll known → (ks : List ℕ) → ((k : ℕ) → In ks k → In net.array_order k)
      → ReadsInTurn known (flat_map (λ k. array_write_inners net p k (slice_get net.arrays k)) ks)
  arrays_turn known all [] h = tt
  arrays_turn known all (k ∷ ks) h =
      let a = array_at net t is.whole is.table k (h k (inl refl)) in
      turn_joined known (array_write_inners net p k (slice_get net.arrays k))
      (flat_map (λ k. array_write_inners net p k (slice_get net.arrays k)) ks)
      (subst (λ (o : Option Array). ReadsInTurn known (array_write_inners net p k o)) (sym a.at)
      (along_turn known all k a.array.words 0 a.array.writes
      (λ j w at. let addressed = (write_at net t k a j w at).addressed in (addressed.address, addressed.enable))))
      (λ after f. arrays_turn after (more_all known after f all) ks (λ j m. h j (inr m)))

  outputs_after : (known : List (List ℕ)) → KnowsAll known → ReadsBefore known (map assigning (output_assigns net t p order))
  outputs_after known all =
      subst (ReadsBefore known) (append-nil (map assigning (output_assigns net t p order)))
      (known_first known (map assigning (output_assigns net t p order)) [] (outputs_known known all) (λ after f. tt))

  -- the nets of writes, and then the outputs
  pub writes_after : (known : List (List ℕ)) → ((r : Read) → IsOf net r → IsKnown known (held_of p r))
      → ReadsBefore known (map inner_process (write_inners net p) ++ map assigning (output_assigns net t p order))
  writes_after known all =
      in_turn known (write_inners net p) (map assigning (output_assigns net t p order)) (arrays_turn known all net.array_order (λ k m. m))
      (λ after f g. outputs_after after (more_all known after f all))

  abbrev nothing : ℕ → List Process
  nothing k = []

  abbrev resets : List Process
  resets = map inner_process (reset_inners net p)

  abbrev ends : List Process
  ends = map inner_process (write_inners net p) ++ map assigning (output_assigns net t p order)

  abbrev behind : List Process
  behind = resets ++ ends

  leaf_step : (known : List (List ℕ)) (k : ℕ) (l : Leaf) (more : List Process) → slice_get net.leaves k ≡ Some l → Within sources known
      → (is_reading l.role ≡ true → IsKnown known (held_of p (read.Leaf k)))
      → ((w : Read) → Reads net (read.Leaf k) w → IsKnown known (held_of p w))
      → ((after : List (List ℕ)) → Within known after → IsKnown after (held_of p (read.Leaf k)) → ReadsBefore after more)
      → ReadsBefore known (nothing k ++ more)
  leaf_step known k l more at start has below go =
      go known (λ x m. m) (leaf_known net t p order is known k l at (λ kind name named. start name (source_in k l at kind name named)) has below)

  abbrev given : Read → List Process
  given = given_at net t p order is sources nothing leaf_step

  given_is : (r : Read) → map inner_process (read_inners net t p r) ≡ given r
  given_is (read.Leaf k) = sym (append-nil (map inner_process (read_inners net t p (read.Leaf k))))
  given_is (read.Node k) = refl

  behind_known : (known : List (List ℕ)) → Within sources known → ((r : Read) → IsOf net r → IsKnown known (held_of p r)) → ReadsBefore known behind
  behind_known known start all =
      known_first known resets ends (resets_known known all) (λ after f. writes_after after (more_all known after f all))

  late_in_text : map inner_process (late_inners net p) ≡ resets ++ map inner_process (write_inners net p)
  late_in_text = map-append inner_process (reset_inners net p) (write_inners net p)

  in_text : map assigning (assigns_of net t p order) ≡ flat_map given order ++ behind
  in_text =
      let outs = map assigning (output_assigns net t p order) in
      let first = flat_map given order in
      map-append assigning (map inner_assign (inners net t p order)) (output_assigns net t p order)
      ∙ ap (λ (qs : List Process). qs ++ outs)
      (map-map assigning inner_assign (inners net t p order)
      ∙ map-append inner_process (order_inners net t p order) (late_inners net p)
      ∙ ap (λ (qs : List Process). qs ++ map inner_process (late_inners net p)) (flat_mapped inner_process (read_inners net t p) given given_is order)
      ∙ ap (λ (qs : List Process). first ++ qs) late_in_text)
      ∙ append_assoc first (resets ++ map inner_process (write_inners net p)) outs
      ∙ ap (λ (qs : List Process). first ++ qs) (append_assoc resets (map inner_process (write_inners net p)) outs)

  pub assigns_ordered : AssignsBefore sources (assigns_of net t p order)
  assigns_ordered =
      subst (ReadsBefore sources) (sym in_text) (in_order net t p order is sources nothing leaf_step behind behind_known)
