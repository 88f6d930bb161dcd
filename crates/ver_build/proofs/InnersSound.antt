-- Each inner net is a net of its width, and its right side is sound beside it.
use Rattle.std.proofs.Common.{◌≡◌, ℕ, ◌^◌, ◌<◌, ◌≤◌, List, map, true, not, refl, sym, ap, ◌∙◌, subst, arith}
use Rattle.std.specs.Prelude.{slice_get, Some}
use Rattle.std.specs.List.{AllByRecursion}
use Rattle.fir_base.specs.Lists.{In}
use Rattle.fir_base.proofs.Each.{all_at}
use Rattle.fir_base.proofs.Members.{in_map}
use Rattle.fir_base.proofs.Tests.{both}
use Rattle.std.specs.Option.{is_some}
use Rattle.std.proofs.lemmas.Bool.{not-true}
use Rattle.fir_net.specs.declared.array.ArrayWrite.{ArrayWrite}
use Rattle.fir_net.specs.declared.reads.Read.{Read}
use Rattle.fir_net.specs.working.Arrays.{words_of}
use Rattle.fir_net.specs.declared.node.Node.{Node}
use Rattle.fir_net.specs.declared.node.Node.TheVariants as node
use Rattle.fir_net.specs.declared.net.FlatNet.{FlatNet}
use Rattle.fir_net_names.specs.declared.name_table.NameTable.{NameTable}
use Rattle.fir_net.specs.working.IsNet.{node_type, read_type, IsNode}
use Rattle.ver_build.specs.declared.places.Places.{Places}
use Rattle.ver_build.specs.declared.right_sides.Inner.{Inner}
use Rattle.ver_build.specs.working.Places.{clock_in, guard_at, held_of, needs_guard, node_at, read_width}
use Rattle.ver_build.specs.working.Built.{inners, node_inners}
use Rattle.ver_build.specs.working.ArrayTexts.{always_within, guard_inners}
use Rattle.ver_build.specs.declared.places.Guard.{Guard}
use Rattle.ver_build.proofs.Premises.{Premises}
use Rattle.ver_build.proofs.Nets.{sizes}
use Rattle.ver_build.proofs.Standing.{DeclaresInners, IsSoundAmong, IsSoundInner, sound_among}
use Rattle.ver_build.proofs.NodeMeaning.{operation_sound, choice_sound}
use Rattle.ver_build.proofs.NodeNets.{IsNetted}
use Rattle.ver_build.proofs.Sizes.{IsSized, GuardOf, InnerKind, of_node, of_reading, of_reset, of_guard, all_declared, guard_among, inner_kind, inner_among, inner_declared, node_declared, reading_among}
use Rattle.ver_build.proofs.Words.{NetOf}
use Rattle.ver_build.proofs.OperandAtoms.{atom_fits}
use Rattle.ver_build.proofs.ReadsStand.{address_narrow, leaf_at, read_addressed, read_wide, whole_at, word_reset, read_stands, reads_stand}
use Rattle.ver_build.proofs.ReadingNets.{IsRead, own_reading}
use Rattle.ver_build.proofs.StateArrays.{IsStateArray, array_name, array_read, state_variable, state_variables, write_at}
use Rattle.ver_build.proofs.ArraySides.{guard_sound, past_end, reading_sound}

module _ (net : FlatNet) (t : NameTable) (p : Places) (order : List Read) (is : Premises net t p order) where
  sound_by : (n : Node) (helpers : List (List ℕ)) (name : List ℕ) → IsNode net.leaves net.nodes n → 1 ≤ (node_type n).width
      → DeclaresInners (sizes net t p order) (node_inners p n helpers name)
      → AllByRecursion (IsSoundInner (sizes net t p order)) (node_inners p n helpers name)
  sound_by (node.Literal v) helpers name whole some declared = tt
  sound_by (node.Operation o) helpers name whole some declared =
      operation_sound o.op o.integers (map (held_of p) o.reads) helpers name (sizes net t p order) (map (read_type net.leaves net.nodes) o.reads)
      (node_type (node.Operation o)) whole.has_type some
      (reads_stand net t p order is o.reads whole.reads) declared
  sound_by (node.Mux m) helpers name whole some declared =
      choice_sound (map (held_of p) m.reads) name (sizes net t p order) (map (read_type net.leaves net.nodes) m.reads)
      (node_type (node.Mux m)) whole.has_type some
      (reads_stand net t p order is m.reads whole.reads)

  pub node_sound : (k : ℕ) (n : Node) (h : IsNetted p n (node_at p.nodes k)) → slice_get net.nodes k ≡ Some n
      → AllByRecursion (IsSoundInner (sizes net t p order)) (node_inners p n (node_at p.nodes k).helpers h.name)
  node_sound k n h at =
      sound_by n (node_at p.nodes k).helpers h.name (whole_at net t p order is k n at) h.some (node_declared net t p order is k n h at)

  -- the condition of a reset at one bit
  reset_sound : (i : Inner) → NetOf net t p i → IsSoundInner (sizes net t p order) i
  reset_sound i o =
      let can = (word_reset net t p order is o.number o.word o.reset o.has).condition in
      let wide = atom_fits (sizes net t p order) 1 (held_of p o.reset.condition) (read_stands net t p order is o.reset.condition can).stands (omega arith) (omega arith) in
      subst (IsSoundInner (sizes net t p order)) (sym o.is)
      (record { side = record { operands = (wide.operand, tt); widths = wide.wide }; some = omega arith; narrow = omega arith })

  -- what is read of an array
  read_sound : (k : ℕ) (h : IsRead net p k) → AllByRecursion (IsSoundAmong (sizes net t p order) (state_variables net t)) (own_reading net t p k h)
  read_sound k h =
      let addressed = read_addressed net t p order is k h in
      let a = array_read net is.whole k h.leaf h.read h.at h.reads h.netted.some in
      let narrow = address_narrow net t p order is h.read.address addressed.address in
      reading_sound (sizes net t p order) (state_variables net t) (read_width net h.read.address) (held_of p h.read.address) (held_of p h.read.enable)
      addressed.has_bits narrow
      (read_wide net t p order is (read_width net h.read.address) h.read.address addressed.address addressed.has_bits narrow)
      (read_wide net t p order is 1 h.read.enable addressed.enable (omega arith) (omega arith))
      (array_name t h.read.array) (words_of net.arrays h.read.array) h.leaf.width (node_at p.readings k).helpers h.netted.name
      (state_variable net t h.read.array) (in_map (state_variable net t) net.array_order h.read.array a.among) refl a.wide h.netted.some
      (leaf_at net t p order is k h.leaf h.at).narrow
      (all_declared net t p order is (own_reading net t p k h) (reading_among net t p order is k h))

  -- an address that has a guard may be past the end
  pub guard_less : (k : ℕ) → In net.array_order k → (a : IsStateArray net t k) (j : ℕ) (w : ArrayWrite) → slice_get a.array.writes j ≡ Some w
      → (g : Guard) → guard_at p.guards k j ≡ Some g → a.array.words < 2 ^ read_width net w.address
  guard_less k m a j w at g has =
      let always = always_within (read_width net w.address) a.array.words in
      let needs : needs_guard net p.leaves a.array.words w ≡ true = sym (is.places.guards.each k a.array j w m a.at at) ∙ ap is_some has in
      past_end (2 ^ read_width net w.address) a.array.words (not-true always (both (is_some (clock_in p.leaves w.clock)) (not always) needs).1)

  write_sound : (i : Inner) (o : GuardOf net t p i) → IsSoundAmong (sizes net t p order) (state_variables net t) i
  write_sound i o =
      let w = o.write in
      let addressed = (write_at net t o.number o.array o.place w o.at).addressed in
      let narrow = address_narrow net t p order is w.address addressed.address in
      let xs = guard_inners o.array.array.words (read_width net w.address) (held_of p w.address) (held_of p w.condition) o.guard in
      all_at (IsSoundAmong (sizes net t p order) (state_variables net t)) xs
      (guard_sound (sizes net t p order) (state_variables net t) (read_width net w.address) (held_of p w.address) (held_of p w.condition)
      addressed.has_bits narrow
      (read_wide net t p order is (read_width net w.address) w.address addressed.address addressed.has_bits narrow)
      (read_wide net t p order is 1 w.condition addressed.enable (omega arith) (omega arith))
      o.array.array.words o.guard (guard_less o.number o.among o.array o.place w o.at o.guard o.has)
      (all_declared net t p order is xs (guard_among net t p order is o.number o.among o.array o.place w o.at o.guard o.has)))
      i o.inside

  pub inner_sound : (i : Inner) → In (inners net t p order) i → IsSoundAmong (sizes net t p order) (state_variables net t) i
  inner_sound i m = by (inner_kind net t p order is i m)
    where
      by : InnerKind net t p i → IsSoundAmong (sizes net t p order) (state_variables net t) i
      by (of_node o) =
          sound_among (sizes net t p order) (state_variables net t) i
          (all_at (IsSoundInner (sizes net t p order)) (node_inners p o.node (node_at p.nodes o.number).helpers o.netted.name)
          (node_sound o.number o.node o.netted o.at) i o.inside)
      by (of_reading o) =
          all_at (IsSoundAmong (sizes net t p order) (state_variables net t)) (own_reading net t p o.number o.is) (read_sound o.number o.is) i o.inside
      by (of_reset o) = sound_among (sizes net t p order) (state_variables net t) i (reset_sound i o)
      by (of_guard o) = write_sound i o

  pub inner_size : (i : Inner) → In (inners net t p order) i → IsSized (sizes net t p order) i.name i.width
  inner_size i m =
      let sound = inner_sound i m in
      record { one = sound.some; narrow = sound.narrow; among = inner_among net t p order is i m; wide = inner_declared net t p order is i m }
