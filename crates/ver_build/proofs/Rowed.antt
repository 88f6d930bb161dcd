-- The ports and registers of the tree are the rows and words of the net, and their names are those for the names of rows and words.
-- A leaf of no bits has no row, no word and no name.
use Rattle.std.proofs.Common.{◌≡◌, ℕ, zero, suc, ◌+◌, ◌≤◌, List, [], ◌∷◌, ◌++◌, Bool, true, false, not, ◌&&◌, if◌then◌else◌, length, nat_eq, refl, sym, ap, ◌∙◌, inl, inr, subst, arith}
use Rattle.std.specs.Prelude.{map, flat_map, slice_get, Option, Some, None}
use Rattle.std.proofs.lemmas.Bool.{and_parts}
use Rattle.std.proofs.lemmas.List.{length-map, map-append}
use Rattle.std.proofs.lemmas.Simd.{map-map}
use Rattle.fir_base.specs.Lists.{In}
use Rattle.fir_base.specs.declared.direction.Direction.{Direction}
use Rattle.fir_base.proofs.Elements.{all_there, number_of}
use Rattle.ver_words.specs.declared.signal.Signal.TheVariants.{Bits}
use Rattle.fir_net.specs.declared.array.Array.{Array}
use Rattle.fir_net.specs.declared.leaf.Role.{Role}
use Rattle.fir_net.specs.declared.leaf.Role.TheVariants as role
use Rattle.fir_net.specs.declared.leaf.Leaf.{Leaf}
use Rattle.fir_net.specs.declared.node.Node.{Node}
use Rattle.fir_net.specs.declared.net.FlatNet.{FlatNet}
use Rattle.fir_net.specs.Paths.{base_name}
use Rattle.fir_net.specs.Rows.{Row, row, Word, word, array_names, row_names, row_kinds, word_names, word_widths, PortKind}
use Rattle.fir_net.specs.working.IsNet.{is_port, IsLeaf, IsRole, IsNet, is_state}
use Rattle.fir_net.specs.working.Rows.{array_row, role_row, leaf_word, net_arrays, net_rows, net_words}
use Rattle.fir_net.specs.working.Values.{leaf_width}
use Rattle.fir_net_names.specs.declared.name_table.NameTable.{NameTable}
use Rattle.fir_net_names.specs.Names.{AreNamed}
use Rattle.fir_net_names.specs.working.IsTable.{IsTable}
use Rattle.fir_net_names.specs.working.LeafNamed.{somes, port_number, named_ports, named_leaves, array_base, base_at, name_at}
use Rattle.fir_net_names.proofs.NumbersNamed.{number_given, number_lacking}
use Rattle.ver_ast.specs.declared.tree.Port.{Port}
use Rattle.ver_build.specs.Ports.{port_signal}
use Rattle.ver_build.specs.working.Built.{leaf_port, port_of}
use Rattle.ver_build.proofs.Choices.{no_bits_none, some_bits_one}
use Rattle.ver_build.proofs.Names.{NameList, Each, zipped, map_zipped, same_zipped}
use Rattle.ver_build.proofs.Premises.{RoleNamed, role_named, some_bits, no_bits, bits_named, Whole}
use Rattle.ver_build.proofs.TableLeaves.{word_leaf}
use Rattle.ver_build.proofs.OrderedLeaves.{ordered_all, ordered_names}

no_row : (base : List ℕ) (d : Direction) (w : ℕ) → w ≡ 0 → row base d w ≡ []
no_row base d w e = no_bits_none (record { name = base; direction = d; signal = Bits w }) w e

one_row : (base : List ℕ) (d : Direction) (w : ℕ) → 1 ≤ w → row base d w ≡ record { name = base; direction = d; signal = Bits w } ∷ []
one_row base d w h = some_bits_one (record { name = base; direction = d; signal = Bits w }) w h

one_word : (base : List ℕ) (w : ℕ) → 1 ≤ w → word base w ≡ record { name = base; width = w } ∷ []
one_word base w h = some_bits_one (record { name = base; width = w }) w h

abbrev pub kind : Port → PortKind
kind p = (p.direction, port_signal p)

abbrev rows : Leaf → List Row
rows l = role_row l.role (base_name l.path) l.width

-- what is made of each leaf, where names stand beside
flat_along : {A B : Type 0} → (P : Leaf → Option (List ℕ) → Type 0) (g : A → B) (f : Leaf → List A) (names : NameList) (ls : List Leaf)
    → Each P names ls → zipped (λ l n. map g (f l)) names ls ≡ map g (flat_map f ls)
unfolding zipped
flat_along P g f [] [] h = refl
flat_along P g f [] (l ∷ ls) h = absurd h
flat_along P g f (n ∷ names) [] h = absurd h
flat_along P g f (n ∷ names) (l ∷ ls) h = ap (λ xs. map g (f l) ++ xs) (flat_along P g f names ls h.1) ∙ sym (map-append g (f l) (flat_map f ls))

module _ (net : FlatNet) where
  abbrev Driven : Bool → ℕ → Role → Type 0
  Driven s w r = IsRole net.leaves net.nodes s w r

  -- ports that have bits have a row, and others none
  some_kind : (r : Role) (base : List ℕ) (w : ℕ) (name : List ℕ) → RoleNamed r w (Some name)
      → map kind (port_of r w name) ≡ row_kinds (role_row r base w)
  some_kind role.Input base w name h = rw (one_row base _ w (bits_named role.Input w (Some name) refl h)) refl
  some_kind role.Clock base w name h = refl
  some_kind (role.Output r) base w name h = rw (one_row base _ w (bits_named (role.Output r) w (Some name) refl h)) refl
  some_kind (role.ClockOutput c) base w name h = refl
  some_kind _ base w name h = refl

  no_kind : (s : Bool) (r : Role) (base : List ℕ) (w : ℕ) → RoleNamed r w None → Driven s w r → [] ≡ row_kinds (role_row r base w)
  no_kind s role.Input base w h d = ap row_kinds (sym (no_row base _ w (bits_named role.Input w None refl h)))
  no_kind s role.Clock base w h d = let none = bits_named role.Clock w None refl h in absurd (omega arith)
  no_kind s (role.Output r) base w h d = ap row_kinds (sym (no_row base _ w (bits_named (role.Output r) w None refl h)))
  no_kind s (role.ClockOutput c) base w h d = let none = bits_named (role.ClockOutput c) w None refl h in absurd (omega (arith, d.0))
  no_kind s _ base w h d = refl

  leaf_kinds : (l : Leaf) (n : Option (List ℕ)) → Whole net l n → map kind (leaf_port l n) ≡ row_kinds (rows l)
  leaf_kinds l None h = no_kind l.signed l.role (base_name l.path) l.width (role_named l None h.0) h.1.driven
  leaf_kinds l (Some name) h = some_kind l.role (base_name l.path) l.width name (role_named l (Some name) h.0)

  pub kinds_along : (names : NameList) (ls : List Leaf) → Each (Whole net) names ls
      → map kind (zipped leaf_port names ls) ≡ row_kinds (flat_map rows ls)
  kinds_along names ls h =
      map_zipped kind leaf_port (λ l n. map kind (leaf_port l n)) (λ l n. refl) names ls
      ∙ same_zipped (Whole net) (λ l n. map kind (leaf_port l n)) (λ l n. row_kinds (rows l)) leaf_kinds names ls h
      ∙ flat_along (Whole net) (λ (r : Row). (r.direction, r.signal)) rows names ls h

-- the rows of a leaf have its base as their name, where it is a port that has bits
role_names : (leaves : List Leaf) (nodes : List Node) (s : Bool) (r : Role) (base : List ℕ) (w : ℕ) → IsRole leaves nodes s w r → (b : Bool)
    → (is_port r && not (nat_eq w 0)) ≡ b → row_names (role_row r base w) ≡ (if b then (base ∷ []) else [])
role_names leaves nodes s role.Input base w d true e = ap row_names (one_row base _ w (some_bits w e))
role_names leaves nodes s role.Input base w d false e = ap row_names (no_row base _ w (no_bits w e))
role_names leaves nodes s role.Clock base w d true e = refl
role_names leaves nodes s role.Clock base w d false e = let none = no_bits w e in absurd (omega arith)
role_names leaves nodes s (role.Output r) base w d true e = ap row_names (one_row base _ w (some_bits w e))
role_names leaves nodes s (role.Output r) base w d false e = ap row_names (no_row base _ w (no_bits w e))
role_names leaves nodes s (role.ClockOutput c) base w d true e = refl
role_names leaves nodes s (role.ClockOutput c) base w d false e = let none = no_bits w e in absurd (omega (arith, d.0))
role_names leaves nodes s _ base w d true e = absurd (cc)
role_names leaves nodes s _ base w d false e = refl

-- the words of numbers
abbrev words : List Leaf → List ℕ → List Word
words leaves ks = flat_map (λ k. leaf_word (slice_get leaves k)) ks

module _ (net : FlatNet) (whole : IsNet net) where
  port_based : (k : ℕ) (l : Leaf) → slice_get net.leaves k ≡ Some l → row_names (rows l) ≡ map (base_at net) (port_number l.role l.width k)
  port_based k l at = by (is_port l.role && not (nat_eq l.width 0)) refl
    where
      by : (b : Bool) → (is_port l.role && not (nat_eq l.width 0)) ≡ b → row_names (rows l) ≡ map (base_at net) (port_number l.role l.width k)
      by true e =
          let is = role_names net.leaves net.nodes l.signed l.role (base_name l.path) l.width (all_there (IsLeaf net.leaves net.nodes) net.leaves whole.leaves k l at).driven true e in
          let given : port_number l.role l.width k ≡ k ∷ [] = number_given l.role l.width k e in
          rw (given, at) is
      by false e =
          let is = role_names net.leaves net.nodes l.signed l.role (base_name l.path) l.width (all_there (IsLeaf net.leaves net.nodes) net.leaves whole.leaves k l at).driven false e in
          let lacking : port_number l.role l.width k ≡ [] = number_lacking l.role l.width k e in
          rw lacking is

  ports_based : (j : ℕ) (ls : List Leaf) → ((i : ℕ) (l : Leaf) → slice_get ls i ≡ Some l → slice_get net.leaves (j + i) ≡ Some l)
      → row_names (flat_map rows ls) ≡ map (base_at net) (named_ports j ls)
  ports_based j [] h = refl
  ports_based j (l ∷ ls) h =
      let start : j + 0 ≡ j = omega arith in
      let at : slice_get net.leaves j ≡ Some l = rw start at (h zero l refl) in
      let rest = ports_based (j + 1) ls (λ i m e. let place : j + suc i ≡ j + 1 + i = omega arith in rw place at (h (suc i) m e)) in
      map-append (λ (r : Row). r.name) (rows l) (flat_map rows ls)
      ∙ ap (λ (ns : List (List ℕ)). ns ++ row_names (flat_map rows ls)) (port_based j l at)
      ∙ ap (λ (ns : List (List ℕ)). map (base_at net) (port_number l.role l.width j) ++ ns) rest
      ∙ sym (map-append (base_at net) (port_number l.role l.width j) (named_ports (j + 1) ls))

  -- each word of the state is one
  word_is : (k : ℕ) → In net.state k → leaf_word (slice_get net.leaves k) ≡ record { name = base_at net k; width = leaf_width net.leaves k } ∷ []
  word_is k m =
      let word = word_leaf net whole k m in
      let at : slice_get net.leaves k ≡ Some word.0 = word.1 in
      let bits = (and_parts (is_state word.0.role) (not (nat_eq word.0.width 0)) word.2).1 in
      rw at (one_word (base_name word.0.path) word.0.width (some_bits word.0.width bits))

  words_are : (ks : List ℕ) → ((k : ℕ) → In ks k → In net.state k)
      → words net.leaves ks ≡ map (λ (k : ℕ). record { name = base_at net k; width = leaf_width net.leaves k }) ks
  words_are [] h = refl
  words_are (k ∷ ks) h =
      let here = word_is k (h k (inl refl)) in
      let rest = words_are ks (λ j m. h j (inr m)) in
      ap (λ (ws : List Word). ws ++ words net.leaves ks) here
      ∙ ap (λ (ws : List Word). record { name = base_at net k; width = leaf_width net.leaves k } ∷ ws) rest

  abbrev own_word : ℕ → Word
  own_word k = record { name = base_at net k; width = leaf_width net.leaves k }

  pub words_wide : word_widths (net_words net) ≡ map (leaf_width net.leaves) net.state
  words_wide = ap word_widths (words_are net.state (λ k m. m)) ∙ map-map (λ (w : Word). w.width) own_word net.state

  words_based : word_names (net_words net) ≡ map (base_at net) net.state
  words_based = ap word_names (words_are net.state (λ k m. m)) ∙ map-map (λ (w : Word). w.name) own_word net.state

  rows_based : row_names (net_rows net) ++ word_names (net_words net) ≡ map (base_at net) (named_leaves net)
  rows_based =
      let ports : row_names (net_rows net) ≡ map (base_at net) (named_ports 0 net.leaves) =
      ports_based 0 net.leaves (λ i l at. let start : 0 + i ≡ i = omega arith in rw start at) in
      ap (λ (ns : List (List ℕ)). ns ++ word_names (net_words net)) ports
      ∙ ap (λ (ns : List (List ℕ)). map (base_at net) (named_ports 0 net.leaves) ++ ns) words_based
      ∙ sym (map-append (base_at net) (named_ports 0 net.leaves) net.state)

  -- an array of the order is there
  array_there : (k : ℕ) → In net.array_order k → (a : Array) × (slice_get net.arrays k ≡ Some a)
  array_there k m = let place = number_of net.array_order k m in let a = whole.array_state.only place.0 k place.1 in (a.0, a.1)

  arrays_of : (ks : List ℕ) → ((k : ℕ) → In ks k → In net.array_order k)
      → array_names (flat_map (λ k. array_row (slice_get net.arrays k)) ks) ≡ map (array_base net) ks
  arrays_of [] h = refl
  arrays_of (k ∷ ks) h =
      let a = array_there k (h k (inl refl)) in
      rw a.1 (ap (λ (ns : List (List ℕ)). base_name a.0.path ∷ ns) (arrays_of ks (λ j m. h j (inr m))))

  arrays_based : array_names (net_arrays net) ≡ map (array_base net) net.array_order
  arrays_based = arrays_of net.array_order (λ k m. m)

-- the names of ports and then of words and of arrays are those for the names of rows, words and arrays
pub named_for_rows : (net : FlatNet) (t : NameTable) → IsNet net → IsTable net t
    → AreNamed [] (row_names (net_rows net) ++ word_names (net_words net) ++ array_names (net_arrays net))
    (somes (map (name_at t.leaves) (named_leaves net)) ++ somes (map (name_at t.arrays) net.array_order))
named_for_rows net t whole table =
    subst (λ (bases : List (List ℕ)). AreNamed [] bases (somes (map (name_at t.leaves) (named_leaves net)) ++ somes (map (name_at t.arrays) net.array_order)))
    (sym (ap (λ (ns : List (List ℕ)). ns ++ array_names (net_arrays net)) (rows_based net whole)
    ∙ ap (λ (ns : List (List ℕ)). map (base_at net) (named_leaves net) ++ ns) (arrays_based net whole)))
    table.named

pub ordered_for_rows : (net : FlatNet) (t : NameTable) → IsNet net → IsTable net t
    → AreNamed [] (row_names (net_rows net) ++ word_names (net_words net) ++ array_names (net_arrays net)) (ordered_all net t)
unfolding ordered_names
ordered_for_rows net t whole table = named_for_rows net t whole table
