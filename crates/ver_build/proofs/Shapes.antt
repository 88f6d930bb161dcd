-- The tree of a net has its shape: the widths of the inputs and registers with bits in order, and as many clocks.
-- A leaf that is numbered from the front has the width that stands in its place.
use Rattle.std.proofs.Common.{◌≡◌, ℕ, ◌+◌, List, [], ◌∷◌, ◌++◌, Bool, true, false, length, refl, sym, ap, ◌∙◌, arith, length-append}
use Rattle.std.specs.Prelude.{map, Option, Some, None, nat_eq, if◌then◌else◌}
use Rattle.std.proofs.Math.Numerals.{add-one}
use Rattle.std.proofs.lemmas.List.{map-append}
use Rattle.fir_net.specs.declared.reads.Read.{Read}
use Rattle.fir_net.specs.declared.leaf.Role.{Role}
use Rattle.fir_net.specs.declared.leaf.Role.TheVariants as role
use Rattle.fir_net.specs.declared.leaf.Leaf.{Leaf}
use Rattle.fir_net.specs.declared.net.FlatNet.{FlatNet}
use Rattle.fir_net_names.specs.declared.name_table.NameTable.{NameTable}
use Rattle.fir_net.specs.working.Arrays.{array_widths}
use Rattle.fir_net.specs.working.IsWritable.{HasNoPipes}
use Rattle.fir_net.specs.working.Values.{leaf_width}
use Rattle.fir_net.specs.working.Settled.{with_bits, input_number, clock_number, output_number, numbers_by, shape as net_shape}
use Rattle.fir_net.specs.working.IsNet.{is_port, IsRole, IsNet}
use Rattle.fir_net_names.specs.working.IsTable.{IsTable}
use Rattle.ver_ast.specs.Nets.{SizedNet, Variable, variables, variable_widths, arrays, input_nets, clocks, widths_of, shape as v_shape}
use Rattle.ver_build.specs.declared.places.Places.{Places}
use Rattle.ver_build.proofs.Names.{NameList, Each, zipped}
use Rattle.ver_build.proofs.Premises.{Premises, BitsNamed, LeafNamed, RoleNamed, role_named, bits_named, Whole}
use Rattle.ver_build.proofs.TableLeaves.{leaves_named, leaves_whole}
use Rattle.ver_build.proofs.OrderedLeaves.{ordered_names, ordered_leaves, names_port, sizes_port, same_ports}
use Rattle.ver_build.proofs.WordLists.{word_sizes_listed}
use Rattle.ver_build.proofs.Parts.{in_parts}
use Rattle.fir_net.specs.working.Counted.{is_register}
use Rattle.ver_build.proofs.LeafKinds.{is_wire, is_input, is_clock_input, is_output, name_if, sized_if, picked, picked_sized}
use Rattle.ver_build.proofs.Nets.{inputs_sized, clocks_are, registers_sized, arrays_are}
use Rattle.ver_build.proofs.StateArrays.{array_words_wide}
use Rattle.ver_build.proofs.StateWords.{widths_joined}
use Rattle.ver_build.proofs.Choices.{if_equal}

-- the number of a leaf with bits, where it is of a kind
abbrev pub number_if : Bool → ℕ → ℕ → List ℕ
number_if false w k = []
number_if true w k = with_bits w k

width_behind : (l : Leaf) (all : List Leaf) (k : ℕ) → leaf_width (l ∷ all) (k + 1) ≡ leaf_width all k
width_behind l all k = rw add-one refl

bits_behind : (l : Leaf) (all : List Leaf) (w k : ℕ) → map (leaf_width (l ∷ all)) (with_bits w (k + 1)) ≡ map (leaf_width all) (with_bits w k)
bits_behind l all w k = by_bool (nat_eq w 0)
  where
    by_bool : (b : Bool) → map (leaf_width (l ∷ all)) (if b then [] else ((k + 1) ∷ [])) ≡ map (leaf_width all) (if b then [] else (k ∷ []))
    by_bool true = refl
    by_bool false = ap (λ v. v ∷ []) (width_behind l all k)

number_behind : (l : Leaf) (all : List Leaf) (b : Bool) (w k : ℕ)
    → map (leaf_width (l ∷ all)) (number_if b w (k + 1)) ≡ map (leaf_width all) (number_if b w k)
number_behind l all false w k = refl
number_behind l all true w k = bits_behind l all w k

-- the width of one leaf of a kind, where it has bits
one_width : (b : Bool) (w : ℕ) (n : Option (List ℕ)) (f : ℕ → ℕ) → f 0 ≡ w → (b ≡ true → BitsNamed w n)
    → widths_of (sized_if b w n) ≡ map f (number_if b w 0)
one_width false w n f e h = refl
one_width true w None f e h = if_equal (λ (ks : List ℕ). [] ≡ map f ks) w 0 [] (0 ∷ []) (λ _. refl) (λ other. absurd (other (h refl)))
one_width true w (Some name) f e h =
    if_equal (λ (ks : List ℕ). w ∷ [] ≡ map f ks) w 0 [] (0 ∷ []) (λ same. let some = h refl in absurd (omega arith)) (λ _. ap (λ v. v ∷ []) (sym e))

module _ (p : Role → Bool) (number : Role → ℕ → ℕ → List ℕ) (is : (r : Role) (w k : ℕ) → number r w k ≡ number_if (p r) w k)
    (plain : (r : Role) → p r ≡ true → is_wire r ≡ false) where
  -- the widths of the leaves behind one
  numbers_behind : (l : Leaf) (all : List Leaf) (k : ℕ) (ls : List Leaf)
      → map (leaf_width (l ∷ all)) (numbers_by number (k + 1) ls) ≡ map (leaf_width all) (numbers_by number k ls)
  numbers_behind l all k [] = refl
  numbers_behind l all k (x ∷ ls) =
      let here : map (leaf_width (l ∷ all)) (number x.role x.width (k + 1)) ≡ map (leaf_width all) (number x.role x.width k) =
      ap (map (leaf_width (l ∷ all))) (is x.role x.width (k + 1)) ∙ number_behind l all (p x.role) x.width k
      ∙ ap (map (leaf_width all)) (sym (is x.role x.width k)) in
      map-append (leaf_width (l ∷ all)) (number x.role x.width (k + 1)) (numbers_by number (k + 1 + 1) ls)
      ∙ rw (here, numbers_behind l all (k + 1) ls) refl
      ∙ sym (map-append (leaf_width all) (number x.role x.width k) (numbers_by number (k + 1) ls))

  pub widths_along : (names : NameList) (ls : List Leaf) → Each LeafNamed names ls
      → widths_of (picked_sized p names ls) ≡ map (leaf_width ls) (numbers_by number 0 ls)
  unfolding zipped
  widths_along [] [] h = refl
  widths_along [] (l ∷ ls) h = absurd h
  widths_along (n ∷ names) [] h = absurd h
  widths_along (n ∷ names) (l ∷ ls) h =
      let here : widths_of (sized_if (p l.role) l.width n) ≡ map (leaf_width (l ∷ ls)) (number l.role l.width 0) =
      one_width (p l.role) l.width n (leaf_width (l ∷ ls)) refl (λ e. bits_named l.role l.width n (plain l.role e) (role_named l n h.0))
      ∙ ap (map (leaf_width (l ∷ ls))) (sym (is l.role l.width 0)) in
      map-append (λ (s : SizedNet). s.1) (sized_if (p l.role) l.width n) (picked_sized p names ls)
      ∙ rw (here, widths_along names ls h.1 ∙ sym (numbers_behind l ls 0 ls)) refl
      ∙ sym (map-append (leaf_width (l ∷ ls)) (number l.role l.width 0) (numbers_by number 1 ls))

pub input_is : (r : Role) (w k : ℕ) → input_number r w k ≡ number_if (is_input r) w k
input_is role.Input w k = refl
input_is _ w k = refl

pub output_is : (r : Role) (w k : ℕ) → output_number r w k ≡ number_if (is_output r) w k
output_is (role.Output r) w k = refl
output_is _ w k = refl

pub input_plain : (r : Role) → is_input r ≡ true → is_wire r ≡ false
input_plain role.Input e = refl
input_plain _ e = absurd (cc)

pub output_plain : (r : Role) → is_output r ≡ true → is_wire r ≡ false
output_plain (role.Output r) e = refl
output_plain _ e = absurd (cc)

-- inputs, outputs and clock inputs are ports
pub input_port : (r : Role) → is_port r ≡ false → is_input r ≡ false
input_port role.Input e = absurd (cc)
input_port _ e = refl

pub output_port : (r : Role) → is_port r ≡ false → is_output r ≡ false
output_port (role.Output r) e = absurd (cc)
output_port _ e = refl

pub clock_port : (r : Role) → is_port r ≡ false → is_clock_input r ≡ false
clock_port role.Clock e = absurd (cc)
clock_port _ e = refl

module _ (net : FlatNet) where
  one_clock : (s : Bool) (r : Role) (w : ℕ) (n : Option (List ℕ)) (k : ℕ) → RoleNamed r w n → IsRole net.leaves net.nodes s w r
      → length (name_if (is_clock_input r) n) ≡ length (clock_number r w k)
  one_clock s role.Clock w None k h is = let none = bits_named role.Clock w None refl h in absurd (omega arith)
  one_clock s role.Clock w (Some name) k h is = refl
  one_clock s _ w n k h is = refl

  clocks_along : (names : NameList) (ls : List Leaf) (k : ℕ) → Each (Whole net) names ls
      → length (picked is_clock_input names ls) ≡ length (numbers_by clock_number k ls)
  unfolding zipped
  clocks_along [] [] k h = refl
  clocks_along [] (l ∷ ls) k h = absurd h
  clocks_along (n ∷ names) [] k h = absurd h
  clocks_along (n ∷ names) (l ∷ ls) k h =
      rw (
        length-append (name_if (is_clock_input l.role) n) (picked is_clock_input names ls),
        length-append (clock_number l.role l.width k) (numbers_by clock_number (k + 1) ls),
        one_clock l.signed l.role l.width n k (role_named l n h.0.0) h.0.1.driven,
        clocks_along names ls (k + 1) h.1,
      ) refl

-- the widths of registers are those of the words of the state
pub register_widths : (net : FlatNet) (t : NameTable) → IsNet net → IsTable net t → HasNoPipes net
    → widths_of (picked_sized is_register (ordered_names net t) (ordered_leaves net)) ≡ map (leaf_width net.leaves) net.state
register_widths net t whole table pipes =
    word_sizes_listed net t whole table pipes (λ (s : SizedNet). s.1) (leaf_width net.leaves) (λ k l name at kind named. rw at refl)

pub built_shape : (net : FlatNet) (t : NameTable) (p : Places) (order : List Read) → Premises net t p order
    → v_shape (in_parts net t p order) ≡ net_shape net
built_shape net t p order is =
    let ins : widths_of (input_nets (in_parts net t p order)) ≡ map (leaf_width net.leaves) (numbers_by input_number 0 net.leaves) =
    ap widths_of
    (inputs_sized net t p order ∙ same_ports net t is.whole is.table (λ l n. sized_if (is_input l.role) l.width n) (sizes_port is_input input_port))
    ∙ widths_along is_input input_number input_is input_plain t.leaves net.leaves (leaves_named net is.whole t is.table) in
    let state : variable_widths (variables (in_parts net t p order)) ≡ map (leaf_width net.leaves) net.state ++ array_widths net =
    widths_joined (in_parts net t p order)
    ∙ ap (λ (ws : List ℕ). ws ++ variable_widths (arrays (in_parts net t p order))) (ap widths_of (registers_sized net t p order) ∙ register_widths net t is.whole is.table is.pipes)
    ∙ ap (λ (ks : List Variable). map (leaf_width net.leaves) net.state ++ variable_widths ks) (arrays_are net t p order is.whole is.table)
    ∙ ap (λ (ws : List ℕ). map (leaf_width net.leaves) net.state ++ ws) (array_words_wide net t) in
    let count : length (clocks (in_parts net t p order)) ≡ length (numbers_by clock_number 0 net.leaves) =
    ap length
    (clocks_are net t p order ∙ same_ports net t is.whole is.table (λ l n. name_if (is_clock_input l.role) n) (names_port is_clock_input clock_port))
    ∙ clocks_along net t.leaves net.leaves 0 (leaves_whole net is.whole t is.table) in
    rw (ins, state, count) refl
