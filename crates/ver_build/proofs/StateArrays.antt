-- The arrays of the state: each has bits, words and a name. What the tree declares for them keeps their words, and only their blocks write these.
use Rattle.std.proofs.Common.{◌≡◌, ℕ, ◌+◌, ◌-◌, ◌≤◌, List, [], ◌∷◌, ◌++◌, map, refl, sym, ap, ◌∙◌, inl, inr, subst, arith, Option, Some, None, unwrap_or}
use Rattle.std.specs.Prelude.{flat_map, option_map, replicate, slice_get}
use Rattle.std.specs.List.{sum, sum_by}
use Rattle.std.proofs.lemmas.List.Sums.{sum-map}
use Rattle.std.proofs.lemmas.Simd.{map-map}
use Rattle.fir_base.specs.Lists.{In, Distinct}
use Rattle.fir_base.proofs.Elements.{all_there, get_in, number_of}
use Rattle.fir_base.proofs.Twins.{distinct_right}
use Rattle.fir_net.specs.declared.array.Array.{Array}
use Rattle.fir_net.specs.declared.array.ArrayRead.{ArrayRead}
use Rattle.fir_net.specs.declared.array.ArrayWrite.{ArrayWrite}
use Rattle.fir_net.specs.declared.leaf.Leaf.{Leaf}
use Rattle.fir_net.specs.declared.leaf.Role.TheVariants as role
use Rattle.fir_net.specs.declared.net.FlatNet.{FlatNet}
use Rattle.fir_net.specs.working.Arrays.{array_widths, word_width, words_of}
use Rattle.fir_net.specs.Rows.{ArrayRow}
use Rattle.fir_net.specs.working.Rows.{array_row, net_arrays}
use Rattle.ver_build.specs.NamedFor.{array_sizes}
use Rattle.fir_net.specs.working.IsNet.{IsArray, IsArrayWrite, IsNet}
use Rattle.fir_net_names.specs.declared.name_table.NameTable.{NameTable}
use Rattle.fir_net_names.specs.working.IsTable.{IsTable}
use Rattle.fir_net_names.specs.working.LeafNamed.{name_at, somes}
use Rattle.ver_ast.specs.declared.tree.Array.{Array as TreeArray}
use Rattle.ver_ast.specs.declared.tree.Write.{Write}
use Rattle.ver_ast.specs.declared.tree.Writing.{Writing}
use Rattle.ver_ast.specs.Nets.{AlwaysBlock, Variable, variable_names, variable_widths, writing_block}
use Rattle.ver_build.specs.declared.places.Places.{Places}
use Rattle.ver_build.specs.working.ArrayBlocks.{array_block, array_blocks, block_of, tree_array, tree_arrays}
use Rattle.ver_build.proofs.ItemLists.{array_sized}
use Rattle.ver_build.proofs.Lists.{flat_made, flat_mapped, flat_none, flat_ones, flat_parts, flat_same}
use Rattle.ver_build.proofs.OrderedLeaves.{ordered_all_once, ordered_names}

pub record IsStateArray (net : FlatNet) (t : NameTable) (k : ℕ) : Type 0 where
  pub array : Array
  pub at : slice_get net.arrays k ≡ Some array
  pub some : 1 ≤ array.width
  pub whole : IsArray net.leaves net.nodes array
  pub name : List ℕ
  pub named : name_at t.arrays k ≡ Some name

abbrev pub array_name : NameTable → ℕ → List ℕ
array_name t k = unwrap_or (name_at t.arrays k) []

-- what keeps the words of an array
abbrev pub state_variable : FlatNet → NameTable → ℕ → Variable
state_variable net t k = record { name = array_name t k; width = word_width net.arrays k; depth = words_of net.arrays k }

abbrev pub state_variables : FlatNet → NameTable → List Variable
state_variables net t = map (state_variable net t) net.array_order

-- what the blocks of arrays give that no block of an array gives
block_part : {C : Type 0} → (g : AlwaysBlock → List C) → ((b : Writing) → g (writing_block b) ≡ []) → (t : NameTable) (c : Option ℕ) (ws : List Write)
    → flat_map g (block_of t c ws) ≡ []
block_part g none t None ws = refl
block_part {C} g none t (Some c) ws = ap (λ (xs : List C). xs ++ []) (none (record { clock = unwrap_or (name_at t.leaves c) []; writes = ws }))

array_part : {C : Type 0} → (g : AlwaysBlock → List C) → ((b : Writing) → g (writing_block b) ≡ []) → (net : FlatNet) (t : NameTable) (p : Places) (k : ℕ)
    (a : Option Array) (n : Option (List ℕ)) → flat_map g (array_block net t p k a n) ≡ []
array_part g none net t p k None n = refl
array_part g none net t p k (Some a) None = refl
array_part g none net t p k (Some a) (Some name) = block_part g none t _ _

pub no_array_part : (net : FlatNet) (t : NameTable) (p : Places) {C : Type 0} (g : AlwaysBlock → List C) → ((b : Writing) → g (writing_block b) ≡ [])
    → flat_map g (array_blocks net t p) ≡ []
no_array_part net t p g none =
    flat_parts g (λ (k : ℕ). array_block net t p k (slice_get net.arrays k) (name_at t.arrays k)) net.array_order
    ∙ flat_none (λ (k : ℕ). flat_map g (array_block net t p k (slice_get net.arrays k) (name_at t.arrays k))) net.array_order
    (λ k m. array_part g none net t p k (slice_get net.arrays k) (name_at t.arrays k))

sum_made : {A B : Type 0} → (g : B → ℕ) (f : A → B) (xs : List A) → sum_by g (map f xs) ≡ sum_by (λ x. g (f x)) xs
sum_made g f xs = sym (sum-map g (map f xs)) ∙ ap sum (map-map g f xs) ∙ sum-map (λ x. g (f x)) xs

module _ (net : FlatNet) (t : NameTable) (whole : IsNet net) (table : IsTable net t) where
  pub array_at : (k : ℕ) → In net.array_order k → IsStateArray net t k
  array_at k m =
      let place = number_of net.array_order k m in
      let a = whole.array_state.only place.0 k place.1 in
      let name = table.has_array k m in
      record {
        array = a.0;
        at = a.1;
        some = a.2;
        whole = all_there (IsArray net.leaves net.nodes) net.arrays whole.arrays k a.0 a.1;
        name = name.0;
        named = name.1;
      }

  tree_array_is : (k : ℕ) → In net.array_order k → map array_sized (tree_array (slice_get net.arrays k) (name_at t.arrays k)) ≡ state_variable net t k ∷ []
  tree_array_is k m =
      let a = array_at k m in
      let at = a.at in
      let named = a.named in
      let some = a.whole.has_words in
      let deep : a.array.words - 1 + 1 ≡ a.array.words = omega arith in
      rw (at, named) (ap (λ (d : ℕ). record { name = a.name; width = a.array.width; depth = d } ∷ []) deep)

  -- the arrays of the tree
  pub variables_are : map array_sized (tree_arrays net t) ≡ state_variables net t
  variables_are =
      flat_mapped array_sized (λ (k : ℕ). tree_array (slice_get net.arrays k) (name_at t.arrays k))
      (λ (k : ℕ). map array_sized (tree_array (slice_get net.arrays k) (name_at t.arrays k))) (λ k. refl) net.array_order
      ∙ flat_same (λ (k : ℕ). map array_sized (tree_array (slice_get net.arrays k) (name_at t.arrays k))) (λ (k : ℕ). state_variable net t k ∷ [])
      net.array_order tree_array_is
      ∙ flat_ones (state_variable net t) net.array_order

  pub tree_names : map (λ (a : TreeArray). a.name) (tree_arrays net t) ≡ variable_names (state_variables net t)
  tree_names = sym (map-map (λ (k : Variable). k.name) array_sized (tree_arrays net t)) ∙ ap variable_names variables_are

  some_names : (ks : List ℕ) → ((k : ℕ) → In ks k → In net.array_order k) → map (array_name t) ks ≡ somes (map (name_at t.arrays) ks)
  some_names [] h = refl
  some_names (k ∷ ks) h =
      let name = table.has_array k (h k (inl refl)) in
      let named = name.1 in
      rw named (ap (λ (ns : List (List ℕ)). name.0 ∷ ns) (some_names ks (λ j m. h j (inr m))))

  pub array_names_are : variable_names (state_variables net t) ≡ somes (map (name_at t.arrays) net.array_order)
  array_names_are = map-map (λ (k : Variable). k.name) (state_variable net t) net.array_order ∙ some_names net.array_order (λ k m. m)

  pub array_names_once : Distinct (variable_names (state_variables net t))
  array_names_once =
      subst Distinct (sym array_names_are)
      (distinct_right (somes (ordered_names net t)) (somes (map (name_at t.arrays) net.array_order)) (ordered_all_once net t whole table))

-- the widths of their words, and how many there are
pub array_words_wide : (net : FlatNet) (t : NameTable) → variable_widths (state_variables net t) ≡ array_widths net
array_words_wide net t = flat_made (λ (k : Variable). replicate k.depth k.width) (state_variable net t) net.array_order

pub array_words_many : (net : FlatNet) (t : NameTable) → sum_by (λ (k : Variable). k.depth) (state_variables net t) ≡ sum_by (words_of net.arrays) net.array_order
array_words_many net t = sum_made (λ (k : Variable). k.depth) (state_variable net t) net.array_order

-- an array of which a leaf that has bits reads
pub record IsArrayRead (net : FlatNet) (l : Leaf) (r : ArrayRead) : Type 0 where
  pub among : In net.array_order r.array
  pub wide : word_width net.arrays r.array ≡ l.width

pub array_read : (net : FlatNet) → IsNet net → (k : ℕ) (l : Leaf) (r : ArrayRead) → slice_get net.leaves k ≡ Some l → l.role ≡ role.Reading r → 1 ≤ l.width
    → IsArrayRead net l r
array_read net whole k l r at reads some =
    let a = whole.readings k l r at reads in
    let wide : a.0.width ≡ l.width = a.2 in
    let place = whole.array_state.all r.array a.0 a.1 (omega arith) in
    record {
      among = get_in net.array_order place.0 r.array place.1;
      wide = ap (λ (o : Option Array). unwrap_or (option_map (λ (b : Array). b.width) o) 0) a.1 ∙ wide;
    }

-- how many words an array has, and the width of each
pub words_are : (net : FlatNet) (t : NameTable) (k : ℕ) (a : IsStateArray net t k) → words_of net.arrays k ≡ a.array.words
words_are net t k a = ap (λ (o : Option Array). unwrap_or (option_map (λ (b : Array). b.words) o) 0) a.at

pub width_is : (net : FlatNet) (t : NameTable) (k : ℕ) (a : IsStateArray net t k) → word_width net.arrays k ≡ a.array.width
width_is net t k a = ap (λ (o : Option Array). unwrap_or (option_map (λ (b : Array). b.width) o) 0) a.at

pub name_is : (net : FlatNet) (t : NameTable) (k : ℕ) (a : IsStateArray net t k) → array_name t k ≡ a.name
name_is net t k a = ap (λ (o : Option (List ℕ)). unwrap_or o []) a.named

pub write_at : (net : FlatNet) (t : NameTable) (k : ℕ) (a : IsStateArray net t k) (j : ℕ) (w : ArrayWrite) → slice_get a.array.writes j ≡ Some w
    → IsArrayWrite net.leaves net.nodes a.array.signed a.array.width w
write_at net t k a j w at = all_there (IsArrayWrite net.leaves net.nodes a.array.signed a.array.width) a.array.writes a.whole.writes j w at

-- the sizes of the arrays are those of the net's rows
row_size : (net : FlatNet) (t : NameTable) → IsNet net → IsTable net t → (k : ℕ) → In net.array_order k
    → array_sizes (array_row (slice_get net.arrays k)) ≡ (word_width net.arrays k, words_of net.arrays k) ∷ []
row_size net t whole table k m = let a = array_at net t whole table k m in let at = a.at in rw at refl

pub sizes_are : (net : FlatNet) (t : NameTable) → IsNet net → IsTable net t
    → map (λ (k : Variable). (k.width, k.depth)) (state_variables net t) ≡ array_sizes (net_arrays net)
sizes_are net t whole table =
    let size : ℕ → ℕ × ℕ = λ k. (word_width net.arrays k, words_of net.arrays k) in
    map-map (λ (k : Variable). (k.width, k.depth)) (state_variable net t) net.array_order
    ∙ sym (flat_mapped (λ (a : ArrayRow). (a.width, a.depth)) (λ (k : ℕ). array_row (slice_get net.arrays k)) (λ (k : ℕ). array_sizes (array_row (slice_get net.arrays k)))
    (λ k. refl) net.array_order
    ∙ flat_same (λ (k : ℕ). array_sizes (array_row (slice_get net.arrays k))) (λ (k : ℕ). size k ∷ []) net.array_order (row_size net t whole table)
    ∙ flat_ones size net.array_order)
