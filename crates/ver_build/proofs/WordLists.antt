-- What registers list, where each that has a name is a word of the state: it goes along the words in their order.
use Rattle.std.proofs.Common.{◌≡◌, ℕ, List, [], ◌∷◌, ◌++◌, true, not, nat_eq, Option, Some, refl, sym, ap, ◌∙◌, inl, inr}
use Rattle.std.specs.Prelude.{map, flat_map, slice_get}
use Rattle.std.proofs.lemmas.Bool.{and_parts}
use Rattle.std.proofs.lemmas.List.{map-append}
use Rattle.fir_base.specs.Lists.{In}
use Rattle.fir_base.proofs.Members.{in_right}
use Rattle.fir_net.specs.declared.leaf.Leaf.{Leaf}
use Rattle.fir_net.specs.declared.net.FlatNet.{FlatNet}
use Rattle.fir_net.specs.working.Counted.{is_register}
use Rattle.fir_net.specs.working.IsNet.{is_state, IsNet}
use Rattle.fir_net.specs.working.IsWritable.{HasNoPipes}
use Rattle.fir_net_names.specs.declared.name_table.NameTable.{NameTable}
use Rattle.fir_net_names.specs.working.IsTable.{IsTable}
use Rattle.fir_net_names.specs.working.LeafNamed.{named_ports, name_at}
use Rattle.ver_ast.specs.Nets.{SizedNet}
use Rattle.ver_build.specs.working.Built.{at_number, at_numbers}
use Rattle.ver_build.proofs.Names.{NameList, zipped}
use Rattle.ver_build.proofs.LeafKinds.{name_if, sized_if, picked, picked_sized}
use Rattle.ver_build.proofs.Premises.{no_pipe, state_register}
use Rattle.ver_build.proofs.TableLeaves.{word_leaf}
use Rattle.ver_build.proofs.OrderedLeaves.{ordered_names, ordered_leaves, OfWords, word_given, names_word, sizes_word}

mapped_numbers : {B C : Type 0} → (g : Leaf → Option (List ℕ) → List B) (h : B → C) (e : ℕ → C) (names : NameList) (leaves : List Leaf) (ks : List ℕ)
    → ((k : ℕ) → In ks k → map h (at_number g names leaves k) ≡ e k ∷ []) → map h (at_numbers g names leaves ks) ≡ map e ks
mapped_numbers g h e names leaves [] each = refl
mapped_numbers {B} {C} g h e names leaves (k ∷ ks) each =
    map-append h (at_number g names leaves k) (at_numbers g names leaves ks)
    ∙ ap (λ (ys : List C). ys ++ map h (at_numbers g names leaves ks)) (each k (inl refl))
    ∙ ap (λ (ys : List C). e k ∷ ys) (mapped_numbers g h e names leaves ks (λ j m. each j (inr m)))

flat_numbers : {B : Type 0} → (g : Leaf → Option (List ℕ) → List B) (w : ℕ → List B) (names : NameList) (leaves : List Leaf) (ks : List ℕ)
    → ((k : ℕ) → In ks k → at_number g names leaves k ≡ w k) → at_numbers g names leaves ks ≡ flat_map w ks
flat_numbers g w names leaves [] each = refl
flat_numbers {B} g w names leaves (k ∷ ks) each =
    ap (λ (ys : List B). ys ++ at_numbers g names leaves ks) (each k (inl refl))
    ∙ ap (λ (ys : List B). w k ++ ys) (flat_numbers g w names leaves ks (λ j m. each j (inr m)))

module _ (net : FlatNet) (t : NameTable) (whole : IsNet net) (table : IsTable net t) (pipes : HasNoPipes net) where
  -- what holds of the words that have names
  at_word : {B : Type 0} → (g : Leaf → Option (List ℕ) → List B) (Q : ℕ → List B → Type 0)
      → ((k : ℕ) (l : Leaf) (name : List ℕ) → slice_get net.leaves k ≡ Some l → is_register l.role ≡ true → name_at t.leaves k ≡ Some name
      → Q k (g l (Some name)))
      → (k : ℕ) → In net.state k → Q k (at_number g t.leaves net.leaves k)
  at_word g Q each k m =
      let word = word_leaf net whole k m in
      let name = table.has k (in_right (named_ports 0 net.leaves) net.state k m) in
      let at : slice_get net.leaves k ≡ Some word.0 = word.1 in
      let named : name_at t.leaves k ≡ Some name.0 = name.1 in
      let parts = and_parts (is_state word.0.role) (not (nat_eq word.0.width 0)) word.2 in
      rw (at, named) (each k word.0 name.0 at (state_register word.0.role (no_pipe net pipes k word.0 word.1) parts.0) named)

  -- what the words give, where a register gives something
  pub words_given : {B : Type 0} → (g : Leaf → Option (List ℕ) → List B) → OfWords g → (w : ℕ → List B)
      → ((k : ℕ) (l : Leaf) (name : List ℕ) → slice_get net.leaves k ≡ Some l → is_register l.role ≡ true → name_at t.leaves k ≡ Some name
      → g l (Some name) ≡ w k)
      → zipped g (ordered_names net t) (ordered_leaves net) ≡ flat_map w net.state
  words_given {B} g of w each =
      sym (word_given net t whole table g of)
      ∙ flat_numbers g w t.leaves net.leaves net.state (at_word g (λ (k : ℕ) (xs : List B). xs ≡ w k) each)

  -- each word lists one thing
  words_listed : {B C : Type 0} → (g : Leaf → Option (List ℕ) → List B) (h : B → C) (e : ℕ → C) → OfWords g
      → ((k : ℕ) (l : Leaf) (name : List ℕ) → slice_get net.leaves k ≡ Some l → is_register l.role ≡ true → name_at t.leaves k ≡ Some name
      → map h (g l (Some name)) ≡ e k ∷ [])
      → map h (zipped g (ordered_names net t) (ordered_leaves net)) ≡ map e net.state
  words_listed {B} {C} g h e of each =
      ap (map h) (sym (word_given net t whole table g of))
      ∙ mapped_numbers g h e t.leaves net.leaves net.state (at_word g (λ (k : ℕ) (xs : List B). map h xs ≡ e k ∷ []) each)

  -- so for the names of registers, and these with their widths
  pub word_names_listed : {C : Type 0} → (h : List ℕ → C) (e : ℕ → C)
      → ((k : ℕ) (l : Leaf) (name : List ℕ) → slice_get net.leaves k ≡ Some l → is_register l.role ≡ true → name_at t.leaves k ≡ Some name → h name ≡ e k)
      → map h (picked is_register (ordered_names net t) (ordered_leaves net)) ≡ map e net.state
  word_names_listed {C} h e each =
      words_listed (λ l n. name_if (is_register l.role) n) h e names_word
      (λ k l name at kind named. rw kind (ap (λ (y : C). y ∷ []) (each k l name at kind named)))

  pub word_sizes_listed : {C : Type 0} → (h : SizedNet → C) (e : ℕ → C)
      → ((k : ℕ) (l : Leaf) (name : List ℕ) → slice_get net.leaves k ≡ Some l → is_register l.role ≡ true → name_at t.leaves k ≡ Some name
      → h (name, l.width) ≡ e k)
      → map h (picked_sized is_register (ordered_names net t) (ordered_leaves net)) ≡ map e net.state
  word_sizes_listed {C} h e each =
      words_listed (λ l n. sized_if (is_register l.role) l.width n) h e sizes_word
      (λ k l name at kind named. rw kind (ap (λ (y : C). y ∷ []) (each k l name at kind named)))
