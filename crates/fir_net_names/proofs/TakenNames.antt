-- What names are once all are taken: none stands twice, each is spelled as a name, and the set has them.
use Rattle.std.proofs.Common.{◌≡◌, ℕ, List, [], ◌∷◌, ◌++◌, map, true, false, ◌||◌, sym, ap, ◌∙◌, inl, inr, ◌⊎◌, ⊎_elim}
use Rattle.std.specs.Prelude.{Option, Some, IsTrue}
use Rattle.std.specs.BTreeSet.{BTreeSet}
use Rattle.std.specs.List.{AllByRecursion}
use Rattle.std.proofs.lemmas.Bool.{cases_eq}
use Rattle.fir_base.specs.Lists.{In, Distinct}
use Rattle.fir_base.specs.Words.{is_among}
use Rattle.fir_base.proofs.Each.{all_at, all_from, all_mapped}
use Rattle.fir_base.proofs.Elements.{all_there, number_of}
use Rattle.ver_words.specs.Names.{is_word, IsName}
use Rattle.fir_net.specs.declared.array.Array.{Array}
use Rattle.fir_net.specs.declared.leaf.Leaf.{Leaf}
use Rattle.fir_net.specs.declared.net.FlatNet.{FlatNet}
use Rattle.fir_net.specs.Paths.{base_name}
use Rattle.fir_net.specs.working.IsNet.{IsNet}
use Rattle.fir_net.specs.working.WordNames.{AreWordArrays, AreWordLeaves}
use Rattle.fir_net_names.specs.working.LeafNamed.{somes, named_leaves, array_base, base_at, base_of_array, leaf_base, name_at}
use Rattle.fir_net_names.specs.working.NameSets.{Holds, HasNames}
use Rattle.fir_net_names.proofs.HeldNames.{among_joined, is_named, same_names, holds_same}
use Rattle.fir_net_names.proofs.NamesInTurn.{names_distinct, names_new, names_spelled}
use Rattle.fir_net_names.proofs.NumbersNamed.{named_leaf}
use Rattle.fir_net_names.proofs.TableNames.{in_table, table_number, table_distinct, in_order, order_number, order_once}

-- a number is in a list, or not
in_or_out : (ks : List ℕ) (k : ℕ) → In ks k ⊎ (In ks k → ⊥)
in_or_out [] k = inr (λ m. m)
in_or_out (j ∷ ks) k = by (cases_eq j k) (in_or_out ks k)
  where
    by : (j ≡ k) ⊎ (j ≡ k → ⊥) → In ks k ⊎ (In ks k → ⊥) → In (j ∷ ks) k ⊎ (In (j ∷ ks) k → ⊥)
    by (inl e) r = inl (inl e)
    by (inr n) (inl m) = inl (inr m)
    by (inr n) (inr o) = inr (λ m. ⊎_elim n o m)

-- all the names of a table are those that were taken
module _ (base : ℕ → List ℕ) (before : List (List ℕ)) (order : List ℕ) (names : List (Option (List ℕ))) (set : BTreeSet (List ℕ)) (h : HasNames base before order names set) where
  abbrev pub in_turn : List (List ℕ)
  in_turn = somes (map (name_at names) order)

  pub has_place : (k : ℕ) (n : List ℕ) → name_at names k ≡ Some n → In order k
  has_place k n e = ⊎_elim (λ (m : In order k). m) (λ (o : In order k → ⊥). let none = h.only k o in absurd (cc)) (in_or_out order k)

  to_turn : (n : List ℕ) → In (somes names) n → In in_turn n
  to_turn n m = let r = table_number names n m in in_order (name_at names) order r.0 n (has_place r.0 n r.1) r.1

  to_table : (n : List ℕ) → In in_turn n → In (somes names) n
  to_table n m = let r = order_number (name_at names) order n m in in_table names r.0 n r.2

  -- the same names stand in the table and in turn
  pub same_in_turn : (n : List ℕ) → is_among in_turn n ≡ is_among (somes names) n
  same_in_turn = same_names in_turn (somes names) to_table to_turn

  pub all_held : Holds set (before ++ somes names)
  all_held =
      holds_same set (before ++ in_turn) (before ++ somes names)
      (λ n. among_joined before in_turn n ∙ ap (λ b. b || is_among before n) (same_in_turn n) ∙ sym (among_joined before (somes names) n)) h.held

  pub all_distinct : Distinct (somes names)
  all_distinct =
      table_distinct names
      (λ j k n a b. order_once (name_at names) order (names_distinct before (map base order) in_turn h.named) j k n (has_place j n a) (has_place k n b) a b)

  -- none of them was taken before
  pub all_new : (n : List ℕ) → In before n → In (somes names) n → ⊥
  all_new n old new =
      let free : is_among before n ≡ false = names_new before (map base order) in_turn h.named n (to_turn n new) in
      let taken : is_among before n ≡ true = is_named before n old in
      cc

  pub all_spelled : ((k : ℕ) → In order k → is_word (base k) ≡ true) → AllByRecursion IsName (somes names)
  all_spelled words =
      let bases : AllByRecursion (λ b. is_word b ≡ true) (map base order) = all_mapped (λ b. is_word b ≡ true) base order (all_from (λ k. is_word (base k) ≡ true) order words) in
      let turns : AllByRecursion IsName in_turn = names_spelled before (map base order) in_turn bases h.named in
      all_from IsName (somes names) (λ n m. all_at IsName in_turn turns n (to_turn n m))

-- the base of each leaf that has a name is a word
pub base_word : (net : FlatNet) → IsNet net → AreWordLeaves net.leaves → (k : ℕ) → In (named_leaves net) k → is_word (base_at net k) ≡ true
base_word net whole words k m =
    let found = named_leaf net whole k m in
    ap (λ (o : Option Leaf). is_word (leaf_base o)) found.1 ∙ all_there (λ l. IsTrue (is_word (base_name l.path))) net.leaves words k found.0 found.1

-- and so is that of each array
pub array_word : (net : FlatNet) → IsNet net → AreWordArrays net.arrays → (k : ℕ) → In net.array_order k → is_word (array_base net k) ≡ true
array_word net whole words k m =
    let place = number_of net.array_order k m in
    let found = whole.array_state.only place.0 k place.1 in
    ap (λ (o : Option Array). is_word (base_of_array o)) found.1 ∙ all_there (λ a. IsTrue (is_word (base_name a.path))) net.arrays words k found.0 found.1
