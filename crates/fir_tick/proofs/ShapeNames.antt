-- The names of the words of the state: they stand behind those of the ports, none stands twice, and each is spelled as a name.
use Rattle.std.proofs.Common.{◌≡◌, ℕ, zero, suc, List, [], ◌∷◌, ◌++◌, map, refl, sym, ap, ap₂, ◌∙◌, append_assoc, inl, inr, subst, unwrap_or, Option, Some, None}
use Rattle.std.specs.List.{AllByRecursion}
use Rattle.std.proofs.lemmas.List.{map-append}
use Rattle.fir_base.specs.Lists.{In, Distinct}
use Rattle.fir_base.proofs.Members.{in_right}
use Rattle.fir_base.proofs.Twins.{distinct_right}
use Rattle.ver_words.specs.Names.{IsName}
use Rattle.fir_net.specs.declared.net.FlatNet.{FlatNet}
use Rattle.fir_net_names.specs.declared.name_table.NameTable.{NameTable}
use Rattle.fir_net_names.specs.working.IsTable.{IsTable}
use Rattle.fir_net_names.specs.working.LeafNamed.{somes, array_base, base_at, name_at, named_leaves, named_ports}
use Rattle.fir_net_names.proofs.NamesInTurn.{names_distinct}
use Rattle.trace_text.specs.declared.shape.StateWord.{StateWord}
use Rattle.fir_tick.specs.working.StateWords.{array_word, state_word, state_words}
use Rattle.fir_tick.proofs.Lists.{map_both}

abbrev pub names_of : List StateWord → List (List ℕ)
names_of = map (λ w. w.name)

somes_joined : (xs ys : List (Option (List ℕ))) → somes (xs ++ ys) ≡ somes xs ++ somes ys
somes_joined [] ys = refl
somes_joined (None ∷ xs) ys = somes_joined xs ys
somes_joined (Some n ∷ xs) ys = ap (λ (ns : List (List ℕ)). n ∷ ns) (somes_joined xs ys)

-- the names of numbers that all have one
all_named : (names : List (Option (List ℕ))) (ks : List ℕ) → ((k : ℕ) → In ks k → (n : List ℕ) × (name_at names k ≡ Some n))
    → somes (map (name_at names) ks) ≡ map (λ k. unwrap_or (name_at names k) []) ks
all_named names [] has = refl
all_named names (k ∷ ks) has =
    let here = has k (inl refl) in
    rw here.1 (ap (λ (ns : List (List ℕ)). here.0 ∷ ns) (all_named names ks (λ j m. has j (inr m))))

-- what a number has is spelled as a name, where all names are
pub name_spelled : (names : List (Option (List ℕ))) → AllByRecursion IsName (somes names) → (k : ℕ) (n : List ℕ) → name_at names k ≡ Some n → IsName n
name_spelled [] spelled k n e = cc
name_spelled (None ∷ names) spelled zero n e = cc
name_spelled (None ∷ names) spelled (suc k) n e = name_spelled names spelled k n e
name_spelled (Some m ∷ names) spelled zero n e = let same : m ≡ n = cc in subst IsName same spelled.0
name_spelled (Some m ∷ names) spelled (suc k) n e = name_spelled names spelled.1 k n e

module _ (net : FlatNet) (table : NameTable) (is : IsTable net table) where
  -- each word has a name
  pub word_named : (k : ℕ) → In net.state k → (n : List ℕ) × (name_at table.leaves k ≡ Some n)
  word_named k m = is.has k (in_right (named_ports 0 net.leaves) net.state k m)

  abbrev pub port_names : List (List ℕ)
  port_names = somes (map (name_at table.leaves) (named_ports 0 net.leaves))

  pub array_named : (k : ℕ) → In net.array_order k → (n : List ℕ) × (name_at table.arrays k ≡ Some n)
  array_named k m = is.has_array k m

  -- the names of ports stand before those of words
  pub ports_before : somes (map (name_at table.leaves) (named_leaves net)) ++ somes (map (name_at table.arrays) net.array_order) ≡ port_names ++ names_of (state_words net table.leaves table.arrays)
  ports_before =
      ap₂ (λ (ns ms : List (List ℕ)). ns ++ ms)
      (ap somes (map-append (name_at table.leaves) (named_ports 0 net.leaves) net.state)
      ∙ somes_joined (map (name_at table.leaves) (named_ports 0 net.leaves)) (map (name_at table.leaves) net.state)
      ∙ ap (λ (ns : List (List ℕ)). port_names ++ ns)
      (all_named table.leaves net.state word_named ∙ sym (map_both (state_word net table.leaves) (λ (w : StateWord). w.name) net.state)))
      (all_named table.arrays net.array_order array_named ∙ sym (map_both (array_word net table.arrays) (λ (w : StateWord). w.name) net.array_order))
      ∙ append_assoc port_names (names_of (map (state_word net table.leaves) net.state)) (names_of (map (array_word net table.arrays) net.array_order))
      ∙ ap (λ (ns : List (List ℕ)). port_names ++ ns) (sym (map-append (λ (w : StateWord). w.name) (map (state_word net table.leaves) net.state) (map (array_word net table.arrays) net.array_order)))

  pub words_distinct : Distinct (names_of (state_words net table.leaves table.arrays))
  words_distinct =
      distinct_right port_names (names_of (state_words net table.leaves table.arrays))
      (subst Distinct ports_before
      (names_distinct [] (map (base_at net) (named_leaves net) ++ map (array_base net) net.array_order)
      (somes (map (name_at table.leaves) (named_leaves net)) ++ somes (map (name_at table.arrays) net.array_order)) is.named))
