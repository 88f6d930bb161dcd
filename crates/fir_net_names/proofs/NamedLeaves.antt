-- The names of leaves while they are taken: the ports behind each other and the words behind them.
use Rattle.std.proofs.Common.{◌≡◌, ℕ, ◌+◌, ◌<◌, List, [], ◌∷◌, ◌++◌, length, set, true, false, refl, sym, ap, ◌∙◌, subst, arith}
use Rattle.std.specs.Prelude.{slice_get, unwrap_or, Option, Some, None, not, nat_eq, ◌&&◌}
use Rattle.std.proofs.lemmas.Option.{slice_get_within}
use Rattle.std.specs.BTreeSet.{BTreeSet}
use Rattle.std.specs.BTreeSet as sorted
use Rattle.std.proofs.lemmas.List.{length_push, length-set}
use Rattle.fir_base.proofs.Writes.{push_end}
use Rattle.fir_net.specs.declared.leaf.Leaf.{Leaf}
use Rattle.fir_net.specs.declared.net.FlatNet.{FlatNet}
use Rattle.fir_net.specs.Paths.{base_name}
use Rattle.fir_net.specs.working.IsNet.{is_port, IsNet}
use Rattle.fir_net_names.specs.working.LeafNamed.{named_ports, named_leaves, base_at, leaf_base, name_at}
use Rattle.fir_net_names.specs.working.NameSets.{TakesName, HasNames}
use Rattle.fir_net_names.proofs.HeldNames.{holds_none}
use Rattle.fir_net_names.proofs.NamedSoFar.{NamedSoFar, name_before, name_other, name_written, named_more, named_none, named_on, named_same, none_behind}
use Rattle.fir_net_names.proofs.NumbersNamed.{number_given, number_lacking, ports_distinct, named_once}

-- the ports before a number have their names
pub record NamedPorts (net : FlatNet) (i : ℕ) (left : List Leaf) (names : List (Option (List ℕ))) (set : BTreeSet (List ℕ)) : Type 0 where
  pub so_far : NamedSoFar (base_at net) [] (named_ports 0 net.leaves) (named_ports i left) names set
  pub count : length names ≡ i

pub ports_none : (net : FlatNet) (set : BTreeSet (List ℕ)) → sorted.IsEmpty set → NamedPorts net 0 net.leaves [] set
ports_none net set empty = record { so_far = named_none (base_at net) [] (named_ports 0 net.leaves) [] set (holds_none set empty) (λ j. refl); count = refl }

module _ (net : FlatNet) (i : ℕ) (l : Leaf) (left : List Leaf) (names : List (Option (List ℕ))) (old : BTreeSet (List ℕ)) (p : NamedPorts net i (l ∷ left) names old) where
  pub ports_more : (new : BTreeSet (List ℕ)) (name : List ℕ) → slice_get net.leaves i ≡ Some l → (is_port l.role && not (nat_eq l.width 0)) ≡ true → TakesName old new (base_name l.path) name → NamedPorts net (i + 1) left (names ++ Some name ∷ []) new
  ports_more new name at named t =
      let all = named_ports 0 net.leaves in
      let rest = named_ports (i + 1) left in
      let count = p.count in
      let so_far : NamedSoFar (base_at net) [] all (i ∷ rest) names old = subst (λ (ks : List ℕ). NamedSoFar (base_at net) [] all (ks ++ rest) names old) (number_given l.role l.width i named) p.so_far in
      let taken : TakesName old new (base_at net i) name = subst (λ (o : Option Leaf). TakesName old new (leaf_base o) name) (sym at) t in
      let here : name_at (names ++ Some name ∷ []) i ≡ Some name = subst (λ (k : ℕ). name_at (names ++ Some name ∷ []) k ≡ Some name) count (ap (λ (o : Option (Option (List ℕ))). unwrap_or o None) (push_end names (Some name))) in
      record {
        so_far = named_more (base_at net) [] all rest i names (names ++ Some name ∷ []) old new name (ports_distinct net.leaves) so_far taken here (λ j n. name_before names (Some name) j (λ e. n (e ∙ count)));
        count = length_push names (Some name) ∙ ap (λ (k : ℕ). k + 1) count;
      }

  pub ports_same : (is_port l.role && not (nat_eq l.width 0)) ≡ false → NamedPorts net (i + 1) left (names ++ None ∷ []) old
  ports_same none =
      let all = named_ports 0 net.leaves in
      let rest = named_ports (i + 1) left in
      let so_far : NamedSoFar (base_at net) [] all rest names old = subst (λ (ks : List ℕ). NamedSoFar (base_at net) [] all (ks ++ rest) names old) (number_lacking l.role l.width i none) p.so_far in
      record {
        so_far = named_same (base_at net) [] all rest names (names ++ None ∷ []) old so_far (none_behind names);
        count = length_push names None ∙ ap (λ (k : ℕ). k + 1) p.count;
      }

-- all ports and some words of the state have their names
pub record NamedWords (net : FlatNet) (left : List ℕ) (names : List (Option (List ℕ))) (set : BTreeSet (List ℕ)) : Type 0 where
  pub so_far : NamedSoFar (base_at net) [] (named_leaves net) left names set
  pub count : length names ≡ length net.leaves

pub words_none : (net : FlatNet) (names : List (Option (List ℕ))) (set : BTreeSet (List ℕ)) → length names ≡ length net.leaves → HasNames (base_at net) [] (named_ports 0 net.leaves) names set → NamedWords net net.state names set
words_none net names set count h = record { so_far = named_on (base_at net) [] (named_ports 0 net.leaves) net.state names set h; count = count }

pub words_more : (net : FlatNet) → IsNet net → (k : ℕ) (l : Leaf) (left : List ℕ) (names : List (Option (List ℕ))) (old new : BTreeSet (List ℕ)) (name : List ℕ) → slice_get net.leaves k ≡ Some l → NamedWords net (k ∷ left) names old → TakesName old new (base_name l.path) name → NamedWords net left (set names k (Some name)) new
words_more net whole k l left names old new name at w t =
    let taken : TakesName old new (base_at net k) name = subst (λ (o : Option Leaf). TakesName old new (leaf_base o) name) (sym at) t in
    let count = w.count in
    let within : k < length net.leaves = slice_get_within net.leaves k l at in
    record {
      so_far =
          named_more (base_at net) [] (named_leaves net) left k names (set names k (Some name)) old new name (named_once net whole) w.so_far taken
          (name_written names k name (omega arith)) (name_other names k name);
      count = length-set names k (Some name) ∙ count;
    }
