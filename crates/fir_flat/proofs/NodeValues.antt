-- The values of the nodes of a net are those of the terms that they stand for, and so is what is read of them.
use Rattle.std.proofs.Common.{◌≡◌, ℕ, zero, suc, List, [], ◌∷◌, ◌++◌, map, Bool, false, slice_get, unwrap_or, refl, sym, ap, ◌∙◌}
use Rattle.std.specs.Prelude.{Some, slice_index_or}
use Rattle.std.specs.List.{AllByRecursion}
use Rattle.std.proofs.lemmas.List.{map_push}
use Rattle.fir_bits.specs.Forms.{no_type}
use Rattle.fir_bits.specs.Operators.{no_operand, outcome}
use Rattle.fir_bits.specs.declared.values.Num.{Num}
use Rattle.fir_meaning.specs.working.TermValues.{Holds}
use Rattle.fir_net.specs.declared.leaf.Leaf.{Leaf}
use Rattle.fir_net.specs.declared.net.FlatNet.{FlatNet}
use Rattle.fir_net.specs.declared.node.Node.{Node}
use Rattle.fir_net.specs.declared.node.Node.TheVariants as node
use Rattle.fir_net.specs.declared.reads.Read.{Read}
use Rattle.fir_net.specs.declared.reads.Read.TheVariants as read
use Rattle.fir_net.specs.working.IsNet.{AreNodes, CanRead, IsNet, IsNode}
use Rattle.fir_net.specs.working.Settled.{is_clock, value_at}
use Rattle.fir_net.specs.working.Values.{chosen, node_value, read_value, type_of_leaf, values_from}
use Rattle.fir_net.proofs.WholeValues.{type_at}
use Rattle.fir_connect.specs.working.Lowered.{zero_of}
use Rattle.fir_connect.specs.working.NetTerms.{NetTerm}
use Rattle.fir_connect.specs.working.NetValues.{term_value, term_values}
use Rattle.fir_merge.specs.working.NodeTerms.{chosen_term, node_term, read_term, read_terms, terms, terms_from}
use Rattle.fir_flat.specs.working.FlatCircuits.{stands_for}

-- each leaf that is no clock has this type and this number
pub record AgreesWith (leaves : List Leaf) (env : ℕ → ℕ) (holds : Holds) (numbers : ℕ → ℕ) : Type 0 where
  pub types : (k : ℕ) (l : Leaf) → slice_get leaves k ≡ Some l → is_clock l.role ≡ false → type_of_leaf l ≡ holds k
  pub values : (k : ℕ) (l : Leaf) → slice_get leaves k ≡ Some l → is_clock l.role ≡ false → env k ≡ numbers k

module _ (leaves : List Leaf) (env : ℕ → ℕ) (holds : Holds) (numbers : ℕ → ℕ) (agrees : AgreesWith leaves env holds numbers) where
  abbrev value : NetTerm → Num
  value t = term_value holds numbers t

  -- past the end both are zero of no bits
  node_read : (ts : List NetTerm) (k : ℕ) → unwrap_or (slice_get (map value ts) k) no_operand ≡ value (slice_index_or ts k (zero_of no_type))
  node_read [] k = refl
  node_read (t ∷ ts) zero = refl
  node_read (t ∷ ts) (suc k) = node_read ts k

  read_is : (before : List Node) (ts : List NetTerm) (r : Read) → CanRead leaves before r → read_value leaves env (map value ts) r ≡ value (read_term ts r)
  read_is before ts (read.Leaf k) can =
      let type = type_at leaves k can.0 can.1 ∙ agrees.types k can.0 can.1 can.2 in
      let number = agrees.values k can.0 can.1 can.2 in
      rw (type, number) refl
  read_is before ts (read.Node k) can = node_read ts k

  reads_are : (before : List Node) (ts : List NetTerm) (rs : List Read) → AllByRecursion (CanRead leaves before) rs
      → map (read_value leaves env (map value ts)) rs ≡ term_values holds numbers (read_terms ts rs)
  reads_are before ts [] can = refl
  reads_are before ts (r ∷ rs) can = rw (read_is before ts r can.0, reads_are before ts rs can.1) refl

  choice_is : (before : List Node) (ts : List NetTerm) (rs : List Read) (signed : Bool) (width : ℕ) → AllByRecursion (CanRead leaves before) rs
      → chosen (record { signed = signed; width = width }) (map (read_value leaves env (map value ts)) rs) ≡ value (chosen_term ts rs signed width)
  choice_is before ts [] signed width can = refl
  choice_is before ts (c ∷ []) signed width can = refl
  choice_is before ts (c ∷ a ∷ []) signed width can = refl
  choice_is before ts (c ∷ a ∷ b ∷ []) signed width can =
      rw (read_is before ts c can.0, read_is before ts a can.1.0, read_is before ts b can.1.1.0) refl
  choice_is before ts (c ∷ a ∷ b ∷ d ∷ rs) signed width can = refl

  node_is : (before : List Node) (ts : List NetTerm) (n : Node) → IsNode leaves before n → node_value leaves env (map value ts) n ≡ value (node_term ts n)
  node_is before ts (node.Literal v) is = refl
  node_is before ts (node.Operation o) is = ap (λ (vs : List Num). outcome o.op vs o.integers) (reads_are before ts o.reads is.reads)
  node_is before ts (node.Mux m) is = choice_is before ts m.reads m.signed m.width is.reads

  values_are : (before : List Node) (ts : List NetTerm) (ns : List Node) → AreNodes leaves before ns
      → values_from leaves env (map value ts) ns ≡ map value (terms_from ts ns)
  unfolding values_from terms_from
  values_are before ts [] are = refl
  values_are before ts (n ∷ ns) are =
      let here = node_is before ts n are.0 in
      let more : map value ts ++ node_value leaves env (map value ts) n ∷ [] ≡ map value (ts ++ node_term ts n ∷ []) =
      ap (λ (v : Num). map value ts ++ v ∷ []) here ∙ sym (map_push value ts (node_term ts n)) in
      ap (λ (vs : List Num). values_from leaves env vs ns) more ∙ values_are (before ++ n ∷ []) (ts ++ node_term ts n ∷ []) ns are.1

-- what can be read is worth what it stands for
pub read_is_worth : (net : FlatNet) (env : ℕ → ℕ) (holds : Holds) (numbers : ℕ → ℕ) → IsNet net → AgreesWith net.leaves env holds numbers → (r : Read)
    → CanRead net.leaves net.nodes r → value_at net env r ≡ term_value holds numbers (stands_for net.nodes r)
read_is_worth net env holds numbers whole agrees r can =
    ap (λ (vs : List Num). read_value net.leaves env vs r) (values_are net.leaves env holds numbers agrees [] [] net.nodes whole.nodes)
    ∙ read_is net.leaves env holds numbers agrees net.nodes (terms net.nodes) r can
