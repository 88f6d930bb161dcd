-- Over leaves that hold what is held, a node whose term is whole is a node with its type, of no more than 128 bits.
use Rattle.std.proofs.Common.{◌≡◌, ℕ, ◌<◌, ◌≤◌, max, List, [], ◌∷◌, ◌++◌, length, map, Ok, Bool, refl, ap, sym, ◌∙◌, subst, arith, ◌⊎◌, inl, inr, append-nil, append_assoc, length-append, unwrap_or, option_map}
use Rattle.std.specs.Prelude.{Option}
use Rattle.std.specs.List.{AllByRecursion}
use Rattle.std.proofs.lemmas.Bool.{cases_eq}
use Rattle.std.proofs.lemmas.List.Elements.{All-from_recursion}
use Rattle.std.proofs.lemmas.Nat.{pow_pos}
use Rattle.std.proofs.lemmas.Result.{IfOk-at_ok}
use Rattle.fir_base.proofs.Elements.{get_left, there}
use Rattle.fir_base.proofs.Writes.{push_end}
use Rattle.fir_bits.specs.Forms.{no_type}
use Rattle.fir_bits.specs.Operators.{applied, outcome}
use Rattle.fir_bits.specs.working.Operators.{type_of}
use Rattle.fir_bits.specs.working.Types.{typed}
use Rattle.fir_bits.specs.Values.{IsBitVector}
use Rattle.fir_bits.specs.declared.operators.PrimOp.{PrimOp}
use Rattle.fir_bits.specs.declared.types.NumTy.{NumTy}
use Rattle.fir_bits.specs.declared.values.Num.{Num}
use Rattle.fir_bits.proofs.Typing.{typed-outcome}
use Rattle.fir_meaning.specs.LeafTypes.{LeafType, number, number_type}
use Rattle.fir_connect.specs.working.LoweredLaws.{types_of}
use Rattle.fir_connect.specs.working.NetTerms.{NetTerm, leaf, term_type, term_types}
use Rattle.fir_net.specs.declared.leaf.Leaf.{Leaf}
use Rattle.fir_net.specs.declared.node.Mux.{Mux}
use Rattle.fir_net.specs.declared.node.Node.{Node}
use Rattle.fir_net.specs.declared.node.Node.TheVariants as node
use Rattle.fir_net.specs.declared.reads.Read.{Read}
use Rattle.fir_net.specs.declared.reads.Read.TheVariants as read
use Rattle.fir_net.specs.working.Dependence.{support_of}
use Rattle.fir_net.specs.working.IsNet.{AreNodes, CanRead, IsChoice, IsNode, node_type, read_type}
use Rattle.fir_net.specs.working.Values.{number_of, type_of_leaf}
use Rattle.fir_net.proofs.WholeValues.{type_at}
use Rattle.fir_merge.specs.working.NodeTerms.{AreBelow, IsBelow, Stands, chosen_term, node_term, read_term, read_terms, terms}
use Rattle.fir_merge.proofs.GrownTerms.{grown_keeps}
use Rattle.fir_flat.specs.working.WholeTerms.{AreNarrow, IsWhole}
use Rattle.fir_flatten.specs.working.KeptNodes.{EachRead, HasForm, IsHeld, LeavesHold}
use Rattle.fir_flatten.proofs.NeededMarks.{whole_parts}

-- the result of narrow operands is narrow: it is that of their zeros
abbrev zero_of : NumTy → Num
zero_of t = number_of t 0

types_stay : (ts : List NumTy) → map type_of (map zero_of ts) ≡ ts
types_stay [] = refl
types_stay (t ∷ ts) = ap (λ (us : List NumTy). t ∷ us) (types_stay ts)

zeros_whole : (ts : List NumTy) → AreNarrow ts → AllByRecursion (λ (v : Num). IsBitVector v.value) (map zero_of ts)
zeros_whole [] h = tt
zeros_whole (t ∷ ts) h = (record { narrow = h.0; below = pow_pos t.width }, zeros_whole ts h.1)

result_narrow : (op : PrimOp) (ts : List NumTy) (ks : List ℕ) (t : NumTy) → AreNarrow ts → typed op ts ks ≡ Ok t → t.width ≤ 128
result_narrow op ts ks t narrow is =
    let vs = map zero_of ts in
    let at : typed op (map type_of vs) ks ≡ Ok t = ap (λ (us : List NumTy). typed op us ks) (types_stay ts) ∙ is in
    let has =
    IfOk-at_ok (λ (u : NumTy). IsBitVector (applied op vs ks) × (type_of (outcome op vs ks) ≡ u)) at
    (typed-outcome op vs ks (All-from_recursion (λ (v : Num). IsBitVector v.value) vs (zeros_whole ts narrow))) in
    subst (λ (u : NumTy). u.width ≤ 128) has.1 has.0.narrow

-- a node has the type of its term
choice_type : (holds : ℕ → NumTy) (known : List NetTerm) (rs : List Read) (signed : Bool) (width : ℕ) → length rs ≡ 3
    → term_type holds (chosen_term known rs signed width) ≡ record { signed = signed; width = width }
choice_type holds known [] signed width three = absurd (omega arith)
choice_type holds known (c ∷ []) signed width three = absurd (omega arith)
choice_type holds known (c ∷ a ∷ []) signed width three = absurd (omega arith)
choice_type holds known (c ∷ a ∷ b ∷ []) signed width three = refl
choice_type holds known (c ∷ a ∷ b ∷ d ∷ rs) signed width three = absurd (omega arith)

pub node_term_type : (holds : ℕ → NumTy) (known : List NetTerm) (n : Node) → HasForm n → term_type holds (node_term known n) ≡ node_type n
node_term_type holds known (node.Literal v) form = refl
node_term_type holds known (node.Operation o) form = refl
node_term_type holds known (node.Mux m) form = choice_type holds known m.reads m.signed m.width form

-- one node behind others
nodes_push : (leaves : List Leaf) (before ns : List Node) (n : Node) → AreNodes leaves before ns → IsNode leaves (before ++ ns) n
    → AreNodes leaves before (ns ++ n ∷ [])
nodes_push leaves before [] n are is = let none : before ++ [] ≡ before = append-nil before in (subst (λ (bs : List Node). IsNode leaves bs n) none is, tt)
nodes_push leaves before (m ∷ ns) n are is =
    let joined : before ++ m ∷ ns ≡ (before ++ m ∷ []) ++ ns = sym (append_assoc before (m ∷ []) ns) in
    (are.0, nodes_push leaves (before ++ m ∷ []) ns n are.1 (subst (λ (bs : List Node). IsNode leaves bs n) joined is))

module _ (leaves : List Leaf) (held : ℕ → LeafType) (count : ℕ) (hold : LeavesHold leaves held count) where
  -- it can be read, and is of the type of its term, of no more than 128 bits
  pub record IsTyped (before : List Node) (r : Read) : Type 0 where
    pub can : CanRead leaves before r
    pub type : term_type (types_of held) (read_term (terms before) r) ≡ read_type leaves before r
    pub narrow : (read_type leaves before r).width ≤ 128

  leaf_typed : (before : List Node) (x : ℕ) → IsWhole held count (leaf x) → IsTyped before (read.Leaf x)
  leaf_typed before x whole =
      let within : x < length leaves = omega (arith, whole.0, hold.long) in
      let found = there leaves x within in
      let l = found.0 in
      let t = whole.1.0 in
      let is : IsHeld l (number t) = subst (IsHeld l) whole.1.1 (hold.each x l found.1) in
      let same : t ≡ type_of_leaf l = λ j. record { signed = sym is.0 j; width = sym is.1 j } in
      let type = type_at leaves x l found.1 in
      record {
        can = (l, found.1, is.3);
        type = ap number_type whole.1.1 ∙ same ∙ sym type;
        narrow = rw type is.2;
      }

  -- nodes over the leaves
  pub record AreTyped (ns : List Node) : Type 0 where
    pub are : AreNodes leaves [] ns
    pub each : (k : ℕ) → k < length ns → IsTyped ns (read.Node k)

  module _ (ns : List Node) (typed_so : AreTyped ns) where
    abbrev type : Read → NumTy
    type = read_type leaves ns

    read_typed : (r : Read) → IsBelow (length ns) r → IsWhole held count (read_term (terms ns) r) → IsTyped ns r
    read_typed (read.Leaf x) below whole = leaf_typed ns x whole
    read_typed (read.Node k) below whole = typed_so.each k below

    reads_typed : (rs : List Read) → AreBelow (length ns) rs → EachRead (λ r. IsWhole held count (read_term (terms ns) r)) rs → EachRead (IsTyped ns) rs
    reads_typed [] below whole = tt
    reads_typed (r ∷ rs) below whole = (read_typed r below.0 whole.0, reads_typed rs below.1 whole.1)

    all_can : (rs : List Read) → EachRead (IsTyped ns) rs → AllByRecursion (CanRead leaves ns) rs
    all_can [] are = tt
    all_can (r ∷ rs) are = (are.0.can, all_can rs are.1)

    all_types : (rs : List Read) → EachRead (IsTyped ns) rs → term_types (types_of held) (read_terms (terms ns) rs) ≡ map type rs
    all_types [] are = refl
    all_types (r ∷ rs) are = λ j. are.0.type j ∷ all_types rs are.1 j

    all_narrow : (rs : List Read) → EachRead (IsTyped ns) rs → AreNarrow (map type rs)
    all_narrow [] are = tt
    all_narrow (r ∷ rs) are = (are.0.narrow, all_narrow rs are.1)

    record IsTypedNode (n : Node) : Type 0 where
      is : IsNode leaves ns n
      narrow : (node_type n).width ≤ 128

    choice_typed : (m : Mux) (rs : List Read) → m.reads ≡ rs → length rs ≡ 3 → EachRead (IsTyped ns) rs
        → IsWhole held count (chosen_term (terms ns) rs m.signed m.width) → IsTypedNode (node.Mux m)
    choice_typed m [] e three are whole = absurd (omega arith)
    choice_typed m (c ∷ []) e three are whole = absurd (omega arith)
    choice_typed m (c ∷ a ∷ []) e three are whole = absurd (omega arith)
    choice_typed m (c ∷ a ∷ b ∷ []) e three are whole =
        let rs = c ∷ a ∷ b ∷ [] in
        let chosen : IsChoice (node_type (node.Mux m)) (map type rs) = subst (IsChoice (node_type (node.Mux m))) (all_types rs are) whole.3 in
        let greater : m.width ≡ max (type a).width (type b).width = chosen.3 in
        let first = are.1.0.narrow in
        let second = are.1.1.0.narrow in
        record {
          is = record {
            reads = rw e (all_can rs are);
            has_type = rw e chosen;
          };
          narrow = omega arith;
        }
    choice_typed m (c ∷ a ∷ b ∷ d ∷ rs) e three are whole = absurd (omega arith)

    node_typed : (n : Node) → HasForm n → EachRead (IsTyped ns) (support_of n) → IsWhole held count (node_term (terms ns) n) → IsTypedNode n
    node_typed (node.Literal v) form are whole = record { is = form; narrow = form.narrow }
    node_typed (node.Operation o) form are whole =
        let types = all_types o.reads are in
        let narrow = all_narrow o.reads are in
        let has : typed o.op (map type o.reads) o.integers ≡ Ok (node_type (node.Operation o)) =
        ap (λ (ts : List NumTy). typed o.op ts o.integers) (sym types) ∙ whole.1 (subst AreNarrow (sym types) narrow) in
        record {
          is = record { reads = all_can o.reads are; has_type = has };
          narrow = result_narrow o.op (map type o.reads) o.integers (node_type (node.Operation o)) narrow has;
        }
    node_typed (node.Mux m) form are whole = choice_typed m m.reads refl form are whole

    module _ (n : Node) (stands : Stands ns (ns ++ n ∷ []) n (length ns)) (form : HasForm n) (below : AreBelow (length ns) (support_of n))
        (whole : IsWhole held count (node_term (terms ns) n)) where
      abbrev more : List Node
      more = ns ++ n ∷ []

      new : IsTypedNode n
      new = node_typed n form (reads_typed (support_of n) below (whole_parts held count (terms ns) n form whole)) whole

      last : IsTyped more (read.Node (length ns))
      last =
          let type : read_type leaves more (read.Node (length ns)) ≡ node_type n =
          ap (λ (o : Option Node). unwrap_or (option_map node_type o) no_type) (push_end ns n) in
          record {
            can = stands.within;
            type = ap (term_type (types_of held)) stands.term ∙ node_term_type (types_of held) (terms ns) n form ∙ sym type;
            narrow = rw type new.narrow;
          }

      earlier : (k : ℕ) → k < length ns → IsTyped more (read.Node k)
      earlier k lt =
          let type : read_type leaves more (read.Node k) ≡ read_type leaves ns (read.Node k) =
          ap (λ (o : Option Node). unwrap_or (option_map node_type o) no_type) (get_left ns (n ∷ []) k lt) in
          let old = typed_so.each k lt in
          let within = stands.within in
          record {
            can = omega arith;
            type = ap (term_type (types_of held)) ((grown_keeps ns more stands.grows).each k lt) ∙ old.type ∙ sym type;
            narrow = rw type old.narrow;
          }

      by : (k : ℕ) → k < length more → (k ≡ length ns) ⊎ (k ≡ length ns → ⊥) → IsTyped more (read.Node k)
      by k lt (inl e) = subst (λ (i : ℕ). IsTyped more (read.Node i)) (sym e) last
      by k lt (inr other) = earlier k (omega (arith, other, length-append ns (n ∷ [])))

      pub typed_push : AreTyped more
      typed_push = record { are = nodes_push leaves [] ns n typed_so.are new.is; each = λ k lt. by k lt (cases_eq k (length ns)) }
