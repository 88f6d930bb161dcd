-- Values of the leaves and nodes that a net had hang on its own leaves alone: where other leaves have their types, and more leaves and nodes stand behind them,
-- they have the same values.
use Rattle.std.proofs.Common.{◌≡◌, ℕ, ◌+◌, ◌<◌, List, [], ◌∷◌, ◌++◌, length, map, Bool, if◌then◌else◌, refl, sym, ap, ◌∙◌, arith, length-append, unwrap_or}
use Rattle.std.specs.Prelude.{slice_get, Option, Some, None, flat_map}
use Rattle.std.specs.List.{AllByRecursion}
use Rattle.fir_base.proofs.Elements.{get_left, all_there}
use Rattle.fir_bits.specs.Operators.{no_operand, outcome}
use Rattle.fir_bits.specs.declared.types.NumTy.{NumTy}
use Rattle.fir_bits.specs.declared.values.Num.{Num}
use Rattle.fir_net.specs.declared.array.Array.{Array}
use Rattle.fir_net.specs.declared.array.ArrayRead.{ArrayRead}
use Rattle.fir_net.specs.declared.array.ArrayWrite.{ArrayWrite}
use Rattle.fir_net.specs.declared.leaf.Leaf.{Leaf}
use Rattle.fir_net.specs.declared.leaf.Reset.{Reset}
use Rattle.fir_net.specs.declared.leaf.ResetKind.{ResetKind}
use Rattle.fir_net.specs.declared.leaf.ResetKind.TheVariants.{Synchronous, Asynchronous}
use Rattle.fir_net.specs.declared.node.Node.{Node}
use Rattle.fir_net.specs.declared.node.Node.TheVariants as node
use Rattle.fir_net.specs.declared.net.FlatNet.{FlatNet}
use Rattle.fir_net.specs.declared.reads.Read.{Read}
use Rattle.fir_net.specs.declared.reads.Read.TheVariants as read
use Rattle.fir_net.specs.working.Arrays.{addresses, begin_of, word_in}
use Rattle.fir_net.specs.working.IsNet.{CanRead, CanBeReset, CanBeDriven, IsAddressed, IsArray, IsArrayWrite, IsNode, AreNodes, IsNet}
use Rattle.fir_net.specs.working.Next.{array_after, arrays_next, is_written, taken, taken_under, taken_with, word_after}
use Rattle.fir_net.specs.working.Settled.{shown, shown_by, value_at, word_read}
use Rattle.fir_net.specs.working.Values.{at_width, chosen, leaf_type, node_value, number_of, read_value, values, values_from}
use Rattle.fir_mem.specs.working.Built.{Built}
use Rattle.fir_mem.proofs.Building.{Building, net_of}
use Rattle.fir_mem.proofs.Growth.{Grown, type_there}

-- ---- along a list of nodes
values_long : (leaves : List Leaf) (env : ℕ → ℕ) (known : List Num) (ns : List Node) → length (values_from leaves env known ns) ≡ length known + length ns
unfolding values_from
values_long leaves env known [] = omega arith
values_long leaves env known (n ∷ ns) =
    let v = node_value leaves env known n in
    values_long leaves env (known ++ v ∷ []) ns ∙ rw length-append (omega arith)

values_joined : (leaves : List Leaf) (env : ℕ → ℕ) (known : List Num) (xs ys : List Node) → values_from leaves env known (xs ++ ys) ≡ values_from leaves env (values_from leaves env known xs) ys
unfolding values_from
values_joined leaves env known [] ys = refl
values_joined leaves env known (x ∷ xs) ys = values_joined leaves env (known ++ node_value leaves env known x ∷ []) xs ys

known_stays : (leaves : List Leaf) (env : ℕ → ℕ) (known : List Num) (ns : List Node) (k : ℕ) → k < length known → slice_get (values_from leaves env known ns) k ≡ slice_get known k
unfolding values_from
known_stays leaves env known [] k h = refl
known_stays leaves env known (n ∷ ns) k h =
    let v = node_value leaves env known n in
    let longer : k < length (known ++ v ∷ []) = simp length-append (omega (arith, h)) in
    known_stays leaves env (known ++ v ∷ []) ns k longer ∙ get_left known (v ∷ []) k h

-- the other values of leaves are those of the net on its own leaves
pub record Extends (net : FlatNet) (env other : ℕ → ℕ) : Type 0 where
  pub same : (k : ℕ) (l : Leaf) → slice_get net.leaves k ≡ Some l → other k ≡ env k

module _ (net : FlatNet) (order : List Read) (whole : IsNet net) (b : Built) (B : Building net order b) (grown : Grown net.leaves net.nodes b.leaves b.nodes) (env other : ℕ → ℕ) (e : Extends net env other) where
  abbrev lowered : FlatNet
  lowered = net_of net b

  leaf_same : (k : ℕ) (l : Leaf) → slice_get net.leaves k ≡ Some l → number_of (leaf_type b.leaves k) (other k) ≡ number_of (leaf_type net.leaves k) (env k)
  leaf_same k l at =
      let x = grown.leaf k l at in
      ap (λ (t : NumTy). number_of t (other k)) (type_there b.leaves k x.0 x.1 ∙ x.2.typed ∙ sym (type_there net.leaves k l at))
      ∙ ap (number_of (leaf_type net.leaves k)) (e.same k l at)

  known_same : (before : List Node) (known : List Num) (r : Read) → CanRead net.leaves before r → read_value b.leaves other known r ≡ read_value net.leaves env known r
  known_same before known (read.Leaf k) can = leaf_same k can.0 can.1
  known_same before known (read.Node k) can = refl

  all_same : (before : List Node) (known : List Num) (rs : List Read) → AllByRecursion (CanRead net.leaves before) rs → map (read_value b.leaves other known) rs ≡ map (read_value net.leaves env known) rs
  all_same before known [] can = refl
  all_same before known (r ∷ rs) can = rw (known_same before known r can.0, all_same before known rs can.1) refl

  node_same : (before : List Node) (known : List Num) (n : Node) → IsNode net.leaves before n → node_value b.leaves other known n ≡ node_value net.leaves env known n
  node_same before known (node.Literal v) is = refl
  node_same before known (node.Operation o) is = ap (λ (vs : List Num). outcome o.op vs o.integers) (all_same before known o.reads is.reads)
  node_same before known (node.Mux m) is = ap (chosen (record { signed = m.signed; width = m.width })) (all_same before known m.reads is.reads)

  along : (before ns : List Node) (known : List Num) → AreNodes net.leaves before ns → values_from b.leaves other known ns ≡ values_from net.leaves env known ns
  unfolding values_from
  along before [] known are = refl
  along before (n ∷ ns) known are =
      ap (λ (v : Num). values_from b.leaves other (known ++ v ∷ []) ns) (node_same before known n are.0)
      ∙ along (before ++ n ∷ []) ns (known ++ node_value net.leaves env known n ∷ []) are.1

  -- ---- what can be read has the same value
  pub same : (r : Read) → CanRead net.leaves net.nodes r → value_at lowered other r ≡ value_at net env r
  same (read.Leaf k) can = leaf_same k can.0 can.1
  same (read.Node k) can =
      let old = values net env in
      let long : k < length old = omega (arith, can, values_long net.leaves env [] net.nodes) in
      let all : values lowered other ≡ values_from b.leaves other old B.more =
      ap (values_from b.leaves other []) B.nodes ∙ values_joined b.leaves other [] net.nodes B.more
      ∙ ap (λ (vs : List Num). values_from b.leaves other vs B.more) (along [] net.nodes [] whole.nodes) in
      ap (λ (vs : List Num). unwrap_or (slice_get vs k) no_operand) all
      ∙ ap (λ (o : Option Num). unwrap_or o no_operand) (known_stays b.leaves other old B.more k long)

  pub word_read_same : (state : List ℕ) (r : ArrayRead) → IsAddressed net.leaves net.nodes r.address r.enable → word_read lowered state other r ≡ word_read net state env r
  word_read_same state r is = rw (same r.address is.address, same r.enable is.enable) refl

  shown_kind : (signed : Bool) (width : ℕ) (kind : ResetKind) (r : Reset) (word : ℕ) → CanBeReset net.leaves net.nodes signed (Some r) → shown_by lowered other width kind r.condition r.init word ≡ shown_by net env width kind r.condition r.init word
  shown_kind signed width Synchronous r word is = refl
  shown_kind signed width Asynchronous r word is = rw (same r.condition is.condition, same r.init is.init.can) refl

  pub shown_same : (signed : Bool) (width : ℕ) (reset : Option Reset) (word : ℕ) → CanBeReset net.leaves net.nodes signed reset → shown lowered other width reset word ≡ shown net env width reset word
  shown_same signed width None word is = refl
  shown_same signed width (Some r) word is = shown_kind signed width r.kind r word is

  pub taken_same : (signed : Bool) (width now : ℕ) (next : Option Read) → CanBeDriven net.leaves net.nodes signed next → taken lowered other width now next ≡ taken net env width now next
  taken_same signed width now None is = refl
  taken_same signed width now (Some r) is = ap (λ (v : Num). at_width v width) (same r is.can)

  under_same : (signed : Bool) (width now : ℕ) (kind : ResetKind) (r : Reset) (next : ℕ) → CanBeReset net.leaves net.nodes signed (Some r)
      → taken_under lowered other width now kind r.condition r.init next ≡ taken_under net env width now kind r.condition r.init next
  under_same signed width now Synchronous r next is = rw (same r.condition is.condition, same r.init is.init.can) refl
  under_same signed width now Asynchronous r next is = rw (same r.condition is.condition) refl

  pub with_same : (signed : Bool) (width now : ℕ) (reset : Option Reset) (next : ℕ) → CanBeReset net.leaves net.nodes signed reset → taken_with lowered other width now reset next ≡ taken_with net env width now reset next
  with_same signed width now None next is = refl
  with_same signed width now (Some r) next is = under_same signed width now r.kind r next is

  module _ (clock : ℕ → Option ℕ) (named : List ℕ) where
    written_same : (signed : Bool) (width : ℕ) (w : ArrayWrite) (address : ℕ) → IsArrayWrite net.leaves net.nodes signed width w → is_written lowered other clock named w address ≡ is_written net env clock named w address
    written_same signed width w address is = rw (same w.condition is.addressed.enable, same w.address is.addressed.address) refl

    after_same : (signed : Bool) (width : ℕ) (ws : List ArrayWrite) (address word : ℕ) → AllByRecursion (IsArrayWrite net.leaves net.nodes signed width) ws
        → word_after lowered other clock named width ws address word ≡ word_after net env clock named width ws address word
    after_same signed width [] address word is = refl
    after_same signed width (w ∷ ws) address word is =
        ap (λ (x : Bool). word_after lowered other clock named width ws address (if x then at_width (value_at lowered other w.given) width else word)) (written_same signed width w address is.0)
        ∙ ap (λ (v : Num). word_after lowered other clock named width ws address (if is_written net env clock named w address then at_width v width else word)) (same w.given is.0.given)
        ∙ after_same signed width ws address (if is_written net env clock named w address then at_width (value_at net env w.given) width else word) is.1

    -- the words of an array at some addresses
    map_same : (f g : ℕ → ℕ) (xs : List ℕ) → ((x : ℕ) → f x ≡ g x) → map f xs ≡ map g xs
    map_same f g [] h = refl
    map_same f g (x ∷ xs) h = rw (h x, map_same f g xs h) refl

    array_same : (state : List ℕ) (k : ℕ) (o : Option Array) → slice_get net.arrays k ≡ o → array_after lowered other clock named state k o ≡ array_after net env clock named state k o
    array_same state k None at = refl
    array_same state k (Some a) at =
        let is = all_there (IsArray net.leaves net.nodes) net.arrays whole.arrays k a at in
        map_same (λ address. word_after lowered other clock named a.width a.writes address (word_in state (begin_of net k) address))
        (λ address. word_after net env clock named a.width a.writes address (word_in state (begin_of net k) address)) (addresses 0 a.words)
        (λ address. after_same a.signed a.width a.writes address (word_in state (begin_of net k) address) is.writes)

    flat_same : (f g : ℕ → List ℕ) (xs : List ℕ) → ((x : ℕ) → f x ≡ g x) → flat_map f xs ≡ flat_map g xs
    flat_same f g [] h = refl
    flat_same f g (x ∷ xs) h = rw (h x, flat_same f g xs h) refl

    pub arrays_same : (state : List ℕ) → arrays_next lowered other clock named state ≡ arrays_next net env clock named state
    arrays_same state =
        flat_same (λ k. array_after lowered other clock named state k (slice_get net.arrays k)) (λ k. array_after net env clock named state k (slice_get net.arrays k)) net.array_order
        (λ k. array_same state k (slice_get net.arrays k) refl)
