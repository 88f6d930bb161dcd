-- Values of a whole net's leaves that agree wherever something can be read give one value to all that is read.
use Rattle.std.proofs.Common.{◌≡◌, ℕ, List, [], ◌∷◌, ◌++◌, map, Bool, true, false, nat_eq, nat_lt, ◌&&◌, if◌then◌else◌, refl, ap, ◌∙◌, unwrap_or}
use Rattle.std.specs.Prelude.{slice_get, Option, Some}
use Rattle.fir_bits.specs.Operators.{no_operand}
use Rattle.fir_bits.specs.declared.values.Num.{Num}
use Rattle.fir_net.specs.declared.array.ArrayRead.{ArrayRead}
use Rattle.fir_net.specs.declared.leaf.Leaf.{Leaf}
use Rattle.fir_net.specs.declared.net.FlatNet.{FlatNet}
use Rattle.fir_net.specs.declared.node.Node.{Node}
use Rattle.fir_net.specs.declared.reads.Read.{Read}
use Rattle.fir_net.specs.declared.reads.Read.TheVariants as read
use Rattle.fir_net.specs.working.Arrays.{begin_of, word_in, words_of}
use Rattle.fir_net.specs.working.IsNet.{AreNodes, CanRead, IsAddressed, IsClock, IsNet}
use Rattle.fir_net.specs.working.Settled.{clock_output_number, clock_outputs, is_clock, is_high, is_read, output_number, outputs, value_at, word_read}
use Rattle.fir_net.specs.working.Values.{leaf_type, node_value, number_of, read_value, values_from}
use Rattle.fir_net.proofs.NodeReads.{reads_can, same_node}
use Rattle.fir_net.proofs.NumberedLeaves.{leaf_at}
use Rattle.fir_net.proofs.Places.{map_at}
use Rattle.fir_equivalence.proofs.Roles.{clock_output_ticks, clock_outputs_give, output_plain, outputs_give}

-- two choices of values and clocks that agree on every leaf
pub record Agree (net : FlatNet) (e f : ℕ → ℕ) (c d : ℕ → Option ℕ) : Type 0 where
  pub values : (k : ℕ) (l : Leaf) → slice_get net.leaves k ≡ Some l → is_clock l.role ≡ false → e k ≡ f k
  pub clocks : (k : ℕ) (l : Leaf) → slice_get net.leaves k ≡ Some l → is_clock l.role ≡ true → c k ≡ d k

module _ (net : FlatNet) (whole : IsNet net) (e f : ℕ → ℕ) (c d : ℕ → Option ℕ) (agree : Agree net e f c d) where
  known_same : (before : List Node) (known : List Num) (r : Read) → CanRead net.leaves before r → read_value net.leaves e known r ≡ read_value net.leaves f known r
  known_same before known (read.Leaf k) can = ap (number_of (leaf_type net.leaves k)) (agree.values k can.0 can.1 can.2)
  known_same before known (read.Node k) can = refl

  along : (before ns : List Node) (known : List Num) → AreNodes net.leaves before ns → values_from net.leaves e known ns ≡ values_from net.leaves f known ns
  unfolding values_from
  along before [] known are = refl
  along before (n ∷ ns) known are =
      ap (λ (v : Num). values_from net.leaves e (known ++ v ∷ []) ns)
      (same_node net.leaves e f known known n (λ j r at. known_same before known r (reads_can net.leaves before n are.0 j r at)))
      ∙ along (before ++ n ∷ []) ns (known ++ node_value net.leaves f known n ∷ []) are.1

  pub value_same : (r : Read) → CanRead net.leaves net.nodes r → value_at net e r ≡ value_at net f r
  value_same (read.Leaf k) can = ap (number_of (leaf_type net.leaves k)) (agree.values k can.0 can.1 can.2)
  value_same (read.Node k) can = ap (λ (vs : List Num). unwrap_or (slice_get vs k) no_operand) (along [] net.nodes [] whole.nodes)

  pub high_same : (r : Read) → CanRead net.leaves net.nodes r → is_high net e r ≡ is_high net f r
  high_same r can = ap (λ (v : Num). nat_eq v.value.number 1) (value_same r can)

  pub is_read_same : (r : ArrayRead) → IsAddressed net.leaves net.nodes r.address r.enable → is_read net e r ≡ is_read net f r
  is_read_same r is =
      ap (λ (t : Bool). t && nat_lt (value_at net e r.address).value.number (words_of net.arrays r.array)) (high_same r.enable is.enable)
      ∙ ap (λ (v : Num). is_high net f r.enable && nat_lt v.value.number (words_of net.arrays r.array)) (value_same r.address is.address)

  pub word_read_same : (state : List ℕ) (r : ArrayRead) → IsAddressed net.leaves net.nodes r.address r.enable → word_read net state e r ≡ word_read net state f r
  word_read_same state r is =
      ap (λ (t : Bool). if t then word_in state (begin_of net r.array) (value_at net e r.address).value.number else 0) (is_read_same r is)
      ∙ ap (λ (v : Num). if is_read net f r then word_in state (begin_of net r.array) v.value.number else 0) (value_same r.address is.address)

  pub clock_same : (k : ℕ) → IsClock net.leaves k → c k ≡ d k
  clock_same k is = agree.clocks k is.0 is.1 is.2

  pub outputs_agree : map e (outputs net) ≡ map f (outputs net)
  outputs_agree =
      map_at e f (outputs net)
      (λ n k at. let l = leaf_at output_number outputs_give.own net.leaves n k at in agree.values k l.0 l.1 (output_plain l.0.role l.0.width k l.2))

  pub clock_outputs_agree : map c (clock_outputs net) ≡ map d (clock_outputs net)
  clock_outputs_agree =
      map_at c d (clock_outputs net)
      (λ n k at. let l = leaf_at clock_output_number clock_outputs_give.own net.leaves n k at in agree.clocks k l.0 l.1 (clock_output_ticks l.0.role l.0.width k l.2))
