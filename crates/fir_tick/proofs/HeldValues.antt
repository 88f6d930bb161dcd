-- What leaves and nodes are worth hangs on what they read alone.
use Rattle.std.proofs.Common.{◌≡◌, ℕ, List, [], ◌∷◌, refl, ap}
use Rattle.std.specs.Prelude.{slice_get, Option, Some, None}
use Rattle.fir_bits.specs.declared.values.Num.{Num}
use Rattle.fir_net.specs.declared.array.ArrayRead.{ArrayRead}
use Rattle.fir_net.specs.declared.reads.Read.{Read}
use Rattle.fir_net.specs.declared.reads.Read.TheVariants as read
use Rattle.fir_net.specs.declared.leaf.ResetKind.{ResetKind}
use Rattle.fir_net.specs.declared.leaf.ResetKind.TheVariants.{Synchronous, Asynchronous}
use Rattle.fir_net.specs.declared.leaf.Reset.{Reset}
use Rattle.fir_net.specs.declared.leaf.Role.{Role}
use Rattle.fir_net.specs.declared.leaf.Role.TheVariants as role
use Rattle.fir_net.specs.declared.leaf.Leaf.{Leaf}
use Rattle.fir_net.specs.declared.node.Node.{Node}
use Rattle.fir_net.specs.declared.net.FlatNet.{FlatNet}
use Rattle.fir_net.specs.working.Values.{at_width, number_of}
use Rattle.fir_net.specs.working.Dependence.{node_reads, kind_reads, reset_reads, role_reads, leaf_reads, reads_of, Reads}
use Rattle.fir_net.specs.working.IsOrder.{IsOrder}
use Rattle.fir_work.specs.working.Numbers.{number_at, type_read}
use Rattle.fir_work.proofs.SameNodes.{node_same}
use Rattle.fir_work.specs.working.NodeValues.{held_node_at}
use Rattle.fir_tick.specs.working.Settling.{held_under, held_register, held_word, held_role, held_leaf_at, worth}
use Rattle.fir_tick.proofs.Walks.{Hangs}

-- what a leaf of that role reads is the same
record Agree (rs : List Read) (e f : Read → Num) : Type 0 where
  each : (j : ℕ) (r : Read) → slice_get rs j ≡ Some r → e r ≡ f r

under_same : (e f : Read → Num) (w : ℕ) (kind : ResetKind) (c i : Read) (now : ℕ) → Agree (kind_reads kind c i) e f → held_under e w kind c i now ≡ held_under f w kind c i now
under_same e f w Synchronous c i now h = refl
under_same e f w Asynchronous c i now h = let high = h.each 0 c refl in let value = h.each 1 i refl in rw (high, value) refl

register_same : (e f : Read → Num) (w : ℕ) (o : Option Reset) (now : ℕ) → Agree (reset_reads o) e f → held_register e w o now ≡ held_register f w o now
register_same e f w None now h = refl
register_same e f w (Some r) now h = under_same e f w r.kind r.condition r.init now h

word_same : (net : FlatNet) (state : List ℕ) (e f : Read → Num) (r : ArrayRead) → Agree (r.address ∷ r.enable ∷ []) e f → held_word net state e r ≡ held_word net state f r
word_same net state e f r h = let address = h.each 0 r.address refl in let enable = h.each 1 r.enable refl in rw (address, enable) refl

role_same : (net : FlatNet) (state : List ℕ) (e f : Read → Num) (w : ℕ) (now : ℕ) (r : Role) → Agree (role_reads r) e f → held_role net state e w now r ≡ held_role net state f w now r
role_same net state e f w now role.Input h = refl
role_same net state e f w now role.Clock h = refl
role_same net state e f w now (role.Output r) h = ap (λ (v : Num). at_width v w) (h.each 0 r refl)
role_same net state e f w now (role.Wire r) h = ap (λ (v : Num). at_width v w) (h.each 0 r refl)
role_same net state e f w now (role.Register d) h = register_same e f w d.reset now h
role_same net state e f w now (role.Reading r) h = word_same net state e f r h
role_same net state e f w now (role.Pipe p) h = refl
role_same net state e f w now (role.ClockOutput c) h = refl
role_same net state e f w now (role.ClockWire c) h = refl

leaf_same : (net : FlatNet) (state : List ℕ) (e f : Read → Num) (now : ℕ) (o : Option Leaf) → Agree (leaf_reads o) e f → held_leaf_at net state e now o ≡ held_leaf_at net state f now o
leaf_same net state e f now None h = refl
leaf_same net state e f now (Some l) h = role_same net state e f l.width now l.role h

node_at_same : (e f : Read → Num) (o : Option Node) → Agree (node_reads o) e f → held_node_at e o ≡ held_node_at f o
node_at_same e f None h = refl
node_at_same e f (Some n) h = node_same e f n h.each

worth_same : (net : FlatNet) (state start : List ℕ) (e f : Read → Num) (v : Read) → Agree (reads_of net v) e f → worth net state start e v ≡ worth net state start f v
worth_same net state start e f (read.Leaf k) h = leaf_same net state e f (number_at start k) (slice_get net.leaves k) h
worth_same net state start e f (read.Node k) h = ap (λ (v : Num). v.value.number) (node_at_same e f (slice_get net.nodes k) h)

-- the value that a leaf or a node is worth
abbrev pub value_worth : FlatNet → List ℕ → List ℕ → (Read → Num) → Read → Num
value_worth net state start value v = number_of (type_read net v) (worth net state start value v)

pub worth_hangs : (net : FlatNet) (order : List Read) → IsOrder net order → (state start : List ℕ) → Hangs order (value_worth net state start)
worth_hangs net order is state start = record {
  each = λ i v e f at h.
      ap (number_of (type_read net v))
      (worth_same net state start e f v
      (record {
        each = λ j r reads.
            let hangs : Reads net v r = record { place = j; is = reads } in
            let before = is.after i v r at hangs in
            h before.0 r before.1 before.2;
      }));
}
