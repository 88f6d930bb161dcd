-- Vertices are leaves and nodes, and the other way round; and the targets of a vertex are what its leaf or node hangs on.
use Rattle.std.proofs.Common.{◌≡◌, ℕ, zero, suc, ◌+◌, ◌-◌, ◌<◌, ◌≤◌, List, [], ◌∷◌, Option, Some, length, map, option_map, refl, sym, ap, ◌∙◌, subst, inl, inr, ◌⊎◌, arith}
use Rattle.std.specs.Prelude.{slice_get}
use Rattle.std.proofs.lemmas.Bool.{cases_lt, lt-ltb, le-ltb}
use Rattle.std.proofs.lemmas.Option.{none-some, slice_get-map}
use Rattle.fir_graph.specs.working.HasTarget.{HasTarget}
use Rattle.fir_net.specs.declared.reads.Read.{Read}
use Rattle.fir_net.specs.declared.reads.Read.TheVariants as read
use Rattle.fir_net.specs.declared.net.FlatNet.{FlatNet}
use Rattle.fir_net.specs.working.Dependence.{reads_of, IsOf, Reads}
use Rattle.fir_net.specs.working.IsNet.{IsNet}
use Rattle.fir_loop.specs.working.Numbered.{vertex_of, read_of, size_of, targets_of}
use Rattle.fir_loop.proofs.NetReads.{reads_within}

-- an element of a mapped list is what an element gives
pub from_map : {A B : Type 0} → (f : A → B) (xs : List A) (i : ℕ) (y : B) → slice_get (map f xs) i ≡ Some y → (x : A) × (slice_get xs i ≡ Some x) × (f x ≡ y)
from_map f [] i y e = absurd (none-some y e)
from_map f (x ∷ xs) zero y e = (x, refl, cc)
from_map f (x ∷ xs) (suc i) y e = from_map f xs i y e

module _ (net : FlatNet) where
  node_read : (v : ℕ) → v < length net.nodes → read_of net v ≡ read.Node v
  node_read v h = rw (lt-ltb v (length net.nodes) h) refl

  leaf_read : (v : ℕ) → length net.nodes ≤ v → read_of net v ≡ read.Leaf (v - length net.nodes)
  leaf_read v h = rw (le-ltb v (length net.nodes) h) refl

  pub vertex_read : (v : ℕ) → vertex_of net (read_of net v) ≡ v
  vertex_read v = by (cases_lt v (length net.nodes))
    where
      by : (v < length net.nodes) ⊎ (length net.nodes ≤ v) → vertex_of net (read_of net v) ≡ v
      by (inl l) = ap (vertex_of net) (node_read v l)
      by (inr l) = let whole : length net.nodes + (v - length net.nodes) ≡ v = omega (arith, l) in ap (vertex_of net) (leaf_read v l) ∙ whole

  pub read_vertex : (r : Read) → IsOf net r → read_of net (vertex_of net r) ≡ r
  read_vertex (read.Leaf k) h =
      let part : (length net.nodes + k) - length net.nodes ≡ k = omega arith in
      leaf_read (length net.nodes + k) (omega arith) ∙ ap read.Leaf part
  read_vertex (read.Node k) h = node_read k h

  pub vertex_within : (r : Read) → IsOf net r → vertex_of net r < size_of net
  vertex_within (read.Leaf k) h = omega (arith, h)
  vertex_within (read.Node k) h = omega (arith, h)

  pub read_within : (v : ℕ) → v < size_of net → IsOf net (read_of net v)
  read_within v h = by (cases_lt v (length net.nodes))
    where
      by : (v < length net.nodes) ⊎ (length net.nodes ≤ v) → IsOf net (read_of net v)
      by (inl l) = subst (IsOf net) (sym (node_read v l)) l
      by (inr l) = let low : v - length net.nodes < length net.leaves = omega (arith, l, h) in subst (IsOf net) (sym (leaf_read v l)) low

module _ (net : FlatNet) (whole : IsNet net) where
  pub target_reads : (v w : ℕ) → HasTarget (targets_of net) v w → Reads net (read_of net v) (read_of net w)
  target_reads v w t =
      let r = from_map (vertex_of net) (reads_of net (read_of net v)) t.place w t.is in
      let reads : Reads net (read_of net v) r.0 = record { place = t.place; is = r.1 } in
      let same : r.0 ≡ read_of net w = sym (read_vertex net r.0 (reads_within net whole (read_of net v) r.0 reads)) ∙ ap (read_of net) r.2 in
      subst (Reads net (read_of net v)) same reads

  pub reads_target : (v : ℕ) (r : Read) → Reads net (read_of net v) r → HasTarget (targets_of net) v (vertex_of net r)
  reads_target v r h = record {
    place = h.place;
    is = slice_get-map (vertex_of net) (reads_of net (read_of net v)) h.place ∙ ap (option_map (vertex_of net)) h.is;
  }

  pub targets_within : (v place t : ℕ) → slice_get (targets_of net v) place ≡ Some t → t < size_of net
  targets_within v place t e =
      let r = from_map (vertex_of net) (reads_of net (read_of net v)) place t e in
      let reads : Reads net (read_of net v) r.0 = record { place = place; is = r.1 } in
      subst (λ (x : ℕ). x < size_of net) r.2 (vertex_within net r.0 (reads_within net whole (read_of net v) r.0 reads))

-- what is hung on at a place, as a vertex
pub target_at : (net : FlatNet) (v place : ℕ) (o : Option Read) → o ≡ slice_get (reads_of net (read_of net v)) place → option_map (vertex_of net) o ≡ slice_get (targets_of net v) place
target_at net v place o e = ap (option_map (vertex_of net)) e ∙ sym (slice_get-map (vertex_of net) (reads_of net (read_of net v)) place)
