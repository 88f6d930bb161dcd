-- Orders and circles of vertices, as the leaves and nodes that they are.
use Rattle.std.proofs.Common.{◌≡◌, ℕ, List, [], ◌∷◌, Some, map, option_map, sym, ap, ◌∙◌, subst}
use Rattle.std.specs.Prelude.{slice_get}
use Rattle.std.proofs.lemmas.Option.{slice_get-map}
use Rattle.fir_base.specs.Lists.{In, Distinct}
use Rattle.fir_base.proofs.Members.{in_map_from}
use Rattle.fir_graph.specs.working.IsOrder as graph
use Rattle.fir_graph.specs.working.IsCircle as turning
use Rattle.fir_net.specs.declared.reads.Read.{Read}
use Rattle.fir_net.specs.declared.net.FlatNet.{FlatNet}
use Rattle.fir_net.specs.working.Dependence.{IsOf, Reads}
use Rattle.fir_net.specs.working.IsNet.{IsNet}
use Rattle.fir_net.specs.working.IsOrder.{IsOrder}
use Rattle.fir_loop.specs.working.IsCircle.{Chain, Turns, IsCircle}
use Rattle.fir_loop.specs.working.Numbered.{vertex_of, read_of, size_of, targets_of}
use Rattle.fir_loop.proofs.NetReads.{reads_within}
use Rattle.fir_loop.proofs.Numbering.{from_map, vertex_read, read_vertex, vertex_within, read_within, target_reads, reads_target}

module _ (net : FlatNet) (whole : IsNet net) where
  pub order_read : (vs : List ℕ) → graph.IsOrder (size_of net) (targets_of net) vs → IsOrder net (map (read_of net) vs)
  order_read vs o = record {
    only = λ i r e. let x = from_map (read_of net) vs i r e in subst (IsOf net) x.2 (read_within net x.0 (o.only i x.0 x.1));
    once = λ i j r e f. let x = from_map (read_of net) vs i r e in let y = from_map (read_of net) vs j r f in o.once i j x.0 x.1 (y.1 ∙ ap Some (one y.0 x.0 (y.2 ∙ sym x.2)));
    after = λ i r s e h.
        let x = from_map (read_of net) vs i r e in
        let a = o.after i x.0 (vertex_of net s) x.1 (reads_target net whole x.0 s (subst (λ (u : Read). Reads net u s) (sym x.2) h)) in
        (a.0, a.1, stands a.0 s (reads_within net whole r s h) a.2);
    all = λ r of. let a = o.all (vertex_of net r) (vertex_within net r of) in (a.0, stands a.0 r of a.1);
  }
    where
      one : (v w : ℕ) → read_of net v ≡ read_of net w → v ≡ w
      one v w e = sym (vertex_read net v) ∙ ap (vertex_of net) e ∙ vertex_read net w

      stands : (i : ℕ) (r : Read) → IsOf net r → slice_get vs i ≡ Some (vertex_of net r) → slice_get (map (read_of net) vs) i ≡ Some r
      stands i r of e = slice_get-map (read_of net) vs i ∙ ap (option_map (read_of net)) e ∙ ap Some (read_vertex net r of)

  chain_read : (v : ℕ) (vs : List ℕ) (w : ℕ) → turning.Chain (targets_of net) v vs w → Chain net (read_of net v) (map (read_of net) vs) (read_of net w)
  chain_read v [] w c = target_reads net whole v w c
  chain_read v (x ∷ xs) w c = (target_reads net whole v x c.0, chain_read x xs w c.1)

  turns_read : (vs : List ℕ) → turning.Turns (targets_of net) vs → Turns net (map (read_of net) vs)
  turns_read [] t = t
  turns_read (v ∷ vs) t = chain_read v vs v t

  in_read : (vs : List ℕ) (v : ℕ) → In (map (read_of net) vs) (read_of net v) → In vs v
  in_read vs v m =
      let x = in_map_from (read_of net) vs (read_of net v) m in
      subst (In vs) (sym (vertex_read net x.0) ∙ ap (vertex_of net) x.2 ∙ vertex_read net v) x.1

  distinct_read : (vs : List ℕ) → Distinct vs → Distinct (map (read_of net) vs)
  distinct_read [] d = tt
  distinct_read (v ∷ vs) d = ((λ m. d.0 (in_read vs v m)), distinct_read vs d.1)

  pub circle_read : (vs : List ℕ) → turning.IsCircle (targets_of net) vs → IsCircle net (map (read_of net) vs)
  circle_read vs c = record { turns = turns_read vs c.turns; once = distinct_read vs c.once }

  -- the same of a list that is read of the net
  pub order_shown : (other : FlatNet) (vs slice : List ℕ) (reads : List Read) → other ≡ net → graph.IsOrder (size_of other) (targets_of other) vs → slice ≡ vs → reads ≡ map (read_of other) slice → IsOrder net reads
  order_shown other vs slice reads e o s r = rw (r, s, e) (order_read vs (rw e at o))

  pub circle_shown : (other : FlatNet) (vs slice : List ℕ) (reads : List Read) → other ≡ net → turning.IsCircle (targets_of other) vs → slice ≡ vs → reads ≡ map (read_of other) slice → IsCircle net reads
  circle_shown other vs slice reads e o s r = rw (r, s, e) (circle_read vs (rw e at o))
