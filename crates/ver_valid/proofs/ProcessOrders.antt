-- An order of the graph of the processes is an order of the processes, and where the graph has a circle they have none.
use Rattle.std.proofs.Common.{◌≡◌, ℕ, zero, suc, ◌<◌, List, [], ◌∷◌, ◌++◌, length, refl, sym, ap, ◌∙◌, inl, inr, ◌⊎◌, ⊎_elim, subst, arith}
use Rattle.std.specs.Prelude.{slice_get, Some}
use Rattle.std.proofs.lemmas.Option.{none-some, same_Some, slice_get_within}
use Rattle.fir_base.specs.Lists.{In, Distinct, EachIn}
use Rattle.fir_base.proofs.Elements.{get_in, number_of, there}
use Rattle.fir_base.proofs.Members.{in_map_from, each_in}
use Rattle.fir_graph.specs.working.HasTarget.{HasTarget}
use Rattle.fir_graph.specs.working.IsOrder.{IsOrder as IsGraphOrder}
use Rattle.fir_graph.specs.working.IsCircle.{IsCircle, Chain, Turns}
use Rattle.fir_graph.proofs.Positions.{distinct_from, distinct_at}
use Rattle.ver_ast.specs.declared.tree.Verilog.{Verilog}
use Rattle.ver_ast.specs.Processes.{Process, target, processes, process_targets, process_reads}
use Rattle.ver_ast.specs.Valid.{IsOrder, ReadsBefore}
use Rattle.ver_valid.specs.working.Circles.{IsCircle as IsProcessCircle, ReadOn, ReadRound, ReadsFrom}
use Rattle.ver_valid.specs.working.Drivers.{targets_of}
use Rattle.ver_valid.proofs.DrivenNets.{source_names}
use Rattle.ver_valid.proofs.ProcessReads.{get_mapped, Edges, has_place}

-- the processes of these numbers
abbrev Listed : List Process → List ℕ → List Process → Type 0
Listed ps [] [] = Unit {0}
Listed ps [] (p ∷ order) = ⊥
Listed ps (i ∷ is) [] = ⊥
Listed ps (i ∷ is) (p ∷ order) = (slice_get ps i ≡ Some p) × Listed ps is order

listed : (ps : List Process) (is : List ℕ) → ((i : ℕ) → In is i → i < length ps) → (order : List Process) × Listed ps is order
listed ps [] h = ([], tt)
listed ps (i ∷ is) h =
    let p = there ps i (h i (inl refl)) in
    let rest = listed ps is (λ j m. h j (inr m)) in
    (p.0 ∷ rest.0, (p.1, rest.1))

listed_in : (ps : List Process) (is : List ℕ) (order : List Process) → Listed ps is order → (p : Process) → In order p → (i : ℕ) × In is i × (slice_get ps i ≡ Some p)
listed_in ps [] [] l p m = absurd m
listed_in ps [] (q ∷ order) l p m = absurd l
listed_in ps (i ∷ is) [] l p m = absurd m
listed_in ps (i ∷ is) (q ∷ order) l p (inl e) = (i, inl refl, l.0 ∙ ap Some e)
listed_in ps (i ∷ is) (q ∷ order) l p (inr m) = let r = listed_in ps is order l.1 p m in (r.0, inr r.1, r.2)

in_listed : (ps : List Process) (is : List ℕ) (order : List Process) → Listed ps is order → (i : ℕ) (p : Process) → In is i → slice_get ps i ≡ Some p → In order p
in_listed ps [] order l i p m e = absurd m
in_listed ps (j ∷ is) [] l i p m e = absurd l
in_listed ps (j ∷ is) (q ∷ order) l i p (inl same) e = inl (same_Some q p (sym l.0 ∙ ap (slice_get ps) same ∙ e))
in_listed ps (j ∷ is) (q ∷ order) l i p (inr m) e = inr (in_listed ps is order l.1 i p m e)

listed_once : (ps : List Process) → Distinct (process_targets ps) → (is : List ℕ) (order : List Process) → Listed ps is order → Distinct is → Distinct (process_targets order)
listed_once ps once [] [] l d = tt
listed_once ps once [] (p ∷ order) l d = absurd l
listed_once ps once (i ∷ is) [] l d = absurd l
listed_once ps once (i ∷ is) (p ∷ order) l d = (
  λ m.
      let q = in_map_from target order (target p) m in
      let r = listed_in ps is order l.1 q.0 q.1 in
      let same : i ≡ r.0 =
      distinct_at (process_targets ps) once i r.0 (target p) (get_mapped target ps i p l.0) (get_mapped target ps r.0 q.0 r.2 ∙ ap Some q.2) in
      d.0 (subst (In is) (sym same) r.1),
  listed_once ps once is order l.1 d.1,
)

each_from : (xs ys : List (List ℕ)) → ((x : List ℕ) → In xs x → In ys x) → EachIn xs ys
each_from [] ys h = tt
each_from (x ∷ xs) ys h = (h x (inl refl), each_from xs ys (λ z m. h z (inr m)))

-- what a process of an order reads is known, or the target of one before it
read_before : (known : List (List ℕ)) (order : List Process) → ReadsBefore known order → (k : ℕ) (p : Process) (n : List ℕ) → slice_get order k ≡ Some p
    → In (process_reads p) n → In known n ⊎ ((j : ℕ) × (j < k) × (slice_get (process_targets order) j ≡ Some n))
read_before known [] r k p n e m = absurd (none-some p e)
read_before known (q ∷ order) r zero p n e m = inl (each_in (process_reads q) known r.0 n (subst (λ (z : Process). In (process_reads z) n) (sym (same_Some q p e)) m))
read_before known (q ∷ order) r (suc k) p n e m =
    ⊎_elim
    (λ (o : In (target q ∷ known) n). first o)
    (λ (o : (j : ℕ) × (j < k) × (slice_get (process_targets order) j ≡ Some n)). inr (suc o.0, omega (arith, o.1), o.2))
    (read_before (target q ∷ known) order r.1 k p n e m)
  where
    first : In (target q ∷ known) n → In known n ⊎ ((j : ℕ) × (j < suc k) × (slice_get (process_targets (q ∷ order)) j ≡ Some n))
    first (inl same) = inr (0, omega arith, ap Some same)
    first (inr o) = inl o

module _ (v : Verilog) (order : List Process) (o : IsOrder v order) where
  pub place_of : (p : Process) → In (processes v) p → (k : ℕ) × (slice_get (process_targets order) k ≡ Some (target p))
  place_of p m = let k = number_of order p (o.each p m) in (k.0, get_mapped target order k.0 p k.1)

  -- what a process reads is the target of one before it, unless it is a source
  pub read_earlier : (p : Process) → In (processes v) p → (n : List ℕ) → In (process_reads p) n → (In (source_names v) n → ⊥)
      → (k : ℕ) → slice_get (process_targets order) k ≡ Some (target p) → (j : ℕ) × (j < k) × (slice_get (process_targets order) j ≡ Some n)
  read_earlier p m n reads other k e =
      let r = number_of order p (o.each p m) in
      let same : r.0 ≡ k = distinct_at (process_targets order) o.once r.0 k (target p) (get_mapped target order r.0 p r.1) e in
      ⊎_elim
      (λ (i : In (source_names v) n). absurd (other i))
      (λ (b : (j : ℕ) × (j < k) × (slice_get (process_targets order) j ≡ Some n)). b)
      (read_before (source_names v) order o.after k p n (ap (slice_get order) (sym same) ∙ r.1) reads)

module _ (v : Verilog) (graph : List (List ℕ)) (g : Edges v graph) (once : Distinct (process_targets (processes v))) where
  abbrev edge : ℕ → ℕ → Type 0
  edge = HasTarget (targets_of graph)

  abbrev driven_name : ℕ → List ℕ → Type 0
  driven_name w n = slice_get (process_targets (processes v)) w ≡ Some n

  -- what each number needs stands before it, or is known
  abbrev Behind : List (List ℕ) → List ℕ → Type 0
  Behind known is =
      (k i w : ℕ) → slice_get is k ≡ Some i → edge i w
      → ((j : ℕ) × (j < k) × (slice_get is j ≡ Some w)) ⊎ ((n : List ℕ) → driven_name w n → In known n)

  module _ (all_known : (p : Process) → In (processes v) p → EachIn (process_reads p) (source_names v ++ process_targets (processes v))) where
    reads_before : (known : List (List ℕ)) (is : List ℕ) (order : List Process) → Listed (processes v) is order
        → ((n : List ℕ) → In (source_names v) n → In known n) → Behind known is → ReadsBefore known order
    reads_before known [] [] l sources behind = tt
    reads_before known [] (p ∷ order) l sources behind = absurd l
    reads_before known (i ∷ is) [] l sources behind = absurd l
    reads_before known (i ∷ is) (p ∷ order) l sources behind = (
      each_from (process_reads p) known (λ n m.
          ⊎_elim
          (λ (o : In (source_names v) n). sources n o)
          (λ (o : (w : ℕ) × edge i w × driven_name w n). ⊎_elim
          (λ (early : (j : ℕ) × (j < 0) × (slice_get (i ∷ is) j ≡ Some o.0)). absurd (omega (arith, early.1)))
          (λ (done : (n : List ℕ) → driven_name o.0 n → In known n). done n o.2)
          (behind 0 i o.0 refl o.1))
          (g.full i p n l.0 m (each_in (process_reads p) _ (all_known p (get_in (processes v) i p l.0)) n m))),
      reads_before (target p ∷ known) is order l.1 (λ n m. inr (sources n m)) (λ k j w e h.
          ⊎_elim
          (λ (early : (q : ℕ) × (q < suc k) × (slice_get (i ∷ is) q ≡ Some w)). next k w early.0 early.1 early.2)
          (λ (done : (n : List ℕ) → driven_name w n → In known n). inr (λ n d. inr (done n d)))
          (behind (suc k) j w e h)),
    )
      where
        next : (k w q : ℕ) → q < suc k → slice_get (i ∷ is) q ≡ Some w
            → ((j : ℕ) × (j < k) × (slice_get is j ≡ Some w)) ⊎ ((n : List ℕ) → driven_name w n → In (target p ∷ known) n)
        next k w zero less e =
            inr (λ n d. inl (same_Some (target p) n (sym (get_mapped target (processes v) i p l.0) ∙ ap (slice_get (process_targets (processes v))) (same_Some i w e) ∙ d)))
        next k w (suc q) less e = inl (q, omega (arith, less), e)

    -- an order of the graph gives one of the processes
    pub order_given : (is : List ℕ) → IsGraphOrder (length graph) (targets_of graph) is → (order : List Process) × IsOrder v order
    order_given is o =
        let l = listed (processes v) is (λ i m. let k = number_of is i m in subst (λ (n : ℕ). i < n) g.sized (o.only k.0 i k.1)) in (
          l.0,
          record {
            each = λ p m.
                let i = number_of (processes v) p m in
                let k = o.all i.0 (subst (λ (n : ℕ). i.0 < n) (sym g.sized) (slice_get_within (processes v) i.0 p i.1)) in
                in_listed (processes v) is l.0 l.1 i.0 p (get_in is k.0 i.0 k.1) i.1;
            only = λ p m. let r = listed_in (processes v) is l.0 l.1 p m in get_in (processes v) r.0 p r.2;
            once = listed_once (processes v) once is l.0 l.1 (distinct_from is o.once);
            after = reads_before (source_names v) is l.0 l.1 (λ n m. m) (λ k i w e h. inl (o.after k i w e h));
          },
        )

  module _ (order : List Process) (o : IsOrder v order) where
    -- the process of that number stands at that place
    record Stands (k i : ℕ) : Type 0 where
      pub name : List ℕ
      pub driven : driven_name i name
      pub at : slice_get (process_targets order) k ≡ Some name

    one_before : (k i w : ℕ) → edge i w → Stands k i → (j : ℕ) × (j < k) × Stands j w
    one_before k i w h s =
        let p = there (processes v) i (subst (λ (n : ℕ). i < n) g.sized (has_place graph i w h)) in
        let d = g.right i w p.0 p.1 h in
        let name : s.name ≡ target p.0 = same_Some s.name (target p.0) (sym s.driven ∙ get_mapped target (processes v) i p.0 p.1) in
        let b = read_earlier v order o p.0 (get_in (processes v) i p.0 p.1) d.net d.read d.no_source k (s.at ∙ ap (λ (n : List ℕ). Some n) name) in
        (b.0, b.1, record { name = d.net; driven = d.is_target; at = b.2 })

    chain_before : (is : List ℕ) (k i w : ℕ) → Chain (targets_of graph) i is w → Stands k i → (j : ℕ) × (j < k) × Stands j w
    chain_before [] k i w c s = one_before k i w c s
    chain_before (x ∷ is) k i w c s =
        let a = one_before k i x c.0 s in
        let b = chain_before is a.0 x w c.1 a.2 in
        (b.0, omega (arith, a.1, b.1), b.2)

    stands : (i w : ℕ) → edge i w → (k : ℕ) × Stands k i
    stands i w h =
        let p = there (processes v) i (subst (λ (n : ℕ). i < n) g.sized (has_place graph i w h)) in
        let k = place_of v order o p.0 (get_in (processes v) i p.0 p.1) in
        (k.0, record { name = target p.0; driven = get_mapped target (processes v) i p.0 p.1; at = k.1 })

    first_edge : (i w : ℕ) (is : List ℕ) → Chain (targets_of graph) i is w → (x : ℕ) × edge i x
    first_edge i w [] c = (w, c)
    first_edge i w (x ∷ is) c = (x, c.0)

    no_turn : (is : List ℕ) → Turns (targets_of graph) is → ⊥
    no_turn [] t = t
    no_turn (i ∷ is) t =
        let e = first_edge i i is t in
        let s = stands i e.0 e.1 in
        let b = chain_before is s.0 i i t s.1 in
        let name : b.2.name ≡ s.1.name = same_Some b.2.name s.1.name (sym b.2.driven ∙ s.1.driven) in
        let place : b.0 ≡ s.0 = distinct_at (process_targets order) o.once b.0 s.0 s.1.name (b.2.at ∙ ap Some name) s.1.at in
        omega (arith, place, b.1)

  -- where the graph has a circle, the processes have no order
  pub no_order : (circle : List ℕ) → IsCircle (targets_of graph) circle → ((order : List Process) × IsOrder v order) → ⊥
  no_order circle c o = no_turn o.0 o.1 circle c.turns

  reads_from : (i w : ℕ) → edge i w → ReadsFrom v i w
  reads_from i w h =
      let p = there (processes v) i (subst (λ (n : ℕ). i < n) g.sized (has_place graph i w h)) in
      let d = g.right i w p.0 p.1 h in
      record { reader = p.0; is_reader = p.1; net = d.net; reads = d.read; gives = d.is_target }

  read_on : (is : List ℕ) (i w : ℕ) → Chain (targets_of graph) i is w → ReadOn v i is w
  read_on [] i w c = reads_from i w c
  read_on (x ∷ is) i w c = (reads_from i x c.0, read_on is x w c.1)

  read_round : (circle : List ℕ) → Turns (targets_of graph) circle → ReadRound v circle
  read_round [] t = t
  read_round (i ∷ is) t = read_on is i i t

  -- a circle of the graph is one of the processes
  pub circle_given : (circle : List ℕ) → IsCircle (targets_of graph) circle → IsProcessCircle v circle
  circle_given circle c = record { round = read_round circle c.turns; once = c.once }
