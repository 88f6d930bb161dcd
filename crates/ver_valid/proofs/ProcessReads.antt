-- The graph of the processes: each has an edge to each process that drives what it reads.
use Rattle.std.proofs.Common.{◌≡◌, ℕ, ◌<◌, List, [], ◌∷◌, ◌++◌, length, refl, sym, ap, ◌∙◌, inl, inr, ◌⊎◌, subst, Bor}
use Rattle.std.specs.Prelude.{slice_get, Option, Some, None, IfSome, map, option_to_list, option_map, unwrap_or}
use Rattle.std.proofs.lemmas.List.{length-map, map-id, map-append}
use Rattle.std.proofs.lemmas.Option.{none-some, slice_get-map, slice_get_within}
use Rattle.fir_base.specs.Lists.{In}
use Rattle.fir_base.proofs.Elements.{beside, get_in, number_of, there}
use Rattle.fir_base.proofs.Members.{in_flat_map, in_flat_map_from}
use Rattle.fir_graph.specs.working.HasTarget.{HasTarget}
use Rattle.ver_ast.specs.declared.tree.Verilog.{Verilog}
use Rattle.ver_ast.specs.declared.tree.Assign.{Assign}
use Rattle.ver_ast.specs.declared.tree.Resetting.{Resetting}
use Rattle.ver_ast.specs.Names.{rhs_names}
use Rattle.ver_ast.specs.Nets.{assigns, resets}
use Rattle.ver_ast.specs.Processes.{Process, assigning, showing, target, processes, process_targets, process_reads}
use Rattle.ver_valid.specs.declared.drivers.Drivers.{Drivers}
use Rattle.ver_valid.specs.working.Drivers.{driver_in, drivers_of, IsProcessGraph, targets_of}
use Rattle.ver_valid.proofs.DrivenNets.{source_names, driven, undriven}

pub get_mapped : {A B : Type 0} (f : A → B) (xs : List A) (k : ℕ) (x : A) → slice_get xs k ≡ Some x → slice_get (map f xs) k ≡ Some (f x)
get_mapped f xs k x e = slice_get-map f xs k ∙ ap (option_map f) e

pub from_map : {A B : Type 0} (f : A → B) (xs : List A) (k : ℕ) (y : B) → slice_get (map f xs) k ≡ Some y → (x : A) × (slice_get xs k ≡ Some x) × (f x ≡ y)
from_map f xs k y e = beside f (λ z. z) xs (map f xs) (sym (map-id (map f xs))) k y e

pub only_some : {A : Type 0} (o : Option A) (x : A) → In (option_to_list o) x → o ≡ Some x
only_some None x m = absurd m
only_some (Some y) x (inl e) = ap Some e
only_some (Some y) x (inr m) = absurd m

some_in : {A : Type 0} (o : Option A) (x : A) → o ≡ Some x → In (option_to_list o) x
some_in None x e = absurd (none-some x e)
some_in (Some y) x e = inl (cc)

-- what drives one of what p reads
pub record Drives (v : Verilog) (p : Process) (w : ℕ) : Type 0 where
  pub net : List ℕ
  pub read : In (process_reads p) net
  pub no_source : In (source_names v) net → ⊥
  pub is_target : slice_get (process_targets (processes v)) w ≡ Some net

-- one edge for each process that drives what is read
pub record Edges (v : Verilog) (graph : List (List ℕ)) : Type 0 where
  pub sized : length graph ≡ length (processes v)
  pub right : (i w : ℕ) (p : Process) → slice_get (processes v) i ≡ Some p → HasTarget (targets_of graph) i w → Drives v p w
  pub full : (i : ℕ) (p : Process) (n : List ℕ) → slice_get (processes v) i ≡ Some p → In (process_reads p) n
      → In (source_names v ++ process_targets (processes v)) n
      → In (source_names v) n ⊎ ((w : ℕ) × HasTarget (targets_of graph) i w × (slice_get (process_targets (processes v)) w ≡ Some n))

module _ (v : Verilog) (graph : List (List ℕ)) (g : IsProcessGraph v graph) where
  targets_are : (i : ℕ) (p : Process) → slice_get (processes v) i ≡ Some p → targets_of graph i ≡ drivers_of g.drivers (process_reads p)
  targets_are i p e =
      ap (λ (ts : List (List ℕ)). targets_of ts i) g.are
      ∙ ap (λ (o : Option (List ℕ)). unwrap_or o []) (get_mapped (λ (q : Process). drivers_of g.drivers (process_reads q)) (processes v) i p e)

  right : (i w : ℕ) (p : Process) → slice_get (processes v) i ≡ Some p → HasTarget (targets_of graph) i w → Drives v p w
  right i w p e h =
      let m : In (drivers_of g.drivers (process_reads p)) w = subst (λ (ts : List ℕ). In ts w) (targets_are i p e) (get_in (targets_of graph i) h.place w h.is) in
      let r = in_flat_map_from (λ (n : List ℕ). option_to_list (driver_in g.drivers n)) (process_reads p) w m in
      let by = driven v g.drivers g.drive r.0 w (only_some (driver_in g.drivers r.0) w r.2) in
      record { net = r.0; read = r.1; no_source = by.0; is_target = by.1 }

  full : (i : ℕ) (p : Process) (n : List ℕ) → slice_get (processes v) i ≡ Some p → In (process_reads p) n → In (source_names v ++ process_targets (processes v)) n
      → In (source_names v) n ⊎ ((w : ℕ) × HasTarget (targets_of graph) i w × (slice_get (process_targets (processes v)) w ≡ Some n))
  full i p n e m known = by (driver_in g.drivers n) refl
    where
      by : (o : Option ℕ) → driver_in g.drivers n ≡ o
          → In (source_names v) n ⊎ ((w : ℕ) × HasTarget (targets_of graph) i w × (slice_get (process_targets (processes v)) w ≡ Some n))
      by None d = inl (undriven v g.drivers g.drive n d known)
      by (Some w) d =
          let all : In (drivers_of g.drivers (process_reads p)) w =
          in_flat_map (λ (z : List ℕ). option_to_list (driver_in g.drivers z)) (process_reads p) n w m (some_in (driver_in g.drivers n) w d) in
          let place = number_of (targets_of graph i) w (subst (λ (ts : List ℕ). In ts w) (sym (targets_are i p e)) all) in
          inr (w, record { place = place.0; is = place.1 }, (driven v g.drivers g.drive n w d).1)

  pub edges : Edges v graph
  edges = record {
    sized = ap length g.are ∙ length-map (processes v) (λ (q : Process). drivers_of g.drivers (process_reads q));
    right = right;
    full = full;
  }

-- a vertex that has a target is one of the graph
pub has_place : (graph : List (List ℕ)) (i w : ℕ) → HasTarget (targets_of graph) i w → i < length graph
has_place graph i w h = by (slice_get graph i) refl h.is
  where
    by : (o : Option (List ℕ)) → slice_get graph i ≡ o → slice_get (unwrap_or o []) h.place ≡ Some w → i < length graph
    by None e s = absurd (none-some w s)
    by (Some ts) e s = slice_get_within graph i ts e

-- and so is each target
pub target_within : (v : Verilog) (graph : List (List ℕ)) → Edges v graph → (i place w : ℕ) → slice_get (targets_of graph i) place ≡ Some w → w < length graph
target_within v graph g i place w e =
    let h : HasTarget (targets_of graph) i w = record { place = place; is = e } in
    let within : i < length (processes v) = subst (λ (k : ℕ). i < k) g.sized (has_place graph i w h) in
    let p = there (processes v) i within in
    let d = g.right i w p.0 p.1 h in
    let q = from_map target (processes v) w d.net d.is_target in
    subst (λ (k : ℕ). w < k) (sym g.sized) (slice_get_within (processes v) w q.0 q.1)

-- what drives the reads of assigns and of asynchronous blocks drives those of the processes
pub process_drivers : (v : Verilog) (d : Drivers) (assigned : List (Bor Assign)) (shown : List (Bor Resetting)) (graph : List (List ℕ))
    → map (λ a. a.now) assigned ≡ assigns v → map (λ b. b.now) shown ≡ resets v
    → graph ≡ map (λ a. drivers_of d (rhs_names a.now.rhs)) assigned ++ map (λ b. drivers_of d (b.now.reset ∷ [])) shown → graph ≡ map (λ p. drivers_of d (process_reads p)) (processes v)
process_drivers v d assigned shown graph a b all =
    let drivers : List Process → List (List ℕ) = map (λ p. drivers_of d (process_reads p)) in
    all
    ∙ ap (λ (ts : List (List ℕ)). ts ++ map (λ (b : Bor Resetting). drivers_of d (b.now.reset ∷ [])) shown)
    (of_assigns assigned ∙ ap (λ (xs : List Assign). drivers (map assigning xs)) a)
    ∙ ap (λ (ts : List (List ℕ)). drivers (map assigning (assigns v)) ++ ts) (of_blocks shown ∙ ap (λ (ys : List Resetting). drivers (map showing ys)) b)
    ∙ sym (map-append (λ (p : Process). drivers_of d (process_reads p)) (map assigning (assigns v)) (map showing (resets v)))
  where
    of_assigns : (xs : List (Bor Assign)) → map (λ a. drivers_of d (rhs_names a.now.rhs)) xs ≡ map (λ p. drivers_of d (process_reads p)) (map assigning (map (λ a. a.now) xs))
    of_assigns [] = refl
    of_assigns (x ∷ xs) = ap (λ (ts : List (List ℕ)). drivers_of d (rhs_names x.now.rhs) ∷ ts) (of_assigns xs)

    of_blocks : (ys : List (Bor Resetting)) → map (λ b. drivers_of d (b.now.reset ∷ [])) ys ≡ map (λ p. drivers_of d (process_reads p)) (map showing (map (λ b. b.now) ys))
    of_blocks [] = refl
    of_blocks (y ∷ ys) = ap (λ (ts : List (List ℕ)). drivers_of d (y.now.reset ∷ []) ∷ ts) (of_blocks ys)

-- what holds of each that may be there
pub if_some : (P : ℕ → Type 0) (o : Option ℕ) → ((t : ℕ) → o ≡ Some t → P t) → IfSome o P
if_some P None h = tt
if_some P (Some t) h = h t refl
