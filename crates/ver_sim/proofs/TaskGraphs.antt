-- What drives the places that tasks read.
use Rattle.std.proofs.Common.{◌≡◌, ℕ, List, [], length, refl, sym, ap, ◌∙◌, inl, inr, subst}
use Rattle.std.specs.Prelude.{slice_get, Option, Some, None, IfSome, map, option_map, unwrap_or}
use Rattle.std.specs.Option.{option_to_list}
use Rattle.std.proofs.lemmas.List.{length-map}
use Rattle.std.proofs.lemmas.Option.{none-some, slice_get-map, slice_get_within}
use Rattle.fir_base.specs.Lists.{In}
use Rattle.fir_base.proofs.Elements.{get_in, number_of}
use Rattle.fir_base.proofs.Members.{in_flat_map, in_flat_map_from}
use Rattle.fir_graph.specs.working.HasTarget.{HasTarget}
use Rattle.ver_sim.specs.declared.task.Task.{Task}
use Rattle.ver_sim.specs.working.Orders.{AreDrivers, IsTaskGraph, ReadsFrom, driver_at, drivers_of, sources_of}
use Rattle.ver_sim.specs.working.Works.{work_places}

only_some : (o : Option ℕ) (x : ℕ) → In (option_to_list o) x → o ≡ Some x
only_some None x m = absurd m
only_some (Some y) x (inl e) = ap Some e
only_some (Some y) x (inr m) = absurd m

some_in : (o : Option ℕ) (x : ℕ) → o ≡ Some x → In (option_to_list o) x
some_in None x e = absurd (none-some x e)
some_in (Some y) x e = inl (cc)

module _ (tasks : List Task) (drivers : List (Option ℕ)) (d : AreDrivers tasks (length tasks) drivers) (graph : List (List ℕ))
    (is : graph ≡ map (λ t. drivers_of drivers (work_places t.work)) tasks) where
  abbrev of_task : Task → List ℕ
  of_task t = drivers_of drivers (work_places t.work)

  sources_are : (k : ℕ) (o : Option Task) → slice_get tasks k ≡ o → sources_of graph k ≡ unwrap_or (option_map of_task o) []
  sources_are k o e =
      ap (λ (gs : List (List ℕ)). sources_of gs k) is ∙ ap (λ (l : Option (List ℕ)). unwrap_or l []) (slice_get-map of_task tasks k ∙ ap (option_map of_task) e)

  right : (k j : ℕ) → HasTarget (sources_of graph) k j → ReadsFrom tasks k j
  right k j h = by (slice_get tasks k) refl
    where
      by : (o : Option Task) → slice_get tasks k ≡ o → ReadsFrom tasks k j
      by None e = absurd (none-some j (ap (λ (ns : List ℕ). slice_get ns h.place) (sym (sources_are k None e)) ∙ h.is))
      by (Some t) e =
          let m : In (of_task t) j = get_in (of_task t) h.place j (ap (λ (ns : List ℕ). slice_get ns h.place) (sym (sources_are k (Some t) e)) ∙ h.is) in
          let q = in_flat_map_from (λ (x : ℕ). option_to_list (driver_at drivers x)) (work_places t.work) j m in
          let u = d.found q.0 j (only_some (driver_at drivers q.0) j q.2) in
          record { reader = t; is_reader = e; driver = u.0; is_driver = u.1; reads = subst (In (work_places t.work)) (sym u.2) q.1 }

  full : (k j : ℕ) → ReadsFrom tasks k j → HasTarget (sources_of graph) k j
  full k j r =
      let driven = d.full j r.driver (slice_get_within tasks j r.driver r.is_driver) r.is_driver in
      let m : In (of_task r.reader) j =
      in_flat_map (λ (x : ℕ). option_to_list (driver_at drivers x)) (work_places r.reader.work) r.driver.target j r.reads (some_in (driver_at drivers r.driver.target) j driven) in
      let place = number_of (of_task r.reader) j m in
      record { place = place.0; is = ap (λ (ns : List ℕ). slice_get ns place.0) (sources_are k (Some r.reader) r.is_reader) ∙ place.1 }

  pub graph_is : IsTaskGraph tasks graph
  graph_is = record { sized = ap length is ∙ length-map tasks of_task; right = right; full = full }

-- what holds of each that may be there
pub if_some : (P : ℕ → Type 0) (o : Option ℕ) → ((j : ℕ) → o ≡ Some j → P j) → IfSome o P
if_some P None h = tt
if_some P (Some j) h = h j refl
