-- With nothing open and nothing new all stand in the order.
use Rattle.std.proofs.Common.{◌≡◌, ℕ, ◌<◌, Some, sym, ap, ◌∙◌, arith}
use Rattle.std.specs.Prelude.{List, slice_get}
use Rattle.std.proofs.lemmas.Option.{none-some, slice_get_within}
use Rattle.fir_base.proofs.Elements.{there}
use Rattle.fir_graph.specs.working.IsOrder.{IsOrder}
use Rattle.fir_graph.specs.declared.marks.Mark.{Mark}
use Rattle.fir_graph.specs.declared.marks.Mark.TheVariants.{New, Open, Done}
use Rattle.fir_graph.specs.declared.search.Search.{Search}
use Rattle.fir_graph.specs.working.Searched.{Knows, IsIdle, IsMet}

pub all_reached : (size : ℕ) (targets : ℕ → List ℕ) (s : Search) → IsIdle size targets s → ((v : ℕ) → v < size → IsMet s.marks v) → IsOrder size targets s.order.items
all_reached size targets s i met = record {
  only = λ j v h. omega (arith, knows.covers, slice_get_within s.marks v Done (knows.done j v h));
  once = knows.done_once;
  after = knows.after;
  all = λ v low. let m = there s.marks v (omega (arith, knows.covers, low)) in by v low m.0 m.1;
}
  where
    knows : Knows size targets s
    knows = i.knows

    by : (v : ℕ) → v < size → (m : Mark) → slice_get s.marks v ≡ Some m → (i : ℕ) × (slice_get s.order.items i ≡ Some v)
    by v low New is = absurd (met v low is)
    by v low (Open k) is = let o = knows.open_in v k is in absurd (none-some v (ap (λ p. slice_get p o.0) (sym i.idle) ∙ o.1))
    by v low Done is = knows.done_in v is
