-- The lists of a graph, as the code reads them.
use Rattle.std.proofs.Common.{◌≡◌, ℕ, ◌+◌, ◌<◌, ◌≤◌, List, Some, length, get_or, refl, sym, ap, ◌∙◌, subst, inl, inr, ◌⊎◌, arith, Vec, Global}
use Rattle.std.specs.Prelude.{slice_get}
use Rattle.std.proofs.lemmas.Bool.{cases_eq}
use Rattle.std.proofs.lemmas.Option.{same_Some, slice_get_within, slice_get_read}
use Rattle.fir_infer_resets.specs.declared.graph.Kind.{Kind}
use Rattle.fir_infer_resets.specs.working.ResetGraphs.{AllBelow, IsGraph}

-- the first n lists have such numbers alone
abbrev pub ListsBelow : List (Vec ℕ Global) → ℕ → ℕ → Type 0
ListsBelow graph count n = (x : ℕ) (list : Vec ℕ Global) → x < n → slice_get graph x ≡ Some list → AllBelow count list.items

pub list_there : (graph : List (Vec ℕ Global)) (n : ℕ) (list : Vec ℕ Global) → n < length graph → list ≡ get_or graph n list → slice_get graph n ≡ Some list
list_there graph n list within is = slice_get_read graph (length graph) n list refl within is

pub lists_more : (graph : List (Vec ℕ Global)) (count n : ℕ) (list : Vec ℕ Global) → slice_get graph n ≡ Some list → AllBelow count list.items → ListsBelow graph count n → ListsBelow graph count (n + 1)
lists_more graph count n list here below all x other less h = by (cases_eq x n)
  where
    by : (x ≡ n) ⊎ (x ≡ n → ⊥) → AllBelow count other.items
    by (inl e) = subst (λ (v : Vec ℕ Global). AllBelow count v.items) (same_Some list other (sym here ∙ ap (slice_get graph) (sym e) ∙ h)) below
    by (inr m) = all x other (omega (arith, m)) h

pub graph_from : (graph : List (Vec ℕ Global)) (kinds : List Kind) (n : ℕ) → length graph ≡ length kinds → length graph ≤ n → ListsBelow graph (length kinds) n → IsGraph graph kinds
graph_from graph kinds n long le all = record { long = long; within = λ x y j. all x j.list (omega (arith, slice_get_within graph x j.list j.at)) j.at j.index y j.is }

pub list_below : (graph : List (Vec ℕ Global)) (kinds : List Kind) (n : ℕ) (list : Vec ℕ Global) → IsGraph graph kinds → slice_get graph n ≡ Some list → AllBelow (length kinds) list.items
list_below graph kinds n list g at i y h = g.within n y (record { list = list; at = at; index = i; is = h })
