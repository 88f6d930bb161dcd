-- A look at all that an entry is joined to.
use Rattle.std.proofs.Common.{◌≡◌, ℕ, ◌+◌, ◌<◌, ◌≤◌, List, [], ◌∷◌, Bool, true, false, Some, length, get_or, refl, sym, ap, ◌∙◌, subst, inl, inr, ◌⊎◌, arith, Vec, Global}
use Rattle.std.specs.Prelude.{slice_get}
use Rattle.std.proofs.lemmas.Bool.{cases_eq}
use Rattle.std.proofs.lemmas.Option.{same_Some, slice_get_within, slice_get-get_or, slice_get_read}
use Rattle.fir_infer_resets.specs.declared.graph.Kind.{Kind}
use Rattle.fir_infer_resets.specs.declared.graph.Kind.TheVariants.{Unsigned, Reset}
use Rattle.fir_infer_resets.specs.declared.roots.Entry.{Entry}
use Rattle.fir_infer_resets.specs.declared.roots.Reached.{Reached}
use Rattle.fir_infer_resets.specs.working.ResetGraphs.{IsJoined, IsGraph, IsUnsigned, IsReset}
use Rattle.fir_infer_resets.specs.working.Reaching.{IsMarked, ComesFrom, IsSeen, Enters, Knows, Searching}
use Rattle.fir_infer_resets.specs.working.Walking.{IsJoinedAt, IsAt, Looking}
use Rattle.fir_base.proofs.Writes.{PushedOr, push_left, push_cases, write_same}
use Rattle.fir_infer_resets.proofs.Entering.{entered, marks_stay}

pub look_begun : (graph : List (Vec ℕ Global)) (kinds : List Kind) (r : Reached) (place : ℕ) (e : Entry) (list : List ℕ) → Searching graph kinds r place → place < length r.queue.items → e ≡ get_or r.queue.items place e → Looking graph kinds r place e.node list 0
look_begun graph kinds r place e list s within is =
    record {
      searching = s;
      here = record { entry = e; at = slice_get_read r.queue.items (length r.queue.items) place e refl within is; is = refl };
      some = λ j y less h. absurd (omega (arith, less));
    }

-- one that is joined to the entry, as the code reads it
pub record Beside (graph : List (Vec ℕ Global)) (kinds : List Kind) (node n : ℕ) (list : List ℕ) (y : ℕ) : Type 0 where
  pub at : slice_get list n ≡ Some y
  pub joined : IsJoined graph node y
  pub within : y < length kinds

pub beside : (graph : List (Vec ℕ Global)) (kinds : List Kind) (node n : ℕ) (items : List ℕ) (list : Vec ℕ Global) → IsGraph graph kinds → node < length kinds → list ≡ get_or graph node list → items ≡ list.items → n < length items → Beside graph kinds node n items (get_or items n 0)
beside graph kinds node n items list g within is same less =
    let here : slice_get graph node ≡ Some list = slice_get_read graph (length kinds) node list (sym g.long) within is in
    let there : slice_get items n ≡ Some (get_or items n 0) = slice_get-get_or items n 0 less in
    let joined : IsJoined graph node (get_or items n 0) = record { list = list; at = here; index = n; is = ap (λ xs. slice_get xs n) (sym same) ∙ there } in
    record { at = there; joined = joined; within = g.within node (get_or items n 0) joined }

pub joined_at : (graph : List (Vec ℕ Global)) (queue : List Entry) (place node y : ℕ) → IsAt queue place node → IsJoined graph node y → IsJoinedAt graph queue place y
joined_at graph queue place node y h j = record { entry = h.entry; at = h.at; joined = subst (λ (x : ℕ). IsJoined graph x y) (sym h.is) j }

no_unsigned : (kinds : List Kind) (v : ℕ) → IsReset kinds v → IsUnsigned kinds v → ⊥
no_unsigned kinds v reset h = let k : Reset ≡ Unsigned = same_Some Reset Unsigned (sym reset ∙ h) in cc

pub seen_marked : (kinds : List Kind) (marks : List Bool) (v : ℕ) → IsReset kinds v → IsMarked marks v → IsSeen kinds marks v
seen_marked kinds marks v reset m = record { reset = λ h. m; unsigned = no_unsigned kinds v reset }

pub seen_other : (kinds : List Kind) (marks : List Bool) (v : ℕ) → (IsReset kinds v → ⊥) → (IsUnsigned kinds v → ⊥) → IsSeen kinds marks v
seen_other kinds marks v r u = record { reset = λ h. absurd (r h); unsigned = u }

-- one more of the list is seen
more_seen : (kinds : List Kind) (marks : List Bool) (list : List ℕ) (n y : ℕ) → slice_get list n ≡ Some y → IsSeen kinds marks y → ((j z : ℕ) → j < n → slice_get list j ≡ Some z → IsSeen kinds marks z) → (j z : ℕ) → j < n + 1 → slice_get list j ≡ Some z → IsSeen kinds marks z
more_seen kinds marks list n y at seen some j z less h = by (cases_eq j n)
  where
    by : (j ≡ n) ⊎ (j ≡ n → ⊥) → IsSeen kinds marks z
    by (inl e) = subst (λ (x : ℕ). IsSeen kinds marks x) (same_Some y z (sym at ∙ ap (slice_get list) (sym e) ∙ h)) seen
    by (inr m) = some j z (omega (arith, m)) h

module _ (graph : List (Vec ℕ Global)) (kinds : List Kind) (r : Reached) (place node : ℕ) (list : List ℕ) (n y : ℕ) (l : Looking graph kinds r place node list n) (at : slice_get list n ≡ Some y) where
  -- it needs no mark
  pub look_passes : IsSeen kinds r.marks.items y → Looking graph kinds r place node list (n + 1)
  look_passes seen = record { searching = l.searching; here = l.here; some = more_seen kinds r.marks.items list n y at seen l.some }

  -- it is a Reset, and is marked
  pub look_enters : (t : Reached) → IsReset kinds y → slice_get r.marks.items y ≡ Some false → IsJoined graph node y → Enters r t y place → Looking graph kinds t place node list (n + 1)
  look_enters t reset fresh j e = record { searching = searching; here = here; some = more_seen kinds t.marks.items list n y at (seen_marked kinds t.marks.items y reset marked) (λ i z less h. stays z (l.some i z less h)) }
    where
      entry : Entry
      entry = record { node = y; from = place }

      within : y < length r.marks.items
      within = slice_get_within r.marks.items y false fresh

      place_within : place < length r.queue.items
      place_within = slice_get_within r.queue.items place l.here.entry l.here.at

      marks : (v : ℕ) → IsMarked r.marks.items v → IsMarked t.marks.items v
      marks v h = ap (λ m. slice_get m v) e.marks ∙ marks_stay r.marks.items v y within h

      stays : (v : ℕ) → IsSeen kinds r.marks.items v → IsSeen kinds t.marks.items v
      stays v s = record { reset = λ h. marks v (s.reset h); unsigned = s.unsigned }

      marked : IsMarked t.marks.items y
      marked = ap (λ m. slice_get m y) e.marks ∙ write_same r.marks.items y true within

      from : ComesFrom graph kinds r.queue.items (length r.queue.items) (record { node = y; from = place })
      from = record { kind = reset; less = place_within; parent = l.here.entry; at = l.here.at; joined = subst (λ (x : ℕ). IsJoined graph x y) (sym l.here.is) j }

      knows : Knows graph kinds t
      knows = rw (e.marks, e.queue) (entered graph kinds r.marks.items r.queue.items l.searching.knows (record { node = y; from = place }) fresh (inr from))

      -- the entries before the place are those that were there
      before : (k : ℕ) (f : Entry) → k < place → slice_get t.queue.items k ≡ Some f → slice_get r.queue.items k ≡ Some f
      before k f less h = by (push_cases r.queue.items (record { node = y; from = place }) k f (ap (λ xs. slice_get xs k) (sym e.queue) ∙ h))
        where
          by : PushedOr r.queue.items (record { node = y; from = place }) k f → slice_get r.queue.items k ≡ Some f
          by (inl g) = g
          by (inr (p, q)) = absurd (omega (arith, less, place_within, p))

      searching : Searching graph kinds t place
      searching =
          record {
            knows = knows;
            roots = λ v h. marks v (l.searching.roots v h);
            seen = λ k z f less h g. stays z (l.searching.seen k z f less (before k f less h) g);
          }

      here : IsAt t.queue.items place node
      here =
          record {
            entry = l.here.entry;
            at = ap (λ xs. slice_get xs place) e.queue ∙ push_left r.queue.items (record { node = y; from = place } ∷ []) place l.here.entry l.here.at;
            is = l.here.is;
          }

-- all that the entry is joined to is seen
pub look_done : (graph : List (Vec ℕ Global)) (kinds : List Kind) (r : Reached) (place node : ℕ) (items : List ℕ) (list : Vec ℕ Global) (n : ℕ) → slice_get graph node ≡ Some list → items ≡ list.items → Looking graph kinds r place node items n → length items ≤ n → Searching graph kinds r (place + 1)
look_done graph kinds r place node items list n at same l done = record { knows = l.searching.knows; roots = l.searching.roots; seen = λ k y f less h g. by k y f less h g (cases_eq k place) }
  where
    by : (k y : ℕ) (f : Entry) → k < place + 1 → slice_get r.queue.items k ≡ Some f → IsJoined graph f.node y → (k ≡ place) ⊎ (k ≡ place → ⊥) → IsSeen kinds r.marks.items y
    by k y f less h g (inr m) = l.searching.seen k y f (omega (arith, m)) h g
    by k y f less h g (inl e) =
        let entry : f ≡ l.here.entry = same_Some f l.here.entry (sym h ∙ ap (slice_get r.queue.items) e ∙ l.here.at) in
        let here : f.node ≡ node = ap (λ (x : Entry). x.node) entry ∙ l.here.is in
        let lists : g.list ≡ list = same_Some g.list list (sym g.at ∙ ap (slice_get graph) here ∙ at) in
        let stands : slice_get items g.index ≡ Some y = ap (λ xs. slice_get xs g.index) same ∙ ap (λ (v : Vec ℕ Global). slice_get v.items g.index) (sym lists) ∙ g.is in
        l.some g.index y (omega (arith, done, slice_get_within items g.index y stands)) stands
