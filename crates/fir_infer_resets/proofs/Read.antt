-- Entries, kinds and marks, as the code reads them.
use Rattle.std.proofs.Common.{◌≡◌, ℕ, ◌<◌, List, Bool, true, Some, length, get_or, refl, sym, ap, ◌∙◌, arith, Vec, Global}
use Rattle.std.specs.Prelude.{slice_get}
use Rattle.std.proofs.lemmas.Option.{same_Some, slice_get_within, slice_get-get_or, slice_get_read}
use Rattle.fir_infer_resets.specs.declared.graph.Kind.{Kind}
use Rattle.fir_infer_resets.specs.declared.roots.Entry.{Entry}
use Rattle.fir_infer_resets.specs.working.Reaching.{IsQueueOf}

pub kind_there : (kinds : List Kind) (v : ℕ) (d k : Kind) → v < length kinds → get_or kinds v d ≡ k → slice_get kinds v ≡ Some k
kind_there kinds v d k within h = slice_get-get_or kinds v d within ∙ ap Some h

pub kind_other : (kinds : List Kind) (v : ℕ) (d k : Kind) → v < length kinds → (get_or kinds v d ≡ k → ⊥) → slice_get kinds v ≡ Some k → ⊥
kind_other kinds v d k within n h = n (same_Some (get_or kinds v d) k (sym (slice_get-get_or kinds v d within) ∙ h))

module _ (graph : List (Vec ℕ Global)) (kinds : List Kind) (marks : List Bool) (queue : List Entry) (q : IsQueueOf graph kinds marks queue) where
  pub entry_within : (place : ℕ) (e : Entry) → place < length queue → e ≡ get_or queue place e → e.node < length kinds
  entry_within place e within is =
      let here : slice_get queue place ≡ Some e = slice_get_read queue (length queue) place e refl within is in
      omega (arith, q.long, slice_get_within marks e.node true (q.in_marks place e here))

  pub mark_there : (v : ℕ) (m b : Bool) → v < length kinds → m ≡ get_or marks v m → m ≡ b → slice_get marks v ≡ Some b
  mark_there v m b within is value = slice_get_read marks (length kinds) v m (sym q.long) within is ∙ ap Some value
