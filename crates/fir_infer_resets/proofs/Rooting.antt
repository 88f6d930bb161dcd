-- A search begins at the AsyncResets.
use Rattle.std.proofs.Common.{◌≡◌, ℕ, zero, suc, ◌+◌, ◌<◌, ◌≤◌, List, [], true, false, Some, length, set, replicate, refl, sym, ap, ◌∙◌, inl, inr, ◌⊎◌, arith, Vec, Global}
use Rattle.std.specs.Prelude.{slice_get}
use Rattle.std.proofs.lemmas.Bool.{cases_eq}
use Rattle.std.proofs.lemmas.List.{length-replicate}
use Rattle.std.proofs.lemmas.Option.{none-some, same_Some, slice_get_within}
use Rattle.fir_infer_resets.specs.declared.graph.Kind.{Kind}
use Rattle.fir_infer_resets.specs.declared.roots.Reached.{Reached}
use Rattle.fir_infer_resets.specs.working.ResetGraphs.{IsAsynchronous}
use Rattle.fir_infer_resets.specs.working.Reaching.{IsMarked, unmarked, Enters, Roots, Searching}
use Rattle.fir_base.proofs.Writes.{write_same, write_other, get-replicate}
use Rattle.fir_infer_resets.proofs.Entering.{entered, marks_stay}

unmarked_all : (n : ℕ) → unmarked (replicate n false) ≡ n
unmarked_all zero = refl
unmarked_all (suc n) = omega (arith, unmarked_all n)

none_marked : (n v : ℕ) → IsMarked (replicate n false) v → ⊥
none_marked zero v h = none-some true h
none_marked (suc n) zero h = let c : false ≡ true = same_Some false true h in cc
none_marked (suc n) (suc v) h = none_marked n v h

pub roots_begun : (kinds : List Kind) (r : Reached) → r.marks.items ≡ replicate (length kinds) false → r.queue.items ≡ [] → Roots kinds r 0
roots_begun kinds r e q =
    record {
      knows = λ graph. rw (e, q) (
          record {
            long = length-replicate (length kinds) false;
            counted = omega (arith, unmarked_all (length kinds));
            comes = λ k f h. absurd (none-some f h);
            in_queue = λ v h. absurd (none_marked (length kinds) v h);
            in_marks = λ k f h. absurd (none-some f h);
            once = λ i j f g h l n. absurd (none-some f h);
          });
      marked = λ v less root. absurd (omega (arith, less));
      unmarked_on = λ v le less. ap (λ m. slice_get m v) e ∙ get-replicate (length kinds) v false less;
    }

module _ (kinds : List Kind) (r : Reached) (n : ℕ) (roots : Roots kinds r n) (lt : n < length kinds) where
  -- one more is an AsyncReset
  pub root_entered : (t : Reached) → IsAsynchronous kinds n → Enters r t n 0 → Roots kinds t (n + 1)
  root_entered t root e =
      record {
        knows = λ graph. rw (e.marks, e.queue) (entered graph kinds r.marks.items r.queue.items (roots.knows graph) (record { node = n; from = 0 }) fresh (inl root));
        marked = λ v less h. rw e.marks (marked v less h (cases_eq v n));
        unmarked_on = λ v le less. ap (λ m. slice_get m v) e.marks ∙ write_other r.marks.items n true v (λ p. absurd (omega (arith, p, le))) ∙ roots.unmarked_on v (omega (arith, le)) less;
      }
    where
      fresh : slice_get r.marks.items n ≡ Some false
      fresh = roots.unmarked_on n (omega arith) lt

      within : n < length r.marks.items
      within = slice_get_within r.marks.items n false fresh

      marked : (v : ℕ) → v < n + 1 → IsAsynchronous kinds v → (v ≡ n) ⊎ (v ≡ n → ⊥) → IsMarked (set r.marks.items n true) v
      marked v less h (inl p) = ap (slice_get (set r.marks.items n true)) p ∙ write_same r.marks.items n true within
      marked v less h (inr m) = marks_stay r.marks.items v n within (roots.marked v (omega (arith, m)) h)

  pub root_skipped : (IsAsynchronous kinds n → ⊥) → Roots kinds r (n + 1)
  root_skipped other =
      record {
        knows = roots.knows;
        marked = λ v less h. marked v less h (cases_eq v n);
        unmarked_on = λ v le less. roots.unmarked_on v (omega (arith, le)) less;
      }
    where
      marked : (v : ℕ) → v < n + 1 → IsAsynchronous kinds v → (v ≡ n) ⊎ (v ≡ n → ⊥) → IsMarked r.marks.items v
      marked v less h (inl p) = absurd (other (ap (slice_get kinds) (sym p) ∙ h))
      marked v less h (inr m) = roots.marked v (omega (arith, m)) h

pub roots_all : (kinds : List Kind) (r : Reached) (n : ℕ) → Roots kinds r n → length kinds ≤ n → n ≤ length kinds → Roots kinds r (length kinds)
roots_all kinds r n roots le ge = record { knows = roots.knows; marked = λ v less h. roots.marked v (omega (arith, le, less)) h; unmarked_on = λ v from less. absurd (omega (arith, from, less)) }

pub searching_begun : (graph : List (Vec ℕ Global)) (kinds : List Kind) (r : Reached) → Roots kinds r (length kinds) → Searching graph kinds r 0
searching_begun graph kinds r roots =
    record {
      knows = roots.knows graph;
      roots = λ v h. roots.marked v (slice_get_within kinds v _ h) h;
      seen = λ k y e less. absurd (omega (arith, less));
    }

-- the queue is never longer than the numbers are many
pub queue_short : (graph : List (Vec ℕ Global)) (kinds : List Kind) (r : Reached) (place : ℕ) → Searching graph kinds r place → length r.queue.items ≤ length kinds
queue_short graph kinds r place s = omega (arith, s.knows.counted)
