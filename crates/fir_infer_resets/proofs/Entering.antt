-- What was not marked is marked, and put behind in the queue.
use Rattle.std.proofs.Common.{◌≡◌, ℕ, zero, suc, ◌+◌, ◌<◌, List, [], ◌∷◌, ◌++◌, Bool, true, false, Some, length, set, sym, ap, ◌∙◌, subst, inl, inr, ◌⊎◌, arith, length-set, length-append, Vec, Global}
use Rattle.std.specs.Prelude.{slice_get}
use Rattle.std.proofs.lemmas.Bool.{cases_eq}
use Rattle.std.proofs.lemmas.Option.{none-some, same_Some, slice_get_within}
use Rattle.fir_infer_resets.specs.declared.graph.Kind.{Kind}
use Rattle.fir_infer_resets.specs.declared.roots.Entry.{Entry}
use Rattle.fir_infer_resets.specs.working.Reaching.{IsMarked, IsQueued, IsRootOr, IsQueueOf, unmarked}
use Rattle.fir_base.proofs.Writes.{PushedOr, WrittenOr, push_left, push_end, push_cases, write_same, write_other, write_cases}

unmarked_set : (ms : List Bool) (v : ℕ) → slice_get ms v ≡ Some false → unmarked (set ms v true) + 1 ≡ unmarked ms
unmarked_set [] v h = absurd (none-some false h)
unmarked_set (true ∷ ms) zero h = let c : true ≡ false = same_Some true false h in cc
unmarked_set (false ∷ ms) zero h = omega arith
unmarked_set (true ∷ ms) (suc v) h = unmarked_set ms v h
unmarked_set (false ∷ ms) (suc v) h = omega (arith, unmarked_set ms v h)

-- marks stay
pub marks_stay : (marks : List Bool) (v w : ℕ) → w < length marks → IsMarked marks v → IsMarked (set marks w true) v
marks_stay marks v w within h = by (cases_eq v w)
  where
    by : (v ≡ w) ⊎ (v ≡ w → ⊥) → IsMarked (set marks w true) v
    by (inl e) = ap (slice_get (set marks w true)) e ∙ write_same marks w true within
    by (inr n) = write_other marks w true v n ∙ h

module _ (graph : List (Vec ℕ Global)) (kinds : List Kind) (marks : List Bool) (queue : List Entry) (q : IsQueueOf graph kinds marks queue) (e : Entry) (fresh : slice_get marks e.node ≡ Some false) where
  within : e.node < length marks
  within = slice_get_within marks e.node false fresh

  later : (k : ℕ) (f : Entry) → IsRootOr graph kinds queue k f → IsRootOr graph kinds (queue ++ e ∷ []) k f
  later k f (inl root) = inl root
  later k f (inr c) = inr (record { kind = c.kind; less = c.less; parent = c.parent; at = push_left queue (e ∷ []) f.from c.parent c.at; joined = c.joined })

  comes : IsRootOr graph kinds queue (length queue) e → (k : ℕ) (f : Entry) → PushedOr queue e k f → IsRootOr graph kinds (queue ++ e ∷ []) k f
  comes from k f (inl h) = later k f (q.comes k f h)
  comes from k f (inr (p, same)) =
      let c : IsRootOr graph kinds (queue ++ e ∷ []) k e = subst (λ (n : ℕ). IsRootOr graph kinds (queue ++ e ∷ []) n e) (sym p) (later (length queue) e from) in
      subst (λ (x : Entry). IsRootOr graph kinds (queue ++ e ∷ []) k x) same c

  in_queue : (v : ℕ) → WrittenOr marks e.node true v true → IsQueued (queue ++ e ∷ []) v
  in_queue v (inl (p, same)) = record { place = length queue; entry = e; at = push_end queue e; is = sym p }
  in_queue v (inr (n, h)) = let old = q.in_queue v h in record { place = old.place; entry = old.entry; at = push_left queue (e ∷ []) old.place old.entry old.at; is = old.is }

  in_marks : (k : ℕ) (f : Entry) → PushedOr queue e k f → IsMarked (set marks e.node true) f.node
  in_marks k f (inl h) = marks_stay marks f.node e.node within (q.in_marks k f h)
  in_marks k f (inr (p, same)) = subst (λ (x : Entry). IsMarked (set marks e.node true) x.node) same (write_same marks e.node true within)

  -- an earlier entry is of another number
  unlike : (k : ℕ) (f : Entry) → slice_get queue k ≡ Some f → f.node ≡ e.node → ⊥
  unlike k f h n =
      let marked : IsMarked marks e.node = ap (slice_get marks) (sym n) ∙ q.in_marks k f h in
      let c : false ≡ true = same_Some false true (sym fresh ∙ marked) in
      cc

  once : (i j : ℕ) (f g : Entry) → PushedOr queue e i f → PushedOr queue e j g → f.node ≡ g.node → i ≡ j
  once i j f g (inl h) (inl l) n = q.once i j f g h l n
  once i j f g (inl h) (inr (p, same)) n = absurd (unlike i f h (n ∙ ap (λ (x : Entry). x.node) (sym same)))
  once i j f g (inr (p, same)) (inl l) n = absurd (unlike j g l (sym n ∙ ap (λ (x : Entry). x.node) (sym same)))
  once i j f g (inr (p, same)) (inr (r, other)) n = p ∙ sym r

  pub entered : IsRootOr graph kinds queue (length queue) e → IsQueueOf graph kinds (set marks e.node true) (queue ++ e ∷ [])
  entered from =
      record {
        long = length-set marks e.node true ∙ q.long;
        counted = omega (arith, q.counted, unmarked_set marks e.node fresh, length-append queue (e ∷ []));
        comes = λ k f h. comes from k f (push_cases queue e k f h);
        in_queue = λ v h. in_queue v (write_cases marks e.node true v true within h);
        in_marks = λ k f h. in_marks k f (push_cases queue e k f h);
        once = λ i j f g h l n. once i j f g (push_cases queue e i f h) (push_cases queue e j g l) n;
      }
