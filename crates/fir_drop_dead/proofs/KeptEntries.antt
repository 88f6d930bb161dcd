-- The kept entries of an order, and one more of them.
use Rattle.std.proofs.Common.{◌≡◌, ℕ, ◌+◌, ◌<◌, List, [], ◌∷◌, ◌++◌, length, get_or, map, take, Bool, true, false, ap, sym, ◌∙◌}
use Rattle.std.proofs.lemmas.List.{length-map, map_push, take_more}
use Rattle.fir_net.specs.declared.reads.Read.{Read}
use Rattle.fir_drop_dead.specs.working.Marks.{Marked, has}
use Rattle.fir_drop_dead.specs.working.Moved.{kept_order, moved_read}
use Rattle.fir_drop_dead.specs.working.Numbers.{kept_of}
use Rattle.fir_drop_dead.proofs.KeptItems.{kept_push, kept_skip}

module _ (m : Marked) where
  marks_push : (xs : List Read) (r : Read) (b : Bool) → has m r ≡ b → map (has m) (xs ++ r ∷ []) ≡ map (has m) xs ++ b ∷ []
  marks_push xs r b h = map_push (has m) xs r ∙ ap (λ (c : Bool). map (has m) xs ++ c ∷ []) h

  entry_push : (xs : List Read) (r : Read) → has m r ≡ true → kept_order m (xs ++ r ∷ []) ≡ kept_order m xs ++ moved_read m r ∷ []
  entry_push xs r h =
      ap (λ (ms : List Bool). map (moved_read m) (kept_of ms (xs ++ r ∷ []))) (marks_push xs r true h)
      ∙ ap (map (moved_read m)) (kept_push (map (has m) xs) xs r (length-map xs (has m))) ∙ map_push (moved_read m) (kept_of (map (has m) xs) xs) r

  entry_skip : (xs : List Read) (r : Read) → has m r ≡ false → kept_order m (xs ++ r ∷ []) ≡ kept_order m xs
  entry_skip xs r h =
      ap (λ (ms : List Bool). map (moved_read m) (kept_of ms (xs ++ r ∷ []))) (marks_push xs r false h)
      ∙ ap (map (moved_read m)) (kept_skip (map (has m) xs) xs r (length-map xs (has m)))

  module _ (order : List Read) (i : ℕ) (r : Read) (within : i < length order) (is : r ≡ get_or order i r) where
    one_more : take (i + 1) order ≡ take i order ++ r ∷ []
    one_more = take_more order i r within ∙ ap (λ s. take i order ++ s ∷ []) (sym is)

    pub entry_more : has m r ≡ true → kept_order m (take (i + 1) order) ≡ kept_order m (take i order) ++ moved_read m r ∷ []
    entry_more h = ap (kept_order m) one_more ∙ entry_push (take i order) r h

    pub entry_left : has m r ≡ false → kept_order m (take (i + 1) order) ≡ kept_order m (take i order)
    entry_left h = ap (kept_order m) one_more ∙ entry_skip (take i order) r h
