use Rattle.std.proofs.Common.{◌≡◌, ℕ, ◌%◌, ◌<◌, ◌≤◌, List, [], map, option_map, unwrap_or, None, length, get_or, refl, sym, ap, ◌∙◌}
use Rattle.std.specs.Prelude.{slice_get}
use Rattle.std.specs.Borrow.{Bor}
use Rattle.std.proofs.lemmas.Bool.{ltb-true, ltb-false}
use Rattle.std.proofs.lemmas.Option.{slice_get-map, slice_get_read, slice_get_past}
use Rattle.fir_bottom_tests.proofs.graphs.TableGraph.target.Goals as goal

-- past the end of a row, and past the last row
past_item : (n : ℕ) (rows : List (Bor (List ℕ))) (v i : ℕ) (row : Bor (List ℕ)) → v < length rows → row ≡ get_or rows v row → None ≡ slice_get row.now i → None ≡ slice_get (map (λ w. w % n) (unwrap_or (option_map (λ r. r.now) (slice_get rows v)) [])) i
past_item n rows v i row low at e = rw (slice_get_read rows (length rows) v row refl low at) (sym (slice_get-map (λ w. w % n) row.now i ∙ ap (option_map (λ w. w % n)) (sym e)))

past_row : (n : ℕ) (rows : List (Bor (List ℕ))) (v i : ℕ) → length rows ≤ v → None ≡ slice_get (map (λ w. w % n) (unwrap_or (option_map (λ r. r.now) (slice_get rows v)) [])) i
past_row n rows v i high = rw (slice_get_past rows v high) refl

pub returns-in-None-item-clause-found : goal.returns-in-None-item-clause-found
returns-in-None-item-clause-found c =
    let row = c.in-Some.ensures.lookup in
    past_item _ _ _ _ _ (ltb-true _ _ (sym row.0)) row.1 c.in-None-item.ensures.found

pub returns-in-None-clause-found : goal.returns-in-None-clause-found
returns-in-None-clause-found c = let row = c.in-None.ensures.lookup in past_row _ _ _ _ (ltb-false _ _ (sym row.0))
