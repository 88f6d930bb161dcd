-- The text from a step on: its lines, their tokens, and the statements that these spell.
use Rattle.std.proofs.Common.{◌≡◌, ℕ, zero, suc, ◌+◌, ◌-◌, ◌<◌, ◌≤◌, List, [], ◌∷◌, ◌++◌, refl, sym, ap, ap₂, ◌∙◌, subst, append_assoc, append-nil, arith}
use Rattle.std.proofs.lemmas.List.Concat.{flat_map-append}
use Rattle.fir_ast.specs.declared.place.Place.{Place}
use Rattle.fir_ast.specs.Statements.{Block, done, then}
use Rattle.fir_lex.specs.Tokens as token
use Rattle.fir_lex.specs.Lines.{Line, line_bytes, text_of, AreLines}
use Rattle.fir_lex.specs.TokensOf.{place_after, stands_after}
use Rattle.fir_parse.specs.Lexemes.{Terminal, level_closes}
use Rattle.fir_parse.specs.Limits.{everywhere}
use Rattle.fir_parse.specs.StatementForms.{AreStatements}
use Rattle.fir_parse.proofs.FormsFound.{token_at}
use Rattle.fir_gen.specs.GenText.{register_name, steps_text, last_line}
use Rattle.fir_gen.specs.working.GenTree.{register_at, step_when, last_connect, steps}
use Rattle.fir_gen_spelled.proofs.RowTokens.{LinePlaces, places_of, rows_tokens, Lexes, rows_lex}
use Rattle.fir_gen_spelled.proofs.Rows.{lines_of, rows_are_lines}
use Rattle.fir_gen_spelled.proofs.GenRows.{step_rows, last_rows, outer_levels, inner_levels, stays_outer, closes_6, step_moves, last_moves, step_sound, last_sound}
use Rattle.fir_gen_spelled.proofs.GenTexts.{head_bytes, step_bytes, step_text, last_text, steps_begin, no_steps}
use Rattle.fir_gen_spelled.proofs.GenPlaces.{later_at, before_step, step_places}
use Rattle.fir_gen_spelled.proofs.Statements.{last_connect_spelled, step_spelled}

-- ---- lines

-- so many steps behind a register, and the last line, which shows another
pub tail_lines : ℕ → ℕ → ℕ → List Line
tail_lines shown j zero = lines_of (last_rows [] shown)
tail_lines shown j (suc count) = lines_of (step_rows [] j) ++ tail_lines shown (j + 1) count

pub tail_text : (shown count j : ℕ) → text_of (tail_lines shown j count) ≡ steps_text j count ++ last_line shown
unfolding tail_lines
tail_text shown zero j = last_text [] shown ∙ rw (no_steps j) refl
tail_text shown (suc count) j =
    flat_map-append line_bytes (lines_of (step_rows [] j)) (tail_lines shown (j + 1) count)
    ∙ ap₂ (λ x y. x ++ y) (step_text [] j) (tail_text shown count (j + 1))
    ∙ rw (steps_begin j count) (sym (append_assoc (step_bytes j) (steps_text (j + 1) count) (last_line shown)))

pub tail_are_lines : (shown count j : ℕ) → shown < 4096 → j + count < 4096 → AreLines (tail_lines shown j count)
unfolding tail_lines
tail_are_lines shown zero j shown_small small = rows_are_lines (last_rows [] shown) [] (last_sound [] shown shown_small) tt
tail_are_lines shown (suc count) j shown_small small =
    rows_are_lines (step_rows [] j) (tail_lines shown (j + 1) count) (step_sound [] j (omega arith)) (tail_are_lines shown count (j + 1) shown_small (omega arith))

-- ---- the bytes before a step

-- a step more
steps_end : (count j : ℕ) → steps_text j (suc count) ≡ steps_text j count ++ step_bytes (j + count)
steps_end zero j =
    let same : j ≡ j + 0 = omega arith in
    steps_begin j 0 ∙ rw (no_steps (j + 1), no_steps j, append-nil (step_bytes j)) (ap step_bytes same)
steps_end (suc count) j =
    let same : j + 1 + count ≡ j + suc count = omega arith in
    steps_begin j (suc count)
    ∙ rw (steps_end count (j + 1), steps_begin j count, same) (sym (append_assoc (step_bytes j) (steps_text (j + 1) count) (step_bytes (j + suc count))))

before_next : (j : ℕ) → before_step (j + 1) ≡ before_step j ++ step_bytes j
before_next j =
    let next : j + 1 ≡ suc j = omega arith in
    let same : 0 + j ≡ j = omega arith in
    ap before_step next ∙ rw (steps_end j 0, same) (sym (append_assoc head_bytes (steps_text 0 j) (step_bytes j)))

-- ---- tokens and statements

-- the tokens of lines behind these bytes, within the levels of a module, and the statements that they spell; the first line closes one level more where
-- it is open
pub record Tail (before : List ℕ) (ls : List Line) (b : Block) : Type 0 where
  pub tokens : List Terminal
  pub begins : Place
  pub ends : Place
  pub lexes : Lexes before outer_levels ls tokens
  pub lexes_deep : Lexes before inner_levels ls (token_at level_closes begins ∷ tokens)
  pub spell : AreStatements everywhere 0 b tokens (token_at level_closes ends ∷ token_at level_closes ends ∷ [])

-- at the end two levels close
abbrev closers : Place → List Terminal
closers p = token_at level_closes p ∷ token_at level_closes p ∷ []

end_lexes : (before : List ℕ) → Lexes before outer_levels [] (closers (place_after before))
end_lexes before =
    let closer = stands_after before token.level_closes in
    record { tokens = closer ∷ closer ∷ []; have = (4 ∷ 2 ∷ [], refl, refl); terminals_are = refl }

module _ (at : ℕ → ℕ → Place) where
  -- the last line
  last_tail : (n : ℕ) (before : List ℕ) (p : ℕ → LinePlaces) → at n ≡ later_at p (places_of before (last_rows [] (n - 1)))
      → Tail before (lines_of (last_rows [] (n - 1))) ((then) (last_connect at n) done)
  last_tail n before p places =
      let q = places_of before (last_rows [] (n - 1)) in
      let end = place_after (before ++ text_of (lines_of (last_rows [] (n - 1)))) in
      record {
        tokens = rows_tokens q (last_rows [] (n - 1)) (closers end);
        begins = (q 0).begins;
        ends = end;
        lexes = rows_lex (last_rows [] (n - 1)) before outer_levels outer_levels [] (closers end) (last_moves outer_levels [] (n - 1) stays_outer) (end_lexes _);
        lexes_deep =
            rows_lex (last_rows (token.level_closes ∷ []) (n - 1)) before inner_levels outer_levels [] (closers end)
            (last_moves inner_levels (token.level_closes ∷ []) (n - 1) closes_6) (end_lexes _);
        spell =
            subst (λ f. AreStatements everywhere 0 ((then) (last_connect (λ k. f) n) done) (rows_tokens q (last_rows [] (n - 1)) (closers end)) (closers end))
            (sym places) (_, last_connect_spelled 0 (register_name (n - 1)) (q 0) (closers end), refl);
      }

  -- a step before what stands behind it
  step_tail : (j : ℕ) (before : List ℕ) (ls : List Line) (b : Block) (q : ℕ → LinePlaces) → j < 4096
      → at (j + 1) ≡ later_at (places_of before (step_rows [] j)) q
      → Tail (before ++ step_bytes j) ls b
      → Tail before (lines_of (step_rows [] j) ++ ls) ((then) (register_at at (j + 1)) ((then) (step_when at j) b))
  step_tail j before ls b q small places rest =
      let p = places_of before (step_rows [] j) in
      let us = token_at level_closes rest.begins ∷ rest.tokens in
      let deep : Lexes (before ++ text_of (lines_of (step_rows [] j))) inner_levels ls us =
      subst (λ x. Lexes (before ++ x) inner_levels ls us) (sym (step_text [] j)) rest.lexes_deep in
      record {
        tokens = rows_tokens p (step_rows [] j) us;
        begins = (p 0).begins;
        ends = rest.ends;
        lexes = rows_lex (step_rows [] j) before outer_levels inner_levels ls us (step_moves outer_levels [] j stays_outer) deep;
        lexes_deep =
            rows_lex (step_rows (token.level_closes ∷ []) j) before inner_levels inner_levels ls us
            (step_moves inner_levels (token.level_closes ∷ []) j closes_6) deep;
        spell =
            subst
            (λ f. AreStatements everywhere 0 ((then) (register_at (λ k. f) (j + 1)) ((then) (step_when (λ k. f) j) b)) (rows_tokens p (step_rows [] j) us)
            (closers rest.ends))
            (sym places) (step_spelled j p q rest.begins b rest.tokens (closers rest.ends) small rest.spell);
      }

  -- so many steps and the last line
  pub steps_tail : (n count j : ℕ) → ((i : ℕ) → at (i + 1) ≡ step_places i) → 1 ≤ n → n ≤ 4096 → j + count ≡ n - 1
      → Tail (before_step j) (tail_lines (n - 1) j count) (steps at j count ((then) (last_connect at n) done))
  unfolding tail_lines steps
  steps_tail n zero j places some small e =
      let here : n - 1 ≡ j = omega arith in
      let last : (n - 1) + 1 ≡ n = omega arith in
      subst (λ i. Tail (before_step i) (lines_of (last_rows [] (n - 1))) ((then) (last_connect at n) done)) here
      (last_tail n (before_step (n - 1)) (places_of (before_step (n - 1)) (step_rows [] (n - 1))) (sym (ap at last) ∙ places (n - 1)))
  steps_tail n (suc count) j places some small e =
      step_tail j (before_step j) (tail_lines (n - 1) (j + 1) count) (steps at (j + 1) count ((then) (last_connect at n) done))
      (places_of (before_step j) (last_rows [] j)) (omega arith) (places j)
      (subst (λ x. Tail x (tail_lines (n - 1) (j + 1) count) (steps at (j + 1) count ((then) (last_connect at n) done))) (before_next j)
      (steps_tail n count (j + 1) places some small (omega arith)))
