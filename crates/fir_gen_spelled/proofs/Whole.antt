-- The text of the circuit `Gen` spells its tree.
use Rattle.std.proofs.Common.{◌≡◌, ℕ, ◌-◌, ◌≤◌, List, [], ◌∷◌, ◌++◌, codes, refl, sym, ap, ap₂, ◌∙◌, subst, inl, inr, append-nil, arith}
use Rattle.std.proofs.lemmas.List.Concat.{flat_map-append}
use Rattle.fir_base.specs.declared.direction.Direction.TheVariants.{Input, Output}
use Rattle.fir_ast.specs.declared.place.Place.{Place}
use Rattle.fir_ast.specs.Statements.{Block, done, then}
use Rattle.fir_ast.specs.Circuits.{CircuitTree}
use Rattle.fir_lex.specs.Lines.{Line, line_bytes, text_of, AreLines}
use Rattle.fir_parse.specs.Lexemes.{Terminal, level_closes}
use Rattle.fir_parse.specs.Limits.{everywhere}
use Rattle.fir_parse.specs.StatementForms.{AreStatements}
use Rattle.fir_parse.specs.CircuitForms.{ArePorts, IsSpelled}
use Rattle.fir_parse.proofs.FormsFound.{token_at}
use Rattle.fir_gen.specs.GenText.{register_name, gen_text}
use Rattle.fir_gen.specs.working.GenTree.{named_at, ports, register_at, first_connect, last_connect, steps, gen_tree}
use Rattle.fir_gen_spelled.specs.working.Laws.{GenIsSpelled}
use Rattle.fir_gen_spelled.proofs.Chains.{◌▹◌}
use Rattle.fir_gen_spelled.proofs.Parts.{a_word, name}
use Rattle.fir_gen_spelled.proofs.RowTokens.{LinePlaces, places_of, behind_moves, rows_tokens, Lexes, rows_lex}
use Rattle.fir_gen_spelled.proofs.Rows.{lines_of, rows_are_lines}
use Rattle.fir_gen_spelled.proofs.GenRows.{clock_parts, port_parts, register_parts, sum_parts, head_rows, head_sound, head_moves, outer_levels}
use Rattle.fir_gen_spelled.proofs.GenTexts.{head_bytes, head_text, no_steps, gen_bytes}
use Rattle.fir_gen_spelled.proofs.GenPlaces.{head_at, before_step, gen_places, head_places, later_places}
use Rattle.fir_gen_spelled.proofs.Ports.{clock_port_spelled, port_spelled}
use Rattle.fir_gen_spelled.proofs.Statements.{sum_connect_spelled, register_spelled}
use Rattle.fir_gen_spelled.proofs.Tails.{tail_lines, tail_text, tail_are_lines, Tail, steps_tail}

-- ---- the tree of the head, with the statements behind it

abbrev tree_of : (ℕ → Place) → Block → CircuitTree
tree_of f rest =
    record {
      named = named_at (f 0) (codes "Gen");
      modules =
          record {
            place = f 1;
            named = named_at (f 2) (codes "Gen");
            ports = ports (λ n. f);
            body = (then) (register_at (λ n. f) 0) ((then) (first_connect (λ n. f)) rest);
          } ∷ [];
    }

ports_spelled : (p : ℕ → LinePlaces) (ts : List Terminal)
    → ArePorts everywhere (ports (λ n. head_at p))
    (behind_moves (p 2) clock_parts
    (behind_moves (p 3) (port_parts (codes "input") (codes "reset") (codes "1"))
    (behind_moves (p 4) (port_parts (codes "input") (codes "x") (codes "16"))
    (behind_moves (p 5) (port_parts (codes "output") (codes "y") (codes "16")) ts)))) ts
ports_spelled p ts =
    (_, clock_port_spelled (p 2) _) ▹ (_, port_spelled Input (codes "reset") 1 (codes "1") (p 3) _ refl refl (omega arith))
    ▹ (_, port_spelled Input (codes "x") 16 (codes "16") (p 4) _ refl refl (omega arith))
    ▹ (_, port_spelled Output (codes "y") 16 (codes "16") (p 5) _ refl refl (omega arith)) ▹ refl

head_spelled : (p : ℕ → LinePlaces) (z : Place) (rest : Block) (ts : List Terminal)
    → AreStatements everywhere 0 rest ts (token_at level_closes z ∷ token_at level_closes z ∷ [])
    → IsSpelled everywhere (tree_of (head_at p) rest) (rows_tokens p head_rows ts)
head_spelled p z rest ts are =
    (_, inl refl) ▹ (_, (_, refl)) ▹ (_, refl) ▹ (_, (_, refl)) ▹ (_, inl refl) ▹ (_, (_, refl)) ▹ (_, (_, refl))
    ▹ (
      _,
      (_, (_, refl) ▹ (_, refl) ▹ (_, (_, refl)) ▹ (_, (_, refl)) ▹ inr ((_, (_, refl)) ▹ (_, ports_spelled p _) ▹ (_, statements) ▹ (z, refl)))
          ▹ refl,
    )
    ▹ (z, refl)
  where
    statements : AreStatements everywhere 0 ((then) (register_at (λ n. head_at p) 0) ((then) (first_connect (λ n. head_at p)) rest))
        (behind_moves (p 6) (register_parts 0) (behind_moves (p 7) (sum_parts (name 0) (a_word (codes "x"))) ts))
        (token_at level_closes z ∷ token_at level_closes z ∷ [])
    statements = (_, register_spelled 0 (p 6) _ (omega arith)) ▹ (_, sum_connect_spelled 0 (register_name 0) (codes "x") (p 7) ts (omega arith)) ▹ are

-- ---- the whole text

module _ (n : ℕ) (some : 1 ≤ n) (small : n ≤ 4096) where
  lines : List Line
  lines = lines_of head_rows ++ tail_lines (n - 1) 0 (n - 1)

  text_is : gen_text n ≡ text_of lines
  unfolding lines
  text_is =
      gen_bytes n
      ∙ sym (flat_map-append line_bytes (lines_of head_rows) (tail_lines (n - 1) 0 (n - 1)) ∙ ap₂ (λ x y. x ++ y) head_text (tail_text (n - 1) (n - 1) 0))

  are_lines : AreLines lines
  unfolding lines
  are_lines = rows_are_lines head_rows (tail_lines (n - 1) 0 (n - 1)) head_sound (tail_are_lines (n - 1) (n - 1) 0 (omega arith) (omega arith))

  rest : Block
  rest = steps gen_places 0 (n - 1) ((then) (last_connect gen_places n) done)

  tail : Tail (before_step 0) (tail_lines (n - 1) 0 (n - 1)) rest
  unfolding rest
  tail = steps_tail gen_places n (n - 1) 0 later_places some small (omega arith)

  before_tail : before_step 0 ≡ text_of (lines_of head_rows)
  before_tail = ap (λ x. head_bytes ++ x) (no_steps 0) ∙ append-nil head_bytes ∙ sym head_text

  lexes : Lexes [] (0 ∷ []) lines (rows_tokens (places_of [] head_rows) head_rows tail.tokens)
  unfolding lines
  lexes =
      rows_lex head_rows [] (0 ∷ []) outer_levels (tail_lines (n - 1) 0 (n - 1)) tail.tokens head_moves
      (subst (λ x. Lexes x outer_levels (tail_lines (n - 1) 0 (n - 1)) tail.tokens) before_tail tail.lexes)

  tree_spelled : IsSpelled everywhere (gen_tree gen_places n) (rows_tokens (places_of [] head_rows) head_rows tail.tokens)
  unfolding rest
  tree_spelled =
      subst (λ f. IsSpelled everywhere (tree_of f rest) (rows_tokens (places_of [] head_rows) head_rows tail.tokens)) (sym head_places)
      (head_spelled (places_of [] head_rows) tail.ends rest tail.tokens tail.spell)

pub gen_is_spelled : GenIsSpelled
gen_is_spelled n some small =
    let found = lexes n some small in (
      gen_places,
      (
        found.tokens,
        (lines n some small, text_is n some small, are_lines n some small, found.have),
        subst (IsSpelled everywhere (gen_tree gen_places n)) (sym found.terminals_are) (tree_spelled n some small),
      ),
    )
