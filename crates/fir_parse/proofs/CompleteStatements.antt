-- Completions of statements, memories, ports, modules and circuits.
use Rattle.std.proofs.Common.{ℕ, ◌+◌, List, codes, refl}
use Rattle.fir_base.specs.declared.direction.Direction.{Direction}
use Rattle.fir_ast.specs.declared.place.Place.{Place}
use Rattle.fir_ast.specs.Statements.{SinkReference, Reset}
use Rattle.fir_parse.specs.declared.lexeme.Mark.TheVariants.{Connect, Arrow, OpenRound, CloseRound, Comma, Colon}
use Rattle.fir_parse.specs.Lexemes.{word, mark, annotations, line_end, level_opens, level_closes}
use Rattle.fir_parse.specs.working.Symbols.{OpenWhen, Tree, statements, behind_first, behind_is, behind_else, behind_sink, an_indented_block, a_reset, behind_with, a_memory_body, a_memory_field, more_memory_fields, more_names, an_under_write, a_text, some_annotations, first_module, more_modules, a_body, ports_and_statements, behind_direction, behind_port_is}
use Rattle.fir_parse.specs.working.States.{State, wants}
use Rattle.fir_parse.specs.working.StatementRules.{reset_rest}
use Rattle.fir_parse.proofs.Completions.{Completion, taken, below_limit}
use Rattle.fir_parse.proofs.CompleteParts.{complete_mark, complete_word, complete_name, complete_natural, complete_line_end, complete_opening, complete_closing, complete_type, complete_expression}

pub complete_statements : (d : ℕ) (ws : List OpenWhen) (k : Tree (statements d ws) → State) → ((x : Tree (statements d ws)) → Completion (k x)) → Completion (wants (statements d ws) k)
complete_statements d ws k h = taken (statements d ws) k level_closes _ refl (h _)

pub complete_first : (d : ℕ) (p : Place) (w : List ℕ) (k : Tree (behind_first d p w) → State) → ((x : Tree (behind_first d p w)) → Completion (k x)) → Completion (wants (behind_first d p w) k)
complete_first d p w k h = taken (behind_first d p w) k (mark Connect) _ refl (complete_expression d _ (λ e. (complete_line_end _ (λ q. h _), refl)))

pub complete_is : (d : ℕ) (p : Place) (w : List ℕ) (q : Place) (k : Tree (behind_is d p w q) → State) → ((x : Tree (behind_is d p w q)) → Completion (k x)) → Completion (wants (behind_is d p w q) k)
complete_is d p w q k h = taken (behind_is d p w q) k (word (codes "invalid")) _ refl (complete_line_end _ (λ r. h _))

pub complete_else : (d n : ℕ) (p : Place) (k : Tree (behind_else d n p) → State) → ((x : Tree (behind_else d n p)) → Completion (k x)) → Completion (wants (behind_else d n p) k)
complete_else d n p k h = taken (behind_else d n p) k (mark Connect) _ refl (complete_expression d _ (λ e. (complete_line_end _ (λ q. h _), refl)))

pub complete_sink : (d : ℕ) (s : SinkReference) (k : Tree (behind_sink d s) → State) → ((x : Tree (behind_sink d s)) → Completion (k x)) → Completion (wants (behind_sink d s) k)
complete_sink d s k h = taken (behind_sink d s) k (mark Connect) _ refl (complete_expression d _ (λ e. (complete_line_end _ (λ q. h _), refl)))

pub complete_block : (d : ℕ) (k : Tree (an_indented_block d) → State) → ((x : Tree (an_indented_block d)) → Completion (k x)) → Completion (wants (an_indented_block d) k)
complete_block d k h = taken (an_indented_block d) k level_opens _ refl (complete_statements d _ k h)

pub complete_reset : (d : ℕ) (k : Tree (a_reset d) → State) → ((x : Tree (a_reset d)) → Completion (k x)) → Completion (wants (a_reset d) k)
complete_reset d k h = taken (a_reset d) k line_end _ refl (h _)

complete_reset_rest : (d : ℕ) (w : Place) (k : Reset → State) → ((r : Reset) → Completion (k r)) → Completion (reset_rest d w k)
complete_reset_rest d w k h =
    complete_word (codes "reset") _ (λ p. complete_mark Arrow _ (λ q. complete_mark OpenRound _ (λ r. below_limit _ _ _
    (complete_expression (d + 1) _ (λ c. (complete_mark Comma _ (λ s. complete_expression (d + 1) _ (λ i. (complete_mark CloseRound _ (λ t. h _), refl))), refl))))))

pub complete_with : (d : ℕ) (w : Place) (k : Tree (behind_with d w) → State) → ((x : Tree (behind_with d w)) → Completion (k x)) → Completion (wants (behind_with d w) k)
complete_with d w k h = taken (behind_with d w) k line_end _ refl (complete_opening _ (λ q. complete_reset_rest d w _ (λ r. complete_line_end _ (λ s. complete_closing _ (λ t. h r)))))

pub complete_memory_field : (d : ℕ) (k : Tree (a_memory_field d) → State) → ((x : Tree (a_memory_field d)) → Completion (k x)) → Completion (wants (a_memory_field d) k)
complete_memory_field d k h = taken (a_memory_field d) k (word (codes "depth")) _ refl (complete_mark Arrow _ (λ q. complete_natural _ (λ n. complete_line_end _ (λ r. h _))))

pub complete_more_memory_fields : (d : ℕ) (k : Tree (more_memory_fields d) → State) → ((x : Tree (more_memory_fields d)) → Completion (k x)) → Completion (wants (more_memory_fields d) k)
complete_more_memory_fields d k h = taken (more_memory_fields d) k level_closes _ refl (h _)

pub complete_memory_body : (d : ℕ) (k : Tree (a_memory_body d) → State) → ((x : Tree (a_memory_body d)) → Completion (k x)) → Completion (wants (a_memory_body d) k)
complete_memory_body d k h = taken (a_memory_body d) k level_opens _ refl (complete_memory_field d _ (λ f. complete_more_memory_fields d _ (λ fs. h _)))

pub complete_more_names : (k : Tree more_names → State) → ((x : Tree more_names) → Completion (k x)) → Completion (wants more_names k)
complete_more_names k h = taken more_names k line_end _ refl (h _)

pub complete_under_write : (k : Tree an_under_write → State) → ((x : Tree an_under_write) → Completion (k x)) → Completion (wants an_under_write k)
complete_under_write k h = taken an_under_write k (word (codes "old")) _ refl (h _)

pub complete_annotations : (k : Tree some_annotations → State) → ((x : Tree some_annotations) → Completion (k x)) → Completion (wants some_annotations k)
complete_annotations k h = taken some_annotations k annotations _ refl (h tt)

pub complete_ports : (k : Tree ports_and_statements → State) → ((x : Tree ports_and_statements) → Completion (k x)) → Completion (wants ports_and_statements k)
complete_ports k h = taken ports_and_statements k level_closes _ refl (h _)

pub complete_body : (k : Tree a_body → State) → ((x : Tree a_body) → Completion (k x)) → Completion (wants a_body k)
complete_body k h = taken a_body k level_opens _ refl (complete_ports k h)

pub complete_more_modules : (k : Tree more_modules → State) → ((x : Tree more_modules) → Completion (k x)) → Completion (wants more_modules k)
complete_more_modules k h = taken more_modules k level_closes _ refl (h _)

pub complete_first_module : (k : Tree first_module → State) → ((x : Tree first_module) → Completion (k x)) → Completion (wants first_module k)
complete_first_module k h =
    taken first_module k (word (codes "module")) _ refl (complete_name _ (λ n. complete_mark Colon _ (λ p. complete_line_end _ (λ q. complete_body _ (λ b. complete_more_modules _ (λ ms. h _))))))

pub complete_text : (k : Tree a_text → State) → ((x : Tree a_text) → Completion (k x)) → Completion (wants a_text k)
complete_text k h =
    taken a_text k (word (codes "circuit")) _ refl (complete_name _ (λ n. complete_mark Colon _ (λ p. complete_annotations _ (λ q. complete_line_end _ (λ r. complete_opening _ (λ s. complete_first_module _ (λ ms. h _)))))))

pub complete_direction : (r : Direction) (p : Place) (w : List ℕ) (k : Tree (behind_direction r p w) → State) → ((x : Tree (behind_direction r p w)) → Completion (k x)) → Completion (wants (behind_direction r p w) k)
complete_direction r p w k h = taken (behind_direction r p w) k (mark Connect) _ refl (complete_expression 0 _ (λ e. (complete_line_end _ (λ q. h _), refl)))

pub complete_port_is : (r : Direction) (p : Place) (w : List ℕ) (q : Place) (k : Tree (behind_port_is r p w q) → State) → ((x : Tree (behind_port_is r p w q)) → Completion (k x)) → Completion (wants (behind_port_is r p w q) k)
complete_port_is r p w q k h = taken (behind_port_is r p w q) k (mark Colon) _ refl (complete_type 0 _ (λ t. (complete_line_end _ (λ s. h _), refl)))
