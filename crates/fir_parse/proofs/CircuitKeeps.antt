-- The steps of circuits, modules and ports keep the guards.
use Rattle.std.proofs.Common.{◌≡◌, ℕ, false, refl, List, Option, Some, None, codes, if◌then◌else◌}
use Rattle.std.specs.Str.{bytes_eq}
use Rattle.fir_base.specs.Lists.{In}
use Rattle.fir_base.specs.declared.direction.Direction.{Direction}
use Rattle.fir_ast.specs.declared.place.Place.{Place}
use Rattle.fir_ast.specs.Statements.{PlacedName, invalid}
use Rattle.fir_ast.specs.Circuits.{CircuitTree}
use Rattle.fir_parse.specs.declared.lexeme.Mark.TheVariants.{Colon}
use Rattle.fir_parse.specs.declared.words.ModuleWord.{ModuleWord}
use Rattle.fir_parse.specs.declared.words.ModuleWord.TheVariants as modules
use Rattle.fir_parse.specs.Lexemes.{Lexeme, Terminal, word, mark, annotations, level_opens, level_closes}
use Rattle.fir_parse.specs.MissingForms.{missing_modules, word_at}
use Rattle.fir_parse.specs.working.Words.{direction_of, module_word_of}
use Rattle.fir_parse.specs.working.Symbols.{Begun, statement, PortOr, port, no_port, BodyTree, a_mark, behind_port_is}
use Rattle.fir_parse.specs.working.States.{State, Step, wants, takes, refuses, mapped}
use Rattle.fir_parse.specs.working.StatementRules.{ends_line, bare, first_step}
use Rattle.fir_parse.specs.working.CircuitRules.{circuit_rest, version_rest, text_step, annotations_step, by_module_word, first_module_step, more_modules_step, body_step, statements_only, behind_port, body_by_word, ports_step, port_rest, direction_step, port_is_step}
use Rattle.fir_parse.proofs.Guards.{unlimited, Guarded, After, loosened}
use Rattle.fir_parse.proofs.Keeping.{at, Spot, neither, elsewhere, optional, Keeps, always, keeps_if, keeps_mapped, keeps_taken}
use Rattle.fir_parse.proofs.StatementKeeps.{statement_spot, first_spot, keeps_first, after_statement}
use Rattle.fir_parse.proofs.FormsFoundWords.{IsModuleWord, module_word}

-- where a module begins with that token
abbrev pub module_spot : Terminal → Spot
module_spot t = record { kind = neither; may_be_empty = false; misses = λ p w. (t ≡ word_at w p) × In missing_modules w }

guarded_circuit : (k : CircuitTree → State) → ((c : CircuitTree) → After unlimited (k c)) → Guarded (circuit_rest k)
guarded_circuit k after = λ n. (λ p. (λ q. (λ r. (λ s. (λ ms. after _, tt), tt), tt), tt), refl)

guarded_version : (k : CircuitTree → State) → ((c : CircuitTree) → After unlimited (k c)) → Guarded (version_rest k)
guarded_version k after = λ p. (λ n. (λ q. (λ m. (λ r. (λ o. (λ s. (λ t. (guarded_circuit k after, tt), refl), tt), tt), tt), tt), (refl, tt)), tt)

pub keeps_text : (l : Lexeme) (p : Place) → Keeps (always unlimited) elsewhere (at l p) (text_step l)
keeps_text (word w) p =
    let other : Step CircuitTree = if bytes_eq w (codes "circuit") then takes (λ k. circuit_rest k) else refuses in
    keeps_if (always unlimited) elsewhere (at (word w) p) (bytes_eq w (codes "FIRRTL")) (takes (λ k. version_rest k)) other (λ k after. (guarded_version k after, refl))
    (keeps_if (always unlimited) elsewhere (at (word w) p) (bytes_eq w (codes "circuit")) (takes (λ k. circuit_rest k)) refuses (λ k after. (guarded_circuit k after, tt)) tt)
keeps_text _ p = tt

pub keeps_annotations : (l : Lexeme) (p : Place) → Keeps (always unlimited) optional (at l p) (annotations_step l)
keeps_annotations annotations p = keeps_taken optional (at annotations p) tt
keeps_annotations _ p = (tt, refl)

keeps_by_module_word : (m : ModuleWord) (p : Place) (w : List ℕ) → IsModuleWord w m → Keeps (always unlimited) (module_spot (at (word w) p)) (at (word w) p) (by_module_word m p w)
keeps_by_module_word modules.Module p w e = λ k after. (λ n. (λ q. (λ r. (λ b. (λ ms. after _, tt), tt), tt), refl), tt)
keeps_by_module_word modules.Missing p w e = (refl, e)
keeps_by_module_word modules.Name p w e = tt

pub keeps_first_module : (l : Lexeme) (p : Place) → Keeps (always unlimited) (module_spot (at l p)) (at l p) (first_module_step l p)
keeps_first_module (word w) p = keeps_by_module_word (module_word_of w) p w (module_word w)
keeps_first_module _ p = tt

pub keeps_more_modules : (l : Lexeme) (p : Place) → Keeps (always unlimited) (module_spot (at l p)) (at l p) (more_modules_step l p)
keeps_more_modules level_closes p = keeps_taken (module_spot (at level_closes p)) (at level_closes p) _
keeps_more_modules (word w) p = keeps_by_module_word (module_word_of w) p w (module_word w)
keeps_more_modules _ p = tt

pub keeps_body : (l : Lexeme) (p : Place) → Keeps (always unlimited) optional (at l p) (body_step l)
keeps_body level_opens p = λ k after. (after, tt)
keeps_body _ p = (tt, refl)

after_only : (s : Begun) (k : BodyTree → State) → ((b : BodyTree) → After unlimited (k b)) → After unlimited (statements_only s k)
after_only s k after = after_statement 0 s _ (λ b. after _)

after_port : (x : PortOr) (k : BodyTree → State) → ((b : BodyTree) → After unlimited (k b)) → After unlimited (behind_port x k)
after_port (port t) k after = (λ b. after _, tt)
after_port (no_port s) k after = after_only s k after

keeps_body_by_word : (r : Option Direction) (p : Place) (w : List ℕ) → Keeps (always unlimited) statement_spot (at (word w) p) (body_by_word r p w)
keeps_body_by_word (Some r) p w = λ k after. (λ x. after_port x k after, (refl, refl))
keeps_body_by_word None p w = λ k after. (λ s. after_only s k after, (refl, refl))

pub keeps_ports : (l : Lexeme) (p : Place) → Keeps (always unlimited) statement_spot (at l p) (ports_step l p)
keeps_ports level_closes p = keeps_taken statement_spot (at level_closes p) _
keeps_ports (word w) p = keeps_body_by_word (direction_of w) p w
keeps_ports _ p = tt

guarded_port : (r : Direction) (n : PlacedName) (k : PortOr → State) → ((x : PortOr) → After unlimited (k x)) → Guarded (port_rest r n k)
guarded_port r n k after = λ t. (λ p. loosened p _ (after _), refl)

keeps_direction_word : (r : Direction) (p : Place) (w x : List ℕ) (q : Place) → Keeps (always unlimited) (first_spot w p (at (word x) q)) (at (word x) q) (direction_step r p w (word x) q)
keeps_direction_word r p w x q =
    keeps_if (always unlimited) (first_spot w p (at (word x) q)) (at (word x) q) (bytes_eq x (codes "is")) (takes (λ k. wants (behind_port_is r p w q) k))
    (takes (λ k. wants (a_mark Colon) (λ s. port_rest r (record { place = q; name = x }) k))) (λ k after. (after, tt)) (λ k after. (λ s. (guarded_port r _ k after, tt), tt))

keeps_no_port : (p : Place) (w : List ℕ) (l : Lexeme) (q : Place) → Keeps (always unlimited) (first_spot w p (at l q)) (at l q) (mapped no_port (first_step 0 p w l q))
keeps_no_port p w l q = keeps_mapped (always unlimited) (first_spot w p (at l q)) (at l q) no_port (first_step 0 p w l q) (keeps_first 0 p w l q)

pub keeps_direction : (r : Direction) (p : Place) (w : List ℕ) (l : Lexeme) (q : Place) → Keeps (always unlimited) (first_spot w p (at l q)) (at l q) (direction_step r p w l q)
keeps_direction r p w (word x) q = keeps_direction_word r p w x q
keeps_direction r p w l q = keeps_no_port p w l q

pub keeps_port_is : (r : Direction) (p : Place) (w : List ℕ) (q : Place) (l : Lexeme) (s : Place) → Keeps (always unlimited) elsewhere (at l s) (port_is_step r p w q l s)
keeps_port_is r p w q (mark Colon) s = λ k after. (guarded_port r _ k after, tt)
keeps_port_is r p w q (word x) s =
    keeps_if {T = PortOr} (always unlimited) elsewhere (at (word x) s) (bytes_eq x (codes "invalid")) (takes (λ k. ends_line (no_port (statement (invalid p (bare p w)))) k)) refuses (λ k after. (λ t. loosened t _ (after _), tt)) tt
keeps_port_is r p w q _ s = tt
