-- Circuits, modules and ports (FIRRTL spec, "Circuits", "Modules"):
--   text   = [ "FIRRTL" "version" int "." int "." int NL ] "circuit" name ":" [annotations] NL IN module+ OUT
--   module = "module" name ":" NL [ IN port* stmt* OUT ]
--   port   = ("input" | "output") name ":" type NL
use Rattle.std.specs.Prelude.{ℕ, Bool, List, [], ◌∷◌, not, ◌||◌, nat_eq, Option, Some, None, codes, if◌then◌else◌}
use Rattle.std.specs.Str.{bytes_eq}
use Rattle.fir_base.specs.declared.direction.Direction.{Direction}
use Rattle.fir_ast.specs.declared.place.Place.{Place}
use Rattle.fir_ast.specs.Statements.{PlacedName, done, invalid}
use Rattle.fir_ast.specs.Circuits.{PortTree, ModuleTree, CircuitTree}
use Rattle.fir_parse.specs.declared.lexeme.Mark.TheVariants.{Colon, Dot}
use Rattle.fir_parse.specs.declared.words.ModuleWord.{ModuleWord}
use Rattle.fir_parse.specs.declared.words.ModuleWord.TheVariants as modules
use Rattle.fir_parse.specs.Lexemes.{Lexeme, word, mark, annotations, level_opens, level_closes}
use Rattle.fir_parse.specs.working.Words.{direction_of, module_word_of}
use Rattle.fir_parse.specs.working.Symbols.{Begun, statement, PortOr, port, no_port, BodyTree, a_mark, a_word, a_name, a_natural, a_line_end, an_opening, a_type, behind_first, some_annotations, first_module, more_modules, a_body, ports_and_statements, behind_direction, behind_port_is}
use Rattle.fir_parse.specs.working.States.{State, version_at, limit, wants, Step, takes, without, refuses, unsupported, mapped}
use Rattle.fir_parse.specs.working.StatementRules.{ends_line, bare, is_named, first_step, behind_statement}

-- behind the word `circuit`
abbrev pub circuit_rest : (CircuitTree → State) → State
circuit_rest k =
    wants a_name (λ n. wants (a_mark Colon) (λ p. wants some_annotations (λ q. wants a_line_end (λ r. wants an_opening (λ s. wants first_module (λ ms. k (record { named = n; modules = ms })))))))

-- the version's first number is 1 or 2
abbrev pub is_known_version : ℕ → Bool
is_known_version n = nat_eq n 1 || nat_eq n 2

-- "version" int "." int "." int NL
abbrev pub version_plan : (Unit {0} → State) → State
version_plan k =
    wants (a_word (codes "version")) (λ p. wants a_natural (λ n. limit (not (is_known_version n.number)) (version_at n.place n.number)
    (wants (a_mark Dot) (λ q. wants a_natural (λ minor. wants (a_mark Dot) (λ r. wants a_natural (λ patch. wants a_line_end (λ s. k tt))))))))

-- behind the word `FIRRTL`
abbrev pub version_rest : (CircuitTree → State) → State
version_rest k = version_plan (λ u. wants (a_word (codes "circuit")) (λ t. circuit_rest k))

abbrev pub text_step : Lexeme → Step CircuitTree
text_step (word w) =
    if bytes_eq w (codes "FIRRTL") then takes (λ k. version_rest k)
    else if bytes_eq w (codes "circuit") then takes (λ k. circuit_rest k)
    else refuses
text_step _ = refuses

abbrev pub annotations_step : Lexeme → Step (Unit {0})
annotations_step annotations = takes (λ k. k tt)
annotations_step _ = without tt

-- behind the word `module` at a place
abbrev pub one_module : Place → (ModuleTree → State) → State
one_module w k = wants a_name (λ n. wants (a_mark Colon) (λ p. wants a_line_end (λ q. wants a_body (λ b. k (record { place = w; named = n; ports = b.ports; body = b.block })))))

abbrev pub module_rest : Place → (List ModuleTree → State) → State
module_rest w k = one_module w (λ m. wants more_modules (λ ms. k (m ∷ ms)))

abbrev pub by_module_word : ModuleWord → Place → List ℕ → Step (List ModuleTree)
by_module_word modules.Module p w = takes (λ k. module_rest p k)
by_module_word modules.Missing p w = unsupported p w
by_module_word modules.Name p w = refuses

abbrev pub first_module_step : Lexeme → Place → Step (List ModuleTree)
first_module_step (word w) p = by_module_word (module_word_of w) p w
first_module_step _ p = refuses

abbrev pub more_modules_step : Lexeme → Place → Step (List ModuleTree)
more_modules_step level_closes p = takes (λ k. k [])
more_modules_step l p = first_module_step l p

-- IN port* stmt* OUT, or none
abbrev pub body_step : Lexeme → Step BodyTree
body_step level_opens = takes (λ k. wants ports_and_statements k)
body_step _ = without (record { ports = []; block = done })

abbrev pub with_port : PortTree → BodyTree → BodyTree
with_port p b = record { ports = p ∷ b.ports; block = b.block }

-- behind a first statement no port follows
abbrev pub statements_only : Begun → (BodyTree → State) → State
statements_only s k = behind_statement 0 s (λ b. k (record { ports = []; block = b }))

abbrev pub behind_port : PortOr → (BodyTree → State) → State
behind_port (port t) k = wants ports_and_statements (λ b. k (with_port t b))
behind_port (no_port s) k = statements_only s k

abbrev pub body_by_word : Option Direction → Place → List ℕ → Step BodyTree
body_by_word (Some r) p w = takes (λ k. wants (behind_direction r p w) (λ x. behind_port x k))
body_by_word None p w = takes (λ k. wants (behind_first 0 p w) (λ s. statements_only s k))

abbrev pub ports_step : Lexeme → Place → Step BodyTree
ports_step level_closes p = takes (λ k. k (record { ports = []; block = done }))
ports_step (word w) p = body_by_word (direction_of w) p w
ports_step _ p = refuses

-- behind `input name :` or `output name :`
abbrev pub port_rest : Direction → PlacedName → (PortOr → State) → State
port_rest r n k = wants (a_type 0) (λ t. ends_line (port (record { direction = r; named = n; type_place = t.place; data_type = t.data_type })) k)

-- behind the word `input` or `output`: a port's name, or a statement that begins with a ref
abbrev pub direction_step : Direction → Place → List ℕ → Lexeme → Place → Step PortOr
direction_step r p w (word x) q =
    if bytes_eq x (codes "is") then takes (λ k. wants (behind_port_is r p w q) k)
    else takes (λ k. wants (a_mark Colon) (λ s. port_rest r (record { place = q; name = x }) k))
direction_step r p w l q = mapped no_port (first_step 0 p w l q)

abbrev pub port_is_step : Direction → Place → List ℕ → Place → Lexeme → Place → Step PortOr
port_is_step r p w q (mark Colon) s = takes (λ k. port_rest r (is_named q) k)
port_is_step r p w q (word x) s = if bytes_eq x (codes "invalid") then takes (λ k. ends_line (no_port (statement (invalid p (bare p w)))) k) else refuses
port_is_step r p w q _ s = refuses
