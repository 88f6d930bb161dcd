-- The places of statements and circuits are among those of their tokens.
use Rattle.std.proofs.Common.{◌≡◌, ℕ, ◌+◌, List, [], ◌∷◌, ◌++◌, Option, Some, None, codes, refl, sym, ap, ◌∙◌, subst, append-nil}
use Rattle.std.specs.Prelude.{flat_map}
use Rattle.fir_ast.specs.declared.place.Place.{Place}
use Rattle.fir_ast.specs.Expressions.{Expression}
use Rattle.fir_ast.specs.Statements.{PlacedName, SinkReference, Reset, MemoryPart, data_type, depth, read_latency, write_latency, reader, writer, readwriter, read_under_write, Statement, wire, register, node, instance, memory, when, connect, partial_connect, invalid, skip, Block, done, then}
use Rattle.fir_ast.specs.Circuits.{PortTree, ModuleTree, CircuitTree}
use Rattle.fir_parse.specs.declared.lexeme.Mark.{Mark}
use Rattle.fir_parse.specs.declared.lexeme.Mark.TheVariants.{Connect, PartialConnect}
use Rattle.fir_parse.specs.Lexemes.{Terminal}
use Rattle.fir_lex.specs.working.Laws.{LexedFormByForm}
use Rattle.fir_parse.specs.Limits.{everywhere}
use Rattle.fir_parse.specs.Pieces.{◌▸◌, Given, Sign, WordToken, LineEnd}
use Rattle.fir_parse.specs.ExpressionForms.{IsExpression, IsSink}
use Rattle.fir_parse.specs.StatementForms.{IsResetPair, IsRegisterReset, AreNames, IsNames, IsWhen, IsMemoryPart, AreMemoryParts, IsMemoryBody, IsStatement, AreStatements, IsBlock, IsElse}
use Rattle.fir_parse.specs.CircuitForms.{IsPort, ArePorts, IsBody, IsModule, AreModules, AreSomeModules, IsVersion, IsSpelled}
use Rattle.fir_parse.specs.Spells.{Spells, terminals}
use Rattle.fir_parse.specs.working.TreePlaces.{Rise, parts_places, expression_places, reset_places, name_places, memory_part_places, memory_places, statement_places, block_places, port_places, module_places, circuit_places}
use Rattle.fir_parse.specs.working.TokenPlaces.{token_places}
use Rattle.fir_parse.proofs.RisingTokens.{tokens_rise}
use Rattle.fir_parse.proofs.PlacePieces.{rise_among, Between, Has, token, somewhere, same, nothing, given, next, ended, behind, either, name, int}
use Rattle.fir_parse.proofs.ExpressionPlaces.{placed, type_first, expression_has, parts_have}

pair : (d : ℕ) (r : Reset) → Has (IsResetPair everywhere d r) (expression_places r.condition ++ expression_places r.init)
pair d r =
    behind somewhere (behind somewhere (behind somewhere (behind given (next (expression_has (d + 1) r.condition) (behind somewhere (ended (expression_has (d + 1) r.init) somewhere))))))

reset : (d : ℕ) (r : Option Reset) → Has (IsRegisterReset everywhere d r) (reset_places r)
reset d None = somewhere
reset d (Some r) =
    next (token refl)
    (behind somewhere (either (behind somewhere (behind given (ended (pair (d + 1) r) (behind somewhere somewhere)))) (behind somewhere (behind somewhere (ended (pair d r) (behind somewhere somewhere))))))

-- ---- memories

names_have : (ns : List PlacedName) → Has (AreNames ns) (name_places ns)
names_have [] = nothing
names_have (n ∷ ns) = next (name n) (names_have ns)

some_names : (ns : List PlacedName) → Has (IsNames ns) (name_places ns)
some_names [] = record { holds = λ a b x. absurd x }
some_names (n ∷ ns) = behind somewhere (next (name n) (ended (names_have ns) somewhere))

part : (d : ℕ) (f : MemoryPart) → Has (IsMemoryPart everywhere d f) (memory_part_places f)
part d (data_type p q t) = next (token refl) (behind somewhere (ended (placed q (type_first d t)) somewhere))
part d (depth p n) = ended (token refl) (behind somewhere (behind (int n) somewhere))
part d (read_latency p n) = ended (token refl) (behind somewhere (behind (int n) somewhere))
part d (write_latency p n) = ended (token refl) (behind somewhere (behind (int n) somewhere))
part d (reader p ns) = next (token refl) (some_names ns)
part d (writer p ns) = next (token refl) (some_names ns)
part d (readwriter p ns) = next (token refl) (some_names ns)
part d (read_under_write p u) = ended (token refl) (behind somewhere (behind somewhere somewhere))

parts : (d : ℕ) (fs : List MemoryPart) → Has (AreMemoryParts everywhere d fs) (memory_places fs)
parts d [] = nothing
parts d (f ∷ fs) = next (part d f) (parts d fs)

memory_body : (d : ℕ) (fs : List MemoryPart) → Has (IsMemoryBody everywhere d fs) (memory_places fs)
memory_body d [] = nothing
memory_body d (f ∷ fs) = behind somewhere (next (part d f) (ended (parts d fs) somewhere))

-- ---- statements

sink : (d : ℕ) (s : SinkReference) → Has (IsSink everywhere d s) (s.place ∷ parts_places s.parts)
sink d s = next (token refl) (parts_have d 1 s.parts)

-- a statement stands where its sink does
at_sink : {Q : List Terminal → List Terminal → Type 0} {qs : List Place} (p q : Place) → Has Q (q ∷ qs) → ((a b : List Terminal) → Q a b → p ≡ q) → Has Q (p ∷ qs)
at_sink {Q} {qs} p q h e = record { holds = λ a b x. subst (λ r. Between (r ∷ qs) a b) (sym (e a b x)) (h.holds a b x) }

driven : (d : ℕ) (m : Mark) (p : Place) (s : SinkReference) (e : Expression) → Has (IsSink everywhere d s ▸ Sign m ▸ IsExpression everywhere d e ▸ LineEnd ▸ Given (p ≡ s.place)) (p ∷ parts_places s.parts ++ expression_places e)
driven d m p s e =
    at_sink p s.place (next (sink d s) (behind somewhere (ended (expression_has d e) (behind somewhere given)))) (λ a b x. x.2.2.2.2.0)

-- a when that is all of an else
alone : (d : ℕ) (s : Statement) (rest : Block) → Has (IsStatement everywhere (d + 1) s) (statement_places s) → Has (WordToken (codes "else") ▸ Given (IsWhen s × (rest ≡ done)) ▸ IsStatement everywhere (d + 1) s) (statement_places s ++ block_places rest)
alone d s rest h = record {
  holds = λ a b x.
      let none : statement_places s ≡ statement_places s ++ block_places rest = (let empty : rest ≡ done = x.2.1.0.1 in sym (append-nil (statement_places s)) ∙ ap (λ r. statement_places s ++ block_places r) (sym empty)) in
      subst (λ qs. Between qs a b) none ((behind somewhere (behind given h)).holds a b x);
}

mutual
  statement : (d : ℕ) (s : Statement) → Has (IsStatement everywhere d s) (statement_places s)
  statement d (wire p n q t) = next (token refl) (next (name n) (behind somewhere (ended (placed q (type_first d t)) somewhere)))
  statement d (register p n q t c r) =
      next (token refl) (next (name n) (behind somewhere (next (placed q (type_first d t)) (behind somewhere (next (expression_has d c) (reset d r))))))
  statement d (node p n e) = next (token refl) (next (name n) (behind somewhere (ended (expression_has d e) somewhere)))
  statement d (instance p n m) = next (token refl) (next (name n) (behind somewhere (ended (name m) somewhere)))
  statement d (memory p n fs) = next (token refl) (next (name n) (behind somewhere (behind somewhere (memory_body d fs))))
  statement d (when p e b f) = next (token refl) (next (expression_has d e) (behind somewhere (behind somewhere (behind given (next (block (d + 1) b) (otherwise d f))))))
  statement d (connect p s e) = driven d Connect p s e
  statement d (partial_connect p s e) = driven d PartialConnect p s e
  statement d (invalid p s) = at_sink p s.place (ended (sink d s) (behind somewhere (behind somewhere (behind somewhere given)))) (λ a b x. x.2.2.2.2.0)
  statement d (skip p) = ended (token refl) somewhere

  statements_have : (d : ℕ) (b : Block) → Has (AreStatements everywhere d b) (block_places b)
  statements_have d done = nothing
  statements_have d ((then) s rest) = next (statement d s) (statements_have d rest)

  block : (d : ℕ) (b : Block) → Has (IsBlock everywhere d b) (block_places b)
  block d done = either nothing (behind somewhere somewhere)
  block d ((then) s rest) = behind somewhere (next (statement d s) (ended (statements_have d rest) somewhere))

  otherwise : (d : ℕ) (b : Block) → Has (IsElse everywhere d b) (block_places b)
  otherwise d done = either nothing (behind somewhere (behind somewhere (behind somewhere (either nothing (behind somewhere somewhere)))))
  otherwise d ((then) s rest) =
      either (behind somewhere (behind somewhere (behind somewhere (behind somewhere (next (statement (d + 1) s) (ended (statements_have (d + 1) rest) somewhere))))))
      (alone d s rest (statement (d + 1) s))

-- ---- circuits

port : (p : PortTree) → Has (IsPort everywhere p) (port_places p)
port p = behind somewhere (next (name p.named) (behind somewhere (ended (placed p.type_place (type_first 0 p.data_type)) somewhere)))

ports : (ps : List PortTree) → Has (ArePorts everywhere ps) (flat_map port_places ps)
ports [] = nothing
ports (p ∷ ps) = next (port p) (ports ps)

no_body : (ps : List PortTree) (b : Block) → Has (Given ((ps ≡ []) × (b ≡ done))) (flat_map port_places ps ++ block_places b)
no_body ps b = record {
  holds = λ a z x.
      let none : [] ≡ flat_map port_places ps ++ block_places b = ap (λ c. block_places c) (sym x.0.1) ∙ ap (λ r. flat_map port_places r ++ block_places b) (sym x.0.0) in
      subst (λ qs. Between qs a z) none (same a z x.1);
}

body : (ps : List PortTree) (b : Block) → Has (IsBody everywhere ps b) (flat_map port_places ps ++ block_places b)
body ps b = either (no_body ps b) (behind somewhere (next (ports ps) (ended (statements_have 0 b) somewhere)))

one_module : (m : ModuleTree) → Has (IsModule everywhere m) (module_places m)
one_module m = next (token refl) (next (name m.named) (behind somewhere (behind somewhere (body m.ports m.body))))

modules : (ms : List ModuleTree) → Has (AreModules everywhere ms) (flat_map module_places ms)
modules [] = nothing
modules (m ∷ ms) = next (one_module m) (modules ms)

some_modules : (ms : List ModuleTree) → Has (AreSomeModules everywhere ms) (flat_map module_places ms)
some_modules [] = record { holds = λ a b x. absurd x }
some_modules (m ∷ ms) = next (one_module m) (modules ms)

version : Has (IsVersion everywhere) []
version = record {
  holds = λ a b x. (behind somewhere (behind somewhere (behind (int x.0) (behind given (behind somewhere (behind (int x.1) (behind somewhere (behind (int x.2) somewhere)))))))).holds a b x.3;
}

circuit : (c : CircuitTree) (ts : List Terminal) → IsSpelled everywhere c ts → Between (circuit_places c) ts []
circuit c ts x =
    (behind (either nothing version)
    (behind somewhere (next (name c.named) (behind somewhere (behind (either nothing somewhere) (behind somewhere (behind somewhere (ended (some_modules c.modules) somewhere)))))))).holds ts [] x

pub places_rise : LexedFormByForm → (bytes : List ℕ) (c : CircuitTree) → Spells bytes c → Rise (circuit_places c)
places_rise form_by_form bytes c (ts, spelled_by, spelled) =
    let lexes = (form_by_form bytes ts).1 spelled_by in
    let x : Between (circuit_places c) (terminals ts) [] = circuit c (terminals ts) spelled in
    let all : token_places (terminals ts) ≡ x.0 = x.1 ∙ append-nil x.0 in
    rise_among x.0 (circuit_places c) (subst Rise all (tokens_rise bytes ts lexes)) x.2
