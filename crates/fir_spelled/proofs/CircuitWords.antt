-- The names in a circuit that tokens spell are words, where each word among these tokens is spelled as one.
use Rattle.std.proofs.Common.{ℕ, List, [], ◌∷◌, sym, subst, inl, inr}
use Rattle.std.specs.Prelude.{IsTrue}
use Rattle.std.specs.List.{AllByRecursion}
use Rattle.ver_words.specs.Names.{is_word}
use Rattle.fir_ast.specs.Statements.{Block}
use Rattle.fir_ast.specs.Circuits.{PortTree, ModuleTree, CircuitTree}
use Rattle.fir_parse.specs.Limits.{everywhere}
use Rattle.fir_parse.specs.Lexemes.{Terminal}
use Rattle.fir_parse.specs.Pieces.{LineEnd, WordToken}
use Rattle.fir_parse.specs.CircuitForms.{direction_word, IsPort, ArePorts, IsBody, IsModule, AreModules, AreSomeModules, IsVersion, IsSpelled}
use Rattle.fir_flatten.specs.working.Words.{BlockHasWords, HasWords, ModuleHasWords, TypeHasWords}
use Rattle.fir_spelled.proofs.WordPieces.{AreSpelledWell, KeepsWords, keeps, token, somewhere, nothing, given, at, next, either, name_is_word}
use Rattle.fir_spelled.proofs.TypesKeepWords.{int, type_keeps}
use Rattle.fir_spelled.proofs.StatementsKeepWords.{statements_keep}
use Rattle.fir_spelled.proofs.TypeWords.{declared_words}
use Rattle.fir_spelled.proofs.StatementWords.{statements_words}

abbrev PortHasWords : PortTree → Type 0
PortHasWords p = IsTrue (is_word p.named.name) × TypeHasWords p.data_type

pub port_keeps : (p : PortTree) → KeepsWords (IsPort everywhere p)
port_keeps p = next somewhere (next token (next somewhere (next (next at (type_keeps 0 p.data_type)) somewhere)))

pub ports_keep : (ps : List PortTree) → KeepsWords (ArePorts everywhere ps)
ports_keep [] = nothing
ports_keep (p ∷ ps) = next (port_keeps p) (ports_keep ps)

ports_words : (ps : List PortTree) (a b : List Terminal) → ArePorts everywhere ps a b → AreSpelledWell a → AllByRecursion PortHasWords ps
ports_words [] a b e h = tt
ports_words (p ∷ ps) a b (m, x, y) h =
    (declared_words (WordToken (direction_word p.direction)) LineEnd somewhere p.named 0 p.type_place p.data_type a m x h, ports_words ps m b y ((port_keeps p).behind a m x h))

body_keeps : (ps : List PortTree) (body : Block) → KeepsWords (IsBody everywhere ps body)
body_keeps ps body = either given (next somewhere (next (ports_keep ps) (next (statements_keep 0 body) somewhere)))

body_words : (ps : List PortTree) (body : Block) (a b : List Terminal) → IsBody everywhere ps body a b → AreSpelledWell a
    → AllByRecursion PortHasWords ps × BlockHasWords body
body_words ps body a b (inl ((e, f), g)) h = (subst (AllByRecursion PortHasWords) (sym e) tt, subst BlockHasWords (sym f) tt)
body_words ps body a b (inr (m, opens, (n, x, (k, y, closes)))) h =
    let well : AreSpelledWell m = (somewhere).behind a m opens h in
    (ports_words ps m n x well, statements_words 0 body n k y ((ports_keep ps).behind m n x well))

pub module_keeps : (m : ModuleTree) → KeepsWords (IsModule everywhere m)
module_keeps m = next token (next token (next somewhere (next somewhere (body_keeps m.ports m.body))))

module_words : (m : ModuleTree) (a b : List Terminal) → IsModule everywhere m a b → AreSpelledWell a → ModuleHasWords m
module_words m a b (n1, x, (n2, name, (n3, colon, (n4, end, body)))) h =
    let well : AreSpelledWell n4 = (next token (next token (next somewhere somewhere))).behind a n4 (n1, x, (n2, name, (n3, colon, end))) h in
    let parts = body_words m.ports m.body n4 b body well in
    record { ports = parts.0; body = parts.1 }

modules_words : (ms : List ModuleTree) (a b : List Terminal) → AreModules everywhere ms a b → AreSpelledWell a → AllByRecursion ModuleHasWords ms
modules_words [] a b e h = tt
modules_words (m ∷ ms) a b (n, x, y) h = (module_words m a n x h, modules_words ms n b y ((module_keeps m).behind a n x h))

some_modules_words : (ms : List ModuleTree) (a b : List Terminal) → AreSomeModules everywhere ms a b → AreSpelledWell a → AllByRecursion ModuleHasWords ms
some_modules_words [] a b x h = absurd x
some_modules_words (m ∷ ms) a b x h = modules_words (m ∷ ms) a b x h

pub version : KeepsWords (IsVersion everywhere)
version =
    keeps (λ a b x. (next somewhere (next somewhere (next int (next given (next somewhere (next int (next somewhere (next int somewhere)))))))).front a b x.3)

pub circuit_words : (c : CircuitTree) (ts : List Terminal) → IsSpelled everywhere c ts → AreSpelledWell ts → HasWords c
circuit_words c ts (n0, v, (n1, x, (n2, name, (n3, colon, (n4, notes, (n5, end, (n6, opens, (n7, modules, closes)))))))) h =
    let well : AreSpelledWell n1 = (next (either nothing version) somewhere).behind ts n1 (n0, v, x) h in
    let inner : AreSpelledWell n6 = (next token (next somewhere (next (either nothing somewhere) (next somewhere somewhere)))).behind n1 n6 (n2, name, (n3, colon, (n4, notes, (n5, end, opens)))) well in
    record { own = name_is_word c.named n1 n2 name well; modules = some_modules_words c.modules n6 n7 modules inner }
