-- Ports that were read before the rest of a module's body.
use Rattle.std.proofs.Common.{◌≡◌, ℕ, List, [], ◌∷◌, ◌++◌, map, refl, sym, ap, Bor}
use Rattle.std.proofs.Math.Path.{fun_ext}
use Rattle.std.proofs.lemmas.List.{append-nil}
use Rattle.fir_ast.specs.declared.place.Place.{Place}
use Rattle.fir_ast.specs.declared.circuit.Port.{Port}
use Rattle.fir_ast.specs.Circuits.{PortTree}
use Rattle.fir_ast.specs.declared.statements.Stmt.{Stmt}
use Rattle.fir_ast.specs.Statements.{Block, done}
use Rattle.fir_ast.specs.working.Views.{block_of, port_of, stmt_of}
use Rattle.fir_parse.specs.declared.lexeme.Lexeme.{Lexeme}
use Rattle.fir_parse.specs.declared.lexeme.Lexeme.TheVariants.{LevelCloses, Word}
use Rattle.fir_parse.specs.working.CircuitRules.{with_port}
use Rattle.fir_parse.specs.Lexemes.{Terminal}
use Rattle.fir_parse.specs.working.Seen.{seen}
use Rattle.fir_parse.specs.working.Reading.{read_on, step}
use Rattle.fir_parse.specs.working.States.{State, wants, refuses}
use Rattle.fir_parse.specs.working.Symbols.{BodyTree, ports_and_statements}
use Rattle.fir_parse.proofs.LoopReads.{one_more}
use Rattle.fir_parse.specs.Limits.{everywhere}

abbrev pub after_ports : List PortTree → BodyTree → BodyTree
after_ports ps b = record { ports = ps ++ b.ports; block = b.block }

-- one port more is put behind those that were read
pub one_port_more : (xs ys : List Port) (p : Port) → ys ≡ xs ++ p ∷ [] → (end : Place) (k : BodyTree → State) (ts : List Terminal) → read_on everywhere end (wants ports_and_statements (λ b. k (after_ports (map port_of xs) (with_port (port_of p) b)))) ts ≡ read_on everywhere end (wants ports_and_statements (λ b. k (after_ports (map port_of ys) b))) ts
one_port_more xs ys p e end k ts =
    rw e (ap (λ h. read_on everywhere end (wants ports_and_statements h) ts) (fun_ext (λ b. ap (λ l. k (record { ports = l; block = b.block })) (sym (one_more port_of xs p b.ports)))))

-- no port is read behind them
pub no_port_behind : (ps : List PortTree) (block : Block) → after_ports ps (record { ports = []; block = block }) ≡ record { ports = ps; block = block }
no_port_behind ps block = ap (λ l. record { ports = l; block = block }) (append-nil ps)

pub no_ports : (xs : List Port) → xs ≡ [] → let b : BodyTree = record { ports = []; block = done } in b ≡ record { ports = map port_of xs; block = done }
no_ports xs e = rw e refl

pub no_statements : (ps : List PortTree) (xs : List Stmt) → xs ≡ [] → let b : BodyTree = record { ports = ps; block = done } in b ≡ record { ports = ps; block = block_of (map stmt_of xs) }
no_statements ps xs e = rw e refl

-- neither a word nor a level's end
pub no_port_here : (l : Lexeme) (p : Place) → (l ≡ LevelCloses → ⊥) → ((w : Bor (List ℕ)) → l ≡ Word w → ⊥) → step ports_and_statements (seen l) p ≡ refuses
no_port_here LevelCloses p h g = absurd (h refl)
no_port_here (Word w) p h g = absurd (g w refl)
no_port_here _ p h g = refl
