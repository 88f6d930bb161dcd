-- The writes so far are read.
use Rattle.std.proofs.Common.{[], ◌∷◌, ◌≤◌, flat_map}
use Rattle.ver_ast.specs.Grammar.{write_tokens}
use Rattle.ver_ast.specs.ItemNames.{write_names}
use Rattle.ver_ast.specs.Spells.{AreVerilogNames}
use Rattle.ver_parse.specs.working.Reads.{left, Leads}
use Rattle.ver_parse.specs.working.Symbols.{writes}
use Rattle.ver_parse.proofs.parser.Parser.writes.Given as goal

abbrev pub invariant-loop-writes : goal.invariant-loop-writes
invariant-loop-writes l = record {
  far : Leads (writes ∷ []) (flat_map write_tokens l.writes.items) (writes ∷ []) l.initial.self l.self;
  named : AreVerilogNames (flat_map write_names l.writes.items);
  nearer : left l.self ≤ left l.initial.self;
}

abbrev pub decreases-loop-writes : goal.decreases-loop-writes
decreases-loop-writes l = left l.self
