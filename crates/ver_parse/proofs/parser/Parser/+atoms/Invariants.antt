-- Each call has fewer tokens left, or passes the same ones to a later method of the cycle.
use Rattle.std.proofs.Common.{◌+◌, ◌*◌, ◌≤◌, [], ◌∷◌}
use Rattle.ver_ast.specs.Atoms.{atoms_of}
use Rattle.ver_ast.specs.Grammar.{next_atom_tokens}
use Rattle.ver_ast.specs.Names.{joined_names}
use Rattle.ver_ast.specs.Spells.{AreVerilogNames}
use Rattle.ver_parse.specs.working.Symbols.{more_atoms}
use Rattle.ver_parse.specs.working.Reads.{left, Leads}
use Rattle.ver_parse.proofs.parser.Parser.+atoms.Given as goal

abbrev pub decreases-atom : goal.decreases-atom
decreases-atom l = 4 * left l.self.now

abbrev pub decreases-concatenation : goal.decreases-concatenation
decreases-concatenation l = 4 * left l.self.now + 1

abbrev pub decreases-repetition : goal.decreases-repetition
decreases-repetition l = 4 * left l.self.now + 1

abbrev pub decreases-braced : goal.decreases-braced
decreases-braced l = 4 * left l.self.now + 2

abbrev pub decreases-more_atoms : goal.decreases-more_atoms
decreases-more_atoms l = 4 * left l.self.now + 3

-- the operands so far are read
abbrev pub invariant-more_atoms-loop-atoms : goal.invariant-more_atoms-loop-atoms
invariant-more_atoms-loop-atoms l = record {
  far : Leads (more_atoms ∷ []) (next_atom_tokens (atoms_of l.atoms.items)) (more_atoms ∷ []) l.initial.self l.self;
  named : AreVerilogNames (joined_names (atoms_of l.atoms.items));
  nearer : left l.self ≤ left l.initial.self;
}

abbrev pub decreases-more_atoms-loop-atoms : goal.decreases-more_atoms-loop-atoms
decreases-more_atoms-loop-atoms l = left l.self
