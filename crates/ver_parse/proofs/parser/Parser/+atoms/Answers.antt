use Rattle.std.proofs.Common.{[], ◌∷◌, ◌++◌, drop, refl, sym, subst}
use Rattle.ver_ast.specs.Grammar.{atom_tokens, next_atom_tokens}
use Rattle.ver_ast.specs.Tokens.{number, sign}
use Rattle.ver_parse.specs.working.Symbols.{a_token, a_name, a_number, a_constant, an_atom, a_select, braced, more_atoms}
use Rattle.ver_parse.specs.working.Fixed.{is_word_token, is_number_token, TriesOk, Keeps, HeadIs}
use Rattle.ver_parse.specs.working.Reads.{Leads, Gives}
use Rattle.ver_parse.proofs.Leading.{chained, ◌▸◌, kept_to, once_more, nearer, tail, tail_part, halts_into, halts_more, tail_halts, exits, ended, took, turns, turned, turns_twice, kept, kept_head, end_or_full}
use Rattle.ver_parse.proofs.Turns.{concatenated, constant_atom, named_atom, no_more_atoms, repeated}
use Rattle.ver_ast.specs.Atoms.{atoms_of}
use Rattle.ver_ast.specs.Names.{joined_names}
use Rattle.ver_words.specs.Names.{IsName}
use Rattle.ver_ast.specs.Spells.{AreVerilogNames}
use Rattle.std.proofs.Common.{append_assoc, arith}
use Rattle.std.proofs.lemmas.List.{append-nil}
use Rattle.ver_parse.proofs.Loops.{next_atoms_more, joined_names_more, all_append}
use Rattle.ver_parse.proofs.parser.Parser.+atoms.Goals as goal

pub atom-returns-in_err-takes_brace-clause-halts : goal.atom-returns-in_err-takes_brace-clause-halts
atom-returns-in_err-takes_brace-clause-halts t c = exits _ c.from_residual.ensures.1 (end_or_full an_atom (braced ∷ []) c.in_err-takes_brace.ensures.tries refl)

pub atom-returns-then-branch-clause-gives : goal.atom-returns-then-branch-clause-gives
atom-returns-then-branch-clause-gives t c = tail_part _ _ [] (sign 123 ∷ []) atom_tokens (took an_atom (braced ∷ []) (sign 123) (subst (λ b. TriesOk (sign 123) c.args.self.now c.takes_brace.new.self b) c.if-branch.true c.in_ok-takes_brace.ensures.tries) refl refl) c.braced.ensures.front c.braced.ensures.gives

pub atom-returns-then-branch-clause-halts : goal.atom-returns-then-branch-clause-halts
atom-returns-then-branch-clause-halts t c = tail_halts _ (took an_atom (braced ∷ []) (sign 123) (subst (λ b. TriesOk (sign 123) c.args.self.now c.takes_brace.new.self b) c.if-branch.true c.in_ok-takes_brace.ensures.tries) refl refl) c.braced.ensures.halts

pub atom-returns-then-branch-2-clause-gives : goal.atom-returns-then-branch-2-clause-gives
atom-returns-then-branch-2-clause-gives t c = tail _ _ atom_tokens (kept (subst (λ b. TriesOk (sign 123) c.args.self.now c.takes_brace.new.self b) c.if-branch.false c.in_ok-takes_brace.ensures.tries) (turns an_atom (a_name ∷ a_select ∷ []) (subst (λ b. HeadIs is_word_token b c.takes_brace.new.self) c.if-branch-2.true c.in_ok-sees_word.ensures) named_atom)) c.selected.ensures.gives

pub atom-returns-then-branch-2-clause-halts : goal.atom-returns-then-branch-2-clause-halts
atom-returns-then-branch-2-clause-halts t c = tail_halts _ (kept (subst (λ b. TriesOk (sign 123) c.args.self.now c.takes_brace.new.self b) c.if-branch.false c.in_ok-takes_brace.ensures.tries) (turns an_atom (a_name ∷ a_select ∷ []) (subst (λ b. HeadIs is_word_token b c.takes_brace.new.self) c.if-branch-2.true c.in_ok-sees_word.ensures) named_atom)) c.selected.ensures.halts

pub atom-returns-in_err-constant-clause-halts : goal.atom-returns-in_err-constant-clause-halts
atom-returns-in_err-constant-clause-halts t c = exits _ c.from_residual-in_err-constant.ensures.1 (halts_into (kept_to (subst (λ b. TriesOk (sign 123) c.args.self.now c.takes_brace.new.self b) c.if-branch.false c.in_ok-takes_brace.ensures.tries) (turns_twice an_atom (a_constant ∷ []) (Keeps.head (subst (λ b. TriesOk (sign 123) c.args.self.now c.takes_brace.new.self b) c.if-branch.false c.in_ok-takes_brace.ensures.tries)) (kept_head (subst (λ b. TriesOk (sign 123) c.args.self.now c.takes_brace.new.self b) c.if-branch.false c.in_ok-takes_brace.ensures.tries) (subst (λ b. HeadIs is_word_token b c.takes_brace.new.self) c.if-branch-2.false c.in_ok-sees_word.ensures)) constant_atom)) c.in_err-constant.ensures.halts)

pub atom-returns-in_ok-constant-clause-gives : goal.atom-returns-in_ok-constant-clause-gives
atom-returns-in_ok-constant-clause-gives t c = chained (kept_to (subst (λ b. TriesOk (sign 123) c.args.self.now c.takes_brace.new.self b) c.if-branch.false c.in_ok-takes_brace.ensures.tries) (turns_twice an_atom (a_constant ∷ []) (Keeps.head (subst (λ b. TriesOk (sign 123) c.args.self.now c.takes_brace.new.self b) c.if-branch.false c.in_ok-takes_brace.ensures.tries)) (kept_head (subst (λ b. TriesOk (sign 123) c.args.self.now c.takes_brace.new.self b) c.if-branch.false c.in_ok-takes_brace.ensures.tries) (subst (λ b. HeadIs is_word_token b c.takes_brace.new.self) c.if-branch-2.false c.in_ok-sees_word.ensures)) constant_atom)) c.in_ok-constant.ensures.gives

pub braced-returns-in_err-sees_number-clause-halts : goal.braced-returns-in_err-sees_number-clause-halts
braced-returns-in_err-sees_number-clause-halts t c = exits _ c.from_residual.ensures.1 (ended braced [] c.in_err-sees_number.ensures)

pub braced-returns-then-branch-clause-gives : goal.braced-returns-then-branch-clause-gives
braced-returns-then-branch-clause-gives t c = tail _ _ (λ a. drop 1 (atom_tokens a)) (turns braced (a_number ∷ a_token (sign 123) ∷ an_atom ∷ a_token (sign 125) ∷ a_token (sign 125) ∷ []) (subst (λ b. HeadIs is_number_token b c.args.self.now) c.if-branch.true c.in_ok-sees_number.ensures) repeated) c.repetition.ensures.gives

pub braced-returns-then-branch-clause-halts : goal.braced-returns-then-branch-clause-halts
braced-returns-then-branch-clause-halts t c = tail_halts _ (turns braced (a_number ∷ a_token (sign 123) ∷ an_atom ∷ a_token (sign 125) ∷ a_token (sign 125) ∷ []) (subst (λ b. HeadIs is_number_token b c.args.self.now) c.if-branch.true c.in_ok-sees_number.ensures) repeated) c.repetition.ensures.halts

pub braced-returns-else-branch-clause-gives : goal.braced-returns-else-branch-clause-gives
braced-returns-else-branch-clause-gives t c = tail _ _ (λ a. drop 1 (atom_tokens a)) (turns braced (an_atom ∷ more_atoms ∷ []) (subst (λ b. HeadIs is_number_token b c.args.self.now) c.if-branch.false c.in_ok-sees_number.ensures) concatenated) c.concatenation.ensures.gives

pub braced-returns-else-branch-clause-halts : goal.braced-returns-else-branch-clause-halts
braced-returns-else-branch-clause-halts t c = tail_halts _ (turns braced (an_atom ∷ more_atoms ∷ []) (subst (λ b. HeadIs is_number_token b c.args.self.now) c.if-branch.false c.in_ok-sees_number.ensures) concatenated) c.concatenation.ensures.halts

pub concatenation-returns-clause-gives : goal.concatenation-returns-clause-gives
concatenation-returns-clause-gives t c = subst (λ a. Gives (an_atom ∷ more_atoms ∷ []) (atom_tokens a ++ next_atom_tokens (atoms_of c.in_ok-rest.rest.items) ++ sign 125 ∷ []) c.args.self.now c.more_atoms.new.self) (sym c.in_ok-new.ensures.ok) (subst (λ gs. Gives (an_atom ∷ more_atoms ∷ []) gs c.args.self.now c.more_atoms.new.self) (sym (append_assoc (atom_tokens c.in_ok-first.first) (next_atom_tokens (atoms_of c.in_ok-rest.rest.items)) (sign 125 ∷ []))) (c.in_ok-first.ensures.gives ▸ c.in_ok-rest.ensures.gives))

pub more_atoms-returns-in_err-takes-clause-halts : goal.more_atoms-returns-in_err-takes-clause-halts
more_atoms-returns-in_err-takes-clause-halts t c = exits _ c.from_residual.ensures.1 (halts_into c.loop-atoms.invariant.far (ended more_atoms [] c.in_err-takes.ensures.tries))

pub more_atoms-returns-in_err-atom-clause-halts : goal.more_atoms-returns-in_err-atom-clause-halts
more_atoms-returns-in_err-atom-clause-halts t c = exits _ c.from_residual-in_err-atom.ensures.1 (halts_into (chained c.loop-atoms.invariant.far (took more_atoms (an_atom ∷ more_atoms ∷ []) (sign 44) (subst (λ b. TriesOk (sign 44) c.loop-atoms.self c.takes.new.self b) c.if-branch.true c.in_ok-takes.ensures.tries) refl refl)) (halts_more (more_atoms ∷ []) c.in_err-atom.ensures.halts))

pub more_atoms-returns-in_err-closing_brace-clause-halts : goal.more_atoms-returns-in_err-closing_brace-clause-halts
more_atoms-returns-in_err-closing_brace-clause-halts t c = exits _ c.from_residual-in_err-closing_brace.ensures.1 (halts_into (chained c.loop-atoms.invariant.far (turned more_atoms (a_token (sign 125) ∷ []) (subst (λ b. TriesOk (sign 44) c.loop-atoms.self c.takes.new.self b) c.if-branch.false c.in_ok-takes.ensures.tries) no_more_atoms)) c.in_err-closing_brace.ensures.halts)

pub more_atoms-returns-clause-gives : goal.more_atoms-returns-clause-gives
more_atoms-returns-clause-gives t c = subst (λ gs. Gives (more_atoms ∷ []) (gs ++ sign 125 ∷ []) c.args.self.now c.closing_brace.new.self) (append-nil (next_atom_tokens (atoms_of c.loop-atoms.atoms.items))) (chained (chained c.loop-atoms.invariant.far (turned more_atoms (a_token (sign 125) ∷ []) (subst (λ b. TriesOk (sign 44) c.loop-atoms.self c.takes.new.self b) c.if-branch.false c.in_ok-takes.ensures.tries) no_more_atoms)) c.in_ok-closing_brace.ensures.gives)

pub repetition-returns-clause-gives : goal.repetition-returns-clause-gives
repetition-returns-clause-gives t c = subst (λ a. Gives (a_number ∷ a_token (sign 123) ∷ an_atom ∷ a_token (sign 125) ∷ a_token (sign 125) ∷ []) (number c.in_ok-count.count ∷ sign 123 ∷ (atom_tokens a ++ sign 125 ∷ sign 125 ∷ [])) c.args.self.now c.closing_brace-2.new.self) (sym c.in_ok-new.ensures.ok) (c.in_ok-count.ensures.gives ▸ c.in_ok-opening_brace.ensures.gives ▸ c.in_ok-atom.ensures.gives ▸ c.in_ok-closing_brace.ensures.gives ▸ c.in_ok-closing_brace-2.ensures.gives)

pub more_atoms-loop-atoms-preserved : goal.more_atoms-loop-atoms-preserved
more_atoms-loop-atoms-preserved t c = record {
  far =
      subst (λ xs. Leads (more_atoms ∷ []) (next_atom_tokens (atoms_of xs)) (more_atoms ∷ []) c.args.self.now c.atom.new.self) (sym c.in_ok-push.ensures.items)
      (subst (λ gs. Leads (more_atoms ∷ []) gs (more_atoms ∷ []) c.args.self.now c.atom.new.self) (sym (next_atoms_more c.loop-atoms.atoms.items c.in_ok-atom.field-0))
      (once_more more_atoms c.loop-atoms.invariant.far (subst (λ b. TriesOk (sign 44) c.loop-atoms.self c.takes.new.self b) c.if-branch.true c.in_ok-takes.ensures.tries) refl refl c.in_ok-atom.ensures.gives));
  named =
      subst (λ xs. AreVerilogNames (joined_names (atoms_of xs))) (sym c.in_ok-push.ensures.items)
      (subst AreVerilogNames (sym (joined_names_more c.loop-atoms.atoms.items c.in_ok-atom.field-0)) (all_append IsName _ _ c.loop-atoms.invariant.named c.in_ok-atom.ensures.named));
  nearer = omega (arith, c.loop-atoms.invariant.nearer, c.takes.ensures.nearer, c.in_ok-takes.ensures.nearer, c.in_ok-atom.ensures.nearer);
}
