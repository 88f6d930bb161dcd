use Rattle.std.proofs.Common.{◌≡◌, ℕ, true, List, [], ◌∷◌, ◌++◌, take, sym, ap, subst, ◌∙◌}
use Rattle.std.specs.Prelude.{Err, slice_range}
use Rattle.fir_lex.specs.working.View.{token_of}
use Rattle.fir_lex.specs.working.Steps.{tokens_in}
use Rattle.fir_ast.specs.declared.place.Place.{Place}
use Rattle.fir_ast.specs.declared.fault.FirFault.TheVariants as fault
use Rattle.fir_lex.specs.working.Bytes.{place_behind, ends_line, line_end_length}
use Rattle.fir_lex.specs.working.Lexed.{Lexed}
use Rattle.fir_lex.specs.working.Ways.{rest_of, left, Passes}
use Rattle.fir_lex.proofs.Lexing.{line_end_left, found_left, passed_left, bad_byte_left, bad_literal_left}
use Rattle.fir_lex.proofs.lexer.Lexer.in_line.Goals as goal
use Rattle.fir_lex.proofs.lexer.Lexer.in_line.Goals.{in-Found+in_ok-take-in-Found, in-Passed}

pub returns-then-ends_line-clause-same : goal.returns-then-ends_line-clause-same
returns-then-ends_line-clause-same c =
    let ends : ends_line (rest_of c.args.self.now) ≡ true = cc in
    let count : c.line_end_length-count.result ≡ line_end_length (rest_of c.args.self.now) = cc in
    line_end_left c.args.self.now c.end_line.new.self c.requires.begins c.requires.some ends c.in_ok-end_line.ensures.text (subst (λ (k : ℕ). Passes c.args.self.now k c.end_line.new.self) count c.in_ok-end_line.ensures.passes) c.in_ok-end_line.ensures.tokens c.in_ok-end_line.ensures.begins

pub returns-in-BadByte-clause-same : goal.returns-in-BadByte-clause-same
returns-in-BadByte-clause-same c =
    let place : place_behind c.args.self.now.cursor.place (take c.in-BadByte.count c.rest-rest.result.now) ≡ c.behind.result.place = cc in
    bad_byte_left c.args.self.now c.rest-rest.result.now c.in-BadByte.count c.in-BadByte.byte (record { begun = c.requires.begins; some = c.requires.some; is = c.rest-rest.ensures.value; goes_on = c.if-ends_line.ensures; seen = c.in-BadByte.ensures.front })
    ∙ ap {B = Lexed} (λ (q : Place). Err (fault.Byte q c.in-BadByte.byte)) place

pub returns-in-BadLiteral-clause-same : goal.returns-in-BadLiteral-clause-same
returns-in-BadLiteral-clause-same c =
    bad_literal_left c.args.self.now c.rest-rest.result.now (record { begun = c.requires.begins; some = c.requires.some; is = c.rest-rest.ensures.value; goes_on = c.if-ends_line.ensures; seen = c.in-BadLiteral.ensures.front })

pub returns-clause-same : goal.returns-clause-same
returns-clause-same c =
    elim c.match-read_front.branch [
      | in-Found+in_ok-take-in-Found w ↦
          found_left c.args.self.now w.take.new.self c.rest-rest.result.now _ w.in-Found.found.length (record { begun = c.requires.begins; some = c.requires.some; is = c.rest-rest.ensures.value; goes_on = c.if-ends_line.ensures; seen = w.in-Found.ensures.front }) w.in-Found.found.some w.in-Found.ensures.within.0 w.take.ensures.text w.in_ok-take-in-Found.ensures.passes (subst (λ (bytes : List ℕ). tokens_in w.take.new.self.draft ≡ tokens_in c.args.self.now.draft ++ record { token = token_of w.in-Found.found.kind (slice_range bytes w.in-Found.found.from w.in-Found.found.upto); place = c.args.self.now.cursor.place } ∷ []) (sym c.rest-rest.ensures.value) w.in_ok-take-in-Found.ensures.tokens) w.take.ensures.begins
          ∙ ap left (sym w.self-is)
      | in-Passed w ↦
          passed_left c.args.self.now w.pass.new.self c.rest-rest.result.now w.in-Passed.count (record { begun = c.requires.begins; some = c.requires.some; is = c.rest-rest.ensures.value; goes_on = c.if-ends_line.ensures; seen = w.in-Passed.ensures.front }) w.in-Passed.ensures.within.0 w.in-Passed.ensures.within.1 (record { index = w.pass.ensures.index; place = w.pass.ensures.place; levels = w.pass.ensures.levels }) w.pass.ensures.draft w.pass.ensures.begins
          ∙ ap left (sym w.self-is)
    ]
