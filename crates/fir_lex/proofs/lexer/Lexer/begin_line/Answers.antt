use Rattle.std.proofs.Common.{◌≡◌, ℕ, ◌+◌, length, take, drop, sym, ap, subst, ◌∙◌, arith}
use Rattle.std.specs.Prelude.{Err}
use Rattle.fir_ast.specs.declared.place.Place.{Place}
use Rattle.fir_ast.specs.declared.fault.FirFault.{FirFault}
use Rattle.fir_ast.specs.declared.fault.FirFault.TheVariants as fault
use Rattle.fir_lex.specs.working.Bytes.{place_behind}
use Rattle.fir_lex.specs.working.Lexed.{Lexed, is_idle, idle_length}
use Rattle.fir_lex.specs.working.Ways.{Passes}
use Rattle.fir_lex.proofs.Lexing.{tab_in, idle_left, tab_left, unmoved, has_moved, moves_same, rest_behind, unmet_left, fault_is, met_left}
use Rattle.fir_lex.proofs.lexer.Lexer.begin_line.Goals as goal

pub returns-then-is_idle-clause-same : goal.returns-then-is_idle-clause-same
returns-then-is_idle-clause-same c =
    let count : length c.split_at.result.0.now + c.idle_length.result ≡ c.blank_length.result + idle_length (drop c.blank_length.result c.rest-rest.result.now) = omega (arith, c.split_at.ensures.front_len, c.idle_length.ensures.value, ap idle_length c.split_at.ensures.back) in
    idle_left c.args.self.now c.pass.new.self c.rest-rest.result.now c.blank_length.result (record { begins = c.requires.begins; some = c.requires.some; is = c.rest-rest.ensures.value; blanks = c.blank_length.ensures.value }) (c.if-is_idle.ensures ∙ ap is_idle c.split_at.ensures.back) (subst (λ (k : ℕ). Passes c.args.self.now k c.pass.new.self) count (record { index = c.pass.ensures.index; place = c.pass.ensures.place; levels = c.pass.ensures.levels })) c.pass.ensures.draft c.pass.ensures.begins

pub returns-in-Some-clause-same : goal.returns-in-Some-clause-same
returns-in-Some-clause-same c =
    let place : place_behind c.args.self.now.cursor.place (take c.in-Some.tab (take c.blank_length.result c.rest-rest.result.now)) ≡ c.behind.result.place = cc in
    tab_left c.args.self.now c.rest-rest.result.now c.blank_length.result c.in-Some.tab (record { begins = c.requires.begins; some = c.requires.some; is = c.rest-rest.ensures.value; blanks = c.blank_length.ensures.value }) (c.if-is_idle.ensures ∙ ap is_idle c.split_at.ensures.back) (c.in-Some.ensures.value ∙ ap tab_in c.split_at.ensures.front)
    ∙ ap {B = Lexed} (λ (q : Place). Err (fault.Tab q)) place

pub returns-then-not-branch-clause-same : goal.returns-then-not-branch-clause-same
returns-then-not-branch-clause-same c =
    let place : c.behind-first.result.place ≡ place_behind c.args.self.now.cursor.place (take c.blank_length.result c.rest-rest.result.now) = c.behind-first.ensures.place ∙ ap (place_behind c.args.self.now.cursor.place) c.split_at.ensures.front in
    let index : c.behind-first.result.index ≡ c.args.self.now.cursor.index + c.blank_length.result = omega (arith, c.behind-first.ensures.index, c.split_at.ensures.front_len) in
    let moves = unmoved c.in_ok-move_to.field-0 _ _ _ c.if-not-branch.true c.in_ok-move_to.ensures.moves in
    unmet_left c.args.self.now c.rest-rest.result.now c.blank_length.result (record { begins = c.requires.begins; some = c.requires.some; is = c.rest-rest.ensures.value; blanks = c.blank_length.ensures.value }) (c.if-is_idle.ensures ∙ ap is_idle c.split_at.ensures.back) (c.in_default.ensures.value ∙ ap tab_in c.split_at.ensures.front) (sym (moves_same c.args.self.now c.rest-rest.result.now c.blank_length.result c.behind-first.result.place (length c.split_at.result.0.now) place c.split_at.ensures.front_len) ∙ moves)
    ∙ ap {B = Lexed} (λ (f : FirFault). Err f) (fault_is _ c.behind-first.result.place c.blank_length.result (length c.split_at.result.0.now) _ c.rest-behind.result.now c.unmet.result place c.split_at.ensures.front_len (rest_behind c.args.self.now c.rest-rest.result.now c.blank_length.result c.behind-first.result.index c.move_to.new.draft.text.items (record { begins = c.requires.begins; some = c.requires.some; is = c.rest-rest.ensures.value; blanks = c.blank_length.ensures.value }) c.move_to.ensures.text index ∙ sym c.rest-behind.ensures.value) c.unmet.ensures)

pub returns-clause-same : goal.returns-clause-same
returns-clause-same c =
    let place : c.behind-first.result.place ≡ place_behind c.args.self.now.cursor.place (take c.blank_length.result c.rest-rest.result.now) = c.behind-first.ensures.place ∙ ap (place_behind c.args.self.now.cursor.place) c.split_at.ensures.front in
    let index : c.behind-first.result.index ≡ c.args.self.now.cursor.index + c.blank_length.result = omega (arith, c.behind-first.ensures.index, c.split_at.ensures.front_len) in
    let moves = has_moved c.in_ok-move_to.field-0 _ _ _ c.if-not-branch.false c.in_ok-move_to.ensures.moves in
    met_left c.args.self.now c.rest-rest.result.now c.blank_length.result _ _ c.behind-first.result.place c.behind-first.result.index c.move_to.new.draft.text.items (record { begins = c.requires.begins; some = c.requires.some; is = c.rest-rest.ensures.value; blanks = c.blank_length.ensures.value }) (c.if-is_idle.ensures ∙ ap is_idle c.split_at.ensures.back) (c.in_default.ensures.value ∙ ap tab_in c.split_at.ensures.front) (sym (moves_same c.args.self.now c.rest-rest.result.now c.blank_length.result c.behind-first.result.place (length c.split_at.result.0.now) place c.split_at.ensures.front_len) ∙ moves) c.move_to.ensures.text index place
