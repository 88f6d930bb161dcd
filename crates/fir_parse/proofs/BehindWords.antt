-- What stands behind a word of an expression, by the token at hand.
use Rattle.std.proofs.Common.{◌≡◌, ℕ, Bool, List, ◌∷◌, drop, refl, sym, ap, ◌∙◌, Result, Ok, Err, Some, IfOk, IfErr, Bor, ◌<◌, ◌≤◌}
use Rattle.std.specs.Result.{IsErrAnd}
use Rattle.fir_ast.specs.declared.place.Place.{Place}
use Rattle.fir_ast.specs.declared.expressions.Expr.{Expr}
use Rattle.fir_ast.specs.Expressions.{Expression, reference, no_parts}
use Rattle.fir_ast.specs.working.Views.{expr_of}
use Rattle.fir_ast.specs.declared.fault.FirFault.TheVariants.{Depth}
use Rattle.fir_parse.specs.working.AtHand.{StandsFirst}
use Rattle.fir_parse.specs.declared.lexeme.Lexeme.{Lexeme as LexemeRef}
use Rattle.fir_parse.specs.declared.lexeme.Lexeme.TheVariants as code
use Rattle.fir_parse.specs.declared.lexeme.Mark.TheVariants.{Less, Greater, OpenRound}
use Rattle.fir_parse.specs.declared.parser.Tall.{Tall}
use Rattle.fir_parse.specs.declared.stop.Stop.{Stop}
use Rattle.fir_parse.specs.declared.stop.Stop.TheVariants as stop
use Rattle.fir_parse.specs.declared.words.Applied.{Applied}
use Rattle.fir_parse.specs.declared.words.Applied.TheVariants as applied
use Rattle.fir_parse.specs.working.ExpressionRules.{literal_rest, sized_rest, sized_by, applied_rest}
use Rattle.fir_parse.specs.Lexemes.{Terminal, mark}
use Rattle.fir_parse.specs.working.Seen.{seen}
use Rattle.fir_parse.specs.working.Plans.{sized_plan}
use Rattle.fir_parse.specs.working.Reading.{read_on, step}
use Rattle.fir_parse.specs.working.Reads.{Plan, Gives, Reads}
use Rattle.fir_parse.specs.working.States.{State, wants, takes, refuses, without, opens}
use Rattle.fir_parse.specs.working.Symbols.{a_mark, a_natural, an_expression, behind_word, parts}
use Rattle.fir_parse.specs.working.Trees.{tall_expression}
use Rattle.fir_parse.specs.working.Words.{applied_of}
use Rattle.fir_parse.proofs.Plans.{takes_first, exits_behind, reads_behind, opened, opened_too_many}
use Rattle.fir_parse.specs.Limits.{everywhere}

-- a literal with a width, from its `<` on
pub sized_first : (signed : Bool) (d : ℕ) (p : Place) (w : List ℕ) (q : Place) (a : List Terminal) → a ≡ record { lexeme = mark Less; place = q } ∷ drop 1 a → step (behind_word d p w) (mark Less) q ≡ sized_rest signed d p → (end : Place) (k : Expression → State) → read_on everywhere end (wants (behind_word d p w) k) a ≡ read_on everywhere end (sized_plan signed d p k) a
sized_first signed d p w q a e h end k =
    let behind : (Expression → State) → State = λ k. wants a_natural (λ n. wants (a_mark Greater) (λ r. wants (a_mark OpenRound) (λ o. opens d o (literal_rest p signed (Some n.number) k)))) in
    takes_first (behind_word d p w) behind (mark Less) q a (drop 1 a) e refl h end k
    ∙ sym (takes_first (a_mark Less) (λ k. k q) (mark Less) q a (drop 1 a) e refl refl end (λ m. behind k))

-- a word that no literal begins with stands alone before `<`
pub not_sized : (x : Applied) (d : ℕ) (p : Place) (w : List ℕ) → (x ≡ applied.UInt → ⊥) → (x ≡ applied.SInt → ⊥) → sized_by x d p w ≡ without (reference p w no_parts)
not_sized applied.UInt d p w h g = absurd (h refl)
not_sized applied.SInt d p w h g = absurd (g refl)
not_sized _ d p w h g = refl

-- a name alone
pub name_reads : (d : ℕ) (p : Place) (w : List ℕ) (a : List Terminal) (r : Result (Tall Expr) Stop) → Gives (wants (behind_word d p w)) (reference p w no_parts) a a → IfOk r (λ t. expr_of t.tree ≡ reference p w no_parts) → IfErr r (λ s. s ≡ stop.Memory) → Reads (wants (behind_word d p w)) tall_expression a a r
name_reads d p w a (Ok t) g named why = λ end k. g end k ∙ ap (λ e. read_on everywhere end (k e) a) (sym named)
name_reads d p w a (Err s) g named why = rw why tt

-- a form whose parenthesis is at hand, behind it
pub opens_form : (d : ℕ) (p : Place) (w : List ℕ) (q : Place) (x : Applied) (P : Plan Expression) (a b : List Terminal) → a ≡ record { lexeme = mark OpenRound; place = q } ∷ drop 1 a → b ≡ drop 1 a → x ≡ applied_of w → applied_rest x d p w q ≡ takes (λ k. opens d q (P k)) → (end : Place) (k : Expression → State) → read_on everywhere end (wants (behind_word d p w) k) a ≡ read_on everywhere end (opens d q (P k)) b
opens_form d p w q x P a b e f is h = takes_first (behind_word d p w) (λ k. opens d q (P k)) (mark OpenRound) q a b e f (ap (λ y. applied_rest y d p w q) (sym is) ∙ h)

-- one bracket too many
pub form_not_opened : {A : Type 0} (d : ℕ) (p : Place) (w : List ℕ) (q : Place) (x : Applied) (P : Plan Expression) (view : A → Expression) (a b c : List Terminal) (r : Result A Stop) (s : Stop) → a ≡ record { lexeme = mark OpenRound; place = q } ∷ drop 1 a → b ≡ drop 1 a → x ≡ applied_of w → applied_rest x d p w q ≡ takes (λ k. opens d q (P k)) → IsErrAnd r (λ y. y ≡ s) → (256 ≤ d) × (s ≡ stop.Fault (Depth q)) → Reads (wants (behind_word d p w)) view a c r
form_not_opened d p w q x P view a b c r s e f is h i m =
    exits_behind (wants (behind_word d p w)) (λ k. opens d q (P k)) view a b c r s (λ k. k) i (opens_form d p w q x P a b e f is h) (opened_too_many d q P b s m)

-- the form is read behind its parenthesis
pub form_opened : {A : Type 0} (d : ℕ) (p : Place) (w : List ℕ) (q : Place) (x : Applied) (P : Plan Expression) (view : A → Expression) (a b c : List Terminal) (r : Result A Stop) → a ≡ record { lexeme = mark OpenRound; place = q } ∷ drop 1 a → b ≡ drop 1 a → x ≡ applied_of w → applied_rest x d p w q ≡ takes (λ k. opens d q (P k)) → d < 256 → Reads P view b c r → Reads (wants (behind_word d p w)) view a c r
form_opened d p w q x P view a b c r e f is h lt reads =
    reads_behind (wants (behind_word d p w)) P view a b c r (λ end k. opens_form d p w q x P a b e f is h end k ∙ opened d q (P k) end b lt) reads

-- before any other token the word is the name of a reference
pub begins_reference : (d : ℕ) (p : Place) (w : List ℕ) (l : LexemeRef) (q : Place) (a : List Terminal) → StandsFirst a l q → (l ≡ code.Mark OpenRound → ⊥) → (l ≡ code.Mark Less → ⊥) → (end : Place) (k : Expression → State) → read_on everywhere end (wants (behind_word d p w) k) a ≡ read_on everywhere end (wants (parts d 1) (λ ps. k (reference p w ps))) a
unfolding read_on
begins_reference d p w code.End q a e h g end k = rw e refl
begins_reference d p w (code.Mark OpenRound) q a e h g end k = absurd (h refl)
begins_reference d p w (code.Mark Less) q a e h g end k = absurd (g refl)
begins_reference d p w (code.Mark m) q a e h g end k = rw e refl
begins_reference d p w _ q a e h g end k = rw e refl

pub other_expression : (d : ℕ) (l : LexemeRef) (p : Place) → ((x : Bor (List ℕ)) → l ≡ code.Word x → ⊥) → step (an_expression d) (seen l) p ≡ refuses
other_expression d (code.Word x) p h = absurd (h x refl)
other_expression d _ p h = refl
