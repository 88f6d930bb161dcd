-- The steps of statements keep the guards.
use Rattle.std.proofs.Common.{◌≡◌, ℕ, ◌+◌, false, refl, ap, ◌⊎◌, inl, inr, List, length, Option, Some, None, codes, if◌then◌else◌}
use Rattle.std.specs.Str.{bytes_eq}
use Rattle.fir_base.specs.Lists.{In}
use Rattle.fir_ast.specs.declared.place.Place.{Place}
use Rattle.fir_ast.specs.Expressions.{Expression, reference}
use Rattle.fir_ast.specs.Statements.{PlacedName, SinkReference, Statement, Block, done, invalid}
use Rattle.fir_parse.specs.declared.lexeme.Mark.{Mark}
use Rattle.fir_parse.specs.declared.lexeme.Mark.TheVariants.{Connect, PartialConnect, Equals, OpenSquare, Colon, Dot}
use Rattle.fir_parse.specs.declared.words.Declaration.{Declaration}
use Rattle.fir_parse.specs.declared.words.Declaration.TheVariants as declares
use Rattle.fir_parse.specs.declared.words.Lead.{Lead}
use Rattle.fir_parse.specs.declared.words.Lead.TheVariants as lead
use Rattle.fir_parse.specs.Lexemes.{Lexeme, Terminal, word, mark, line_end, level_opens, level_closes}
use Rattle.fir_parse.specs.MissingForms.{missing_statements, missing_ports, word_at}
use Rattle.fir_parse.specs.working.Words.{lead_of}
use Rattle.fir_parse.specs.working.Symbols.{OpenWhen, Begun, statement, open_when, Otherwise, else_block, else_when, no_else, a_word, an_expression, behind_is, behind_else, behind_first, behind_sink}
use Rattle.fir_parse.specs.working.States.{State, Step, wants, takes, refuses, unsupported}
use Rattle.fir_parse.specs.working.StatementRules.{ends_line, bare, sink_step, ref_step, declared, declaration_step, stuck_behind, end_behind, ref_or, first_step, instance_rest, declaration_of_is, invalid_or, is_step, begun, behind_statement, behind_otherwise, closed_before, may_be_else, statements_step, otherwise_ref, else_step, when_rest, when_block, block_step, is_named}
use Rattle.fir_parse.proofs.Guards.{unlimited, firm, Guarded, After, loosened}
use Rattle.fir_parse.proofs.Keeping.{at, Spot, an_expression_begins, a_statement_begins, misses_none, elsewhere, optional, Follows, Keeps, always, keeps_if, keeps_mapped, keeps_taken}
use Rattle.fir_parse.proofs.FormsFound.{by_word}
use Rattle.fir_parse.proofs.FormsFoundWords.{IsLead, lead_word}
use Rattle.fir_parse.proofs.ExpressionKeeps.{guarded_dot, guarded_index}

-- where a statement begins
abbrev pub statement_spot : Spot
statement_spot = record { kind = a_statement_begins; may_be_empty = false; misses = misses_none }

-- behind the first word of one, at that token; behind `when` an expression begins
abbrev pub first_spot : List ℕ → Place → Terminal → Spot
first_spot v q t = record {
  kind = an_expression_begins;
  may_be_empty = false;
  misses = λ p w. (word_at v q ≡ word_at w p) × (In missing_statements w ⊎ (In missing_ports w × (t.lexeme ≡ word (codes "mport"))));
}

pub keeps_sink : (d : ℕ) (s : SinkReference) (l : Lexeme) (p : Place) → Keeps (always unlimited) elsewhere (at l p) (sink_step d s l p)
keeps_sink d s (mark Connect) p = λ k after. (λ e. (λ q. loosened q _ (after _), refl), tt)
keeps_sink d s (mark PartialConnect) p = λ k after. (λ e. (λ q. loosened q _ (after _), refl), tt)
keeps_sink d s (word w) p =
    keeps_if (always unlimited) elsewhere (at (word w) p) (bytes_eq w (codes "is")) (takes (λ k. wants (a_word (codes "invalid")) (λ q. ends_line (invalid s.place s) k))) refuses
    (λ k after. (λ q. (λ r. loosened r _ (after _), tt), refl)) tt
keeps_sink d s _ p = tt

-- a statement that begins with a reference, if one does
abbrev KeepsRef : Spot → Terminal → Option (Step Statement) → Type 0
KeepsRef spot t (Some s) = Keeps (always unlimited) spot t s
KeepsRef spot t None = Unit {0}

keeps_ref : (spot : Spot) (d : ℕ) (p : Place) (w : List ℕ) (m : Mark) (q : Place) → KeepsRef spot (at (mark m) q) (ref_step d p w m q)
keeps_ref spot d p w Connect q = λ k after. (λ e. (λ r. loosened r _ (after _), refl), tt)
keeps_ref spot d p w PartialConnect q = λ k after. (λ e. (λ r. loosened r _ (after _), refl), tt)
keeps_ref spot d p w Dot q = λ k after. (guarded_dot d 1 q (λ ps. wants (behind_sink d (record { place = p; name = w; parts = ps })) k) (λ ps. (after, refl)), tt)
keeps_ref spot d p w OpenSquare q = λ k after. (guarded_index d 1 q (λ ps. wants (behind_sink d (record { place = p; name = w; parts = ps })) k) (λ ps. (after, refl)), inl (refl, tt))
keeps_ref spot d p w _ q = tt

-- behind the colon of a when
guarded_when_block : (d : ℕ) (p : Place) (e : Expression) (k : OpenWhen → State) → ((w : OpenWhen) → After unlimited (k w)) → Guarded (when_block d p e k)
guarded_when_block d p e k after = λ q. (λ b. after _, (refl, tt))

guarded_when : (d : ℕ) (p : Place) (e : Expression) (k : OpenWhen → State) → ((w : OpenWhen) → After unlimited (k w)) → After firm (when_rest d p e k)
guarded_when d p e k after = (λ q. (guarded_when_block d p e k after, tt), refl)

abbrev opened : (Begun → State) → OpenWhen → State
opened k s = k (open_when s)

guarded_declared : (l : Declaration) (d : ℕ) (p : Place) (n : PlacedName) (k : Begun → State) → ((x : Begun) → After unlimited (k x)) → Guarded (declared l d p n k)
guarded_declared declares.Wire d p n k after = λ r. (λ t. (λ s. loosened s _ (after _), refl), tt)
guarded_declared declares.Reg d p n k after = λ r. (λ t. (λ s. (λ c. (λ i. after _, refl), tt), refl), tt)
guarded_declared declares.Node d p n k after = λ r. (λ e. (λ s. loosened s _ (after _), refl), tt)
guarded_declared declares.Inst d p n k after = λ r. (λ m. (λ s. loosened s _ (after _), refl), tt)
guarded_declared declares.Mem d p n k after = λ r. (λ s. (λ fs. after _, tt), tt)
guarded_declared declares.When d p n k after = λ e. guarded_when d p e (opened k) (λ s. after (open_when s))

declared_follows : (l : Declaration) (d : ℕ) (p : Place) (n : PlacedName) (k : Begun → State) → Follows an_expression_begins (word_at n.name n.place) (declared l d p n k)
declared_follows declares.When d p n k = (refl, refl)
declared_follows declares.Inst d p n k = refl
declared_follows _ d p n k = tt

keeps_declaration : (l : Lead) (d : ℕ) (p : Place) (w x : List ℕ) (q : Place) → IsLead w l → Keeps (always unlimited) (first_spot w p (at (word x) q)) (at (word x) q) (declaration_step l d p w x q)
keeps_declaration (lead.Declares l) d p w x q e = λ k after. (guarded_declared l d p (record { place = q; name = x }) k after, declared_follows l d p (record { place = q; name = x }) k)
keeps_declaration lead.Skip d p w x q e = tt
keeps_declaration lead.Missing d p w x q e = (refl, inl e)
keeps_declaration lead.MissingPort d p w x q e =
    let F : Step Begun → Type 0 = Keeps (always unlimited) (first_spot w p (at (word x) q)) (at (word x) q) in
    by_word F x (codes "mport") (unsupported p w) refuses (λ same. (refl, inr (e, ap word same))) tt
keeps_declaration lead.Name d p w x q e = tt

keeps_stuck : (t : Terminal) (l : Lead) (p : Place) (w : List ℕ) → IsLead w l → Keeps (always unlimited) (first_spot w p t) t (stuck_behind l p w)
keeps_stuck t lead.Missing p w e = (refl, inl e)
keeps_stuck t _ p w e = tt

keeps_end : (t : Terminal) (l : Lead) (p : Place) (w : List ℕ) → IsLead w l → Keeps (always unlimited) (first_spot w p t) t (end_behind l p w)
keeps_end t lead.Skip p w e = keeps_taken (first_spot w p t) t _
keeps_end t lead.Missing p w e = (refl, inl e)
keeps_end t _ p w e = tt

keeps_ref_or : (spot : Spot) (t : Terminal) (r : Option (Step Statement)) (otherwise : Step Begun) → KeepsRef spot t r → Keeps (always unlimited) spot t otherwise → Keeps (always unlimited) spot t (ref_or r otherwise)
keeps_ref_or spot t (Some s) otherwise h g = keeps_mapped (always unlimited) spot t statement s h
keeps_ref_or spot t None otherwise h g = g

pub keeps_first : (d : ℕ) (p : Place) (w : List ℕ) (l : Lexeme) (q : Place) → Keeps (always unlimited) (first_spot w p (at l q)) (at l q) (first_step d p w l q)
keeps_first d p w (mark m) q =
    let t : Terminal = at (mark m) q in
    keeps_ref_or (first_spot w p t) t (ref_step d p w m q) (stuck_behind (lead_of w) p w) (keeps_ref (first_spot w p t) d p w m q) (keeps_stuck t (lead_of w) p w (lead_word w))
keeps_first d p w (word x) q =
    let t : Terminal = at (word x) q in
    keeps_if (always unlimited) (first_spot w p t) t (bytes_eq x (codes "is")) (takes (λ k. wants (behind_is d p w q) k)) (declaration_step (lead_of w) d p w x q) (λ k after. (after, tt))
    (keeps_declaration (lead_of w) d p w x q (lead_word w))
keeps_first d p w line_end q = keeps_end (at line_end q) (lead_of w) p w (lead_word w)
keeps_first d p w l q = keeps_stuck (at l q) (lead_of w) p w (lead_word w)

keeps_declaration_of_is : (v : Lead) (d : ℕ) (p q : Place) (l : Lexeme) (r : Place) → Keeps (always unlimited) elsewhere (at l r) (declaration_of_is v d p q l r)
keeps_declaration_of_is (lead.Declares declares.Wire) d p q (mark Colon) r = λ k after. (λ t. (λ s. loosened s _ (after _), refl), tt)
keeps_declaration_of_is (lead.Declares declares.Reg) d p q (mark Colon) r = λ k after. (λ t. (λ s. (λ c. (λ i. after _, refl), tt), refl), tt)
keeps_declaration_of_is (lead.Declares declares.Node) d p q (mark Equals) r = λ k after. (λ e. (λ s. loosened s _ (after _), refl), tt)
keeps_declaration_of_is (lead.Declares declares.Inst) d p q (word x) r =
    keeps_if {T = Begun} (always unlimited) elsewhere (at (word x) r) (bytes_eq x (codes "of")) (takes (λ k. instance_rest p (is_named q) (begun k))) refuses (λ k after. (λ m. (λ s. loosened s _ (after _), refl), tt)) tt
keeps_declaration_of_is (lead.Declares declares.Mem) d p q (mark Colon) r = λ k after. (λ s. (λ fs. after _, tt), tt)
keeps_declaration_of_is (lead.Declares declares.When) d p q (mark Colon) r = λ k after. (guarded_when_block d p _ (opened k) (λ s. after (open_when s)), tt)
keeps_declaration_of_is (lead.Declares declares.When) d p q (mark Dot) r =
    λ k after. (guarded_dot d 1 r (λ ps. when_rest d p (reference q (codes "is") ps) (opened k)) (λ ps. guarded_when d p (reference q (codes "is") ps) (opened k) (λ s. after (open_when s))), tt)
keeps_declaration_of_is (lead.Declares declares.When) d p q (mark OpenSquare) r =
    λ k after. (guarded_index d 1 r (λ ps. when_rest d p (reference q (codes "is") ps) (opened k)) (λ ps. guarded_when d p (reference q (codes "is") ps) (opened k) (λ s. after (open_when s))), inl (refl, tt))
keeps_declaration_of_is _ d p q _ r = tt

keeps_invalid_or : (l : Lexeme) (r : Place) (s : SinkReference) (otherwise : Step Begun) → Keeps (always unlimited) elsewhere (at l r) otherwise → Keeps (always unlimited) elsewhere (at l r) (invalid_or l s otherwise)
keeps_invalid_or (word x) r s otherwise h =
    keeps_if (always unlimited) elsewhere (at (word x) r) (bytes_eq x (codes "invalid")) (takes (λ k. ends_line (invalid s.place s) (begun k))) otherwise (λ k after. (λ e. loosened e _ (after _), tt)) h
keeps_invalid_or _ r s otherwise h = h

pub keeps_is : (d : ℕ) (p : Place) (w : List ℕ) (q : Place) (l : Lexeme) (r : Place) → Keeps (always unlimited) elsewhere (at l r) (is_step d p w q l r)
keeps_is d p w q l r = keeps_invalid_or l r (bare p w) (declaration_of_is (lead_of w) d p q l r) (keeps_declaration_of_is (lead_of w) d p q l r)

-- the statements behind one
pub after_statement : (d : ℕ) (s : Begun) (k : Block → State) → ((b : Block) → After unlimited (k b)) → After unlimited (behind_statement d s k)
after_statement d (statement s) k after = (λ b. after _, tt)
after_statement d (open_when w) k after = (λ b. after _, tt)

after_otherwise : (d : ℕ) (ws : List OpenWhen) (x : Otherwise) (k : Block → State) → ((b : Block) → After unlimited (k b)) → After unlimited (behind_otherwise d ws x k)
after_otherwise d ws (else_block b) k after = (λ rest. after _, tt)
after_otherwise d ws (else_when w) k after = (λ rest. after _, tt)
after_otherwise d ws (no_else s) k after = (λ rest. after _, tt)

keeps_else_chain : (t : Terminal) (d : ℕ) (ws : List OpenWhen) (p : Place) → Keeps {T = Block} (always unlimited) statement_spot t (takes (λ k. wants (behind_else d (length ws) p) (λ x. behind_otherwise d ws x k)))
keeps_else_chain t d ws p = λ k after. (λ x. after_otherwise d ws x k after, tt)

keeps_next_statement : (d : ℕ) (ws : List OpenWhen) (w : List ℕ) (p : Place) → Keeps {T = Block} (always unlimited) statement_spot (at (word w) p) (takes (λ k. wants (behind_first d p w) (λ s. behind_statement d s (λ rest. k (closed_before ws done rest)))))
keeps_next_statement d ws w p = λ k after. (λ s. after_statement d s _ (λ rest. after (closed_before ws done rest)), (refl, refl))

pub keeps_statements : (d : ℕ) (ws : List OpenWhen) (l : Lexeme) (p : Place) → Keeps (always unlimited) statement_spot (at l p) (statements_step d ws l p)
keeps_statements d ws level_closes p = keeps_taken statement_spot (at level_closes p) _
keeps_statements d ws (word w) p =
    keeps_if (always unlimited) statement_spot (at (word w) p) (may_be_else ws w) (takes (λ k. wants (behind_else d (length ws) p) (λ x. behind_otherwise d ws x k)))
    (takes (λ k. wants (behind_first d p w) (λ s. behind_statement d s (λ rest. k (closed_before ws done rest))))) (keeps_else_chain (at (word w) p) d ws p) (keeps_next_statement d ws w p)
keeps_statements d ws _ p = tt

keeps_otherwise_ref : (t : Terminal) (r : Option (Step Statement)) → KeepsRef elsewhere t r → Keeps (always unlimited) elsewhere t (otherwise_ref r)
keeps_otherwise_ref t (Some s) h = keeps_mapped (always unlimited) elsewhere t no_else s h
keeps_otherwise_ref t None h = tt

keeps_else_when : (t : Terminal) (d : ℕ) (q : Place) → Keeps {T = Otherwise} (always unlimited) elsewhere t (takes (λ k. wants (an_expression d) (λ e. when_rest d q e (λ s. k (else_when s)))))
keeps_else_when t d q = λ k after. (λ e. guarded_when d q e (λ s. k (else_when s)) (λ s. after (else_when s)), tt)

keeps_else_word : (d n : ℕ) (p : Place) (w : List ℕ) (q : Place) → Keeps (always unlimited) elsewhere (at (word w) q) (else_step d n p (word w) q)
keeps_else_word d n p w q =
    let t : Terminal = at (word w) q in
    let is_invalid : Step Otherwise = takes (λ k. wants (a_word (codes "invalid")) (λ r. ends_line (invalid p (bare p (codes "else"))) (λ s. k (no_else s)))) in
    keeps_if (always unlimited) elsewhere t (bytes_eq w (codes "when")) (takes (λ k. wants (an_expression (d + n)) (λ e. when_rest (d + n) q e (λ s. k (else_when s))))) (if bytes_eq w (codes "is") then is_invalid else refuses)
    (keeps_else_when t (d + n) q)
    (keeps_if (always unlimited) elsewhere t (bytes_eq w (codes "is")) is_invalid refuses (λ k after. (λ r. (λ s. loosened s _ (after _), tt), refl)) tt)

keeps_else_mark : (d : ℕ) (p : Place) (m : Mark) (q : Place) → Keeps (always unlimited) elsewhere (at (mark m) q) (otherwise_ref (ref_step d p (codes "else") m q))
keeps_else_mark d p m q = keeps_otherwise_ref (at (mark m) q) (ref_step d p (codes "else") m q) (keeps_ref elsewhere d p (codes "else") m q)

pub keeps_else : (d n : ℕ) (p : Place) (l : Lexeme) (q : Place) → Keeps (always unlimited) elsewhere (at l q) (else_step d n p l q)
keeps_else d n p (mark Colon) q = λ k after. (λ r. (λ b. after _, tt), tt)
keeps_else d n p (mark m) q = keeps_else_mark d p m q
keeps_else d n p (word w) q = keeps_else_word d n p w q
keeps_else d n p _ q = tt

pub keeps_block : (d : ℕ) (l : Lexeme) (p : Place) → Keeps (always unlimited) optional (at l p) (block_step d l)
keeps_block d level_opens p = λ k after. (after, tt)
keeps_block d _ p = (tt, refl)
