-- Tokens with which a text is completed from a state: how one is made of another.
use Rattle.std.proofs.Common.{◌≡◌, Bool, true, false, IsTrue, List, [], ◌∷◌, Ok, refl, ap, ◌∙◌}
use Rattle.fir_ast.specs.declared.place.Place.{Place}
use Rattle.fir_ast.specs.Circuits.{CircuitTree}
use Rattle.fir_parse.specs.declared.lexeme.Mark.TheVariants.{Less, OpenRound, OpenSquare, Dot, CloseRound, CloseSquare, Comma, Colon}
use Rattle.fir_parse.specs.Lexemes.{Lexeme, mark, Terminal}
use Rattle.fir_parse.specs.working.Symbols.{Sym, Tree, a_mark, a_line_end, more_fields, behind_sink, a_reset}
use Rattle.fir_parse.specs.working.States.{State, Bound, done, limit, wants, takes, without, refuses}
use Rattle.fir_parse.specs.working.Reading.{step, goes_on, at_token, read_on}
use Rattle.fir_parse.specs.working.Reaching.{judge, verdict_by}
use Rattle.fir_parse.proofs.Guards.{firm, is_firm, is_tail_mark, Meets}
use Rattle.fir_parse.proofs.Along.{continues_without_limits}
use Rattle.fir_parse.specs.Limits.{nowhere}

pub record Completion (st : State) : Type 0 where
  pub more : List Terminal
  pub circuit : CircuitTree
  pub completes : (end : Place) → read_on nowhere end st more ≡ Ok circuit

abbrev pub origin : Place
origin = record { line = 1; col = 1 }

abbrev pub token : Lexeme → Terminal
token l = record { lexeme = l; place = origin }

-- by a token that is taken
pub taken : (s : Sym) (k : Tree s → State) (l : Lexeme) (f : (Tree s → State) → State) → step s l origin ≡ takes f → Completion (f k) → Completion (wants s k)
taken s k l f e c = record {
  more = token l ∷ c.more;
  circuit = c.circuit;
  completes = λ end. continues_without_limits end (wants s k) (f k) (token l) c.more (ap (λ u. verdict_by u k (λ x. judge (k x) (token l))) e) ∙ c.completes end;
}

reads_below : (passed : Bool) (l : Bound) (st : State) (ts : List Terminal) (end : Place) → read_on nowhere end (limit passed l st) ts ≡ read_on nowhere end st ts
unfolding read_on
reads_below passed l st [] end = refl
reads_below passed l st (t ∷ ts) end = refl

pub below_limit : (passed : Bool) (l : Bound) (st : State) → Completion st → Completion (limit passed l st)
below_limit passed l st c = record { more = c.more; circuit = c.circuit; completes = λ end. reads_below passed l st c.more end ∙ c.completes end }

-- the tokens begin with one that passes what may be empty by
abbrev pub Skips : (s : Sym) → Tree s → List Terminal → Type 0
Skips s x [] = ⊥
Skips s x (t ∷ ts) = step s t.lexeme t.place ≡ without x

reads_behind : (s : Sym) (k : Tree s → State) (x : Tree s) (ts : List Terminal) (end : Place) → Skips s x ts → read_on nowhere end (wants s k) ts ≡ read_on nowhere end (k x) ts
unfolding read_on
reads_behind s k x [] end h = absurd h
reads_behind s k x (t ∷ ts) end h = ap (λ u. goes_on u t.place k (λ n. read_on nowhere end n ts) (λ y. at_token (λ l. false) (k y) t (λ n. read_on nowhere end n ts))) h

-- by the next token, which belongs to what follows
pub skipped : (s : Sym) (k : Tree s → State) (x : Tree s) (c : Completion (k x)) → Skips s x c.more → Completion (wants s k)
skipped s k x c h = record { more = c.more; circuit = c.circuit; completes = λ end. reads_behind s k x c.more end h ∙ c.completes end }

abbrev pub goes_on_tail : Lexeme → Bool
goes_on_tail (mark m) = is_tail_mark m
goes_on_tail _ = false

-- the first token is none with which a tail goes on
abbrev pub TailEnds : List Terminal → Type 0
TailEnds [] = ⊥
TailEnds (t ∷ ts) = goes_on_tail t.lexeme ≡ false

abbrev pub RefusesTail : Sym → Type 0
RefusesTail s = (p : Place) → (step s (mark Less) p ≡ refuses) × (step s (mark OpenRound) p ≡ refuses) × (step s (mark OpenSquare) p ≡ refuses) × (step s (mark Dot) p ≡ refuses)

pub refuses_tail : (s : Sym) → IsTrue (is_firm s) → RefusesTail s
refuses_tail (a_mark CloseRound) h p = (refl, refl, refl, refl)
refuses_tail (a_mark CloseSquare) h p = (refl, refl, refl, refl)
refuses_tail (a_mark Comma) h p = (refl, refl, refl, refl)
refuses_tail (a_mark Colon) h p = (refl, refl, refl, refl)
refuses_tail a_line_end h p = (refl, refl, refl, refl)
refuses_tail (more_fields d) h p = (refl, refl, refl, refl)
refuses_tail (behind_sink d s) h p = (refl, refl, refl, refl)
refuses_tail (a_reset d) h p = (refl, refl, refl, refl)
refuses_tail _ h p = absurd (cc)

refuses_all : (s : Sym) → RefusesTail s → (l : Lexeme) (p : Place) → goes_on_tail l ≡ true → step s l p ≡ refuses
refuses_all s h (mark Less) p e = (h p).0
refuses_all s h (mark OpenRound) p e = (h p).1
refuses_all s h (mark OpenSquare) p e = (h p).2
refuses_all s h (mark Dot) p e = (h p).3
refuses_all s h _ p e = absurd (cc)

no_completion : (s : Sym) (k : Tree s → State) (t : Terminal) (ts : List Terminal) (c : CircuitTree) → step s t.lexeme t.place ≡ refuses → read_on nowhere origin (wants s k) (t ∷ ts) ≡ Ok c → ⊥
unfolding read_on
no_completion s k t ts c e h =
    let fails = ap (λ u. goes_on u t.place k (λ n. read_on nowhere origin n ts) (λ y. at_token (λ l. false) (k y) t (λ n. read_on nowhere origin n ts))) e in
    absurd (cc)

first_passes : (s : Sym) (k : Tree s → State) (t : Terminal) (ts : List Terminal) (c : CircuitTree) → RefusesTail s → read_on nowhere origin (wants s k) (t ∷ ts) ≡ Ok c → (b : Bool) → goes_on_tail t.lexeme ≡ b → b ≡ false
first_passes s k t ts c r h false e = refl
first_passes s k t ts c r h true e = absurd (no_completion s k t ts c (refuses_all s r t.lexeme t.place e) h)

first_ends : (s : Sym) (k : Tree s → State) (ts : List Terminal) (c : CircuitTree) → RefusesTail s → read_on nowhere origin (wants s k) ts ≡ Ok c → TailEnds ts
unfolding read_on
first_ends s k [] c r h = absurd (cc)
first_ends s k (t ∷ ts) c r h = first_passes s k t ts c r h (goes_on_tail t.lexeme) refl

-- where a firm symbol is expected, a tail is not gone on with
pub tail_ends : (st : State) → Meets firm st → (c : Completion st) → TailEnds c.more
tail_ends (done d) m c = absurd m
tail_ends (limit passed l st) m c = absurd m
tail_ends (wants s k) m c = first_ends s k c.more c.circuit (refuses_tail s m) (c.completes origin)
