-- Completions of single tokens, types and expressions.
use Rattle.std.proofs.Common.{◌≡◌, ℕ, Bool, true, false, List, [], ◌∷◌, Option, codes, refl, ap}
use Rattle.std.proofs.lemmas.Slice.Eq.{bytes_eq-Decides}
use Rattle.fir_ast.specs.declared.place.Place.{Place}
use Rattle.fir_ast.specs.Types.{DataType, clock}
use Rattle.fir_ast.specs.Expressions.{Expression, reference, Parts, no_parts}
use Rattle.fir_parse.specs.declared.lexeme.Mark.{Mark}
use Rattle.fir_parse.specs.declared.lexeme.Mark.TheVariants.{Connect, PartialConnect, Arrow, Equals, Less, Greater, OpenRound, CloseRound, OpenSquare, CloseSquare, OpenCurly, CloseCurly, Comma, Colon, Dot}
use Rattle.fir_parse.specs.Lexemes.{Lexeme, word, integer, mark, line_end, level_opens, level_closes, Terminal}
use Rattle.fir_parse.specs.working.Marks.{same_mark}
use Rattle.fir_parse.specs.working.Symbols.{Tree, a_mark, a_word, a_name, a_field_name, a_natural, a_line_end, an_opening, a_closing, a_type, a_width, dimensions, fields, more_fields, a_field, behind_flip, an_expression, behind_word, parts, an_index, a_literal, TypeTree}
use Rattle.fir_parse.specs.working.States.{State, wants, without}
use Rattle.fir_parse.specs.working.Reading.{one}
use Rattle.fir_parse.specs.working.TypeRules.{dimensions_step}
use Rattle.fir_parse.specs.working.ExpressionRules.{parts_step, behind_word_step}
use Rattle.fir_parse.proofs.Guards.{firm, Meets}
use Rattle.fir_parse.proofs.Completions.{Completion, origin, taken, below_limit, skipped, Skips, goes_on_tail, TailEnds, tail_ends}

-- a completion behind what may end in a tail
abbrev pub Ended : State → Type 0
Ended st = Completion st × Meets firm st

pub same_mark_self : (m : Mark) → same_mark m m ≡ true
same_mark_self Connect = refl
same_mark_self PartialConnect = refl
same_mark_self Arrow = refl
same_mark_self Equals = refl
same_mark_self Less = refl
same_mark_self Greater = refl
same_mark_self OpenRound = refl
same_mark_self CloseRound = refl
same_mark_self OpenSquare = refl
same_mark_self CloseSquare = refl
same_mark_self OpenCurly = refl
same_mark_self CloseCurly = refl
same_mark_self Comma = refl
same_mark_self Colon = refl
same_mark_self Dot = refl

pub complete_mark : (m : Mark) (k : Place → State) → ((p : Place) → Completion (k p)) → Completion (wants (a_mark m) k)
complete_mark m k h = taken (a_mark m) k (mark m) (λ f. f origin) (ap (λ b. one b origin) (same_mark_self m)) (h origin)

pub complete_word : (w : List ℕ) (k : Place → State) → ((p : Place) → Completion (k p)) → Completion (wants (a_word w) k)
complete_word w k h = taken (a_word w) k (word w) (λ f. f origin) (ap (λ b. one b origin) ((bytes_eq-Decides w w).1 refl)) (h origin)

pub complete_name : (k : Tree a_name → State) → ((x : Tree a_name) → Completion (k x)) → Completion (wants a_name k)
complete_name k h = taken a_name k (word (codes "x")) _ refl (h _)

pub complete_field_name : (k : Tree a_field_name → State) → ((x : Tree a_field_name) → Completion (k x)) → Completion (wants a_field_name k)
complete_field_name k h = taken a_field_name k (word (codes "x")) _ refl (h _)

pub complete_natural : (k : Tree a_natural → State) → ((x : Tree a_natural) → Completion (k x)) → Completion (wants a_natural k)
complete_natural k h = taken a_natural k (integer (codes "1")) _ refl (below_limit _ _ _ (h _))

pub complete_line_end : (k : Place → State) → ((p : Place) → Completion (k p)) → Completion (wants a_line_end k)
complete_line_end k h = taken a_line_end k line_end _ refl (h origin)

pub complete_opening : (k : Place → State) → ((p : Place) → Completion (k p)) → Completion (wants an_opening k)
complete_opening k h = taken an_opening k level_opens _ refl (h origin)

pub complete_closing : (k : Place → State) → ((p : Place) → Completion (k p)) → Completion (wants a_closing k)
complete_closing k h = taken a_closing k level_closes _ refl (h origin)

pub complete_width : (k : Option ℕ → State) → ((x : Option ℕ) → Completion (k x)) → Completion (wants a_width k)
complete_width k h = taken a_width k (mark Less) _ refl (complete_natural _ (λ n. complete_mark Greater _ (λ q. h _)))

dimensions_end : (d : ℕ) (t : DataType) (l : Lexeme) (p : Place) → goes_on_tail l ≡ false → dimensions_step d t l p ≡ without t
dimensions_end d t (mark OpenSquare) p h = absurd (cc)
dimensions_end d t _ p h = refl

pub dimensions_skip : (d : ℕ) (t : DataType) (ts : List Terminal) → TailEnds ts → Skips (dimensions d t) t ts
dimensions_skip d t [] h = h
dimensions_skip d t (u ∷ ts) h = dimensions_end d t u.lexeme u.place h

pub complete_dimensions : (d : ℕ) (t : DataType) (k : DataType → State) → ((x : DataType) → Ended (k x)) → Completion (wants (dimensions d t) k)
complete_dimensions d t k h = let c : Completion (k t) = (h t).0 in skipped (dimensions d t) k t c (dimensions_skip d t c.more (tail_ends (k t) (h t).1 c))

pub complete_type : (d : ℕ) (k : TypeTree → State) → ((x : TypeTree) → Ended (k x)) → Completion (wants (a_type d) k)
complete_type d k h = taken (a_type d) k (word (codes "Clock")) _ refl (complete_dimensions d clock _ (λ t. h _))

pub complete_fields : (d : ℕ) (k : Tree (fields d) → State) → ((x : Tree (fields d)) → Completion (k x)) → Completion (wants (fields d) k)
complete_fields d k h = taken (fields d) k (mark CloseCurly) _ refl (h _)

pub complete_more_fields : (d : ℕ) (k : Tree (fields d) → State) → ((x : Tree (fields d)) → Completion (k x)) → Completion (wants (more_fields d) k)
complete_more_fields d k h = taken (more_fields d) k (mark CloseCurly) _ refl (h _)

pub complete_field : (d : ℕ) (k : Tree (a_field d) → State) → ((x : Tree (a_field d)) → Ended (k x)) → Completion (wants (a_field d) k)
complete_field d k h = taken (a_field d) k (word (codes "x")) _ refl (complete_mark Colon _ (λ q. complete_type d _ (λ t. h _)))

pub complete_flip : (d : ℕ) (p : Place) (k : Tree (behind_flip d p) → State) → ((x : Tree (behind_flip d p)) → Ended (k x)) → Completion (wants (behind_flip d p) k)
complete_flip d p k h = taken (behind_flip d p) k (mark Colon) _ refl (complete_type d _ (λ t. h _))

word_end : (d : ℕ) (p : Place) (w : List ℕ) (l : Lexeme) (q : Place) → goes_on_tail l ≡ false → behind_word_step d p w l q ≡ without (reference p w no_parts)
word_end d p w (mark OpenRound) q h = absurd (cc)
word_end d p w (mark Less) q h = absurd (cc)
word_end d p w (mark Dot) q h = absurd (cc)
word_end d p w (mark OpenSquare) q h = absurd (cc)
word_end d p w _ q h = refl

pub word_skip : (d : ℕ) (p : Place) (w : List ℕ) (ts : List Terminal) → TailEnds ts → Skips (behind_word d p w) (reference p w no_parts) ts
word_skip d p w [] h = h
word_skip d p w (u ∷ ts) h = word_end d p w u.lexeme u.place h

pub complete_behind_word : (d : ℕ) (p : Place) (w : List ℕ) (k : Expression → State) → ((x : Expression) → Ended (k x)) → Completion (wants (behind_word d p w) k)
complete_behind_word d p w k h =
    let e : Expression = reference p w no_parts in
    let c : Completion (k e) = (h e).0 in
    skipped (behind_word d p w) k e c (word_skip d p w c.more (tail_ends (k e) (h e).1 c))

pub complete_expression : (d : ℕ) (k : Expression → State) → ((x : Expression) → Ended (k x)) → Completion (wants (an_expression d) k)
complete_expression d k h = taken (an_expression d) k (word (codes "x")) _ refl (complete_behind_word d origin (codes "x") k h)

parts_end : (d n : ℕ) (l : Lexeme) (p : Place) → goes_on_tail l ≡ false → parts_step d n l p ≡ without no_parts
parts_end d n (mark Dot) p h = absurd (cc)
parts_end d n (mark OpenSquare) p h = absurd (cc)
parts_end d n _ p h = refl

pub parts_skip : (d n : ℕ) (ts : List Terminal) → TailEnds ts → Skips (parts d n) no_parts ts
parts_skip d n [] h = h
parts_skip d n (u ∷ ts) h = parts_end d n u.lexeme u.place h

pub complete_parts : (d n : ℕ) (k : Parts → State) → ((x : Parts) → Ended (k x)) → Completion (wants (parts d n) k)
complete_parts d n k h = let c : Completion (k no_parts) = (h no_parts).0 in skipped (parts d n) k no_parts c (parts_skip d n c.more (tail_ends (k no_parts) (h no_parts).1 c))

pub complete_index : (d : ℕ) (k : Tree (an_index d) → State) → ((x : Tree (an_index d)) → Completion (k x)) → Completion (wants (an_index d) k)
complete_index d k h = taken (an_index d) k (integer (codes "1")) _ refl (below_limit _ _ _ (h _))

pub complete_literal : (p : Place) (signed : Bool) (width : Option ℕ) (k : Tree (a_literal p signed width) → State) → ((x : Tree (a_literal p signed width)) → Completion (k x)) → Completion (wants (a_literal p signed width) k)
complete_literal p signed width k h = taken (a_literal p signed width) k (integer (codes "1")) _ refl (below_limit _ _ _ (h _))
