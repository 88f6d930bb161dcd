-- What the parts of a reference read, one after another.
use Rattle.std.proofs.Common.{◌≡◌, ℕ, List, [], ◌∷◌, ◌++◌, map, refl, sym, ap, ◌∙◌, Vec, Global}
use Rattle.fir_ast.specs.declared.place.Place.{Place}
use Rattle.fir_ast.specs.declared.expressions.Part.{Part}
use Rattle.fir_ast.specs.Expressions.{Parts, no_parts}
use Rattle.fir_ast.specs.working.Views.{parts_of, sink_of}
use Rattle.fir_parse.specs.declared.lexeme.Lexeme.{Lexeme as LexemeRef}
use Rattle.fir_parse.specs.declared.lexeme.Lexeme.TheVariants as code
use Rattle.fir_parse.specs.declared.lexeme.Mark.TheVariants.{Dot, OpenSquare}
use Rattle.fir_parse.specs.Heights.{height_with}
use Rattle.fir_parse.specs.Lexemes.{Terminal}
use Rattle.fir_parse.specs.working.Seen.{seen}
use Rattle.fir_parse.specs.working.Reading.{read_on, step}
use Rattle.fir_parse.specs.working.States.{State, wants, without}
use Rattle.fir_parse.specs.working.Symbols.{parts}
use Rattle.fir_parse.specs.working.Trees.{onto, part_of}
use Rattle.fir_parse.proofs.ExpressionViews.{sink_view}
use Rattle.fir_parse.specs.Limits.{everywhere}

-- the parts of a reference are all its parts with nothing behind them
pub onto_none : (fs : List (Parts → Parts)) → onto fs no_parts ≡ parts_of fs
onto_none [] = refl
onto_none (f ∷ fs) = ap f (onto_none fs)

onto_one : (vs : List Part) (x : Part) → onto (map part_of (vs ++ x ∷ [])) ≡ (λ ps. onto (map part_of vs) (part_of x ps))
onto_one [] x = refl
onto_one (v ∷ vs) x = ap (λ (g : Parts → Parts). λ ps. part_of v (g ps)) (onto_one vs x)

-- one more part behind others
pub onto_pushed : (vs : List Part) (x : Part) (new : List Part) → new ≡ vs ++ x ∷ [] → onto (map part_of new) ≡ (λ ps. onto (map part_of vs) (part_of x ps))
onto_pushed vs x new e = ap (λ (l : List Part). onto (map part_of l)) e ∙ onto_one vs x

-- what follows the parts so far is read on behind one more
pub part_behind : (d h g : ℕ) (vs : List Part) (x : Part) (new : List Part) (start a b : List Terminal) → ((end : Place) (k : Parts → State) → read_on everywhere end (wants (parts d 1) k) start ≡ read_on everywhere end (wants (parts d h) (λ ps. k (onto (map part_of vs) ps))) a) → ((end : Place) (k : Parts → State) → read_on everywhere end (wants (parts d h) k) a ≡ read_on everywhere end (wants (parts d g) (λ ps. k (part_of x ps))) b) → new ≡ vs ++ x ∷ [] → (end : Place) (k : Parts → State) → read_on everywhere end (wants (parts d 1) k) start ≡ read_on everywhere end (wants (parts d g) (λ ps. k (onto (map part_of new) ps))) b
part_behind d h g vs x new start a b leads reads e end k =
    leads end k ∙ reads end (λ ps. k (onto (map part_of vs) ps))
    ∙ ap (λ (f : Parts → Parts). read_on everywhere end (wants (parts d g) (λ ps. k (f ps))) b) (sym (onto_pushed vs x new e))

pub height_behind : (h g : ℕ) (vs : List Part) (x : Part) (new : List Part) → ((ps : Parts) → height_with (onto (map part_of vs) ps) 1 ≡ height_with ps h) → ((ps : Parts) → height_with (part_of x ps) h ≡ height_with ps g) → new ≡ vs ++ x ∷ [] → (ps : Parts) → height_with (onto (map part_of new) ps) 1 ≡ height_with ps g
height_behind h g vs x new high more e ps = ap (λ (f : Parts → Parts). height_with (f ps) 1) (onto_pushed vs x new e) ∙ high (part_of x ps) ∙ more ps

-- what a reference is, by its name and the parts that were read
pub sink_of_parts : (p : Place) (n w : List ℕ) (v : Vec Part Global) → n ≡ w → sink_of (record { place = p; name = n; parts = v }) ≡ record { place = p; name = w; parts = onto (map part_of v.items) no_parts }
sink_of_parts p n w v e = sink_view _ ∙ rw (e, onto_none (map part_of v.items)) refl

-- no part begins with any other token
pub not_part : (d h : ℕ) (l : LexemeRef) (p : Place) → (l ≡ code.Mark Dot → ⊥) → (l ≡ code.Mark OpenSquare → ⊥) → step (parts d h) (seen l) p ≡ without no_parts
not_part d h (code.Mark Dot) p a b = absurd (a refl)
not_part d h (code.Mark OpenSquare) p a b = absurd (b refl)
not_part d h (code.Mark m) p a b = refl
not_part d h _ p a b = refl
