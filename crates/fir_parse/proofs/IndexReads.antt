-- What stands between the brackets of a reference.
use Rattle.std.proofs.Common.{◌≡◌, ℕ, ◌+◌, max, Bool, true, false, List, ◌∷◌, drop, refl, sym, ap, ◌∙◌, ◌<◌, ◌≤◌, subst, Bor, arith}
use Rattle.fir_ast.specs.declared.place.Place.{Place}
use Rattle.fir_ast.specs.declared.fault.FirFault.TheVariants.{Depth}
use Rattle.fir_ast.specs.Expressions.{Parts}
use Rattle.fir_parse.specs.working.AtHand.{StandsFirst}
use Rattle.fir_parse.specs.declared.integer.Integer.{Integer}
use Rattle.fir_parse.specs.declared.lexeme.Lexeme.{Lexeme as LexemeRef}
use Rattle.fir_parse.specs.declared.lexeme.Lexeme.TheVariants as code
use Rattle.fir_parse.specs.declared.stop.Stop.{Stop}
use Rattle.fir_parse.specs.declared.stop.Stop.TheVariants as stop
use Rattle.fir_parse.specs.working.ExpressionRules.{indexed, indexed_height}
use Rattle.fir_parse.specs.Heights.{height_with}
use Rattle.fir_parse.specs.Lexemes.{Terminal, word}
use Rattle.fir_parse.specs.Numbers.{has_sign}
use Rattle.fir_parse.specs.working.Reading.{read_on}
use Rattle.fir_parse.specs.working.Reads.{Stops}
use Rattle.fir_parse.specs.working.States.{State, wants, ends_form}
use Rattle.fir_parse.specs.working.Symbols.{IndexTree, plain_index, computed_index, a_natural, an_expression, behind_word, an_index, parts}
use Rattle.fir_parse.specs.working.Trees.{index_height}
use Rattle.fir_parse.proofs.Plans.{takes_first, ended, ended_too_tall}
use Rattle.fir_parse.specs.Limits.{everywhere}

-- a word begins an expression
pub computed_first : (d : ℕ) (w : List ℕ) (p : Place) (a : List Terminal) → a ≡ record { lexeme = word w; place = p } ∷ drop 1 a → (end : Place) (k : IndexTree → State) → read_on everywhere end (wants (an_index d) k) a ≡ read_on everywhere end (wants (an_expression d) (λ e. k (computed_index e))) a
computed_first d w p a e end k =
    takes_first (an_index d) (λ k. wants (behind_word d p w) (λ e. k (computed_index e))) (word w) p a (drop 1 a) e refl refl end k
    ∙ sym (takes_first (an_expression d) (λ k. wants (behind_word d p w) k) (word w) p a (drop 1 a) e refl refl end (λ e. k (computed_index e)))

integer_first : (d : ℕ) (i : Integer) (p : Place) (a : List Terminal) (b : Bool) → has_sign i.spelling.now ≡ b → StandsFirst a (code.Integer i) p → (end : Place) (k : IndexTree → State) → read_on everywhere end (wants (an_index d) k) a ≡ read_on everywhere end (wants a_natural (λ n. k (plain_index n.place n.number))) a
unfolding read_on
integer_first d i p a true h e end k = rw e (rw h refl)
integer_first d i p a false h e end k = rw e (rw h refl)

-- no other token does, so that a plain number is expected
pub plain_first : (d : ℕ) (l : LexemeRef) (p : Place) (a : List Terminal) → StandsFirst a l p → ((x : Bor (List ℕ)) → l ≡ code.Word x → ⊥) → (end : Place) (k : IndexTree → State) → read_on everywhere end (wants (an_index d) k) a ≡ read_on everywhere end (wants a_natural (λ n. k (plain_index n.place n.number))) a
unfolding read_on
plain_first d code.End p a e h end k = rw e refl
plain_first d (code.Word x) p a e h end k = absurd (h x refl)
plain_first d (code.Integer i) p a e h end k = integer_first d i p a (has_sign i.spelling.now) refl e end k
plain_first d _ p a e h end k = rw e refl

pub height_of_index : (h : ℕ) (i : IndexTree) → indexed_height h i ≡ max h (index_height i) + 1
height_of_index h (plain_index p n) = omega arith
height_of_index h (computed_index e) = refl

-- an index before other parts makes a form of that height
pub height_behind_index : (h : ℕ) (b : Place) (i : IndexTree) (ps : Parts) → height_with (indexed b i ps) h ≡ height_with ps (indexed_height h i)
height_behind_index h b (plain_index p n) ps = refl
height_behind_index h b (computed_index e) ps = refl

-- the height of what was indexed, as the code adds it up
pub height_added : (h m n : ℕ) (i : IndexTree) → m ≡ max h n → n ≡ index_height i → m + 1 ≡ indexed_height h i
height_added h m n i e f = ap (λ x. x + 1) (e ∙ ap (λ x. max h x) f) ∙ sym (height_of_index h i)

-- the form ends at its closing bracket, and more parts may follow
pub index_ends : (d h g : ℕ) (b : Place) (i : IndexTree) (f : Parts → Parts) (q : Place) (ts : List Terminal) → g ≡ indexed_height h i → f ≡ indexed b i → g ≤ 256 → (end : Place) (k : Parts → State) → read_on everywhere end (ends_form (indexed_height h i) q (wants (parts d (indexed_height h i)) (λ ps. k (indexed b i ps)))) ts ≡ read_on everywhere end (wants (parts d g) (λ ps. k (f ps))) ts
index_ends d h g b i f q ts e is le end k =
    let P : ℕ → Type 0 = λ n. n ≤ 256 in
    ended (indexed_height h i) q (wants (parts d (indexed_height h i)) (λ ps. k (indexed b i ps))) end ts (subst P e le)
    ∙ ap (λ (x : Parts → Parts). read_on everywhere end (wants (parts d (indexed_height h i)) (λ ps. k (x ps))) ts) (sym is)
    ∙ ap (λ (n : ℕ). read_on everywhere end (wants (parts d n) (λ ps. k (f ps))) ts) (sym e)

pub index_too_tall : (d h g : ℕ) (b : Place) (i : IndexTree) (q : Place) (ts : List Terminal) (s : Stop) → g ≡ indexed_height h i → (256 < g) × (s ≡ stop.Fault (Depth q)) → Stops (λ k. ends_form (indexed_height h i) q (wants (parts d (indexed_height h i)) (λ ps. k (indexed b i ps)))) ts s
index_too_tall d h g b i q ts s e m =
    let P : ℕ → Type 0 = λ n. 256 < n in
    ended_too_tall (indexed_height h i) q (λ k. wants (parts d (indexed_height h i)) (λ ps. k (indexed b i ps))) ts s (subst P e m.0, m.1)
