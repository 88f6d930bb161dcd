-- How a type reads, by the token at hand.
use Rattle.std.proofs.Common.{◌≡◌, ℕ, ◌+◌, ◌<◌, ◌≤◌, Bool, true, false, List, ◌∷◌, drop, codes, refl, sym, ap, ◌∙◌, subst, Bor, None, if◌then◌else◌}
use Rattle.std.specs.Str.{bytes_eq}
use Rattle.std.proofs.lemmas.Slice.Eq.{bytes_eq-Decides}
use Rattle.fir_ast.specs.declared.place.Place.{Place}
use Rattle.fir_ast.specs.declared.fault.FirFault.TheVariants.{Depth}
use Rattle.fir_ast.specs.Types.{DataType, bundle, vector}
use Rattle.fir_parse.specs.declared.lexeme.Lexeme.{Lexeme as LexemeRef}
use Rattle.fir_parse.specs.declared.lexeme.Lexeme.TheVariants as code
use Rattle.fir_parse.specs.declared.lexeme.Mark.TheVariants.{Less, OpenSquare, CloseSquare, OpenCurly, CloseCurly, Comma, Colon}
use Rattle.fir_parse.specs.declared.stop.Stop.{Stop}
use Rattle.fir_parse.specs.declared.stop.Stop.TheVariants as stop
use Rattle.fir_parse.specs.working.AtHand.{StandsFirst, stop_at}
use Rattle.fir_parse.specs.working.BundlePlans.{some_fields}
use Rattle.fir_parse.specs.Heights.{type_height}
use Rattle.fir_parse.specs.Lexemes.{word, integer, mark, Terminal}
use Rattle.fir_parse.specs.working.Seen.{seen}
use Rattle.fir_parse.specs.Numbers.{has_sign}
use Rattle.fir_parse.specs.working.Symbols.{Sym, FieldsTree, FieldTree, a_mark, a_natural, a_field_name, a_type, a_width, dimensions, fields, more_fields, a_field, behind_flip, TypeTree}
use Rattle.fir_parse.specs.working.States.{State, Step, wants, without, refuses, opens, ends_form}
use Rattle.fir_parse.specs.working.TypeRules.{field_rest, with_field, then_more, type_at}
use Rattle.fir_parse.specs.working.Reading.{read_on, at_token, goes_on, step, Outcome}
use Rattle.fir_parse.specs.working.Reads.{Plan, Stops}
use Rattle.fir_parse.proofs.Plans.{takes_first, ends_here, ended, not_ended}
use Rattle.fir_parse.specs.Limits.{everywhere}

-- where the text has ended, whatever is expected
pub ends_there : (s : Sym) (a : List Terminal) (l : LexemeRef) (p : Place) (e : Stop) → StandsFirst a l p → l ≡ code.End → e ≡ stop_at l p → Stops (wants s) a e
ends_there s a l p e h i j =
    let P : LexemeRef → Type 0 = λ x. StandsFirst a x p in
    rw (j ∙ ap (λ x. stop_at x p) i) (ends_here s a (subst P i h))

-- a form of a height that is counted beside it
pub ended_at : (g h : ℕ) → g ≡ h → (p : Place) (st : State) (end : Place) (ts : List Terminal) → g ≤ 256 → read_on everywhere end (ends_form h p st) ts ≡ read_on everywhere end st ts
ended_at g h e p st end ts le = rw (← e) (ended g p st end ts le)

pub too_tall_at : {T : Type 0} (g h : ℕ) → g ≡ h → (p : Place) (P : Plan T) (ts : List Terminal) (e : Stop) → (256 < g) × (e ≡ stop.Fault (Depth p)) → Stops (λ k. ends_form h p (P k)) ts e
too_tall_at g h i p P ts e j = rw j.1 (λ end k. rw (← i) (not_ended g p (P k) end ts j.0))

-- a width

pub not_width : (l : LexemeRef) (p : Place) → (l ≡ code.Mark Less → ⊥) → step a_width (seen l) p ≡ without None
not_width (code.Mark Less) p h = absurd (h refl)
not_width (code.Mark _) p h = refl
not_width _ p h = refl

-- the lengths behind a type

-- behind the length and its bracket
abbrev pub closed_dimension : ℕ → DataType → ℕ → Place → Plan DataType
closed_dimension d t n q = λ k. ends_form (type_height (vector t n)) q (wants (dimensions d (vector t n)) k)

-- behind the opening bracket
abbrev pub open_dimension : ℕ → DataType → Plan DataType
open_dimension d t = λ k. wants a_natural (λ n. wants (a_mark CloseSquare) (λ q. closed_dimension d t n.number q k))

-- behind a type that is the same
pub same_dimensions : (d : ℕ) (t u : DataType) → t ≡ u → (end : Place) (k : DataType → State) (ts : List Terminal) → read_on everywhere end (wants (dimensions d t) k) ts ≡ read_on everywhere end (wants (dimensions d u) k) ts
same_dimensions d t u e end k ts = ap (λ v. read_on everywhere end (wants (dimensions d v) k) ts) e

pub begins_dimension : (d : ℕ) (t : DataType) (p : Place) (a : List Terminal) → a ≡ record { lexeme = mark OpenSquare; place = p } ∷ drop 1 a → (end : Place) (k : DataType → State) → read_on everywhere end (wants (dimensions d t) k) a ≡ read_on everywhere end (wants (a_mark OpenSquare) (λ o. opens d o (open_dimension d t k))) a
begins_dimension d t p a e end k =
    takes_first (dimensions d t) (λ k. opens d p (open_dimension d t k)) (mark OpenSquare) p a (drop 1 a) e refl refl end k
    ∙ sym (takes_first (a_mark OpenSquare) (λ k. k p) (mark OpenSquare) p a (drop 1 a) e refl refl end (λ o. opens d o (open_dimension d t k)))

pub not_dimension : (d : ℕ) (t : DataType) (l : LexemeRef) (p : Place) → (l ≡ code.Mark OpenSquare → ⊥) → step (dimensions d t) (seen l) p ≡ without t
not_dimension d t (code.Mark OpenSquare) p h = absurd (h refl)
not_dimension d t (code.Mark _) p h = refl
not_dimension d t _ p h = refl

-- types

pub not_type : (d : ℕ) (l : LexemeRef) (p : Place) → ((x : Bor (List ℕ)) → l ≡ code.Word x → ⊥) → (l ≡ code.Mark OpenCurly → ⊥) → step (a_type d) (seen l) p ≡ refuses
not_type d (code.Word x) p h g = absurd (h x refl)
not_type d (code.Mark OpenCurly) p h g = absurd (g refl)
not_type d (code.Mark _) p h g = refl
not_type d _ p h g = refl

-- bundles

-- behind the fields and the closing brace
abbrev pub closed_bundle : ℕ → FieldsTree → Plan DataType
closed_bundle d fs = λ k. ends_form (type_height (bundle fs.fields)) fs.close (wants (dimensions d (bundle fs.fields)) k)

-- behind the opening brace
abbrev pub open_bundle : ℕ → Plan DataType
open_bundle d = λ k. wants (fields (d + 1)) (λ fs. closed_bundle d fs k)

pub begins_bundle : (d : ℕ) (p : Place) (a b : List Terminal) → a ≡ record { lexeme = mark OpenCurly; place = p } ∷ drop 1 a → b ≡ drop 1 a → (end : Place) (k : TypeTree → State)
    → read_on everywhere end (wants (a_type d) k) a ≡ read_on everywhere end (opens d p (open_bundle d (λ t. k (type_at p t)))) b
begins_bundle d p a b e r end k = takes_first (a_type d) (λ k. opens d p (open_bundle d (λ t. k (type_at p t)))) (mark OpenCurly) p a b e r refl end k

pub not_behind_field : (d : ℕ) (l : LexemeRef) (p : Place) → (l ≡ code.Mark Comma → ⊥) → (l ≡ code.Mark CloseCurly → ⊥) → step (more_fields d) (seen l) p ≡ refuses
not_behind_field d (code.Mark Comma) p h g = absurd (h refl)
not_behind_field d (code.Mark CloseCurly) p h g = absurd (g refl)
not_behind_field d (code.Mark _) p h g = refl
not_behind_field d _ p h g = refl

-- one field

-- what a step makes of the first token
abbrev at_first : {S : Type 0} → Place → List Terminal → Terminal → (S → State) → Step S → Outcome
at_first end a t k s = goes_on s t.place k (λ next. read_on everywhere end next (drop 1 a)) (λ y. at_token (λ l. true) (k y) t (λ next. read_on everywhere end next (drop 1 a)))

-- the same test chooses on both sides
either_way : {S U : Type 0} (f : S → Outcome) (g : U → Outcome) (b : Bool) (x y : S) (u v : U) → f x ≡ g u → f y ≡ g v → f (if b then x else y) ≡ g (if b then u else v)
either_way f g true x y u v h i = h
either_way f g false x y u v h i = i

abbrev pub digits_at : List ℕ → Place → Terminal
digits_at s p = record { lexeme = integer s; place = p }

abbrev pub word_at : List ℕ → Place → Terminal
word_at w p = record { lexeme = word w; place = p }

-- the word at hand is `flip`
pub is_flip : (w : List ℕ) (p : Place) (a : List Terminal) → a ≡ word_at w p ∷ drop 1 a → bytes_eq w (codes "flip") ≡ true → a ≡ word_at (codes "flip") p ∷ drop 1 a
is_flip w p a e t = let P : List ℕ → Type 0 = λ v. a ≡ word_at v p ∷ drop 1 a in subst P ((bytes_eq-Decides w (codes "flip")).0 t) e

-- no word at hand is `flip`, where one is not
pub is_no_flip : (l : LexemeRef) (x y : Bor (List ℕ)) → l ≡ code.Word x → l ≡ code.Word y → bytes_eq y.now (codes "flip") ≡ false → bytes_eq x.now (codes "flip") ≡ false
is_no_flip l x y h i t = let q : y ≡ x = cc in let P : Bor (List ℕ) → Type 0 = λ z. bytes_eq z.now (codes "flip") ≡ false in subst P q t

-- what `flip` turns is a name, where no colon follows
pub flips_name : (d : ℕ) (q : Place) (a : List Terminal) (l : LexemeRef) (p : Place) → StandsFirst a l p → (l ≡ code.Mark Colon → ⊥) → (end : Place) (k : FieldTree → State) → read_on everywhere end (wants (behind_flip d q) k) a ≡ read_on everywhere end (wants a_field_name (λ n. field_rest d n.place true n.name k)) a
unfolding read_on
flips_name d q a code.End p e h end k = rw e refl
flips_name d q a (code.Mark Colon) p e h end k = absurd (h refl)
flips_name d q a (code.Mark _) p e h end k = rw e refl
flips_name d q a (code.Integer s) p e h end k = rw e (either_way (at_first end a (digits_at s.spelling.now p) k) (at_first end a (digits_at s.spelling.now p) (λ n. field_rest d n.place true n.name k)) (has_sign s.spelling.now) _ _ _ _ refl refl)
flips_name d q a _ p e h end k = rw e refl

-- and before a colon it is a name itself
pub names_flip : (d : ℕ) (q : Place) (a : List Terminal) (p : Place) → a ≡ record { lexeme = mark Colon; place = p } ∷ drop 1 a → (end : Place) (k : FieldTree → State) → read_on everywhere end (wants (behind_flip d q) k) a ≡ read_on everywhere end (field_rest d q false (codes "flip") k) a
unfolding read_on
names_flip d q a p e end k = rw e refl

-- without `flip` a field is a name and what is behind it
pub begins_with_name : (d : ℕ) (a : List Terminal) (l : LexemeRef) (p : Place) → StandsFirst a l p → ((x : Bor (List ℕ)) → l ≡ code.Word x → bytes_eq x.now (codes "flip") ≡ false) → (end : Place) (k : FieldTree → State) → read_on everywhere end (wants (a_field d) k) a ≡ read_on everywhere end (wants a_field_name (λ n. field_rest d n.place false n.name k)) a
unfolding read_on
begins_with_name d a code.End p e h end k = rw e refl
begins_with_name d a (code.Word x) p e h end k = rw e (rw (h x refl) refl)
begins_with_name d a (code.Integer s) p e h end k = rw e (either_way (at_first end a (digits_at s.spelling.now p) k) (at_first end a (digits_at s.spelling.now p) (λ n. field_rest d n.place false n.name k)) (has_sign s.spelling.now) _ _ _ _ refl refl)
begins_with_name d a _ p e h end k = rw e refl

abbrev behind_one : ℕ → (FieldsTree → State) → FieldTree → State
behind_one d k f = wants (more_fields d) (λ fs. k (with_field f fs))

-- before anything but the closing brace, the fields of a bundle are a field and those behind it
pub begins_with_field : (d : ℕ) (a : List Terminal) (l : LexemeRef) (p : Place) → StandsFirst a l p → (l ≡ code.Mark CloseCurly → ⊥) → (end : Place) (k : FieldsTree → State) → read_on everywhere end (wants (fields d) k) a ≡ read_on everywhere end (some_fields d k) a
unfolding read_on
begins_with_field d a code.End p e h end k = rw e refl
begins_with_field d a (code.Mark CloseCurly) p e h end k = absurd (h refl)
begins_with_field d a (code.Mark _) p e h end k = rw e refl
begins_with_field d a (code.Word x) p e h end k = rw e (either_way (λ s. at_first end a (word_at x.now p) k (then_more d s)) (at_first end a (word_at x.now p) (behind_one d k)) (bytes_eq x.now (codes "flip")) _ _ _ _ refl refl)
begins_with_field d a (code.Integer s) p e h end k = rw e (either_way (λ t. at_first end a (digits_at s.spelling.now p) k (then_more d t)) (at_first end a (digits_at s.spelling.now p) (behind_one d k)) (has_sign s.spelling.now) _ _ _ _ refl refl)
begins_with_field d a _ p e h end k = rw e refl
