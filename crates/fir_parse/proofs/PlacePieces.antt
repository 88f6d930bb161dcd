-- The places of pieces of a text are among those of their tokens.
use Rattle.std.proofs.Common.{◌≡◌, ℕ, List, [], ◌∷◌, ◌++◌, Bool, true, false, refl, sym, ap, ◌∙◌, subst, ◌⊎◌, inl, inr, append_assoc, append-nil}
use Rattle.std.specs.List.{AllByRecursion}
use Rattle.fir_ast.specs.declared.place.Place.{Place}
use Rattle.fir_ast.specs.Statements.{PlacedName}
use Rattle.fir_parse.specs.Lexemes.{Terminal, Lexeme, word, integer}
use Rattle.fir_parse.specs.Limits.{everywhere}
use Rattle.fir_parse.specs.Pieces.{◌▸◌, Either, Given, Nothing, TokenAt, Somewhere, NameToken, FieldName, Digits, Int, IntAt}
use Rattle.fir_parse.specs.working.TreePlaces.{IsBefore, Rise}
use Rattle.fir_parse.specs.working.TokenPlaces.{has_place, token_places}

-- the first places are some of the others, in their order
abbrev pub AreAmong : List Place → List Place → Type 0
AreAmong [] rs = Unit {0}
AreAmong (q ∷ qs) [] = ⊥
AreAmong (q ∷ qs) (r ∷ rs) = ((q ≡ r) × AreAmong qs rs) ⊎ AreAmong (q ∷ qs) rs

all_among : (P : Place → Type 0) (rs qs : List Place) → AllByRecursion P rs → AreAmong qs rs → AllByRecursion P qs
all_among P rs [] a h = tt
all_among P [] (q ∷ qs) a h = absurd h
all_among P (r ∷ rs) (q ∷ qs) a (inl h) = (subst P (sym h.0) a.0, all_among P rs qs a.1 h.1)
all_among P (r ∷ rs) (q ∷ qs) a (inr h) = all_among P rs (q ∷ qs) a.1 h

-- what rises, rises in part
pub rise_among : (rs qs : List Place) → Rise rs → AreAmong qs rs → Rise qs
rise_among rs [] a h = tt
rise_among [] (q ∷ qs) a h = absurd h
rise_among (r ∷ rs) (q ∷ qs) a (inl h) = (subst (λ p. AllByRecursion (IsBefore p) qs) (sym h.0) (all_among (IsBefore r) rs qs a.0 h.1), rise_among rs qs a.1 h.1)
rise_among (r ∷ rs) (q ∷ qs) a (inr h) = rise_among rs (q ∷ qs) a.1 h

among_more : (qs rs : List Place) (r : Place) → AreAmong qs rs → AreAmong qs (r ∷ rs)
among_more [] rs r h = tt
among_more (q ∷ qs) rs r h = inr h

among_joined : (rs us qs vs : List Place) → AreAmong qs rs → AreAmong vs us → AreAmong (qs ++ vs) (rs ++ us)
among_joined [] us [] vs h k = k
among_joined [] us (q ∷ qs) vs h k = absurd h
among_joined (r ∷ rs) us [] vs h k = among_more vs (rs ++ us) r (among_joined rs us [] vs tt k)
among_joined (r ∷ rs) us (q ∷ qs) vs (inl h) k = inl (h.0, among_joined rs us qs vs h.1 k)
among_joined (r ∷ rs) us (q ∷ qs) vs (inr h) k = inr (among_joined rs us (q ∷ qs) vs h k)

-- the places are among those of the tokens from the first list up to the second
abbrev pub Between : List Place → List Terminal → List Terminal → Type 0
Between qs a b = (rs : List Place) × (token_places a ≡ rs ++ token_places b) × AreAmong qs rs

pub record Has (P : List Terminal → List Terminal → Type 0) (qs : List Place) : Type 0 where
  pub holds : (a b : List Terminal) → P a b → Between qs a b

places_at : (l : Lexeme) (p : Place) (a b : List Terminal) → has_place l ≡ true → TokenAt l p a b → token_places a ≡ p ∷ token_places b
places_at l p a b h e = rw e (rw h refl)

pub token : {l : Lexeme} {p : Place} → has_place l ≡ true → Has (TokenAt l p) (p ∷ [])
token {l} {p} h = record { holds = λ a b e. (p ∷ [], places_at l p a b h e, inl (refl, tt)) }

passed_by : (l : Lexeme) (p : Place) (a b : List Terminal) (c : Bool) → has_place l ≡ c → TokenAt l p a b → Between [] a b
passed_by l p a b true h e = (p ∷ [], places_at l p a b h e, tt)
passed_by l p a b false h e = ([], rw e (rw h refl), tt)

pub passed : {l : Lexeme} {p : Place} → Has (TokenAt l p) []
passed {l} {p} = record { holds = λ a b e. passed_by l p a b (has_place l) refl e }

pub somewhere : {l : Lexeme} → Has (Somewhere l) []
somewhere = record { holds = λ a b x. (passed).holds a b x.1 }

pub same : (a b : List Terminal) → a ≡ b → Between [] a b
same a b e = ([], ap token_places e, tt)

pub nothing : Has Nothing []
nothing = record { holds = same }

pub given : {C : Type 0} → Has (Given C) []
given = record { holds = λ a b x. same a b x.1 }

pub joined : (qs vs : List Place) (a m b : List Terminal) → Between qs a m → Between vs m b → Between (qs ++ vs) a b
joined qs vs a m b (rs, e, h) (us, f, k) = (rs ++ us, e ∙ ap (λ x. rs ++ x) f ∙ sym (append_assoc rs us (token_places b)), among_joined rs us qs vs h k)

pub next : {P Q : List Terminal → List Terminal → Type 0} {qs vs : List Place} → Has P qs → Has Q vs → Has (P ▸ Q) (qs ++ vs)
next {qs = qs} {vs = vs} p q = record { holds = λ a b x. joined qs vs a x.0 b (p.holds a x.0 x.1) (q.holds x.0 b x.2) }

-- with no place behind
pub ended : {P Q : List Terminal → List Terminal → Type 0} {qs : List Place} → Has P qs → Has Q [] → Has (P ▸ Q) qs
ended {qs = qs} p q = record { holds = λ a b x. subst (λ vs. Between vs a b) (append-nil qs) (joined qs [] a x.0 b (p.holds a x.0 x.1) (q.holds x.0 b x.2)) }

-- with no place before
pub behind : {P Q : List Terminal → List Terminal → Type 0} {qs : List Place} → Has P [] → Has Q qs → Has (P ▸ Q) qs
behind {qs = qs} p q = record { holds = λ a b x. joined [] qs a x.0 b (p.holds a x.0 x.1) (q.holds x.0 b x.2) }

pub either : {P Q : List Terminal → List Terminal → Type 0} {qs : List Place} → Has P qs → Has Q qs → Has (Either P Q) qs
either p q = record { holds = λ a b x. elim x [ inl y ↦ p.holds a b y | inr y ↦ q.holds a b y ] }

pub name : (n : PlacedName) → Has (NameToken n) (n.place ∷ [])
name n = token {l = word n.name} refl

pub field_name : (n : PlacedName) → Has (FieldName n) (n.place ∷ [])
field_name n = either (name n) (behind given (token {l = integer n.name} refl))

digits : (n : ℕ) (p : Place) → Has (Digits n p) (p ∷ [])
digits n p = record { holds = λ a b x. (token {l = integer x.0} {p = p} refl).holds a b x.3 }

pub int_at : (n : ℕ) (p : Place) → Has (IntAt everywhere n p) (p ∷ [])
int_at n p = ended (digits n p) given

none_of : (p : Place) (a b : List Terminal) → Between (p ∷ []) a b → Between [] a b
none_of p a b (rs, e, h) = (rs, e, tt)

pub int : (n : ℕ) → Has (Int everywhere n) []
int n = record { holds = λ a b x. none_of x.0 a b ((int_at n x.0).holds a b x.1) }
