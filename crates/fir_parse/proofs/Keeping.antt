-- Steps that keep the guards, and what a token is to what is expected behind it.
use Rattle.std.proofs.Common.{◌≡◌, ℕ, List, Bool, true, false, if◌then◌else◌, ◌⊎◌, inl}
use Rattle.fir_ast.specs.declared.place.Place.{Place}
use Rattle.fir_parse.specs.Lexemes.{Lexeme, Terminal}
use Rattle.fir_parse.specs.MissingForms.{word_at}
use Rattle.fir_parse.specs.TextFaults.{IsInteger}
use Rattle.fir_parse.specs.working.Symbols.{Sym, behind_word, behind_first, behind_direction}
use Rattle.fir_parse.specs.working.States.{Bound, number_at, nesting_at, version_at, State, done, limit, wants, Step, takes, without, refuses, unsupported, mapped}
use Rattle.fir_parse.specs.working.Reading.{one}
use Rattle.fir_parse.proofs.Guards.{Guard, unlimited, firm, nested, IsUnlimited, Meets, Guarded, After, IsPlainSymbol}

abbrev pub at : Lexeme → Place → Terminal
at l p = record { lexeme = l; place = p }

-- what a word may begin in the place of a symbol
pub data Kind : Type 0 where
  an_expression_begins : Kind
  a_statement_begins : Kind
  neither : Kind

-- in the place of a symbol: what a word may begin, whether nothing may stand there, and which forms that are not in the language are told there
pub record Spot : Type 1 where
  pub kind : Kind
  pub may_be_empty : Bool
  pub misses : Place → List ℕ → Type 0

abbrev pub misses_none : Place → List ℕ → Type 0
misses_none p w = ⊥

abbrev pub elsewhere : Spot
elsewhere = record { kind = neither; may_be_empty = false; misses = misses_none }

abbrev pub optional : Spot
optional = record { kind = neither; may_be_empty = true; misses = misses_none }

-- behind a number, the version's number
abbrev pub AfterNumber : Terminal → State → Type 0
AfterNumber t (limit passed l st) = ((n : ℕ) × (l ≡ version_at t.place n) × IsInteger n t) × IsUnlimited st
AfterNumber t st = IsUnlimited st

-- a limit at this token
abbrev pub LimitFollows : Terminal → Bound → State → Type 0
LimitFollows t l st = ((l ≡ nesting_at t.place) × IsUnlimited st) ⊎ ((l ≡ number_at t.place) × AfterNumber t st)

-- the word before a symbol that stands behind one is this token
abbrev pub SymbolFollows : Kind → Terminal → Sym → Type 0
SymbolFollows kind t (behind_word d p w) = (t ≡ word_at w p) × (kind ≡ an_expression_begins)
SymbolFollows kind t (behind_first d p w) = (t ≡ word_at w p) × (kind ≡ a_statement_begins)
SymbolFollows kind t (behind_direction r p w) = (t ≡ word_at w p) × (kind ≡ a_statement_begins)
SymbolFollows kind t s = IsPlainSymbol s

abbrev pub Follows : Kind → Terminal → State → Type 0
Follows kind t (done c) = Unit {0}
Follows kind t (limit passed l st) = LimitFollows t l st
Follows kind t (wants s k) = SymbolFollows kind t s

-- what has such a guard may be empty
abbrev pub MayBeEmpty : Guard → Type 0
MayBeEmpty unlimited = Unit {0}
MayBeEmpty firm = Unit {0}
MayBeEmpty _ = ⊥

-- where the guard holds behind what is expected, the guards hold behind the token
abbrev pub Keeps : {T : Type 0} → (T → Guard) → Spot → Terminal → Step T → Type 0
Keeps {T = T} g spot t (takes f) = (k : T → State) → ((x : T) → After (g x) (k x)) → Guarded (f k) × Follows spot.kind t (f k)
Keeps g spot t (without x) = MayBeEmpty (g x) × (spot.may_be_empty ≡ true)
Keeps g spot t refuses = Unit {0}
Keeps g spot t (unsupported p w) = spot.misses p w

abbrev pub always : {T : Type 0} → Guard → T → Guard
always g x = g

pub keeps_mapped : {A B : Type 0} (g : B → Guard) (spot : Spot) (t : Terminal) (f : A → B) (u : Step A) → Keeps (λ x. g (f x)) spot t u → Keeps g spot t (mapped f u)
keeps_mapped g spot t f (takes h) keep = λ k after. keep (λ x. k (f x)) (λ x. after (f x))
keeps_mapped g spot t f (without x) keep = keep
keeps_mapped g spot t f refuses keep = tt
keeps_mapped g spot t f (unsupported p w) keep = keep

pub keeps_if : {T : Type 0} (g : T → Guard) (spot : Spot) (t : Terminal) (b : Bool) (u v : Step T) → Keeps g spot t u → Keeps g spot t v → Keeps g spot t (if b then u else v)
keeps_if g spot t true u v p q = p
keeps_if g spot t false u v p q = q

symbol_follows : (kind : Kind) (t : Terminal) (s : Sym) → IsPlainSymbol s → SymbolFollows kind t s
symbol_follows kind t (behind_word d p w) h = absurd h
symbol_follows kind t (behind_first d p w) h = absurd h
symbol_follows kind t (behind_direction r p w) h = absurd h
symbol_follows kind t s h = h

pub unlimited_follows : (kind : Kind) (t : Terminal) (st : State) → IsUnlimited st → Follows kind t st
unlimited_follows kind t (done c) h = tt
unlimited_follows kind t (limit passed l st) h = absurd h
unlimited_follows kind t (wants s k) h = symbol_follows kind t s h

pub nested_follows : (kind : Kind) (t : Terminal) (st : State) → Meets (nested t.place) st → Follows kind t st
nested_follows kind t (done c) h = tt
nested_follows kind t (limit passed l st) h = inl h
nested_follows kind t (wants s k) h = symbol_follows kind t s h

pub unlimited_after_number : (t : Terminal) (st : State) → IsUnlimited st → AfterNumber t st
unlimited_after_number t (done c) h = h
unlimited_after_number t (limit passed l st) h = absurd h
unlimited_after_number t (wants s k) h = h

-- one token, which is all
pub keeps_taken : {T : Type 0} (spot : Spot) (t : Terminal) (x : T) → Keeps (always unlimited) spot t (takes (λ k. k x))
keeps_taken spot t x = λ k after. ((after x).0, unlimited_follows spot.kind t (k x) (after x).1)

pub keeps_one : {T : Type 0} (b : Bool) (t : Terminal) (x : T) → Keeps (always unlimited) elsewhere t (one b x)
keeps_one true t x = keeps_taken elsewhere t x
keeps_one false t x = tt

-- one token, at which a limit may stand
pub keeps_place : (b : Bool) (t : Terminal) → Keeps nested elsewhere t (one b t.place)
keeps_place true t = λ k after. ((after t.place).0, nested_follows neither t (k t.place) (after t.place).1)
keeps_place false t = tt
