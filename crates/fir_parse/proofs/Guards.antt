-- What stands behind each symbol in a text that is read from its beginning. A symbol that may be empty has no limit behind it, so that no limit is
-- passed between two tokens. One that may end in a list without an end of its own has behind it a symbol that takes no token of that list. Behind
-- a name no parenthesis opens. And a symbol with a word stands behind no other.
use Rattle.std.proofs.Common.{◌≡◌, ℕ, List, Bool, true, false, not, ◌||◌, IsTrue, codes, refl}
use Rattle.std.specs.Str.{bytes_eq}
use Rattle.fir_ast.specs.declared.place.Place.{Place}
use Rattle.fir_parse.specs.declared.lexeme.Mark.{Mark}
use Rattle.fir_parse.specs.declared.lexeme.Mark.TheVariants.{Equals, Less, OpenRound, CloseRound, OpenSquare, CloseSquare, OpenCurly, Comma, Colon, Dot}
use Rattle.fir_parse.specs.working.Symbols.{Sym, Tree, a_mark, a_word, a_name, a_field_name, a_natural, a_line_end, a_type, dimensions, fields, more_fields, a_field, behind_flip, an_expression, behind_word, parts, an_index, more_names, behind_first, behind_sink, a_reset, behind_direction}
use Rattle.fir_parse.specs.working.States.{nesting_at, version_at, State, done, limit, wants}

pub data Guard : Type 0 where
  -- no limit
  unlimited : Guard
  -- a symbol that takes no token with which a tail goes on
  firm : Guard
  -- a symbol that takes no opening parenthesis
  shut : Guard
  -- a limit on the nesting at that place, or none
  nested : Place → Guard
  -- one at that place, and then a symbol that takes no opening parenthesis
  nested_shut : Place → Guard
  -- a limit on the version at that place, of that number, or none
  numbered : Place → ℕ → Guard

-- the signs with which the tail of a type or of an expression goes on
abbrev pub is_tail_mark : Mark → Bool
is_tail_mark Less = true
is_tail_mark OpenRound = true
is_tail_mark OpenSquare = true
is_tail_mark Dot = true
is_tail_mark _ = false

-- symbols that take none of them, and no other stands in their place
abbrev pub is_firm : Sym → Bool
is_firm (a_mark CloseRound) = true
is_firm (a_mark CloseSquare) = true
is_firm (a_mark Comma) = true
is_firm (a_mark Colon) = true
is_firm a_line_end = true
is_firm (more_fields d) = true
is_firm (behind_sink d s) = true
is_firm (a_reset d) = true
is_firm _ = false

-- symbols that take no opening parenthesis, nor does what follows where nothing stands in their place
abbrev pub is_shut : Sym → Bool
is_shut (a_mark Colon) = true
is_shut (a_mark Equals) = true
is_shut a_line_end = true
is_shut (parts d h) = true
is_shut more_names = true
is_shut _ = false

-- what stands behind a symbol
abbrev pub guard_of : (s : Sym) → Tree s → Guard
guard_of (a_mark m) p = nested p
guard_of a_line_end p = nested p
guard_of a_name n = shut
guard_of a_field_name n = nested_shut n.place
guard_of a_natural n = numbered n.place n.number
guard_of (fields d) fs = nested fs.close
guard_of (more_fields d) fs = nested fs.close
guard_of (a_type d) t = firm
guard_of (dimensions d t) u = firm
guard_of (a_field d) f = firm
guard_of (behind_flip d p) f = firm
guard_of (an_expression d) e = firm
guard_of (behind_word d p w) e = firm
guard_of (parts d h) ps = firm
guard_of (an_index d) i = firm
guard_of _ x = unlimited

-- the words `module` and `mux` stand where others may stand, and nowhere as a word that has to stand
abbrev pub is_keyword : List ℕ → Bool
is_keyword w = not (bytes_eq w (codes "module") || bytes_eq w (codes "mux"))

-- symbols that stand not only behind their word; the brace of a bundle and those words are no signs and words that have to stand
abbrev pub IsPlainSymbol : Sym → Type 0
IsPlainSymbol (behind_word d p w) = ⊥
IsPlainSymbol (behind_first d p w) = ⊥
IsPlainSymbol (behind_direction r p w) = ⊥
IsPlainSymbol (a_mark OpenCurly) = ⊥
IsPlainSymbol (a_word w) = IsTrue (is_keyword w)
IsPlainSymbol _ = Unit {0}

abbrev pub IsUnlimited : State → Type 0
IsUnlimited (done c) = Unit {0}
IsUnlimited (limit passed l st) = ⊥
IsUnlimited (wants s k) = IsPlainSymbol s

abbrev pub IsShut : State → Type 0
IsShut (wants s k) = IsTrue (is_shut s)
IsShut _ = ⊥

-- a text that goes on so meets the guard
abbrev pub Meets : Guard → State → Type 0
Meets unlimited st = IsUnlimited st
Meets firm (wants s k) = IsTrue (is_firm s)
Meets firm _ = ⊥
Meets shut st = IsShut st
Meets (nested p) (limit passed l st) = (l ≡ nesting_at p) × IsUnlimited st
Meets (nested p) st = IsUnlimited st
Meets (nested_shut p) (limit passed l st) = (l ≡ nesting_at p) × IsShut st
Meets (nested_shut p) _ = ⊥
Meets (numbered p n) (limit passed l st) = (l ≡ version_at p n) × IsUnlimited st
Meets (numbered p n) st = IsUnlimited st

-- the guards hold wherever the text may go from a state
abbrev pub Guarded : State → Type 0
Guarded (done c) = Unit {0}
Guarded (limit passed l st) = Guarded st
Guarded (wants s k) = (x : Tree s) → Guarded (k x) × Meets (guard_of s x) (k x)

-- and it meets the guard of what stands before it
abbrev pub After : Guard → State → Type 0
After g st = Guarded st × Meets g st

firm_is_plain : (s : Sym) → IsTrue (is_firm s) → IsPlainSymbol s
firm_is_plain (behind_word d p w) h = absurd (cc)
firm_is_plain (behind_first d p w) h = absurd (cc)
firm_is_plain (behind_direction r p w) h = absurd (cc)
firm_is_plain (a_mark OpenCurly) h = absurd (cc)
firm_is_plain (a_word w) h = absurd (cc)
firm_is_plain _ h = tt

shut_is_plain : (s : Sym) → IsTrue (is_shut s) → IsPlainSymbol s
shut_is_plain (behind_word d p w) h = absurd (cc)
shut_is_plain (behind_first d p w) h = absurd (cc)
shut_is_plain (behind_direction r p w) h = absurd (cc)
shut_is_plain (a_mark OpenCurly) h = absurd (cc)
shut_is_plain (a_word w) h = absurd (cc)
shut_is_plain _ h = tt

pub firm_is_unlimited : (st : State) → Meets firm st → IsUnlimited st
firm_is_unlimited (done c) h = tt
firm_is_unlimited (limit passed l st) h = h
firm_is_unlimited (wants s k) h = firm_is_plain s h

pub shut_is_unlimited : (st : State) → IsShut st → IsUnlimited st
shut_is_unlimited (done c) h = tt
shut_is_unlimited (limit passed l st) h = h
shut_is_unlimited (wants s k) h = shut_is_plain s h

-- what needs no limit may stand where there may be one
pub unlimited_is_nested : (p : Place) (st : State) → IsUnlimited st → Meets (nested p) st
unlimited_is_nested p (done c) h = h
unlimited_is_nested p (limit passed l st) h = absurd h
unlimited_is_nested p (wants s k) h = h

-- behind what takes no tail
pub freed : (st : State) → After firm st → After unlimited st
freed st h = (h.0, firm_is_unlimited st h.1)

-- behind a sign
pub loosened : (p : Place) (st : State) → After unlimited st → After (nested p) st
loosened p st h = (h.0, unlimited_is_nested p st h.1)

-- behind a sign at which a form ends or a bracket opens
pub bounded : (p : Place) (st : State) → After unlimited st → Guarded st × ((nesting_at p ≡ nesting_at p) × IsUnlimited st)
bounded p st h = (h.0, (refl, h.1))
