-- What is found of an operand in one walk.
use Rattle.std.specs.Prelude.{◌≡◌, ◌≤◌, ℕ, min, List, [], ◌++◌, Option, Some, None, Result, Ok, Err, option_map}
use Rattle.ver_ast.specs.declared.place.VPlace.{VPlace}
use Rattle.ver_ast.specs.Atoms.{AtomTree, AtomTrees}
use Rattle.ver_ast.specs.Grammar.{atom_tokens, next_atom_tokens}
use Rattle.ver_fault.specs.declared.fault.VerFault.{VerFault}
use Rattle.ver_fault.specs.Faults.{VFault}
use Rattle.ver_check.specs.Scopes.{Scope, kind_bits, bits_of}
use Rattle.ver_places.specs.Places.{behind}
use Rattle.ver_check.specs.OperandFaults.{are_narrow, sum_of, atom_bits, atom_faults, joined_bits, joined_faults, net_faults, own_faults, whole_faults}
use Rattle.ver_check.specs.declared.operand.Judged.{Judged}
use Rattle.ver_check.specs.working.Findings.{IsFirst}

-- a width past 128 counts as 129
abbrev pub capped : Option ℕ → Option ℕ
capped = option_map (λ w. min w 129)

-- at most 128, where some are needed
abbrev pub IsNeeded : Option ℕ → Type 0
IsNeeded None = Unit {0}
IsNeeded (Some w) = w ≤ 128

-- an operand that has the first of these places
pub record IsJudged (scope : Scope) (needed : Option ℕ) (a : AtomTree) (ps : List VPlace) (j : Judged) : Type 0 where
  pub bits : j.bits ≡ capped (atom_bits scope a)
  pub next : j.next.now ≡ behind (atom_tokens a) ps
  pub fault : IsFirst j.fault (atom_faults scope needed a ps)

-- the width of a net, or the fault of its name
abbrev pub IsNamed : Scope → List ℕ → VPlace → Result ℕ VerFault → Type 0
IsNamed scope n p (Ok w) = (bits_of kind_bits scope n ≡ Some w) × (net_faults scope n p ≡ [])
IsNamed scope n p (Err f) = (bits_of kind_bits scope n ≡ None) × (IsFirst (Some f) (net_faults scope n p))

-- an operand that is a net of that name or a part of one, but for the places behind
pub record IsName (scope : Scope) (needed : Option ℕ) (a : AtomTree) (n : List ℕ) (p : VPlace) (j : Judged) : Type 0 where
  pub bits : j.bits ≡ capped (atom_bits scope a)
  pub fault : IsFirst j.fault (whole_faults scope needed a p ++ net_faults scope n p)

-- two parts beside each other
pub record IsBeside (one two j : Judged) : Type 0 where
  pub bits : (a b : Option ℕ) → one.bits ≡ capped a → two.bits ≡ capped b → j.bits ≡ capped (sum_of a b)
  pub next : j.next.now ≡ two.next.now
  pub fault : (fs gs : List VFault) → IsFirst one.fault fs → IsFirst two.fault gs → IsFirst j.fault (fs ++ gs)

-- operands behind what was judged before
pub record IsBehind (scope : Scope) (before : Judged) (more : AtomTrees) (j : Judged) : Type 0 where
  pub bits : (a : Option ℕ) → before.bits ≡ capped a → j.bits ≡ capped (sum_of a (joined_bits scope more))
  pub next : j.next.now ≡ behind (next_atom_tokens more) before.next.now
  pub fault : (fs : List VFault) → IsFirst before.fault fs → IsFirst j.fault (fs ++ joined_faults scope more before.next.now)

-- a concatenation of parts
pub record IsOver (needed : Option ℕ) (p : VPlace) (parts j : Judged) : Type 0 where
  pub bits : j.bits ≡ parts.bits
  pub next : j.next.now ≡ parts.next.now
  pub fault :
      (all : Option ℕ) (fs : List VFault) → parts.bits ≡ capped all → IsFirst parts.fault fs
      → IsFirst j.fault (own_faults needed all (are_narrow all) p ++ fs)

-- in the midst of operands: what was judged so far leads with the rest to where what was judged before leads with all
pub record IsAmid (scope : Scope) (before now : Judged) (all rest : AtomTrees) : Type 0 where
  pub bits :
      (a : Option ℕ) → before.bits ≡ capped a
      → (b : Option ℕ) × (now.bits ≡ capped b) × (sum_of a (joined_bits scope all) ≡ sum_of b (joined_bits scope rest))
  pub next : behind (next_atom_tokens all) before.next.now ≡ behind (next_atom_tokens rest) now.next.now
  pub fault :
      (fs : List VFault) → IsFirst before.fault fs
      → (gs : List VFault) × IsFirst now.fault gs × (fs ++ joined_faults scope all before.next.now ≡ gs ++ joined_faults scope rest now.next.now)
