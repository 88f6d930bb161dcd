-- How a call answers for a form.
use Rattle.std.specs.Prelude.{◌≡◌, List, [], ◌++◌, Option, Some, option_map, Result, Ok, Err}
use Rattle.fir_base.specs.declared.refused.Refused.{Refused}
use Rattle.fir_base.specs.declared.refused.Refused.TheVariants as refused
use Rattle.fir_ast.specs.declared.place.Place.{Place}
use Rattle.fir_ast.specs.declared.fault.FirFault.{FirFault}
use Rattle.fir_ast.specs.Types.{DataType}
use Rattle.fir_ast.specs.Expressions.{Parts, no_parts}
use Rattle.fir_ast.specs.Faults.{Fault}
use Rattle.fir_ast.specs.working.CodeFaults.{fault_of}
use Rattle.fir_pass.specs.Groups.{first_of}
use Rattle.fir_meaning.specs.Checked.{Checked}
use Rattle.fir_meaning.specs.TypedScopes.{TypedScope}
use Rattle.fir_meaning.specs.Reaching.{Reached}
use Rattle.fir_meaning.specs.LeafPaths.{LeafPath}
use Rattle.fir_meaning.specs.ExpressionTypes.{along_parts}
use Rattle.fir_types.specs.declared.reach.Reach.{Reach}
use Rattle.fir_types.specs.working.Seen.{reached_as, steps_of}

-- that is found, or nothing, and no fault
pub record Is {A : Type 0} (c : Checked A) (x : Option A) : Type 0 where
  pub has : c.has ≡ x
  pub none : c.shows ≡ []

-- the fault is the first of the list, unless memory was wanted
abbrev pub IsFirstOf : List Fault → Refused FirFault → Type 0
IsFirstOf fs (refused.Fault f) = first_of fs ≡ Some (fault_of f)
IsFirstOf fs refused.Memory = Unit {0}

-- the fault itself
abbrev pub IsFault : Fault → Refused FirFault → Type 0
IsFault g (refused.Fault f) = fault_of f ≡ g
IsFault g refused.Memory = Unit {0}

-- what a form says itself of operands that have types: that it is this, or the fault
abbrev pub Says : {A B : Type 0} → (A → B) → Result B Fault → Result A (Refused FirFault) → Type 0
Says shape own (Ok x) = own ≡ Ok (shape x)
Says shape own (Err (refused.Fault f)) = own ≡ Err (fault_of f)
Says shape own (Err refused.Memory) = Unit {0}

-- what a call finds of a form
abbrev pub Finds : {A B : Type 0} → (A → B) → Checked B → Result (Option A) (Refused FirFault) → Type 0
Finds shape c (Ok x) = Is c (option_map shape x)
Finds shape c (Err e) = IsFirstOf c.shows e

-- a form on operands that are found
abbrev pub OnOne : {A B C : Type 0} → (C → B) → (Checked A → Checked B) → Option A → Result (Option C) (Refused FirFault) → Type 0
OnOne {A} shape form x result = (c : Checked A) → Is c x → Finds shape (form c) result

abbrev pub OnTwo : {A B C D : Type 0} → (D → C) → (Checked A → Checked B → Checked C) → Option A → Option B → Result (Option D) (Refused FirFault) → Type 0
OnTwo {A} {B} shape form x y result = (c : Checked A) (d : Checked B) → Is c x → Is d y → Finds shape (form c d) result

abbrev pub OnThree : {A B C : Type 0} → (C → B) → (Checked A → Checked A → Checked A → Checked B) → Option A → Option A → Option A → Result (Option C) (Refused FirFault) → Type 0
OnThree {A} shape form x y z result = (b c d : Checked A) → Is b x → Is c y → Is d z → Finds shape (form b c d) result

-- a walk goes on behind a part, from what it reaches; or the fault is the first of the whole walk
pub record Leads (ts : List DataType) (typed : TypedScope) (p : Place) (path : LeafPath) (c : Checked Reached) (part : Parts → Parts) (rest : Parts) (y : Option Reach) : Type 0 where
  pub next : Checked Reached
  pub reached : Is next (option_map (reached_as ts (path ++ steps_of (part no_parts))) y)
  pub same : along_parts typed p c (part rest) ≡ along_parts typed p next rest

abbrev pub GoesOn : List DataType → TypedScope → Place → LeafPath → Checked Reached → (Parts → Parts) → Parts → Result (Option Reach) (Refused FirFault) → Type 0
GoesOn ts typed p path c part rest (Ok y) = Leads ts typed p path c part rest y
GoesOn ts typed p path c part rest (Err e) = IsFirstOf (along_parts typed p c (part rest)).shows e
