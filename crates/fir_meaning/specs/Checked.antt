-- What a form is found to be, and the faults that it shows: those of its operands, each in its order, and then its own.
-- A form that shows a fault of its own is nothing, and neither is one whose operands are not all something; its own fault is shown only where they are.
use Rattle.std.specs.Prelude.{List, [], ◌∷◌, ◌++◌, Option, Some, None, Result, Ok, Err}
use Rattle.fir_ast.specs.Faults.{Fault}

pub record Checked (A : Type 0) : Type 0 where
  pub has : Option A
  pub shows : List Fault

abbrev pub is_found : {A : Type 0} → A → Checked A
is_found x = record { has = Some x; shows = [] }

-- what names nothing: a fault of another group
abbrev pub nothing_found : {A : Type 0} → Checked A
nothing_found = record { has = None; shows = [] }

abbrev pub answered : {A : Type 0} → Result A Fault → Checked A
answered (Ok x) = is_found x
answered (Err f) = record { has = None; shows = f ∷ [] }

abbrev pub answer_on : {A B : Type 0} → Option A → (A → Result B Fault) → Checked B
answer_on None own = nothing_found
answer_on (Some x) own = answered (own x)

-- a form on an operand, from what it says itself of what its operand is
abbrev pub after : {A B : Type 0} → Checked A → (A → Result B Fault) → Checked B
after c own = record { has = (answer_on c.has own).has; shows = c.shows ++ (answer_on c.has own).shows }

abbrev pub joined : {A B C : Type 0} → (A → B → C) → Option A → Option B → Option C
joined f (Some x) (Some y) = Some (f x y)
joined f _ _ = None

-- two operands
abbrev pub together : {A B C : Type 0} → (A → B → C) → Checked A → Checked B → Checked C
together f c d = record { has = joined f c.has d.has; shows = c.shows ++ d.shows }

abbrev pub shown_on : {A : Type 0} → Option A → (A → List Fault) → List Fault
shown_on None own = []
shown_on (Some x) own = own x

-- the faults of a statement, from those that it shows itself on what its expressions are
abbrev pub shown_after : {A : Type 0} → Checked A → (A → List Fault) → List Fault
shown_after c own = c.shows ++ shown_on c.has own
