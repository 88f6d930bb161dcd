-- The outcomes by which a choice is told (FIRRTL spec, "Initialization of Components"): those of whens, and of the statements that dynamic indices lead.
-- Of two choices the one comes first whose outcomes do, compared in the order of the text: 0 before 1, and a miss before a hit.
use Rattle.std.specs.Prelude.{◌≡◌, List, [], ◌∷◌, Bool, true, false, ◌&&◌, ◌==◌, if◌then◌else◌}
use Rattle.fir_ast.specs.declared.fault.Outcome.{Outcome}
use Rattle.fir_ast.specs.declared.fault.Outcome.TheVariants as outcome
use Rattle.fir_ast.specs.declared.place.Place.{Place}

-- of a statement at a place through indices that hit or miss, if it is one
abbrev pub write_told : Bool → Place → Bool → List Outcome
write_told true p hit = outcome.Index p hit ∷ []
write_told false p hit = []

-- outcomes of which the first that differs is 0 in the one and 1 in the other, or that are the same
abbrev pub ComesFirst : List Outcome → List Outcome → Type 0
ComesFirst [] [] = Unit {0}
ComesFirst (outcome.When p false ∷ l) (outcome.When q true ∷ m) = p ≡ q
ComesFirst (outcome.When p false ∷ l) (outcome.When q false ∷ m) = (p ≡ q) × ComesFirst l m
ComesFirst (outcome.When p true ∷ l) (outcome.When q true ∷ m) = (p ≡ q) × ComesFirst l m
ComesFirst (outcome.Index p false ∷ l) (outcome.Index q true ∷ m) = p ≡ q
ComesFirst (outcome.Index p false ∷ l) (outcome.Index q false ∷ m) = (p ≡ q) × ComesFirst l m
ComesFirst (outcome.Index p true ∷ l) (outcome.Index q true ∷ m) = (p ≡ q) × ComesFirst l m
ComesFirst _ _ = ⊥

-- a statement that drives the leaf from both its sides is told once
abbrev pub is_same_miss : Outcome → Outcome → Bool
is_same_miss (outcome.Index p false) (outcome.Index q false) = p.line == q.line && p.col == q.col
is_same_miss _ _ = false

abbrev pub told_behind : Outcome → List Outcome → List Outcome
told_behind o [] = []
told_behind o (p ∷ ps) = if is_same_miss o p then told_behind p ps else p ∷ told_behind p ps

abbrev pub told_once : List Outcome → List Outcome
told_once [] = []
told_once (o ∷ os) = o ∷ told_behind o os
