-- The first faults of forms, from what is found of their operands.
use Rattle.std.proofs.Common.{◌≡◌, List, [], ◌∷◌, ◌++◌, Option, Some, Err, Result, refl}
use Rattle.fir_base.specs.declared.refused.Refused.{Refused}
use Rattle.fir_base.specs.declared.refused.Refused.TheVariants as refused
use Rattle.fir_ast.specs.declared.fault.FirFault.{FirFault}
use Rattle.fir_ast.specs.declared.place.Place.{Place}
use Rattle.fir_ast.specs.Types.{DataType}
use Rattle.fir_ast.specs.Expressions.{Expression, Parts, no_parts, subfield, subindex, subaccess}
use Rattle.fir_ast.specs.Faults.{Fault}
use Rattle.fir_meaning.specs.Checked.{Checked, after, answer_on, answered, together}
use Rattle.fir_meaning.specs.ExpressionPlaces.{place_of}
use Rattle.fir_meaning.specs.Reaching.{Reached}
use Rattle.fir_meaning.specs.TypedScopes.{TypedScope}
use Rattle.fir_meaning.specs.ExpressionTypes.{along_parts, expression_type, condition_form, passive_form, mux_form, validif_form, field_form, index_form, access_form}
use Rattle.fir_types.specs.working.Judged.{Is, IsFirstOf, Says}

pub first_left : (xs ys : List Fault) (e : Refused FirFault) → IsFirstOf xs e → IsFirstOf (xs ++ ys) e
first_left [] ys (refused.Fault f) h = absurd (cc)
first_left (x ∷ xs) ys (refused.Fault f) h = h
first_left xs ys refused.Memory h = tt

pub first_right : (xs ys : List Fault) (e : Refused FirFault) → xs ≡ [] → IsFirstOf ys e → IsFirstOf (xs ++ ys) e
first_right xs ys e none h = rw none h

-- the own fault of a form
own_first : {A B : Type 0} (shape : A → B) (own : Result B Fault) (e : Refused FirFault) → Says shape own (Err e) → IsFirstOf (answered own).shows e
own_first shape own (refused.Fault f) says = rw says refl
own_first shape own refused.Memory says = tt

pub own_fault : {A B C : Type 0} (shape : C → B) (own : A → Result B Fault) (c : Checked A) (x : A) (e : Refused FirFault) → Is c (Some x) → Says shape (own x) (Err e) → IsFirstOf (after c own).shows e
own_fault shape own c x e is says = first_right c.shows (answer_on c.has own).shows e is.none (rw is.has (own_first shape (own x) e says))

-- an operand in its place
abbrev pub condition : TypedScope → Expression → Checked DataType
condition typed e = condition_form (place_of e) (expression_type typed e)

abbrev pub arm : TypedScope → Expression → Checked DataType
arm typed e = passive_form (place_of e) (expression_type typed e)

-- two operands
pub together_is : {A B C : Type 0} (f : A → B → C) (c : Checked A) (d : Checked B) (x : A) (y : B) → Is c (Some x) → Is d (Some y) → Is (together f c d) (Some (f x y))
together_is f c d x y one other = record { has = rw (one.has, other.has) refl; none = rw (one.none, other.none) refl }

-- the first fault of an operand
pub in_first_of_two : (p : Place) (c a : Checked DataType) (e : Refused FirFault) → IsFirstOf c.shows e → IsFirstOf (validif_form p c a).shows e
in_first_of_two p c a e h = first_left (c.shows ++ a.shows) _ e (first_left c.shows a.shows e h)

pub in_second_of_two : (p : Place) (c a : Checked DataType) (x : Option DataType) (e : Refused FirFault) → Is c x → IsFirstOf a.shows e → IsFirstOf (validif_form p c a).shows e
in_second_of_two p c a x e one h = first_left (c.shows ++ a.shows) _ e (first_right c.shows a.shows e one.none h)

pub in_first_of_three : (p : Place) (c a b : Checked DataType) (e : Refused FirFault) → IsFirstOf c.shows e → IsFirstOf (mux_form p c a b).shows e
in_first_of_three p c a b e h = first_left (c.shows ++ (a.shows ++ b.shows)) _ e (first_left c.shows (a.shows ++ b.shows) e h)

pub in_second_of_three : (p : Place) (c a b : Checked DataType) (x : Option DataType) (e : Refused FirFault)
    → Is c x → IsFirstOf a.shows e → IsFirstOf (mux_form p c a b).shows e
in_second_of_three p c a b x e one h =
    first_left (c.shows ++ (a.shows ++ b.shows)) _ e (first_right c.shows (a.shows ++ b.shows) e one.none (first_left a.shows b.shows e h))

pub in_third_of_three : (p : Place) (c a b : Checked DataType) (x y : Option DataType) (e : Refused FirFault)
    → Is c x → Is a y → IsFirstOf b.shows e → IsFirstOf (mux_form p c a b).shows e
in_third_of_three p c a b x y e one other h =
    first_left (c.shows ++ (a.shows ++ b.shows)) _ e (first_right c.shows (a.shows ++ b.shows) e one.none (first_right a.shows b.shows e other.none h))

pub in_index : (p : Place) (c : Checked Reached) (index : Checked DataType) (x : Option Reached) (e : Refused FirFault)
    → Is c x → IsFirstOf index.shows e → IsFirstOf (access_form p c index).shows e
in_index p c index x e one h = first_left (c.shows ++ index.shows) _ e (first_right c.shows index.shows e one.none h)

-- the first fault stays first behind more parts
pub first_along : (typed : TypedScope) (p : Place) (c : Checked Reached) (ps : Parts) (e : Refused FirFault) → IsFirstOf c.shows e → IsFirstOf (along_parts typed p c ps).shows e
first_along typed p c no_parts e h = h
first_along typed p c (subfield first q x rest) e h = first_along typed p (field_form p x c) rest e (first_left c.shows _ e h)
first_along typed p c (subindex first q i rest) e h = first_along typed p (index_form p i c) rest e (first_left c.shows _ e h)
first_along typed p c (subaccess first i rest) e h =
    first_along typed p (access_form p c (condition typed i)) rest e
    (first_left (c.shows ++ (condition typed i).shows) _ e (first_left c.shows (condition typed i).shows e h))
